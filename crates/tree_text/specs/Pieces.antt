-- A text that goes to a sink in pieces, by way of a line that holds what hasn't gone out yet.
use Rattle.std.specs.Prelude.{◌≡◌, ℕ, List, ◌++◌}
use Rattle.std.specs.declared.option.Option.{Option}
use Rattle.std.specs.Io.KnownBytes.{Appends}

-- of what the line held and the text after it, the sink took a first part, and the line holds the rest
pub record Added (old new : Option (List ℕ)) (before text after : List ℕ) : Type 0 where
  pub took : (bytes : List ℕ) × (bytes ++ after ≡ before ++ text) × Appends old new bytes
