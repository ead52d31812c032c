-- What a source gave and what a sink took. A stream's content is None where the stream doesn't tell it.
use Rattle.std.specs.Prelude.{◌≡◌, ℕ, ◌≤◌, ◌<◌, List, length, take, Result, OnOk, OnErr, IfSome}
use Rattle.std.specs.declared.option.Option.{Option}
use Rattle.std.specs.Io.KnownBytes.{Consumes, Appends, IsAtEnd}

-- the source gave these bytes, no more than the limit, and is at its end
pub record GaveAll (old new : Option (List ℕ)) (limit : ℕ) (bytes : List ℕ) : Type 0 where
  pub gave : Consumes old new bytes
  pub ended : IsAtEnd new
  pub within : length bytes ≤ limit

-- the source gave that many bytes
pub record GaveCount (old new : Option (List ℕ)) (count : ℕ) : Type 0 where
  pub gave : (bytes : List ℕ) × (length bytes ≡ count) × Consumes old new bytes

-- the source gave at most that many bytes
pub record GaveAtMost (old new : Option (List ℕ)) (most : ℕ) : Type 0 where
  pub gave : (bytes : List ℕ) × (length bytes ≤ most) × Consumes old new bytes

-- where its bytes are told, the source has at most that many
abbrev pub HoldsAtMost : ℕ → Option (List ℕ) → Type 0
HoldsAtMost most left = IfSome left (λ bytes. length bytes ≤ most)

-- where its bytes are told, the source has more than that
abbrev pub HoldsMore : ℕ → Option (List ℕ) → Type 0
HoldsMore limit left = IfSome left (λ bytes. limit < length bytes)

-- the sink took a first part of the text
pub record TookPart (old new : Option (List ℕ)) (text : List ℕ) : Type 0 where
  pub took : (n : ℕ) × (n ≤ length text) × Appends old new (take n text)

-- the sink took the whole text at Ok, and a first part of it at Err
pub record Wrote {T E : Type 0} (old new : Option (List ℕ)) (text : List ℕ) (result : Result T E) : Type 0 where
  pub ok : OnOk result (Appends old new text)
  pub err : OnErr result (TookPart old new text)
