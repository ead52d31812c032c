-- Parts of definitions that the lemmas name.
use Rattle.std.specs.Prelude.{ℕ, List, None, Option, Some, if◌then◌else◌, ◌∷◌}
use Rattle.std.specs.Str.{bytes_eq}

-- the second of two texts, where the first is this word
abbrev pub behind : List ℕ → List ℕ × List ℕ → Option (List ℕ)
behind word p = if bytes_eq p.0 word then Some p.1 else None

-- a byte more at the front of the first of two texts
abbrev pub onto_first : ℕ → List ℕ × List ℕ → List ℕ × List ℕ
onto_first b p = (b ∷ p.0, p.1)
