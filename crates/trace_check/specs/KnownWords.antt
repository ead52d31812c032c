-- Words that stand in line after line.
use Rattle.std.specs.Prelude.{ℕ, ◌-◌, ◌≡◌, List, [], ◌∷◌, ◌++◌, Some, length, take, drop, codes}
use Rattle.sched_base.specs.Bytes.{space}
use Rattle.text_words.specs.Words.{number_of, BeginsWith}

-- a word without the space behind it
abbrev pub unspaced : List ℕ → List ℕ
unspaced word = take (length word - 1) word

-- a word that writes this number, with a space behind it
abbrev pub IsSpaced : ℕ → List ℕ → Type 0
IsSpaced n word = (word ≡ unspaced word ++ space ∷ []) × (number_of (unspaced word) ≡ Some n)

-- `row`, a space, a word that writes this number, and a space
abbrev pub IsRowFront : ℕ → List ℕ → Type 0
IsRowFront n front = (front ≡ codes "row" ++ space ∷ drop 4 front) × IsSpaced n (drop 4 front)

-- the text begins with `row`, a space, a word that writes this number, and a space
pub record BeginsRowOf (n : ℕ) (text rest : List ℕ) : Type 0 where
  pub behind : List ℕ
  pub row : text ≡ codes "row" ++ space ∷ behind
  pub processor : BeginsWith n behind rest
