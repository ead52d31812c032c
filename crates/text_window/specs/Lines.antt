-- Lines of a text of which more may follow.
use Rattle.std.specs.Prelude.{ℕ, ◌≡◌, ◌≢◌, ◌⊎◌, List, [], ◌∷◌, ◌++◌}
use Rattle.std.specs.List.{AllByRecursion}
use Rattle.sched_base.specs.Bytes.{line_feed}
use Rattle.text_words.specs.Words.{lines_of}

-- the text begins with this line and its line feed, and these bytes follow: so it is whatever follows them
pub record IsWholeLine (text line later : List ℕ) : Type 0 where
  pub bytes : text ≡ line ++ line_feed ∷ later
  pub first : (more : List ℕ) → lines_of (text ++ more) ≡ line ∷ lines_of (later ++ more)

-- no byte of it is a line feed
abbrev pub LacksFeed : List ℕ → Type 0
LacksFeed text = AllByRecursion (λ b. b ≢ line_feed) text

-- its last line has its line feed
abbrev pub EndsLine : List ℕ → Type 0
EndsLine text = (text ≡ []) ⊎ ((front : List ℕ) × (text ≡ front ++ line_feed ∷ []))
