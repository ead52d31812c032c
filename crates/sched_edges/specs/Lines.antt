-- The lines that are written: words with a space between each two, and a line feed.
use Rattle.std.specs.Prelude.{ℕ, List, [], ◌∷◌, ◌++◌, decimal}
use Rattle.sched_base.specs.Bytes.{line_feed, space}

-- what follows a line's first word: each further word after a space, and the line feed
abbrev pub line_end : List (List ℕ) → List ℕ
line_end [] = line_feed ∷ []
line_end (word ∷ words) = space ∷ (word ++ line_end words)

-- the line of a first word and further words
unfoldable pub line_of : List ℕ → List (List ℕ) → List ℕ
line_of word words = word ++ line_end words

-- a word alone
unfoldable pub word_line : List ℕ → List ℕ
word_line word = line_of word []

-- a word and a number
unfoldable pub number_line : List ℕ → ℕ → List ℕ
number_line word n = line_of word (decimal n ∷ [])

-- a word and two numbers
unfoldable pub numbers_line : List ℕ → ℕ → ℕ → List ℕ
numbers_line word m n = line_of word (decimal m ∷ decimal n ∷ [])

-- a word, a name and a number
unfoldable pub named_line : List ℕ → List ℕ → ℕ → List ℕ
named_line word name n = line_of word (name ∷ decimal n ∷ [])
