-- The pieces of a text: the bytes before, between and after its dividing lines.
use Rattle.std.specs.Prelude.{ℕ, ◌≡◌, ◌==◌, ◌≤◌, Bool, true, false, ◌||◌, if◌then◌else◌, List, [], ◌∷◌, ◌++◌, length}
use Rattle.std.specs.List.{slice_range, list_any}
use Rattle.std.specs.Str.{bytes_eq}
use Rattle.sched_base.specs.Bytes.{line_feed, percent}

-- bytes more at the front of the first text
abbrev pub onto_first : List ℕ → List (List ℕ) → List (List ℕ)
onto_first bytes [] = bytes ∷ []
onto_first bytes (first ∷ others) = (bytes ++ first) ∷ others

-- the lines of a text, each with its line feed, which the last one may lack
abbrev pub full_lines_of : List ℕ → List (List ℕ)
full_lines_of [] = []
full_lines_of (b ∷ bs) = if b == line_feed then (b ∷ []) ∷ full_lines_of bs else onto_first (b ∷ []) (full_lines_of bs)

-- whether the line is exactly `%%`, with its line feed or without
abbrev pub divides : List ℕ → Bool
divides line = bytes_eq line (percent ∷ percent ∷ []) || bytes_eq line (percent ∷ percent ∷ line_feed ∷ [])

-- the pieces of these lines: a dividing line ends one, and every other line is part of one
abbrev pub pieces_of_lines : List (List ℕ) → List (List ℕ)
pieces_of_lines [] = [] ∷ []
pieces_of_lines (line ∷ lines) = if divides line then [] ∷ pieces_of_lines lines else onto_first line (pieces_of_lines lines)

-- the pieces of a text, one more than it has dividing lines
abbrev pub pieces_of : List ℕ → List (List ℕ)
pieces_of bytes = pieces_of_lines (full_lines_of bytes)

-- texts with a dividing line between each two
abbrev pub joined : List (List ℕ) → List ℕ → List ℕ
joined [] last = last
joined (text ∷ texts) last = text ++ (percent ∷ percent ∷ line_feed ∷ [] ++ joined texts last)

-- whether no line is left open
abbrev pub ends_line : List ℕ → Bool
ends_line [] = true
ends_line (b ∷ []) = b == line_feed
ends_line (b ∷ c ∷ bs) = ends_line (c ∷ bs)

-- no line of the text divides
abbrev pub IsOnePiece : List ℕ → Type 0
IsOnePiece text = list_any divides (full_lines_of text) ≡ false

-- a piece by its start and its end
abbrev pub bytes_in : List ℕ → ℕ × ℕ → List ℕ
bytes_in bytes span = slice_range bytes span.0 span.1

-- the piece lies within the text
pub record IsWithin (bytes : List ℕ) (span : ℕ × ℕ) : Type 0 where
  pub order : span.0 ≤ span.1
  pub end : span.1 ≤ length bytes
