-- Texts of items that are numbered one after the other.
use Rattle.std.specs.Prelude.{ℕ, ◌+◌, List, [], ◌∷◌, ◌++◌, length}
use Rattle.sched_edges.specs.Lines.{number_line}

-- the texts of the items, of which the first has the number j
abbrev pub numbered : {A : Type 0} → (ℕ → A → List ℕ) → ℕ → List A → List ℕ
numbered text j [] = []
numbered text j (x ∷ xs) = text j x ++ numbered text (j + 1) xs

-- a text of several items: the name of the format, version 1, how many there are, and the text of each, numbered from 0
abbrev pub several : {A : Type 0} → List ℕ → List ℕ → (ℕ → A → List ℕ) → List A → List ℕ
several format what text items = (number_line format 1 ++ number_line what (length items)) ++ numbered text 0 items
