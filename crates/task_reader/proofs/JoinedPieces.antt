-- Texts joined by dividing lines are cut into these texts again.
use Rattle.std.proofs.Common.{ℕ, ◌<◌, ◌≡◌, Bool, true, false, if◌then◌else◌, List, [], ◌∷◌, ◌++◌, length, sym, refl, ap, ◌∙◌, arith}
use Rattle.std.specs.Prelude.{◌==◌, ◌||◌}
use Rattle.std.specs.List.{AllByRecursion, list_any, concat}
use Rattle.std.proofs.lemmas.List.{append-nil}
use Rattle.task_reader.specs.Pieces.{onto_first, full_lines_of, divides, pieces_of_lines, pieces_of, joined, ends_line, IsOnePiece}
use Rattle.task_reader.proofs.PiecesLemmas.{onto_nothing, onto_twice}

-- a text that isn't empty has a line
some_lines : (b : ℕ) (bs : List ℕ) → 0 < length (full_lines_of (b ∷ bs))
some_lines b bs = by_case (b == 10) (full_lines_of bs)
  where
    by_case : (ends : Bool) (lines : List (List ℕ)) → 0 < length (if ends then (b ∷ []) ∷ lines else onto_first (b ∷ []) lines)
    by_case true lines = omega arith
    by_case false [] = omega arith
    by_case false (line ∷ lines) = omega arith

onto_append : (b : List ℕ) (lines more : List (List ℕ)) → 0 < length lines → onto_first b (lines ++ more) ≡ onto_first b lines ++ more
onto_append b [] more some = absurd (omega (arith, some))
onto_append b (line ∷ lines) more some = refl

-- the lines of two texts, of which the first leaves no line open
lines_after : (text more : List ℕ) → ends_line text ≡ true → full_lines_of (text ++ more) ≡ full_lines_of text ++ full_lines_of more
lines_after [] more ends = refl
lines_after (b ∷ []) more ends = by_case (b == 10) ends
  where
    by_case : (feed : Bool) → feed ≡ true
        → (if feed then (b ∷ []) ∷ full_lines_of more else onto_first (b ∷ []) (full_lines_of more))
        ≡ (if feed then (b ∷ []) ∷ [] else onto_first (b ∷ []) []) ++ full_lines_of more
    by_case true e = refl
    by_case false e = cc
lines_after (b ∷ c ∷ bs) more ends =
    by_case (b == 10) (full_lines_of (c ∷ bs ++ more)) (full_lines_of (c ∷ bs)) (lines_after (c ∷ bs) more ends) (some_lines c bs)
  where
    by_case : (feed : Bool) (whole lines : List (List ℕ)) → whole ≡ lines ++ full_lines_of more → 0 < length lines
        → (if feed then (b ∷ []) ∷ whole else onto_first (b ∷ []) whole) ≡ (if feed then (b ∷ []) ∷ lines else onto_first (b ∷ []) lines) ++ full_lines_of more
    by_case true whole lines is some = ap (λ ls. (b ∷ []) ∷ ls) is
    by_case false whole lines is some = ap (onto_first (b ∷ [])) is ∙ onto_append (b ∷ []) lines (full_lines_of more) some

all_lines : (text : List ℕ) → concat (full_lines_of text) ≡ text
all_lines [] = refl
all_lines (b ∷ bs) = by_case (b == 10) (full_lines_of bs) (all_lines bs)
  where
    by_case : (feed : Bool) (lines : List (List ℕ)) → concat lines ≡ bs → concat (if feed then (b ∷ []) ∷ lines else onto_first (b ∷ []) lines) ≡ b ∷ bs
    by_case true lines is = ap (λ bs. b ∷ bs) is
    by_case false [] is = ap (λ bs. b ∷ bs) is
    by_case false (line ∷ lines) is = ap (λ bs. b ∷ bs) is

-- lines of which none divides are the first part of a piece
plain_lines : (lines more : List (List ℕ)) → list_any divides lines ≡ false
    → pieces_of_lines (lines ++ more) ≡ onto_first (concat lines) (pieces_of_lines more)
plain_lines [] more none = sym (onto_nothing more)
plain_lines (line ∷ lines) more none = by_case (divides line) (list_any divides lines) none (plain_lines lines more)
  where
    by_case : (ends rest : Bool) → ends || rest ≡ false → (rest ≡ false → pieces_of_lines (lines ++ more) ≡ onto_first (concat lines) (pieces_of_lines more))
        → (if ends then [] ∷ pieces_of_lines (lines ++ more) else onto_first line (pieces_of_lines (lines ++ more)))
        ≡ onto_first (line ++ concat lines) (pieces_of_lines more)
    by_case true rest e is = cc
    by_case false rest e is = ap (onto_first line) (is e) ∙ onto_twice line (concat lines) (pieces_of_lines more)

one_piece : (text : List ℕ) → IsOnePiece text → pieces_of text ≡ text ∷ []
one_piece text none =
    ap pieces_of_lines (sym (append-nil (full_lines_of text)))
    ∙ plain_lines (full_lines_of text) [] none
    ∙ ap (λ bytes. onto_first bytes ([] ∷ [])) (all_lines text)
    ∙ ap (λ bytes. bytes ∷ []) (append-nil text)

first_piece : (text more : List ℕ) → IsOnePiece text → ends_line text ≡ true → pieces_of (text ++ (37 ∷ 37 ∷ 10 ∷ [] ++ more)) ≡ text ∷ pieces_of more
first_piece text more none ends =
    ap pieces_of_lines (lines_after text (37 ∷ 37 ∷ 10 ∷ [] ++ more) ends)
    ∙ plain_lines (full_lines_of text) ((37 ∷ 37 ∷ 10 ∷ []) ∷ full_lines_of more) none
    ∙ ap (λ bytes. onto_first bytes ([] ∷ pieces_of more)) (all_lines text)
    ∙ ap (λ bytes. bytes ∷ pieces_of more) (append-nil text)

-- texts of whole lines of which none divides, with a dividing line between each two, are cut into these texts again
pub pieces_again : (texts : List (List ℕ)) (last : List ℕ) → AllByRecursion (λ text. IsOnePiece text × (ends_line text ≡ true)) texts → IsOnePiece last
    → pieces_of (joined texts last) ≡ texts ++ last ∷ []
pieces_again [] last each none = one_piece last none
pieces_again (text ∷ texts) last each none =
    first_piece text (joined texts last) each.0.0 each.0.1 ∙ ap (λ ps. text ∷ ps) (pieces_again texts last each.1 none)
