-- The first line of a text, and the pieces by the lines.
use Rattle.std.proofs.Common.{zero, suc, add-one, ℕ, ◌+◌, ◌-◌, ◌<◌, ◌≤◌, ◌≡◌, ◌≢◌, Bool, true, false, if◌then◌else◌}
use Rattle.std.proofs.Common.{List, [], ◌∷◌, ◌++◌, length, map, take, drop, get_or, sym, refl, ap, ◌∙◌, arith, append_assoc}
use Rattle.std.specs.List.{slice_range, All, filter}
use Rattle.std.proofs.lemmas.List.{append-nil, length-append, drop-drop, map-append}
use Rattle.std.proofs.Math.Seq.{take-add, take-append_seam, drop-append_seam}
use Rattle.std.proofs.lemmas.List.Elements.{All-push}
use Rattle.std.proofs.lemmas.Bool.{cond-true, cond-false, eq-eqb, ne_eqb}
use Rattle.task_reader.specs.Pieces.{onto_first, full_lines_of, divides, pieces_of_lines, pieces_of, bytes_in, IsWithin}

-- a text without a line feed is one line
pub one_line : (b : ℕ) (bs : List ℕ) → ((k : ℕ) → k < length (b ∷ bs) → get_or (b ∷ bs) k 0 ≢ 10) → full_lines_of (b ∷ bs) ≡ (b ∷ bs) ∷ []
one_line b [] none = cond-false _ _ _ (ne_eqb b 10 (none 0 (omega arith)))
one_line b (c ∷ bs) none =
    cond-false _ _ _ (ne_eqb b 10 (none 0 (omega arith))) ∙ ap (onto_first (b ∷ [])) (one_line c bs (λ k h. none (suc k) (omega (arith, h))))

line_before : (bs : List ℕ) (n : ℕ) → n < length bs → ((k : ℕ) → k < n → get_or bs k 0 ≢ 10) → get_or bs n 0 ≡ 10
    → full_lines_of bs ≡ take (suc n) bs ∷ full_lines_of (drop (suc n) bs)
line_before [] n h none at = absurd (omega (arith, h))
line_before (b ∷ bs) zero h none at = cond-true _ _ _ (eq-eqb b 10 at)
line_before (b ∷ bs) (suc n) h none at =
    cond-false _ _ _ (ne_eqb b 10 (none 0 (omega arith)))
    ∙ ap (onto_first (b ∷ [])) (line_before bs n (omega (arith, h)) (λ k l. none (suc k) (omega (arith, l))) at)

-- the first line ends with the first line feed
pub first_line_is : (bs : List ℕ) (n : ℕ) → n < length bs → ((k : ℕ) → k < n → get_or bs k 0 ≢ 10) → get_or bs n 0 ≡ 10
    → full_lines_of bs ≡ take (n + 1) bs ∷ full_lines_of (drop (n + 1) bs)
first_line_is bs n h none at = rw add-one (line_before bs n h none at)

pub last_line_is : (bs : List ℕ) → 0 < length bs → ((k : ℕ) → k < length bs → get_or bs k 0 ≢ 10) → full_lines_of bs ≡ bs ∷ []
last_line_is [] h none = absurd (omega arith)
last_line_is (b ∷ bs) h none = one_line b bs none

-- no bytes at the front change nothing
pub onto_nothing : (lines : List (List ℕ)) → onto_first [] (pieces_of_lines lines) ≡ pieces_of_lines lines
onto_nothing [] = refl
onto_nothing (line ∷ lines) = by_case (divides line) (pieces_of_lines lines)
  where
    by_case : (b : Bool) (ps : List (List ℕ)) → onto_first [] (if b then [] ∷ ps else onto_first line ps) ≡ (if b then [] ∷ ps else onto_first line ps)
    by_case true ps = refl
    by_case false [] = refl
    by_case false (p ∷ ps) = refl

pub onto_twice : (a b : List ℕ) (ps : List (List ℕ)) → onto_first a (onto_first b ps) ≡ onto_first (a ++ b) ps
onto_twice a b [] = refl
onto_twice a b (p ∷ ps) = ap (λ x. x ∷ ps) (sym (append_assoc a b p))

-- two ranges, one after the other
range_join : (xs : List ℕ) (a b c : ℕ) → a ≤ b → b ≤ c → slice_range xs a b ++ slice_range xs b c ≡ slice_range xs a c
range_join xs a b c ab bc =
    let whole : c - a ≡ (b - a) + (c - b) = omega arith in
    let from : b ≡ a + (b - a) = omega arith in
    let rest : drop b xs ≡ drop (b - a) (drop a xs) = ap (λ m. drop m xs) from ∙ sym (drop-drop (b - a) a xs) in
    ap (λ ys. take (b - a) (drop a xs) ++ take (c - b) ys) rest ∙ sym (take-add (b - a) (c - b) (drop a xs)) ∙ ap (λ m. take m (drop a xs)) (sym whole)

-- what was cut off a text: whole pieces, and then a first part of one from `start` on, up to `rest`
pub record IsCut (bytes : List ℕ) (spans : List (ℕ × ℕ)) (start : ℕ) (rest : List ℕ) : Type 0 where
  pub fits : length rest ≤ length bytes
  pub left : rest ≡ drop (length bytes - length rest) bytes
  pub order : start ≤ length bytes - length rest
  pub few : length spans ≤ length bytes - length rest
  pub within : All (IsWithin bytes) spans
  pub pieces : pieces_of bytes ≡ map (bytes_in bytes) spans ++ onto_first (slice_range bytes start (length bytes - length rest)) (pieces_of rest)

pub cut_begins : (bytes : List ℕ) → IsCut bytes [] 0 bytes
cut_begins bytes =
    let none : length bytes - length bytes ≡ 0 = omega arith in
    record {
      fits = omega arith;
      left = sym (ap (λ k. drop k bytes) none);
      order = omega arith;
      few = omega arith;
      within = λ k d lt. absurd (omega (arith, lt));
      pieces = sym (ap (λ k. onto_first (slice_range bytes 0 k) (pieces_of bytes)) none ∙ onto_nothing (full_lines_of bytes));
    }

module _ (bytes : List ℕ) (spans : List (ℕ × ℕ)) (start : ℕ) (rest line after : List ℕ) (cut : IsCut bytes spans start rest)
    (parts : rest ≡ line ++ after) (some : 0 < length line) (first : full_lines_of rest ≡ line ∷ full_lines_of after) where
  longer : length rest ≡ length line + length after
  longer = ap length parts ∙ length-append line after

  next_is : length bytes - length after ≡ (length bytes - length rest) + length line
  next_is = let n = longer in let f = cut.fits in omega (arith, n, f)

  left_is : after ≡ drop (length bytes - length after) bytes
  left_is =
      sym (ap (λ k. drop k bytes) next_is
      ∙ sym (drop-drop (length line) (length bytes - length rest) bytes)
      ∙ ap (drop (length line)) (sym cut.left ∙ parts)
      ∙ drop-append_seam line after)

  line_is : slice_range bytes (length bytes - length rest) (length bytes - length after) ≡ line
  line_is =
      let n : length bytes - length after - (length bytes - length rest) ≡ length line = (let e = next_is in omega (arith, e)) in
      ap (λ k. take k (drop (length bytes - length rest) bytes)) n
      ∙ ap (take (length line)) (sym cut.left ∙ parts)
      ∙ take-append_seam line after

  -- a line that doesn't divide is part of the piece
  pub line_more : divides line ≡ false → IsCut bytes spans start after
  line_more part =
      let n = longer in
      let e = next_is in
      let f = cut.fits in
      let o = cut.order in
      let w = cut.few in
      let whole : slice_range bytes start (length bytes - length rest) ++ line ≡ slice_range bytes start (length bytes - length after)
      = ap (λ l. slice_range bytes start (length bytes - length rest) ++ l) (sym line_is)
      ∙ range_join bytes start (length bytes - length rest) (length bytes - length after) o (omega (arith, e)) in
      record {
        fits = omega (arith, n, f);
        left = left_is;
        order = omega (arith, e, o);
        few = omega (arith, e, w);
        within = cut.within;
        pieces = cut.pieces ∙ ap (λ ps. map (bytes_in bytes) spans ++ ps)
            (ap (onto_first (slice_range bytes start (length bytes - length rest))) (ap pieces_of_lines first ∙ cond-false _ _ _ part)
            ∙ onto_twice (slice_range bytes start (length bytes - length rest)) line (pieces_of after)
            ∙ ap (λ s. onto_first s (pieces_of after)) whole);
      }

  -- a line that divides ends the piece
  pub line_divides : divides line ≡ true → IsCut bytes (spans ++ (start, length bytes - length rest) ∷ []) (length bytes - length after) after
  line_divides ends =
      let n = longer in
      let e = next_is in
      let f = cut.fits in
      let o = cut.order in
      let w = cut.few in
      let at = length bytes - length rest in
      let next = length bytes - length after in
      let piece = slice_range bytes start at in
      let ls = length-append spans ((start, at) ∷ []) in
      let none : next - next ≡ 0 = omega arith in
      let empty : slice_range bytes next next ≡ [] = ap (λ m. take m (drop next bytes)) none in
      let ended : onto_first piece (pieces_of rest) ≡ piece ∷ pieces_of after
      = ap (onto_first piece) (ap pieces_of_lines first ∙ cond-true _ _ _ ends) ∙ ap (λ s. s ∷ pieces_of after) (append-nil piece) in
      let begun : onto_first (slice_range bytes next next) (pieces_of after) ≡ pieces_of after
      = ap (λ s. onto_first s (pieces_of after)) empty ∙ onto_nothing (full_lines_of after) in
      let told = map (bytes_in bytes) spans in
      record {
        fits = omega (arith, n, f);
        left = left_is;
        order = omega arith;
        few = omega (arith, e, w, some, ls);
        within = All-push (IsWithin bytes) spans (start, at) cut.within (record { order = o; end = omega arith });
        pieces = cut.pieces
            ∙ ap (λ ps. told ++ ps) (ended ∙ ap (λ ps. piece ∷ ps) (sym begun))
            ∙ sym (ap (λ ms. ms ++ onto_first (slice_range bytes next next) (pieces_of after)) (map-append (bytes_in bytes) spans ((start, at) ∷ []))
            ∙ append_assoc told (piece ∷ []) (onto_first (slice_range bytes next next) (pieces_of after)));
      }

-- each dividing line makes one piece more
pub count_pieces : (lines : List (List ℕ)) → length (pieces_of_lines lines) ≡ length (filter divides lines) + 1
count_pieces [] = refl
count_pieces (line ∷ lines) = by_case (divides line) (pieces_of_lines lines) (filter divides lines) (count_pieces lines)
  where
    by_case : (b : Bool) (ps fs : List (List ℕ)) → length ps ≡ length fs + 1
        → length (if b then [] ∷ ps else onto_first line ps) ≡ length (if b then line ∷ fs else fs) + 1
    by_case true ps fs h = omega (arith, h)
    by_case false [] fs h = absurd (omega (arith, h))
    by_case false (p ∷ ps) fs h = h
