-- Merged rows as they begin, one row more, and how they are read.
use Rattle.std.proofs.Common.{◌≡◌, ℕ, zero, suc, ◌+◌, ◌<◌, inl, inr, List, [], ◌∷◌, ◌++◌, length, map, get_or, slice_get, Some, None, eqb, eq-eqb}
use Rattle.std.proofs.Common.{refl, sym, ap, ◌∙◌, arith}
use Rattle.std.proofs.lemmas.Bool.{ne_eqb}
use Rattle.std.proofs.lemmas.Bool.Decides.{eqb_tells}
use Rattle.sched_base.specs.declared.rows.Leaf.{Leaf}
use Rattle.sched_base.specs.declared.rows.Row.{Row}
use Rattle.sched_base.specs.Tables.{lane_of}
use Rattle.merged_rows.specs.Merging.{shown}
use Rattle.merged_rows.specs.Columns.{Begun, last_mark, lanes_up_to, rows_up_to, shows_last}

-- a row that begins at the end of the others
abbrev pub new_row : ℕ → Leaf → Begun
new_row start leaf = record { start = start; leaf = leaf }

-- ---- what the last row shows

both_more : (a b : ℕ) → eqb (a + 1) (b + 1) ≡ eqb a b
both_more a b = elim (eqb_tells a b) [
  | inl on ↦ eq-eqb (a + 1) (b + 1) (ap (λ n. n + 1) on.1) ∙ sym on.0
  | inr off ↦ ne_eqb (a + 1) (b + 1) (λ e. off.1 (omega (arith, e))) ∙ sym off.0
]

pub shows_by_mark : (lane : List Begun) (leaf : Leaf) → eqb (last_mark lane) (shown leaf + 1) ≡ shows_last lane leaf
shows_by_mark [] leaf = ne_eqb 0 (shown leaf + 1) (λ e. absurd (omega (arith, e)))
shows_by_mark (b ∷ []) leaf = both_more (shown b.leaf) (shown leaf)
shows_by_mark (b ∷ (c ∷ lane)) leaf = shows_by_mark (c ∷ lane) leaf

pub mark_pushed : (lane : List Begun) (start : ℕ) (leaf : Leaf) → last_mark (lane ++ new_row start leaf ∷ []) ≡ shown leaf + 1
mark_pushed [] start leaf = refl
mark_pushed (b ∷ []) start leaf = refl
mark_pushed (b ∷ (c ∷ lane)) start leaf = mark_pushed (c ∷ lane) start leaf

-- ---- reading

pub length-rows_up_to : (p end : ℕ) (lane : List Begun) → length (rows_up_to p end lane) ≡ length lane
length-rows_up_to p end [] = refl
length-rows_up_to p end (b ∷ []) = refl
length-rows_up_to p end (b ∷ (c ∷ lane)) = ap suc (length-rows_up_to p end (c ∷ lane))

-- the lane of processor p
pub lane_up_to : (a end : ℕ) (lanes : List (List Begun)) (p : ℕ) → p < length lanes → lane_of (lanes_up_to a end lanes) p ≡ rows_up_to (a + p) end
    (get_or lanes p [])
lane_up_to a end [] p within = absurd (omega (arith, within))
lane_up_to a end (lane ∷ lanes) zero within = let e : a ≡ a + 0 = omega arith in ap (λ n. rows_up_to n end lane) e
lane_up_to a end (lane ∷ lanes) (suc p) within =
    let e : a + 1 + p ≡ a + suc p = omega arith in lane_up_to (a + 1) end lanes p (omega (arith, within)) ∙ ap (λ n. rows_up_to n end (get_or lanes p [])) e

-- row i begins where the one that is read does, and shows the same
pub row_begins : (p end i : ℕ) (lane : List Begun) (r : Row) → slice_get (rows_up_to p end lane) i ≡ Some r → slice_get lane i ≡ Some (new_row r.start r.leaf)
row_begins p end i [] r at = absurd (let e : None ≡ Some r = at in cc)
row_begins p end zero (b ∷ []) r at =
    let row : Row = record { processor = p; start = b.start; end = end; leaf = b.leaf } in
    let e : Some row ≡ Some r = at in
    let e' : row ≡ r = cc in
    ap (λ (x : Row). Some (new_row x.start x.leaf)) e'
row_begins p end (suc i) (b ∷ []) r at = absurd (let e : None ≡ Some r = at in cc)
row_begins p end zero (b ∷ (c ∷ lane)) r at =
    let row : Row = record { processor = p; start = b.start; end = c.start; leaf = b.leaf } in
    let e : Some row ≡ Some r = at in
    let e' : row ≡ r = cc in
    ap (λ (x : Row). Some (new_row x.start x.leaf)) e'
row_begins p end (suc i) (b ∷ (c ∷ lane)) r at = row_begins p end i (c ∷ lane) r at

-- rows tell where they begin
abbrev begin_of : Row → Begun
begin_of r = new_row r.start r.leaf

rows_tell : (p end : ℕ) (lane : List Begun) → map begin_of (rows_up_to p end lane) ≡ lane
rows_tell p end [] = refl
rows_tell p end (b ∷ []) = refl
rows_tell p end (b ∷ (c ∷ lane)) = ap (λ xs. b ∷ xs) (rows_tell p end (c ∷ lane))

lanes_tell : (a end : ℕ) (lanes : List (List Begun)) → map (map begin_of) (lanes_up_to a end lanes) ≡ lanes
lanes_tell a end [] = refl
lanes_tell a end (lane ∷ lanes) = ap (λ x. x ∷ map (map begin_of) (lanes_up_to (a + 1) end lanes)) (rows_tell a end lane) ∙ ap (λ xs. lane ∷ xs)
    (lanes_tell (a + 1) end lanes)

-- so the same rows begin alike
pub same_begun : (end : ℕ) (a b : List (List Begun)) → lanes_up_to 0 end a ≡ lanes_up_to 0 end b → a ≡ b
same_begun end a b same = sym (lanes_tell 0 end a) ∙ ap (map (map begin_of)) same ∙ lanes_tell 0 end b
