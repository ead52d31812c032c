-- The rows that columns of a table are read as.
use Rattle.std.proofs.Common.{◌≡◌, ℕ, zero, suc, ◌+◌, ◌-◌, ◌^◌, ◌<◌, ◌≤◌, List, [], ◌∷◌, ◌++◌, Some, None, length, replicate, refl, sym, ap, ◌∙◌, subst, arith}
use Rattle.std.specs.Prelude.{slice_get}
use Rattle.std.proofs.lemmas.List.{length_push}
use Rattle.sched_base.specs.declared.rows.Leaf.{Leaf}
use Rattle.sched_base.specs.declared.rows.Row.{Row}
use Rattle.sched_base.specs.Tables.{LaneHeld, EndsHeld, AreFilled, HaveRoom, IsHeld, IsTable, IsRound, lane_of, end_after, end_of, rows_held}
use Rattle.sched_base.specs.Tables.{lanes_held, rounds_in, with_round}
use Rattle.sched_base.proofs.TableLemmas.{IsTable-none}
use Rattle.sched_base.specs.Columns.{with_leaf, with_leaves, with_end}

-- ---- one lane

-- the last of the ends
abbrev last_of : ℕ → List ℕ → ℕ
last_of start [] = start
last_of start (end ∷ ends) = last_of end ends

end_after-held : (p start : ℕ) (ends : List ℕ) (leaves : List Leaf) → length leaves ≡ length ends → end_after start (rows_held p start ends leaves)
    ≡ last_of start ends
end_after-held p start [] leaves long = refl
end_after-held p start (end ∷ ends) [] long = absurd (omega (arith, long))
end_after-held p start (end ∷ ends) (leaf ∷ leaves) long = end_after-held p end ends leaves (omega (arith, long))

-- there is a row for each end
pub length-rows_held : (p start : ℕ) (ends : List ℕ) (leaves : List Leaf) → length leaves ≡ length ends → length (rows_held p start ends leaves) ≡ length ends
length-rows_held p start [] leaves long = refl
length-rows_held p start (end ∷ ends) [] long = absurd (omega (arith, long))
length-rows_held p start (end ∷ ends) (leaf ∷ leaves) long = ap suc (length-rows_held p end ends leaves (omega (arith, long)))

-- the row of round k
pub row_held : (p start : ℕ) (ends : List ℕ) (leaves : List Leaf) (k : ℕ) (r : Row) → r.processor ≡ p → slice_get (start ∷ ends) k ≡ Some r.start →
    slice_get ends k ≡ Some r.end → slice_get leaves k ≡ Some r.leaf
    → slice_get (rows_held p start ends leaves) k ≡ Some r
row_held p start [] leaves k r own from to leaf = absurd (let e : None ≡ Some r.end = to in cc)
row_held p start (end ∷ ends) [] k r own from to leaf = absurd (let e : None ≡ Some r.leaf = leaf in cc)
row_held p start (end ∷ ends) (l ∷ leaves) zero r own from to leaf =
    let a : Some start ≡ Some r.start = from in
    let b : Some end ≡ Some r.end = to in
    let d : Some l ≡ Some r.leaf = leaf in
    let a' : start ≡ r.start = cc in
    let b' : end ≡ r.end = cc in
    let d' : l ≡ r.leaf = cc in
    rw (a', b', d', ← own) refl
row_held p start (end ∷ ends) (l ∷ leaves) (suc k) r own from to leaf = row_held p end ends leaves k r own from to leaf

-- one row more
more_held : (p start : ℕ) (ends : List ℕ) (leaves : List Leaf) (r : Row) → length leaves ≡ length ends → r.processor ≡ p → r.start ≡ last_of start ends
    → rows_held p start (ends ++ r.end ∷ []) (leaves ++ r.leaf ∷ []) ≡ rows_held p start ends leaves ++ r ∷ []
more_held p start [] [] r long own from =
    subst (λ q. ◌≡◌ {A = List Row} (record { processor = q; leaf = r.leaf; start = start; end = r.end } ∷ []) (r ∷ [])) own
    (subst (λ s. ◌≡◌ {A = List Row} (record { processor = r.processor; leaf = r.leaf; start = s; end = r.end } ∷ []) (r ∷ [])) from refl)
more_held p start [] (l ∷ leaves) r long own from = absurd (omega (arith, long))
more_held p start (end ∷ ends) [] r long own from = absurd (omega (arith, long))
more_held p start (end ∷ ends) (l ∷ leaves) r long own from =
    ap (λ (rows : List Row). record { processor = p; leaf = l; start = start; end = end } ∷ rows) (more_held p end ends leaves r (omega (arith, long)) own from)

-- ---- all lanes

filled_tail : (n : ℕ) (lane : LaneHeld) (lanes : List LaneHeld) → AreFilled n (lane ∷ lanes) → AreFilled n lanes
filled_tail n lane lanes filled p = filled (suc p)

pub length-lanes_held : (p : ℕ) (ends : List ℕ) (lanes : List LaneHeld) → length (lanes_held p ends lanes) ≡ length lanes
length-lanes_held p ends [] = refl
length-lanes_held p ends (lane ∷ lanes) = ap suc (length-lanes_held (p + 1) ends lanes)

-- the rows of processor a + p
pub lane_held : (a : ℕ) (ends : List ℕ) (lanes : List LaneHeld) (p : ℕ) (lane : LaneHeld) → slice_get lanes p ≡ Some lane →
    lane_of (lanes_held a ends lanes) p ≡ rows_held (a + p) 0 ends lane.leaves
lane_held a ends [] p lane at = absurd (let e : None ≡ Some lane = at in cc)
lane_held a ends (l ∷ lanes) zero lane at =
    let e : Some l ≡ Some lane = at in
    let e' : l ≡ lane = cc in
    let z : a ≡ a + 0 = omega arith in
    ap (λ (x : LaneHeld). rows_held a 0 ends x.leaves) e' ∙ ap (λ q. rows_held q 0 ends lane.leaves) z
lane_held a ends (l ∷ lanes) (suc p) lane at =
    let next : a + 1 + p ≡ a + suc p = omega arith in
    lane_held (a + 1) ends lanes p lane at ∙ ap (λ q. rows_held q 0 ends lane.leaves) next

-- the rows of one round more, from processor a on
module _ (ends : List ℕ) (end : ℕ) where
  lanes_more : (a : ℕ) (lanes : List LaneHeld) (rows : List Row) → length rows ≡ length lanes → AreFilled (length ends) lanes
      → ((p : ℕ) (r : Row) → slice_get rows p ≡ Some r → (r.processor ≡ a + p) × (r.start ≡ last_of 0 ends) × (r.end ≡ end))
      → lanes_held a (ends ++ end ∷ []) (with_leaves lanes rows) ≡ with_round (lanes_held a ends lanes) rows
  lanes_more a [] rows whole filled are = refl
  lanes_more a (lane ∷ lanes) [] whole filled are = absurd (omega (arith, whole))
  lanes_more a (lane ∷ lanes) (r ∷ rows) whole filled are =
      let (own, from, to) = are 0 r refl in
      let here : rows_held a 0 (ends ++ end ∷ []) (lane.leaves ++ r.leaf ∷ []) ≡ rows_held a 0 ends lane.leaves ++ r ∷ [] =
      ap (λ e. rows_held a 0 (ends ++ e ∷ []) (lane.leaves ++ r.leaf ∷ [])) (sym to) ∙ more_held a 0 ends lane.leaves r (filled 0 lane refl)
      (omega (arith, own)) from in
      let rest = lanes_more (a + 1) lanes rows (omega (arith, whole)) (filled_tail (length ends) lane lanes filled)
      (λ p s at. let (own', from', to') = are (suc p) s at in (omega (arith, own'), from', to')) in
      ap (λ (xs : List Row). xs ∷ lanes_held (a + 1) (ends ++ end ∷ []) (with_leaves lanes rows)) here
      ∙ ap (λ (ls : List (List Row)). (rows_held a 0 ends lane.leaves ++ r ∷ []) ∷ ls) rest

-- where the last round ends
end_held : (ends : List ℕ) (lane : LaneHeld) (lanes : List LaneHeld) → AreFilled (length ends) (lane ∷ lanes) → end_of (lanes_held 0 ends (lane ∷ lanes))
    ≡ last_of 0 ends
end_held ends lane lanes filled = end_after-held 0 0 ends lane.leaves (filled 0 lane refl)

-- a round that follows the rows appends its end and its leaves
pub lanes_held-with_round : (held : EndsHeld) (lanes : List LaneHeld) (rows : List Row) → length rows ≡ length lanes → AreFilled (length held.ends) lanes →
    IsRound (end_of (lanes_held 0 held.ends lanes)) rows
    → lanes_held 0 (with_end held rows).ends (with_leaves lanes rows) ≡ with_round (lanes_held 0 held.ends lanes) rows
lanes_held-with_round held [] [] whole filled round = refl
lanes_held-with_round held [] (r ∷ rows) whole filled round = absurd (omega (arith, whole))
lanes_held-with_round held (lane ∷ lanes) [] whole filled round = absurd (omega (arith, whole))
lanes_held-with_round held (lane ∷ lanes) (r ∷ rows) whole filled round =
    lanes_more held.ends r.end 0 (lane ∷ lanes) (r ∷ rows) whole filled
    (λ p s at. (round.own p s at ∙ omega arith, round.starts p s at ∙ end_held held.ends lane lanes filled, round.ends p 0 s r at refl))

length-filled : (n : ℕ) (lanes : List LaneHeld) (rows : List Row) → length rows ≡ length lanes → AreFilled n lanes → AreFilled (n + 1) (with_leaves lanes rows)
length-filled n [] rows whole filled p lane at = absurd (let e : None ≡ Some lane = at in cc)
length-filled n (l ∷ lanes) [] whole filled p lane at = absurd (omega (arith, whole))
length-filled n (l ∷ lanes) (r ∷ rows) whole filled zero lane at =
    let e : Some (with_leaf l r.leaf) ≡ Some lane = at in
    let e' : with_leaf l r.leaf ≡ lane = cc in
    sym (ap (λ (x : LaneHeld). length x.leaves) e') ∙ length_push l.leaves r.leaf ∙ ap (λ k. k + 1) (filled 0 l refl)
length-filled n (l ∷ lanes) (r ∷ rows) whole filled (suc p) lane at =
    length-filled n lanes rows (omega (arith, whole)) (filled_tail n l lanes filled) p lane at

-- the lanes stay as long as the ends
pub AreFilled-with_leaves : (held : EndsHeld) (lanes : List LaneHeld) (rows : List Row) → length rows ≡ length lanes → AreFilled (length held.ends) lanes
    → AreFilled (length (with_end held rows).ends) (with_leaves lanes rows)
AreFilled-with_leaves held [] rows whole filled = λ p lane at. absurd (let e : None ≡ Some lane = at in cc)
AreFilled-with_leaves held (l ∷ lanes) [] whole filled = absurd (omega (arith, whole))
AreFilled-with_leaves held (l ∷ lanes) (r ∷ rows) whole filled =
    subst (λ n. AreFilled n (with_leaves (l ∷ lanes) (r ∷ rows))) (sym (length_push held.ends r.end)) (length-filled (length held.ends) (l ∷ lanes)
    (r ∷ rows) whole filled)

-- room for one round less
pub ends_room : (n : ℕ) (held : EndsHeld) (rows : List Row) → n ≤ held.room → n - 1 ≤ (with_end held rows).room
ends_room n held [] room = omega (arith, room)
ends_room n held (r ∷ rows) room = omega (arith, room)

-- ---- a table with no round

-- each of the lanes has no leaf
pub AreFilled-push : (n : ℕ) (lanes : List LaneHeld) (lane : LaneHeld) → AreFilled n lanes → length lane.leaves ≡ n → AreFilled n (lanes ++ lane ∷ [])
AreFilled-push n [] lane filled long zero l at = let e : Some lane ≡ Some l = at in let e' : lane ≡ l = cc in subst (λ (x : LaneHeld). length x.leaves ≡ n)
    e' long
AreFilled-push n [] lane filled long (suc p) l at = cc
AreFilled-push n (k ∷ lanes) lane filled long zero l at = filled zero l at
AreFilled-push n (k ∷ lanes) lane filled long (suc p) l at = AreFilled-push n lanes lane (filled_tail n k lanes filled) long p l at

-- with no round no processor has a row
lanes_held-none : (p : ℕ) (lanes : List LaneHeld) → lanes_held p [] lanes ≡ replicate (length lanes) []
lanes_held-none p [] = refl
lanes_held-none p (lane ∷ lanes) = ap (λ (ls : List (List Row)). [] ∷ ls) (lanes_held-none (p + 1) lanes)

-- ---- reading rows

held_within : (ends : List ℕ) (lanes : List LaneHeld) (k : ℕ) → AreFilled (length ends) lanes → k < rounds_in (lanes_held 0 ends lanes) → k < length ends
held_within ends [] k filled within = absurd (omega (arith, within))
held_within ends (lane ∷ lanes) k filled within = let long = length-rows_held 0 0 ends lane.leaves (filled 0 lane refl) in omega (arith, long, within)

-- rows that are read off the columns have their lanes and their rounds
module _ (ends : List ℕ) (lanes : List LaneHeld) (rows : List (List Row)) (are : lanes_held 0 ends lanes ≡ rows) where
  pub within_lanes : (p : ℕ) → p < length rows → p < length lanes
  within_lanes p within = let many = ap length are in let long = length-lanes_held 0 ends lanes in omega (arith, many, long, within)

  pub within_ends : (k : ℕ) → AreFilled (length ends) lanes → k < rounds_in rows → k < length ends
  within_ends k filled within = held_within ends lanes k filled (subst (λ ls. k < rounds_in ls) (sym are) within)

-- the row of processor p in round k
pub row_is_held : (ends : List ℕ) (lanes : List LaneHeld) (p k : ℕ) (lane : LaneHeld) (r : Row) → slice_get lanes p ≡ Some lane → r.processor ≡ p
    → slice_get (0 ∷ ends) k ≡ Some r.start → slice_get ends k ≡ Some r.end → slice_get lane.leaves k ≡ Some r.leaf →
    slice_get (lane_of (lanes_held 0 ends lanes) p) k ≡ Some r
row_is_held ends lanes p k lane r at own from to leaf =
    subst (λ rows. slice_get rows k ≡ Some r) (sym (lane_held 0 ends lanes p lane at)) (row_held (0 + p) 0 ends lane.leaves k r (omega (arith, own)) from to
    leaf)

-- how many rounds there are
pub rounds_held : (ends : List ℕ) (lanes : List LaneHeld) (lane : LaneHeld) → AreFilled (length ends) lanes → slice_get lanes 0 ≡ Some lane →
    length lane.leaves ≡ rounds_in (lanes_held 0 ends lanes)
rounds_held ends [] lane filled at = absurd (let e : None ≡ Some lane = at in cc)
rounds_held ends (l ∷ lanes) lane filled at = filled 0 lane at ∙ sym (length-rows_held 0 0 ends l.leaves (filled 0 l refl))

-- ---- a new table

pub lanes_held-new : (ends : EndsHeld) (lanes : List LaneHeld) (n rounds : ℕ) → ends ≡ record { ends = []; room = rounds } → length lanes ≡ n →
    lanes_held 0 ends.ends lanes ≡ replicate n []
lanes_held-new ends lanes n rounds is count = ap (λ (e : EndsHeld). lanes_held 0 e.ends lanes) is ∙ lanes_held-none 0 lanes ∙ ap (λ k. replicate k []) count

pub held_new : (ends : EndsHeld) (lanes : List LaneHeld) (n rounds : ℕ) → ends ≡ record { ends = []; room = rounds } → length lanes ≡ n → n < 2 ^ 32 →
    AreFilled 0 lanes → HaveRoom rounds lanes → IsHeld ends lanes rounds
held_new ends lanes n rounds is count few blank reserved = record {
  few = omega (arith, count, few);
  filled = subst (λ (e : EndsHeld). AreFilled (length e.ends) lanes) (sym is) blank;
  table = subst IsTable (sym (lanes_held-new ends lanes n rounds is count)) (IsTable-none n);
  reserved = reserved;
  ends_reserved = (let room = ap (λ (e : EndsHeld). e.room) is in omega (arith, room));
}
