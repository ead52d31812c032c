-- Rows by where they begin: one row more, one round more.
use Rattle.std.proofs.Common.{◌≡◌, ℕ, zero, suc, ◌+◌, ◌-◌, ◌<◌, ◌⊎◌, inl, inr, true, false, List, [], ◌∷◌, ◌++◌, ◌&&◌, Some, None, length, map, take}
use Rattle.std.proofs.Common.{drop, set, get_or, replicate, Option, eqb, eq-eqb, refl, sym, ap, ◌∙◌, arith, add-one}
use Rattle.std.specs.Prelude.{slice_get}
use Rattle.std.proofs.lemmas.Bool.{cases_Bool, cond-true, cond-false, ne_eqb}
use Rattle.std.proofs.lemmas.Bool.Decides.{eqb_tells}
use Rattle.std.proofs.lemmas.List.{take_at}
use Rattle.std.proofs.lemmas.Option.{slice_get-get_or}
use Rattle.sched_base.specs.declared.rows.Leaf.{Leaf}
use Rattle.sched_base.specs.declared.rows.Row.{Row}
use Rattle.sched_base.specs.Tables.{IsRound, end_after, lane_of, with_round}
use Rattle.merged_rows.specs.Merging.{shown, merged}
use Rattle.merged_rows.proofs.MergeLemmas.{goes_on}
use Rattle.merged_rows.specs.Columns.{Begun, rows_up_to, lanes_up_to, last_mark, shows_last, showing, showing_each, going_on, going_on_each}
use Rattle.merged_rows.specs.Columns.{ends_showing, AreChangesTold, MergedContents}
use Rattle.merged_rows.proofs.PushLemmas.{merged_with, merged_round, round_push}

-- ---- one lane

-- a row that begins at the end of the others
abbrev pub new_row : ℕ → Leaf → Begun
new_row start leaf = record { start = start; leaf = leaf }

-- a row of processor p
abbrev pub row_on : ℕ → ℕ → ℕ → Leaf → Row
row_on p start end leaf = record { processor = p; start = start; end = end; leaf = leaf }

-- where it shows the same as the last row, that one goes on
row_goes_on : (p end to : ℕ) (lane : List Begun) (leaf : Leaf) → shows_last lane leaf ≡ true → merged_with (rows_up_to p end lane) (row_on p end to leaf)
    ≡ rows_up_to p to lane
row_goes_on p end to [] leaf on = absurd (let e : false ≡ true = on in cc)
row_goes_on p end to (b ∷ []) leaf on =
    cond-true (goes_on (row_on p b.start end b.leaf) (row_on p end to leaf)) (row_on p b.start to b.leaf ∷ []) (row_on p b.start end b.leaf ∷ (row_on p end
    to leaf ∷ []))
    (let here : eqb end end ≡ true = eq-eqb end end refl in ap (λ x. x && eqb (shown b.leaf) (shown leaf)) here ∙ on)
row_goes_on p end to (b ∷ (c ∷ [])) leaf on = ap (λ rows. row_on p b.start c.start b.leaf ∷ rows) (row_goes_on p end to (c ∷ []) leaf on)
row_goes_on p end to (b ∷ (c ∷ (d ∷ lane))) leaf on = ap (λ rows. row_on p b.start c.start b.leaf ∷ rows) (row_goes_on p end to (c ∷ (d ∷ lane)) leaf on)

-- else it begins there
row_begins : (p end to : ℕ) (lane : List Begun) (leaf : Leaf) → shows_last lane leaf ≡ false
    → merged_with (rows_up_to p end lane) (row_on p end to leaf) ≡ rows_up_to p to (lane ++ new_row end leaf ∷ [])
row_begins p end to [] leaf off = refl
row_begins p end to (b ∷ []) leaf off =
    cond-false (goes_on (row_on p b.start end b.leaf) (row_on p end to leaf)) (row_on p b.start to b.leaf ∷ []) (row_on p b.start end b.leaf ∷ (row_on p end
    to leaf ∷ []))
    (let here : eqb end end ≡ true = eq-eqb end end refl in ap (λ x. x && eqb (shown b.leaf) (shown leaf)) here ∙ off)
row_begins p end to (b ∷ (c ∷ [])) leaf off = ap (λ rows. row_on p b.start c.start b.leaf ∷ rows) (row_begins p end to (c ∷ []) leaf off)
row_begins p end to (b ∷ (c ∷ (d ∷ lane))) leaf off = ap (λ rows. row_on p b.start c.start b.leaf ∷ rows) (row_begins p end to (c ∷ (d ∷ lane)) leaf off)

lane_shows : (p end to : ℕ) (lane : List Begun) (leaf : Leaf) → merged_with (rows_up_to p end lane) (row_on p end to leaf) ≡ rows_up_to p to
    (showing lane end leaf)
lane_shows p end to lane leaf = elim (cases_Bool (shows_last lane leaf)) [
  | inl on ↦ row_goes_on p end to lane leaf on ∙ ap (rows_up_to p to) (sym (cond-true (shows_last lane leaf) lane (lane ++ new_row end leaf ∷ []) on))
  | inr off ↦ row_begins p end to lane leaf off ∙ ap (rows_up_to p to) (sym (cond-false (shows_last lane leaf) lane (lane ++ new_row end leaf ∷ []) off))
]

-- ---- all lanes

-- rows of processors from a on, from a start up to an end
pub record AreFrom (a start end : ℕ) (rows : List Row) : Type 0 where
  pub is : (k : ℕ) (r : Row) → slice_get rows k ≡ Some r → (r.processor ≡ a + k) × (r.start ≡ start) × (r.end ≡ end)

next_from : (a start end : ℕ) (r : Row) (rows : List Row) → AreFrom a start end (r ∷ rows) → AreFrom (a + 1) start end rows
next_from a start end r rows h = record { is = λ k s at. (let is = h.is (suc k) s at in (omega (arith, is.0), is.1, is.2)) }

row_is : (r : Row) (p start end : ℕ) → r.processor ≡ p → r.start ≡ start → r.end ≡ end → r ≡ row_on p start end r.leaf
row_is r p start end own from to =
    ap (λ n. row_on n r.start r.end r.leaf) own ∙ ap (λ n. row_on p n r.end r.leaf) from ∙ ap (λ n. row_on p start n r.leaf) to

pub round_shows : (a start end : ℕ) (lanes : List (List Begun)) (rows : List Row) → length rows ≡ length lanes → AreFrom a start end rows
    → merged_round (lanes_up_to a start lanes) rows ≡ lanes_up_to a end (showing_each lanes start rows)
round_shows a start end [] rows whole h = refl
round_shows a start end (lane ∷ lanes) [] whole h = absurd (omega (arith, whole))
round_shows a start end (lane ∷ lanes) (r ∷ rows) whole h =
    let is = h.is 0 r refl in
    let here : r.processor ≡ a = omega (arith, is.0) in
    let first : merged_with (rows_up_to a start lane) r ≡ rows_up_to a end (showing lane start r.leaf) =
    ap (merged_with (rows_up_to a start lane)) (row_is r a start end here is.1 is.2) ∙ lane_shows a start end lane r.leaf in
    ap (λ x. x ∷ merged_round (lanes_up_to (a + 1) start lanes) rows) first
    ∙ ap (λ xs. rows_up_to a end (showing lane start r.leaf) ∷ xs) (round_shows (a + 1) start end lanes rows (omega (arith, whole)) (next_from a start end r
    rows h))

-- ---- reading

pub length-rows_up_to : (p end : ℕ) (lane : List Begun) → length (rows_up_to p end lane) ≡ length lane
length-rows_up_to p end [] = refl
length-rows_up_to p end (b ∷ []) = refl
length-rows_up_to p end (b ∷ (c ∷ lane)) = ap suc (length-rows_up_to p end (c ∷ lane))

pub length-lanes_up_to : (a end : ℕ) (lanes : List (List Begun)) → length (lanes_up_to a end lanes) ≡ length lanes
length-lanes_up_to a end [] = refl
length-lanes_up_to a end (lane ∷ lanes) = ap suc (length-lanes_up_to (a + 1) end lanes)

-- the last row goes on up to the end
pub last_row : (p end i : ℕ) (lane : List Begun) (start : ℕ) (leaf : Leaf) → i + 1 ≡ length lane → slice_get lane i ≡ Some (new_row start leaf)
    → slice_get (rows_up_to p end lane) i ≡ Some (row_on p start end leaf)
last_row p end i [] start leaf last at = absurd (omega (arith, last))
last_row p end zero (b ∷ []) start leaf last at = let e : Some b ≡ Some (new_row start leaf) = at in let e' : b ≡ new_row start leaf = cc in
    ap (λ (x : Begun). Some (row_on p x.start end x.leaf)) e'
last_row p end (suc i) (b ∷ []) start leaf last at = absurd (omega (arith, last))
last_row p end zero (b ∷ (c ∷ lane)) start leaf last at = absurd (omega (arith, last))
last_row p end (suc i) (b ∷ (c ∷ lane)) start leaf last at = last_row p end i (c ∷ lane) start leaf (omega (arith, last)) at

-- each other one up to the start of the next
pub inner_row : (p end i : ℕ) (lane : List Begun) (start : ℕ) (leaf : Leaf) (next : Begun) → slice_get lane i ≡ Some (new_row start leaf) →
    slice_get lane (i + 1) ≡ Some next
    → slice_get (rows_up_to p end lane) i ≡ Some (row_on p start next.start leaf)
inner_row p end i [] start leaf next at then = absurd (let e : None ≡ Some (new_row start leaf) = at in cc)
inner_row p end zero (b ∷ []) start leaf next at then = absurd (let e : None ≡ Some next = then in cc)
inner_row p end (suc i) (b ∷ []) start leaf next at then = absurd (let e : None ≡ Some (new_row start leaf) = at in cc)
inner_row p end zero (b ∷ (c ∷ lane)) start leaf next at then =
    let e : Some b ≡ Some (new_row start leaf) = at in
    let e' : b ≡ new_row start leaf = cc in
    let f : Some c ≡ Some next = then in
    let f' : c ≡ next = cc in
    ap (λ (x : Begun). Some (row_on p x.start c.start x.leaf)) e' ∙ ap (λ (x : Begun). Some (row_on p start x.start leaf)) f'
inner_row p end (suc i) (b ∷ (c ∷ lane)) start leaf next at then =
    let e : suc i + 1 ≡ suc (i + 1) = omega arith in inner_row p end i (c ∷ lane) start leaf next at (sym (ap (slice_get (b ∷ (c ∷ lane))) e) ∙ then)

-- the lane of processor p
pub lane_up_to : (a end : ℕ) (lanes : List (List Begun)) (p : ℕ) (lane : List Begun) → p < length lanes
    → lane_of (lanes_up_to a end lanes) p ≡ rows_up_to (a + p) end (get_or lanes p lane)
lane_up_to a end [] p none within = absurd (omega (arith, within))
lane_up_to a end (lane ∷ lanes) zero none within = let e : a ≡ a + 0 = omega arith in ap (λ n. rows_up_to n end lane) e
lane_up_to a end (lane ∷ lanes) (suc p) none within =
    let e : a + 1 + p ≡ a + suc p = omega arith in lane_up_to (a + 1) end lanes p none (omega (arith, within))
    ∙ ap (λ n. rows_up_to n end (get_or lanes p none)) e

-- ---- the loop over the processors

pub showing_none : (lanes : List (List Begun)) (start : ℕ) → showing_each lanes start [] ≡ lanes
showing_none [] start = refl
showing_none (lane ∷ lanes) start = refl

pub length-showing_each : (lanes : List (List Begun)) (start : ℕ) (rows : List Row) → length (showing_each lanes start rows) ≡ length lanes
length-showing_each [] start rows = refl
length-showing_each (lane ∷ lanes) start [] = refl
length-showing_each (lane ∷ lanes) start (r ∷ rows) = ap suc (length-showing_each lanes start rows)

-- lanes from p on are as before
pub get_or-showing : (lanes : List (List Begun)) (start : ℕ) (rows : List Row) (p : ℕ) (lane : List Begun) → p < length lanes
    → get_or (showing_each lanes start (take p rows)) p lane ≡ get_or lanes p lane
get_or-showing [] start rows p lane within = absurd (omega (arith, within))
get_or-showing (l ∷ lanes) start rows zero lane within = refl
get_or-showing (l ∷ lanes) start [] (suc p) lane within = refl
get_or-showing (l ∷ lanes) start (r ∷ rows) (suc p) lane within = get_or-showing lanes start rows p lane (omega (arith, within))

showing_next : (lanes : List (List Begun)) (start : ℕ) (rows : List Row) (p : ℕ) (lane : List Begun) (r : Row) → p < length lanes → p < length rows
    → set (showing_each lanes start (take p rows)) p (showing (get_or lanes p lane) start (get_or rows p r).leaf) ≡ showing_each lanes start (take (suc p) rows)
showing_next [] start rows p lane r a b = absurd (omega (arith, a))
showing_next (l ∷ lanes) start [] p lane r a b = absurd (omega (arith, b))
showing_next (l ∷ lanes) start (s ∷ rows) zero lane r a b = ap (λ ls. showing l start s.leaf ∷ ls) (sym (showing_none lanes start))
showing_next (l ∷ lanes) start (s ∷ rows) (suc p) lane r a b =
    ap (λ ls. showing l start s.leaf ∷ ls) (showing_next lanes start rows p lane r (omega (arith, a)) (omega (arith, b)))

-- a step of the loop
pub showing_more : (lanes : List (List Begun)) (start : ℕ) (rows : List Row) (p : ℕ) (lane : List Begun) (r : Row) → p < length lanes → p < length rows
    → set (showing_each lanes start (take p rows)) p (showing (get_or lanes p lane) start (get_or rows p r).leaf) ≡ showing_each lanes start (take (p + 1) rows)
showing_more lanes start rows p lane r a b = rw add-one (showing_next lanes start rows p lane r a b)

pub going_none : (lanes : List (List Begun)) (start : ℕ) → going_on_each lanes start [] ≡ lanes
going_none [] start = refl
going_none (lane ∷ lanes) start = refl

pub length-going_on_each : (lanes : List (List Begun)) (start : ℕ) (told : List (Option Leaf)) → length (going_on_each lanes start told) ≡ length lanes
length-going_on_each [] start told = refl
length-going_on_each (lane ∷ lanes) start [] = refl
length-going_on_each (lane ∷ lanes) start (o ∷ told) = ap suc (length-going_on_each lanes start told)

-- lanes from p on are as before
pub get_or-going : (lanes : List (List Begun)) (start : ℕ) (told : List (Option Leaf)) (p : ℕ) (lane : List Begun) → p < length lanes
    → get_or (going_on_each lanes start (take p told)) p lane ≡ get_or lanes p lane
get_or-going [] start told p lane within = absurd (omega (arith, within))
get_or-going (l ∷ lanes) start told zero lane within = refl
get_or-going (l ∷ lanes) start [] (suc p) lane within = refl
get_or-going (l ∷ lanes) start (o ∷ told) (suc p) lane within = get_or-going lanes start told p lane (omega (arith, within))

going_next : (lanes : List (List Begun)) (start : ℕ) (told : List (Option Leaf)) (p : ℕ) (lane : List Begun) (o : Option Leaf) → p < length lanes →
    p < length told
    → set (going_on_each lanes start (take p told)) p (going_on (get_or lanes p lane) start (get_or told p o)) ≡ going_on_each lanes start (take (suc p) told)
going_next [] start told p lane o a b = absurd (omega (arith, a))
going_next (l ∷ lanes) start [] p lane o a b = absurd (omega (arith, b))
going_next (l ∷ lanes) start (x ∷ told) zero lane o a b = ap (λ ls. going_on l start x ∷ ls) (sym (going_none lanes start))
going_next (l ∷ lanes) start (x ∷ told) (suc p) lane o a b =
    ap (λ ls. going_on l start x ∷ ls) (going_next lanes start told p lane o (omega (arith, a)) (omega (arith, b)))

-- a step of the loop
pub going_more : (lanes : List (List Begun)) (start : ℕ) (told : List (Option Leaf)) (p : ℕ) (lane : List Begun) (o : Option Leaf) → p < length lanes →
    p < length told
    → set (going_on_each lanes start (take p told)) p (going_on (get_or lanes p lane) start (get_or told p o)) ≡ going_on_each lanes start (take (p + 1) told)
going_more lanes start told p lane o a b = rw add-one (going_next lanes start told p lane o a b)

-- ---- what the last row shows

both_more : (a b : ℕ) → eqb (a + 1) (b + 1) ≡ eqb a b
both_more a b = elim (eqb_tells a b) [
  | inl on ↦ eq-eqb (a + 1) (b + 1) (ap (λ n. n + 1) on.1) ∙ sym on.0
  | inr off ↦ ne_eqb (a + 1) (b + 1) (λ e. off.1 (omega (arith, e))) ∙ sym off.0
]

pub shows_by_mark : (lane : List Begun) (leaf : Leaf) → eqb (last_mark lane) (shown leaf + 1) ≡ shows_last lane leaf
shows_by_mark [] leaf = ne_eqb 0 (shown leaf + 1) (λ e. absurd (omega (arith, e)))
shows_by_mark (b ∷ []) leaf = both_more (shown b.leaf) (shown leaf)
shows_by_mark (b ∷ (c ∷ lane)) leaf = shows_by_mark (c ∷ lane) leaf

pub mark_pushed : (lane : List Begun) (start : ℕ) (leaf : Leaf) → last_mark (lane ++ new_row start leaf ∷ []) ≡ shown leaf + 1
mark_pushed [] start leaf = refl
mark_pushed (b ∷ []) start leaf = refl
mark_pushed (b ∷ (c ∷ lane)) start leaf = mark_pushed (c ∷ lane) start leaf

-- ---- what is told

ends_as : (p end : ℕ) (lane : List Begun) (leaf : Leaf) → ends_showing (rows_up_to p end lane) leaf ≡ shows_last lane leaf
ends_as p end [] leaf = refl
ends_as p end (b ∷ []) leaf = refl
ends_as p end (b ∷ (c ∷ [])) leaf = refl
ends_as p end (b ∷ (c ∷ (d ∷ lane))) leaf = ends_as p end (c ∷ (d ∷ lane)) leaf

one_told : (p start : ℕ) (lane : List Begun) (o : Option Leaf) (leaf : Leaf) → ((l : Leaf) → o ≡ Some l → l ≡ leaf) →
    (o ≡ None → ends_showing (rows_up_to p start lane) leaf ≡ true)
    → going_on lane start o ≡ showing lane start leaf
one_told p start lane None leaf some none =
    sym (cond-true (shows_last lane leaf) lane (lane ++ new_row start leaf ∷ []) (sym (ends_as p start lane leaf) ∙ none refl))
one_told p start lane (Some l) leaf some none = ap (showing lane start) (some l refl)

later_told : (first : List Row) (lanes : List (List Row)) (o : Option Leaf) (told : List (Option Leaf)) (r : Row) (rows : List Row) →
    AreChangesTold (first ∷ lanes) (o ∷ told) (r ∷ rows) → AreChangesTold lanes told rows
later_told first lanes o told r rows h = record {
  long = (let long = h.long in omega (arith, long));
  some = λ p s leaf at is. h.some (suc p) s leaf at is;
  none = λ p s at is. h.none (suc p) s at is;
}

-- each processor goes on as its row does
pub told_is : (a start : ℕ) (lanes : List (List Begun)) (told : List (Option Leaf)) (rows : List Row) → AreChangesTold (lanes_up_to a start lanes) told rows
    → going_on_each lanes start told ≡ showing_each lanes start rows
told_is a start [] told rows h = refl
told_is a start (lane ∷ lanes) [] [] h = refl
told_is a start (lane ∷ lanes) [] (r ∷ rows) h = absurd (let long = h.long in omega (arith, long))
told_is a start (lane ∷ lanes) (o ∷ told) [] h = absurd (let long = h.long in omega (arith, long))
told_is a start (lane ∷ lanes) (o ∷ told) (r ∷ rows) h =
    ap (λ x. x ∷ going_on_each lanes start told) (one_told a start lane o r.leaf (λ leaf is. h.some 0 r leaf refl is) (λ is. h.none 0 r refl is))
    ∙ ap (λ xs. showing lane start r.leaf ∷ xs) (told_is (a + 1) start lanes told rows (later_told (rows_up_to a start lane) (lanes_up_to (a + 1) start
    lanes) o told r rows h))

-- each processor shows what its row does, or goes on where its last row shows the same
pub one_shown : (a start : ℕ) (lane now : List Begun) (o : Option Leaf) (leaf : Leaf) → o ≡ Some leaf → (now ≡ going_on lane start o)
    ⊎ ((now ≡ lane) × (ends_showing (rows_up_to a start lane) leaf ≡ true)) →
    now ≡ showing lane start leaf
one_shown a start lane now o leaf is (inl on) = on ∙ ap (going_on lane start) is
one_shown a start lane now o leaf is (inr was) =
    was.0 ∙ sym (cond-true (shows_last lane leaf) lane (lane ++ new_row start leaf ∷ []) (sym (ends_as a start lane leaf) ∙ was.1))

-- processors with no row
pub none_up_to : (a end n : ℕ) → lanes_up_to a end (replicate n []) ≡ replicate n []
none_up_to a end zero = refl
none_up_to a end (suc n) = ap (λ lanes. [] ∷ lanes) (none_up_to (a + 1) end n)

-- the lane of processor p, from the one that was read there
pub lane_here : (end : ℕ) (lanes : List (List Begun)) (p : ℕ) (lane : List Begun) → p < length lanes → lane ≡ get_or lanes p lane
    → lane_of (lanes_up_to 0 end lanes) p ≡ rows_up_to p end lane
lane_here end lanes p lane within is =
    let e : 0 + p ≡ p = omega arith in
    lane_up_to 0 end lanes p lane within ∙ ap (λ n. rows_up_to n end (get_or lanes p lane)) e ∙ ap (rows_up_to p end) (sym is)

-- what is seen of the lanes is as many as they are
pub seen_many : (m : MergedContents) (end : ℕ) (held : List (List Begun)) → record { lanes = lanes_up_to 0 end held; end = end; begun = held } ≡ m →
    length m.lanes ≡ length held
seen_many m end held is = ap (λ (x : MergedContents). length x.lanes) (sym is) ∙ length-lanes_up_to 0 end held

-- what is seen of the lane of processor p, which was read
pub seen_lane : (m : MergedContents) (end : ℕ) (held : List (List Begun)) (p : ℕ) (lane : List Begun) →
    record { lanes = lanes_up_to 0 end held; end = end; begun = held } ≡ m → p < length m.lanes
    → lane ≡ get_or held p lane → lane_of m.lanes p ≡ rows_up_to p end lane
seen_lane m end held p lane is within read =
    let many = seen_many m end held is in
    ap (λ (x : MergedContents). lane_of x.lanes p) (sym is) ∙ lane_here end held p lane (omega (arith, many, within)) read

-- where the last row ends
pub end_by_last : (rows : List Row) (before : ℕ) (r : Row) → slice_get rows (length rows - 1) ≡ Some r → r.end ≡ end_after before rows
end_by_last [] before r at = absurd (let e : None ≡ Some r = at in cc)
end_by_last (q ∷ []) before r at = let e : Some q ≡ Some r = at in let e' : q ≡ r = cc in ap (λ (x : Row). x.end) (sym e')
end_by_last (q ∷ (s ∷ rows)) before r at =
    let e : length (q ∷ (s ∷ rows)) - 1 ≡ suc (length (s ∷ rows) - 1) = omega arith in
    end_by_last (s ∷ rows) q.end r (sym (ap (slice_get (q ∷ (s ∷ rows))) e) ∙ at)

-- the rows of a round go on from the start to where it ends
from_round : (start : ℕ) (rows : List Row) → IsRound start rows → AreFrom 0 start (end_after start rows) rows
from_round start [] h = record { is = λ k r at. absurd (let e : None ≡ Some r = at in cc) }
from_round start (q ∷ rows) h =
    let n = length (q ∷ rows) - 1 in
    let last : slice_get (q ∷ rows) n ≡ Some (get_or (q ∷ rows) n q) = slice_get-get_or (q ∷ rows) n q (omega arith) in
    record {
      is = λ k r at. (
        h.own k r at ∙ (let e : k ≡ 0 + k = omega arith in e),
        h.starts k r at,
        h.ends k n r (get_or (q ∷ rows) n q) at last ∙ end_by_last (q ∷ rows) start (get_or (q ∷ rows) n q) last,
      );
    }

-- the round, merged with what is there
pub with_next : (start : ℕ) (held : List (List Begun)) (lanes : List (List Row)) (rows : List Row) → length rows ≡ length held → IsRound start rows →
    lanes_up_to 0 start held ≡ map merged lanes
    → lanes_up_to 0 (end_after start rows) (showing_each held start rows) ≡ map merged (with_round lanes rows)
with_next start held lanes rows whole round is =
    sym (round_shows 0 start (end_after start rows) held rows whole (from_round start rows round)) ∙ ap (λ ls. merged_round ls rows) is
    ∙ sym (round_push lanes rows)

-- what a loan of all lanes leaves
pub written_back : (lanes seen new now : List (List Begun)) (n : ℕ) → seen ≡ lanes → length seen ≡ n → length new ≡ length seen → new ≡ now →
    take n (new ++ drop (length new) lanes) ≡ now
written_back lanes seen new now n same many as_many is = take_at new (drop (length new) lanes) n (as_many ∙ many) ∙ is
