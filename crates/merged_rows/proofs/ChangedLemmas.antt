-- Lanes of which some go on as is told, and the others as before.
use Rattle.std.proofs.Common.{◌≡◌, ◌≢◌, ℕ, zero, suc, ◌+◌, ◌<◌, ◌⊎◌, inl, inr, true, List, [], ◌∷◌, ◌++◌, None, Some, length, length-set, map, set}
use Rattle.std.proofs.Common.{get_or, get_or-set_same, get_or-set_other, Option, eq-eqb, refl, sym, ap, ◌∙◌, arith}
use Rattle.std.proofs.lemmas.Bool.{cases_Bool, cases_eq, cases_lt, cond-true, cond-false}
use Rattle.std.proofs.lemmas.List.{ext_get_or}
use Rattle.std.specs.Prelude.{slice_get}
use Rattle.std.proofs.lemmas.Option.{slice_get-get_or}
use Rattle.sched_base.specs.declared.rows.Leaf.{Leaf}
use Rattle.sched_base.specs.declared.rows.Leaf.TheVariants.{Empty as empty_leaf}
use Rattle.sched_base.specs.declared.rows.Row.{Row}
use Rattle.sched_base.specs.Tables.{IsRound, end_after, with_round}
use Rattle.merged_rows.specs.Merging.{shown, merged}
use Rattle.merged_rows.specs.Columns.{Begun, shows_last, showing, going_on, lanes_up_to, rows_up_to, showing_each, ends_showing, AreGoingOn, AreShown}
use Rattle.merged_rows.proofs.ColumnLemmas.{lane_here, length-showing_each, new_row, one_shown, with_next}

-- ---- one lane

shows_pushed : (lane : List Begun) (start : ℕ) (leaf : Leaf) → shows_last (lane ++ new_row start leaf ∷ []) leaf ≡ true
shows_pushed [] start leaf = eq-eqb (shown leaf) (shown leaf) refl
shows_pushed (b ∷ []) start leaf = eq-eqb (shown leaf) (shown leaf) refl
shows_pushed (b ∷ (c ∷ lane)) start leaf = shows_pushed (c ∷ lane) start leaf

-- to show the same twice is to show it once
going_twice : (lane : List Begun) (start : ℕ) (o : Option Leaf) → going_on (going_on lane start o) start o ≡ going_on lane start o
going_twice lane start None = refl
going_twice lane start (Some leaf) = elim (cases_Bool (shows_last lane leaf)) [
  | inl on ↦ (let e : showing lane start leaf ≡ lane = cond-true (shows_last lane leaf) lane (lane ++ new_row start leaf ∷ []) on in
      ap (λ l. showing l start leaf) e)
  | inr off ↦
      (let e : showing lane start leaf ≡ lane ++ new_row start leaf ∷ [] = cond-false (shows_last lane leaf) lane (lane ++ new_row start leaf ∷ []) off in
      let more = lane ++ new_row start leaf ∷ [] in
      ap (λ l. showing l start leaf) e ∙ cond-true (shows_last more leaf) more (more ++ new_row start leaf ∷ []) (shows_pushed lane start leaf) ∙ sym e)
]

-- ---- all lanes

pub on_none : (first : List (List Begun)) (start : ℕ) (changed : List ℕ) (told : List (Option Leaf)) → AreGoingOn first start changed told first 0
on_none first start changed told = record { long = refl; each = λ p l. inr (refl, λ k m. absurd (omega (arith, m))) }

set_same : (lanes : List (List Begun)) (p : ℕ) (lane : List Begun) → p < length lanes → get_or (set lanes p lane) p [] ≡ lane
set_same lanes p lane l = rw get_or-set_same

set_other : (lanes : List (List Begun)) (p q : ℕ) (lane : List Begun) → q ≢ p → get_or (set lanes p lane) q [] ≡ get_or lanes q []
set_other lanes p q lane ne = rw get_or-set_other refl

-- what is read where something stands is the same by any default
any_default : {X : Type 0} (xs : List X) (p : ℕ) (d e : X) → p < length xs → get_or xs p d ≡ get_or xs p e
any_default [] p d e l = absurd (omega (arith, l))
any_default (x ∷ xs) zero d e l = refl
any_default (x ∷ xs) (suc p) d e l = any_default xs p d e (omega (arith, l))

pub on_step : (first : List (List Begun)) (start : ℕ) (changed : List ℕ) (told : List (Option Leaf)) (lanes lanes' : List (List Begun)) (n p : ℕ)
    (d : List Begun) (d' : Option Leaf) → p ≡ get_or changed n 0 → p < length first →
    length told ≡ length first → lanes' ≡ set lanes p (going_on (get_or lanes p d) start (get_or told p d')) → AreGoingOn first start changed told lanes n →
    AreGoingOn first start changed told lanes' (n + 1)
on_step first start changed told lanes lanes' n p d d' at l whole is h = record {
  long = ap length is ∙ length-set lanes p _ ∙ h.long;
  each = λ q m. elim (cases_eq q p) [
    | inl same ↦ inl (ap (λ x. get_or lanes' x []) same ∙ done ∙ ap (λ x. going_on (get_or first x []) start (get_or told x None)) (sym same))
    | inr ne ↦ other q m ne (h.each q m)
  ];
}
  where
    here : get_or lanes' p [] ≡ going_on (get_or lanes p []) start (get_or told p None)
    here =
        let long = h.long in
        ap (λ ls. get_or ls p []) is ∙ set_same lanes p _ (omega (arith, l, long))
        ∙ ap (λ x. going_on x start (get_or told p d')) (any_default lanes p d [] (omega (arith, l, long)))
        ∙ ap (going_on (get_or lanes p []) start) (any_default told p d' None (omega (arith, l, whole)))

    own : (get_or lanes p [] ≡ going_on (get_or first p []) start (get_or told p None)) ⊎ ((get_or lanes p [] ≡ get_or first p []) × ((k : ℕ) → k < n →
        get_or changed k 0 ≢ p)) →
        get_or lanes' p [] ≡ going_on (get_or first p []) start (get_or told p None)
    own (inl on) = here ∙ ap (λ x. going_on x start (get_or told p None)) on ∙ going_twice (get_or first p []) start (get_or told p None)
    own (inr was) = here ∙ ap (λ x. going_on x start (get_or told p None)) was.0

    done : get_or lanes' p [] ≡ going_on (get_or first p []) start (get_or told p None)
    done = own (h.each p l)

    later : (q k : ℕ) → q ≢ p → ((j : ℕ) → j < n → get_or changed j 0 ≢ q) → k < n + 1 → get_or changed k 0 ≢ q
    later q k ne none b e = elim (cases_lt k n) [
      | inl low ↦ none k low e
      | inr high ↦ ne (sym e ∙ ap (λ j. get_or changed j 0) (let f : k ≡ n = omega (arith, b, high) in f) ∙ sym at)
    ]

    other : (q : ℕ) → q < length first → q ≢ p → (get_or lanes q [] ≡ going_on (get_or first q []) start (get_or told q None))
        ⊎ ((get_or lanes q [] ≡ get_or first q []) × ((k : ℕ) → k < n → get_or changed k 0 ≢ q)) →
        (get_or lanes' q [] ≡ going_on (get_or first q []) start (get_or told q None)) ⊎ ((get_or lanes' q [] ≡ get_or first q []) × ((k : ℕ) → k < n + 1 →
        get_or changed k 0 ≢ q))
    other q m ne (inl on) = inl (ap (λ ls. get_or ls q []) is ∙ set_other lanes p q _ ne ∙ on)
    other q m ne (inr was) = inr (ap (λ ls. get_or ls q []) is ∙ set_other lanes p q _ ne ∙ was.0, λ k b. later q k ne was.1 b)

showing_at : (lanes : List (List Begun)) (start : ℕ) (rows : List Row) (p : ℕ) (none : Row) → p < length lanes → p < length rows →
    get_or (showing_each lanes start rows) p [] ≡ showing (get_or lanes p []) start (get_or rows p none).leaf
showing_at [] start rows p none l m = absurd (omega (arith, l))
showing_at (lane ∷ lanes) start [] p none l m = absurd (omega (arith, m))
showing_at (lane ∷ lanes) start (r ∷ rows) zero none l m = refl
showing_at (lane ∷ lanes) start (r ∷ rows) (suc p) none l m = showing_at lanes start rows p none (omega (arith, l)) (omega (arith, m))

-- where it is known of each processor what its row shows, and the others go on, all of them show what their rows do
pub on_shown : (first : List (List Begun)) (start : ℕ) (changed : List ℕ) (told : List (Option Leaf)) (lanes : List (List Begun)) (rows : List Row) →
    length rows ≡ length first →
    AreShown (lanes_up_to 0 start first) changed told rows → AreGoingOn first start changed told lanes (length changed) → lanes ≡ showing_each first start rows
on_shown first start changed told lanes rows whole shows h =
    let same = h.long in
    let more = length-showing_each first start rows in
    ext_get_or [] lanes (showing_each first start rows) (omega (arith, same, more)) (λ p l.
    let m : p < length first = omega (arith, l, same) in
    one p m)
  where
    known : (p : ℕ) (r : Row) → p < length first → slice_get rows p ≡ Some r →
        (get_or lanes p [] ≡ going_on (get_or first p []) start (get_or told p None)) ⊎ ((get_or lanes p [] ≡ get_or first p [])
        × ((k : ℕ) → k < length changed → get_or changed k 0 ≢ p)) →
        (get_or lanes p [] ≡ going_on (get_or first p []) start (get_or told p None)) ⊎ ((get_or lanes p [] ≡ get_or first p [])
        × (ends_showing (rows_up_to p start (get_or first p [])) r.leaf ≡ true))
    known p r m at (inl on) = inl on
    known p r m at (inr was) =
        inr (
          was.0,
          ap (λ xs. ends_showing xs r.leaf) (sym (lane_here start first p (get_or first p []) m (any_default first p [] (get_or first p []) m)))
              ∙ shows.rest p r at was.1,
        )

    at_row : (p : ℕ) (r : Row) → p < length first → slice_get rows p ≡ Some r → get_or lanes p [] ≡ showing (get_or first p []) start r.leaf
    at_row p r m at = one_shown p start (get_or first p []) (get_or lanes p []) (get_or told p None) r.leaf (shows.each p r at) (known p r m at (h.each p m))

    one : (p : ℕ) → p < length first → get_or lanes p [] ≡ get_or (showing_each first start rows) p []
    one p m =
        let none : Row = record { processor = 0; start = 0; end = 0; leaf = empty_leaf } in
        let r = get_or rows p none in
        at_row p r m (slice_get-get_or rows p none (omega (arith, m, whole))) ∙ sym (showing_at first start rows p none m (omega (arith, m, whole)))

-- and then these are the rows with that round
pub shown_round : (first : List (List Begun)) (start : ℕ) (changed : List ℕ) (told : List (Option Leaf)) (lanes : List (List Begun)) (rows : List Row)
    (raw : List (List Row)) → length rows ≡ length first →
    IsRound start rows → lanes_up_to 0 start first ≡ map merged raw → AreShown (lanes_up_to 0 start first) changed told rows → AreGoingOn first start
    changed told lanes (length changed) →
    lanes_up_to 0 (end_after start rows) lanes ≡ map merged (with_round raw rows)
shown_round first start changed told lanes rows raw whole round is shows h =
    ap (lanes_up_to 0 (end_after start rows)) (on_shown first start changed told lanes rows whole shows h) ∙ with_next start first raw rows whole round is
