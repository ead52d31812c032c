-- The rows that a lane's gate runs, one after another.
use Rattle.std.proofs.Common.{◌≡◌, ℕ, zero, suc, ◌+◌, ◌-◌, ◌≤◌, List, [], ◌∷◌, ◌++◌, Option, Some, None, take, drop, refl, sym, ap, ◌∙◌, subst, arith}
use Rattle.std.proofs.Common.{append_assoc, append-nil}
use Rattle.std.proofs.Math.Seq.{take-add}
use Rattle.std.proofs.lemmas.List.{drop-drop}
use Rattle.std.specs.Prelude.{slice_get, slice_range}
use Rattle.sched_base.specs.declared.rows.Row.{Row}
use Rattle.sched_base.specs.Tables.{lane_of, RowAt}
use Rattle.sched_edges.specs.Gates.{grown}
use Rattle.exec_lanes.specs.declared.causes.Cause.{Cause}
use Rattle.exec_lanes.specs.declared.causes.Cause.TheVariants as cause
use Rattle.exec_lanes.specs.Lanes.{LaneContents, IsCaused, FailsNext, JobRose, HasRisen, Served, unposted}

first_at : {X : Type 0} (xs : List X) (k : ℕ) (x : X) → slice_get xs k ≡ Some x → take 1 (drop k xs) ≡ x ∷ []
first_at [] k x h = absurd (let e : None ≡ Some x = h in cc)
first_at (y ∷ xs) zero x h = let e : Some y ≡ Some x = h in let e' : y ≡ x = cc in ap (λ z. z ∷ []) e'
first_at (y ∷ xs) (suc k) x h = first_at xs k x h

-- one place
pub range_one : {X : Type 0} (xs : List X) (k : ℕ) (x : X) → slice_get xs k ≡ Some x → slice_range xs k (k + 1) ≡ x ∷ []
range_one xs k x h = let one : k + 1 - k ≡ 1 = omega arith in ap (λ m. take m (drop k xs)) one ∙ first_at xs k x h

-- no place
pub range_none : {X : Type 0} (xs : List X) (k : ℕ) → slice_range xs k k ≡ []
range_none xs k = let none : k - k ≡ 0 = omega arith in ap (λ m. take m (drop k xs)) none

-- two ranges, one after the other
pub range_join : {X : Type 0} (xs : List X) (a b c : ℕ) → a ≤ b → b ≤ c → slice_range xs a b ++ slice_range xs b c ≡ slice_range xs a c
range_join xs a b c ab bc =
    let whole : c - a ≡ (b - a) + (c - b) = omega arith in
    let from : b ≡ a + (b - a) = omega arith in
    let rest : drop b xs ≡ drop (b - a) (drop a xs) = ap (λ m. drop m xs) from ∙ sym (drop-drop (b - a) a xs) in
    ap (λ ys. take (b - a) (drop a xs) ++ take (c - b) ys) rest ∙ sym (take-add (b - a) (c - b) (drop a xs)) ∙ ap (λ m. take m (drop a xs)) (sym whole)

pub grown-grown : (ran : Option (List Row)) (xs ys : List Row) → grown (grown ran xs) ys ≡ grown ran (xs ++ ys)
grown-grown None xs ys = refl
grown-grown (Some rows) xs ys = ap (λ z. Some z) (append_assoc rows xs ys)

pub grown-nil : (ran : Option (List Row)) → grown ran [] ≡ ran
grown-nil None = refl
grown-nil (Some rows) = ap (λ z. Some z) (append-nil rows)

-- at first nothing is served
pub served_none : (rows : List (List Row)) (counts : List ℕ) (lane : LaneContents) → lane.cause ≡ None → Served rows counts lane lane
served_none rows counts lane fresh = record {
  lane = refl;
  count = omega arith;
  ran = sym ((λ i. grown lane.ran (slice_range (lane_of rows lane.seat.lane) lane.seat.posted lane.seat.posted ++ unposted (fresh i)))
      ∙ ap (grown lane.ran) (append-nil (slice_range (lane_of rows lane.seat.lane) lane.seat.posted lane.seat.posted)
      ∙ range_none (lane_of rows lane.seat.lane) lane.seat.posted) ∙ grown-nil lane.ran);
  caused = subst (λ o. IsCaused o lane.faults lane.faults counts) (sym fresh) refl;
  next = subst (λ o. FailsNext rows lane.seat o) (sym fresh) tt;
}

-- a lane that was served without a failure is served on
pub served_on : (rows : List (List Row)) (counts : List ℕ) (a b c : LaneContents) → b.cause ≡ None → Served rows counts a b → Served rows counts b c →
    Served rows counts a c
served_on rows counts a b c fresh first second =
    let own = lane_of rows a.seat.lane in
    let x = a.seat.posted in
    let y = b.seat.posted in
    let z = c.seat.posted in
    let extra = unposted c.cause in
    let before : b.ran ≡ grown a.ran (slice_range own x y) = first.ran ∙ (λ i. grown a.ran (slice_range own x y ++ unposted (fresh i))) ∙ ap (grown a.ran)
    (append-nil (slice_range own x y)) in
    let after : c.ran ≡ grown b.ran (slice_range own y z ++ extra) = second.ran ∙ ap (λ p. grown b.ran (slice_range (lane_of rows p) y z ++ extra))
    first.lane in
    let same : b.faults ≡ a.faults = subst (λ o. IsCaused o a.faults b.faults counts) fresh first.caused in
    record {
      lane = second.lane ∙ first.lane;
      count = (let p = first.count in let q = second.count in omega (arith, p, q));
      ran = after ∙ ap (λ r. grown r (slice_range own y z ++ extra)) before ∙ grown-grown a.ran (slice_range own x y) (slice_range own y z ++ extra)
          ∙ ap (grown a.ran) (sym (append_assoc (slice_range own x y) (slice_range own y z) extra) ∙ ap (λ xs. xs ++ extra)
          (range_join own x y z first.count second.count));
      caused = subst (λ n. IsCaused c.cause n c.faults counts) same second.caused;
      next = second.next;
    }

-- a row was run and posted
pub served_row : (rows : List (List Row)) (counts : List ℕ) (lane : LaneContents) (row : Row) (ran : Option (List Row)) (faults : ℕ) (o : Option Cause) →
    RowAt rows lane.seat.lane lane.seat.posted row → ran ≡ grown lane.ran (row ∷ []) → faults ≡ lane.faults → o ≡ None
    → Served rows counts lane (record { ran = ran; faults = faults; seat = record lane.seat { posted = lane.seat.posted + 1 }; cause = o })
served_row rows counts lane row ran faults o at grew same none = record {
  lane = refl;
  count = omega arith;
  ran = grew
      ∙ ap (grown lane.ran) (sym ((λ i. slice_range (lane_of rows lane.seat.lane) lane.seat.posted (lane.seat.posted + 1) ++ unposted (none i))
      ∙ append-nil (slice_range (lane_of rows lane.seat.lane) lane.seat.posted (lane.seat.posted + 1)) ∙ range_one (lane_of rows lane.seat.lane)
      lane.seat.posted row at));
  caused = subst (λ x. IsCaused x lane.faults faults counts) (sym none) same;
  next = subst (λ x. FailsNext rows (record lane.seat { posted = lane.seat.posted + 1 }) x) (sym none) tt;
}

-- the gate failed at a row
pub served_to_gate : (rows : List (List Row)) (counts : List ℕ) (lane : LaneContents) (row : Row) (ran : Option (List Row)) (faults : ℕ) →
    RowAt rows lane.seat.lane lane.seat.posted row → ran ≡ lane.ran → HasRisen lane.faults faults
    → Served rows counts lane (record { ran = ran; faults = faults; seat = lane.seat; cause = Some (cause.Gate row) })
served_to_gate rows counts lane row ran faults at same risen = record {
  lane = refl;
  count = omega arith;
  ran = same ∙ sym (ap (grown lane.ran) (append-nil (slice_range (lane_of rows lane.seat.lane) lane.seat.posted lane.seat.posted)
      ∙ range_none (lane_of rows lane.seat.lane) lane.seat.posted) ∙ grown-nil lane.ran);
  caused = risen;
  next = at;
}

-- the job failed at a row that the gate had run
pub served_to_job : (rows : List (List Row)) (counts : List ℕ) (lane : LaneContents) (row : Row) (n : ℕ) (ran : Option (List Row)) (faults : ℕ) →
    RowAt rows lane.seat.lane lane.seat.posted row → ran ≡ grown lane.ran (row ∷ []) → faults ≡ lane.faults → JobRose counts row n
    → Served rows counts lane (record { ran = ran; faults = faults; seat = lane.seat; cause = Some (cause.Job row n) })
served_to_job rows counts lane row n ran faults at grew same rose = record {
  lane = refl;
  count = omega arith;
  ran = grew ∙ ap (λ xs. grown lane.ran (xs ++ row ∷ [])) (sym (range_none (lane_of rows lane.seat.lane) lane.seat.posted));
  caused = (same, rose);
  next = at;
}
