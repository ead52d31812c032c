-- What an event keeps of a book.
use Rattle.std.proofs.Common.{◌≡◌, ◌≢◌, inl, inr, ℕ, zero, suc, ◌+◌, ◌-◌, ◌*◌, ◌<◌, ◌≤◌, Bool, true, false, List, [], ◌∷◌, ◌++◌, Option, None, Some}
use Rattle.std.proofs.Common.{length, set, replicate, refl, sym, ap, ◌∙◌, subst, arith, eq-eqb}
use Rattle.std.specs.Prelude.{slice_get, slice_index}
use Rattle.std.proofs.lemmas.Bool.{cases_Bool, eqb-true}
use Rattle.std.proofs.lemmas.List.{get_or-set_other, get_or-set_same, length-replicate, length-set}
use Rattle.sched_base.specs.declared.rows.Leaf.{Leaf}
use Rattle.sched_base.specs.declared.rows.Leaf.TheVariants.{Task, Wait, Idle, Empty}
use Rattle.sched_base.specs.declared.rows.Row.{Row}
use Rattle.sched_base.specs.declared.rows.TaskId.{TaskId}
use Rattle.sched_base.specs.Counting.{bit}
use Rattle.sched_base.specs.Rows.{is_of_task}
use Rattle.sched_base.specs.Tables.{RowAt, ticks_of}
use Rattle.run_tree.specs.Plans.{PlanContents, IsPlan}
use Rattle.book_machine.specs.declared.machine.LaneState.{LaneState}
use Rattle.book_machine.specs.declared.events.Event.{Event}
use Rattle.book_machine.specs.Machine.{State, at_start, start, posted_at, IsLegal, IsOut, after}
use Rattle.book_machine.specs.Reached.{counts_of}
use Rattle.book_machine.proofs.Lanes.{each_lane-set}
use Rattle.plan_rounds.proofs.AgainLemmas.{slice_get-set_other}
use Rattle.book_machine.proofs.PostedTicks.{counts_of-same, ticks_of-post}
use Rattle.plan_rounds.specs.PlanRows.{plan_rows}
use Rattle.plan_rounds.specs.Parts.{posted_ticks}
use Rattle.plan_rounds.proofs.LogLemmas.{LogPart-push, LogPart-start}
use Rattle.book_steps.specs.Books.{AreFaults, AreTotals, HadFault, IsLed, most_events}
use Rattle.book_steps.specs.Turns.{with_ticks}

-- ---- the events

pub IsLed-next : (p : PlanContents) → IsPlan p → (window : ℕ) (s : State) → IsLed p window s → (event : Event) → IsLegal (plan_rows p) window s event →
    IsLed p window (after s event)
IsLed-next p h window s (log, part) event legal = (
  log ++ event ∷ [],
  LogPart-push p h window s log (most_events p) part event legal (most_events p)
      (omega arith),
)

pub IsLed-start : (p : PlanContents) → IsPlan p → (window : ℕ) (s : State) → s ≡ start p.tree.processors → IsLed p window s
IsLed-start p h window s begins = ([], LogPart-start p h window s [] (most_events p) begins refl (omega arith))

-- ---- the totals

-- a task that a leaf names
pub is_task : (leaf : Leaf) (task : TaskId) → leaf ≡ Task task → is_of_task task.0 leaf ≡ true
is_task leaf task e = ap (is_of_task task.0) e ∙ eq-eqb task.0 task.0 refl

pub with_ticks-at : (totals : List ℕ) (leaf : Leaf) (n t : ℕ) → t < length totals → slice_index (with_ticks totals leaf n) t ≡ slice_index totals t + bit
    (is_of_task t leaf) * n
with_ticks-at totals (Task task) n t within = elim (cases_Bool (is_of_task t (Task task))) [
  | inl on ↦ (
      let same : task.0 ≡ t = eqb-true task.0 t on in
      let here : slice_index (set totals t (slice_index totals t + n)) t ≡ slice_index totals t + n = get_or-set_same totals t (slice_index totals t + n) 0
      within in
      let there : slice_index (set totals task.0 (slice_index totals task.0 + n)) t ≡ slice_index totals t + n =
      subst (λ i. slice_index (set totals i (slice_index totals i + n)) t ≡ slice_index totals t + n) (sym same) here in
      let one : bit (is_of_task t (Task task)) * n ≡ n = ap (λ b. bit b * n) on ∙ omega arith in
      there ∙ ap (λ k. slice_index totals t + k) (sym one)
      )
  | inr off ↦ (
      let other : t ≢ task.0 = λ same. let on : is_of_task t (Task task) ≡ true = eq-eqb task.0 t (sym same) in let both : true ≡ false = sym on ∙ off in
      absurd (cc) in
      let none : bit (is_of_task t (Task task)) * n ≡ 0 = ap (λ b. bit b * n) off ∙ omega arith in
      get_or-set_other totals task.0 t (slice_index totals task.0 + n) 0 other ∙ omega (arith, none)
      )
]
with_ticks-at totals (Wait task) n t within = omega arith
with_ticks-at totals (Idle number) n t within = omega arith
with_ticks-at totals Empty n t within = omega arith

pub length-with_ticks : (totals : List ℕ) (leaf : Leaf) (n : ℕ) → length (with_ticks totals leaf n) ≡ length totals
length-with_ticks totals (Task task) n = length-set totals task.0 (slice_index totals task.0 + n)
length-with_ticks totals (Wait task) n = refl
length-with_ticks totals (Idle number) n = refl
length-with_ticks totals Empty n = refl

-- a lane whose count stays leaves the totals
pub AreTotals-same : (p : PlanContents) (s : State) (totals : List ℕ) (q : ℕ) (lane : LaneState) (halted : Bool) → q < length s.lanes →
    lane.posted ≡ posted_at s q → AreTotals p s totals
    → AreTotals p (record { lanes = set s.lanes q lane; halted = halted }) totals
AreTotals-same p s totals q lane halted within same are = record {
  many = are.many;
  each = λ t below. are.each t below ∙ ap (ticks_of t (plan_rows p)) (sym (counts_of-same s q lane within same));
}

-- a post adds the row's ticks
pub AreTotals-post : (p : PlanContents) (s : State) (totals : List ℕ) (q : ℕ) (r : Row) → q < length s.lanes → RowAt (plan_rows p) q (posted_at s q) r →
    AreTotals p s totals
    → AreTotals p (record { lanes = set s.lanes q (record { posted = posted_at s q + 1; out = false }); halted = s.halted }) (with_ticks totals r.leaf
    (r.end - r.start))
AreTotals-post p s totals q r within at are = record {
  many = length-with_ticks totals r.leaf (r.end - r.start) ∙ are.many;
  each = λ t below.
      let added = with_ticks-at totals r.leaf (r.end - r.start) t (let many = are.many in omega (arith, below, many)) in
      let posted = ticks_of-post (plan_rows p) s t q r within at in
      added ∙ ap (λ k. k + bit (is_of_task t r.leaf) * (r.end - r.start)) (are.each t below) ∙ sym posted;
}

no_ticks : (t : ℕ) (rows : List (List Row)) (m : ℕ) → ticks_of t rows (counts_of (replicate m at_start)) ≡ 0
no_ticks t [] m = refl
no_ticks t (lane ∷ rows) zero = refl
no_ticks t (lane ∷ rows) (suc m) = let rest = no_ticks t rows m in omega (arith, rest)

zero_at : (n t : ℕ) → slice_index (replicate n 0) t ≡ 0
zero_at zero t = refl
zero_at (suc n) zero = refl
zero_at (suc n) (suc t) = zero_at n t

pub AreTotals-start : (p : PlanContents) (s : State) (totals : List ℕ) (m : ℕ) → s ≡ start m → totals ≡ replicate (length p.set.tasks) 0 → AreTotals p s totals
AreTotals-start p s totals m begins none = record {
  many = ap length none ∙ length-replicate (length p.set.tasks) 0;
  each = λ t below. ap (λ (xs : List ℕ). slice_index xs t) none ∙ zero_at (length p.set.tasks) t ∙ sym (no_ticks t (plan_rows p) m)
      ∙ ap (λ (u : State). posted_ticks (plan_rows p) u t) (sym begins);
}

-- ---- the faults

slice_get-set_here : {X : Type 0} (xs : List X) (i : ℕ) (x : X) → i < length xs → slice_get (set xs i x) i ≡ Some x
slice_get-set_here [] i x within = absurd (omega arith)
slice_get-set_here (y ∷ xs) zero x within = refl
slice_get-set_here (y ∷ xs) (suc i) x within = slice_get-set_here xs i x (omega arith)

-- more rounds leave them
pub AreFaults-more : (s : State) (rounds more : ℕ) (whys : List (Option ℕ)) → rounds ≤ more → AreFaults s rounds whys → AreFaults s more whys
AreFaults-more s rounds more whys up are = record {
  many = are.many;
  row = λ p why had. let below = are.row p why had in omega (arith, below, up);
  back = are.back;
  halts = are.halts;
  some = are.some;
}

-- while nothing is halted there is none
pub AreFaults-running : (s : State) (rounds q : ℕ) (lane : LaneState) (whys : List (Option ℕ)) → s.halted ≡ false → AreFaults s rounds whys
    → AreFaults (record { lanes = set s.lanes q lane; halted = s.halted }) rounds whys
AreFaults-running s rounds q lane whys running are = record {
  many = are.many ∙ sym (length-set s.lanes q lane);
  row = λ p why had. absurd (none p why had);
  back = λ p why had. absurd (none p why had);
  halts = are.halts;
  some = are.some;
}
  where
    none : (p why : ℕ) → HadFault whys p why → ⊥
    none p why had = let both : true ≡ false = sym (are.halts p why had) ∙ running in cc

-- a lane whose row was out has none before
pub AreFaults-out : (s : State) (rounds q : ℕ) (lane : LaneState) (whys : List (Option ℕ)) → IsOut s q → q < length s.lanes → AreFaults s rounds whys
    → AreFaults (record { lanes = set s.lanes q lane; halted = s.halted }) rounds whys
AreFaults-out s rounds q lane whys out within are = record {
  many = are.many ∙ sym (length-set s.lanes q lane);
  row = each_lane-set (λ v l. (why : ℕ) → HadFault whys v why → l.posted < rounds) s.lanes q lane within (λ why had. absurd (none why had)) (λ v _. are.row v);
  back = each_lane-set (λ v l. (why : ℕ) → HadFault whys v why → l.out ≡ false) s.lanes q lane within (λ why had. absurd (none why had)) (λ v _. are.back v);
  halts = are.halts;
  some = are.some;
}
  where
    none : (why : ℕ) → HadFault whys q why → ⊥
    none why had = let both : true ≡ false = sym out ∙ are.back q why had in cc

-- one fault more
pub AreFaults-halt : (s : State) (rounds q why : ℕ) (lane : LaneState) (whys : List (Option ℕ)) → lane.out ≡ false → lane.posted < rounds →
    q < length s.lanes → AreFaults s rounds whys
    → AreFaults (record { lanes = set s.lanes q lane; halted = true }) rounds (set whys q (Some why))
AreFaults-halt s rounds q why lane whys free below within are = record {
  many = length-set whys q (Some why) ∙ are.many ∙ sym (length-set s.lanes q lane);
  row = each_lane-set (λ v l. (w : ℕ) → HadFault (set whys q (Some why)) v w → l.posted < rounds) s.lanes q lane within (λ w had. below)
      (λ v other w had. are.row v w (before v w other had));
  back = each_lane-set (λ v l. (w : ℕ) → HadFault (set whys q (Some why)) v w → l.out ≡ false) s.lanes q lane within (λ w had. free)
      (λ v other w had. are.back v w (before v w other had));
  halts = λ v w had. refl;
  some = λ _. (q, why, slice_get-set_here whys q (Some why) (let many = are.many in omega (arith, within, many)));
}
  where
    before : (v w : ℕ) → v ≢ q → HadFault (set whys q (Some why)) v w → HadFault whys v w
    before v w other had = sym (slice_get-set_other whys q v (Some why) other) ∙ had

none_had : (m p why : ℕ) → HadFault (replicate m None) p why → ⊥
none_had zero p why had = cc
none_had (suc m) zero why had = cc
none_had (suc m) (suc p) why had = none_had m p why had

pub AreFaults-start : (s : State) (rounds : ℕ) (whys : List (Option ℕ)) (m : ℕ) → s ≡ start m → whys ≡ replicate m None → AreFaults s rounds whys
AreFaults-start s rounds whys m begins empty = record {
  many = ap length empty ∙ length-replicate m None ∙ sym (length-replicate m at_start) ∙ ap (λ (u : State). length u.lanes) (sym begins);
  row = λ p why had. absurd (none p why had);
  back = λ p why had. absurd (none p why had);
  halts = λ p why had. absurd (none p why had);
  some = λ halted. absurd (let both : true ≡ false = sym halted ∙ ap (λ (u : State). u.halted) begins in cc);
}
  where
    none : (p why : ℕ) → HadFault whys p why → ⊥
    none p why had = none_had m p why (subst (λ (xs : List (Option ℕ)). HadFault xs p why) empty had)
