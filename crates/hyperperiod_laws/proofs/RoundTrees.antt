-- The laws, as they are said of a set's tree.
use Rattle.std.proofs.Common.{◌≡◌, ℕ, suc, ◌+◌, ◌-◌, ◌*◌, ◌/◌, ◌<◌, ◌≤◌, ◌^◌, ◌++◌, ◌∷◌, ◌∙◌, [], true, false, List, map, ap, ap₂, sym, arith, inl}
use Rattle.std.proofs.Common.{inr, mul-le-mul_right}
use Rattle.std.proofs.lemmas.Bool.{both_ways, cases_lt}
use Rattle.std.specs.List.{AllByRecursion}
use native.Mathlib.Nat.{zero-div}
use Rattle.sched_base.specs.Counting.{ticks}
use Rattle.sched_base.proofs.UnitLemmas.{unit_from}
use Rattle.sched_base.specs.declared.rows.Row.{Row}
use Rattle.sched_base.specs.Sets.{SetContents}
use Rattle.run_tree.specs.Boundaries.{is_boundary, set_boundary}
use Rattle.run_tree.specs.Runs.{runs}
use Rattle.run_tree.specs.TreeOfSet.{is_idle}
use Rattle.run_tree.specs.Windows.{window_begin, window_end}
use Rattle.run_tree.proofs.BoundaryLemmas.{member_has}
use Rattle.run_tree.proofs.RunLemmas.{left_at, left_is, on_time}
use Rattle.run_tree.proofs.SetBoundaryLemmas.{set_leaves}
use Rattle.run_tree.specs.Rounds.{is_event}
use Rattle.run_tree.specs.Schedule.{places_below, rows_of, schedule}
use Rattle.run_tree.specs.Tree.{IsMember, Tree, leaf, rate}
use Rattle.repeat_laws.specs.Repeats.{later}
use Rattle.hyperperiod_laws.specs.Hyperperiods.{ComesRound, IsLeftAgain, left_of}
use Rattle.hyperperiod_laws.proofs.IdleLeaves.{Recurs, idle_or_busy}
use Rattle.hyperperiod_laws.proofs.LaterEvents.{event_again}
use Rattle.hyperperiod_laws.proofs.LaterLeaves.{busy_later, each_by, member_is}
use Rattle.hyperperiod_laws.proofs.LaterRuns.{busy_left, early_unit, runs_again}
use Rattle.hyperperiod_laws.proofs.LaterWindows.{begins_here, ends_later, ends_within, unit_later}
use Rattle.hyperperiod_laws.proofs.LaterSchedules.{events_past, schedule_later, schedule_split}

-- without offsets as much is left of dues so many units later as at tick 0, but for those of idle leaves
first_left : (s : SetContents) (t : Tree) (units : ℕ) → ComesRound s t units → 2 * units < 2 ^ 33 → (released : AllByRecursion (λ k. k.offset ≤ 0 / t.scale)
    s.tasks) →
    (x : ℕ) → IsMember t x → is_idle (leaf t x) ≡ false → left_at (set_boundary s.tasks) t (0 + units * t.scale) x ≡ left_at (set_boundary s.tasks) t 0 x
first_left s t units is early released x i other =
    let test = is_boundary (set_boundary s.tasks) t x in
    let h = is.tree.tree in
    let leaves = set_leaves s.tasks is.lawful.each t is.tree.tasks in
    let has = member_has (set_boundary s.tasks) t h leaves x i in
    let zero' : 0 / t.scale ≡ 0 = zero-div t.scale in
    let unit : (0 + units * t.scale) / t.scale ≡ units = (let u = unit_later 0 units t.scale h.scaled in omega (arith, u, zero')) in
    let some = is.some in
    elim (member_is s.tasks is.lawful.each t h is.tree.tasks units (0 / t.scale) is.some released is.closed.whole_periods is.idles x i) [
      | inl idle ↦ absurd (both_ways (is_idle (leaf t x)) other idle.1)
      | inr busy ↦
          (let near = ends_within test has units (0 / t.scale) busy.within 0 0 (omega (arith, zero')) (omega arith) in
          let begin : window_begin test ((0 + units * t.scale) / t.scale) ≡ units = ap (window_begin test) unit ∙ begins_here test has units
          (busy.first zero') in
          let start : window_begin test (0 / t.scale) ≡ 0 = ap (window_begin test) zero' in
          let bounds = busy_later s.tasks t h is.tree.tasks units (0 / t.scale) released is.closed.whole_periods leaves x i busy in
          let zero_on : 0 + units ≡ units = omega arith in
          let end : window_end test ((0 + units * t.scale) / t.scale) ≡ window_end test 0 + units =
          ap (window_end test) (unit ∙ sym zero_on) ∙ ends_later test has units (2 ^ 33) (0 / t.scale) bounds 0 (omega (arith, zero'))
          (omega (arith, near, early)) in
          let first : window_end test (0 / t.scale) ≡ window_end test 0 = ap (window_end test) zero' in
          let now = left_is (set_boundary s.tasks) t x 0 (on_time (set_boundary s.tasks) t h leaves x 0 i) in
          let then = left_is (set_boundary s.tasks) t x (0 + units * t.scale) (on_time (set_boundary s.tasks) t h leaves x (0 + units * t.scale) i) in
          let due = ap₂ (λ a b. rate t x * (a - b)) end begin in
          let due' = ap₂ (λ a b. rate t x * (a - b)) first start in
          let same : rate t x * (window_end test 0 + units - units) ≡ rate t x * (window_end test 0 - 0) = ap (λ w. rate t x * w) (omega arith) in
          let ran : ticks (runs (set_boundary s.tasks) t x) (window_begin test ((0 + units * t.scale) / t.scale) * t.scale) ≡ ticks
          (runs (set_boundary s.tasks) t x) (0 + units * t.scale) =
          ap (λ w. ticks (runs (set_boundary s.tasks) t x) (w * t.scale)) begin ∙ ap (ticks (runs (set_boundary s.tasks) t x)) (omega arith) in
          omega (arith, now, then, due, due', same, ran))
    ]

pub recurs_on_time : (s : SetContents) (t : Tree) (units : ℕ) → ComesRound s t units → 2 * units < 2 ^ 33 → Recurs s.tasks t units 0
recurs_on_time s t units is early =
    let released = each_by (λ k. k.offset ≡ 0) (λ k. k.offset ≤ 0 / t.scale) (λ k z. omega (arith, z)) s.tasks is.closed.no_offset in
    record {
      each = is.lawful.each;
      tree = is.tree.tree;
      holds = is.tree.tasks;
      some = is.some;
      released = released;
      whole = is.closed.whole_periods;
      apart = is.idles;
      left = first_left s t units is early released;
    }

-- so many units are few enough where they end early
pub few_units : (n units scale : ℕ) → n + 2 * (units * scale) < 2 ^ 33 * scale → 2 * units < 2 ^ 33
few_units n units scale early = elim (cases_lt (2 * units) (2 ^ 33)) [
  | inl few ↦ few
  | inr many ↦ absurd (let most = mul-le-mul_right scale many in omega (arith, early, most))
]

pub recurs_by : (s : SetContents) (t : Tree) (units start : ℕ) → IsLeftAgain s t units start → Recurs s.tasks t units start
recurs_by s t units start is = record {
  each = is.lawful.each;
  tree = is.tree.tree;
  holds = is.tree.tasks;
  some = is.some;
  released = each_by (λ k. k.offset * t.scale ≤ start) (λ k. k.offset ≤ start / t.scale) (λ k l. unit_from start k.offset t.scale is.tree.tree.scaled l)
      s.tasks is.released;
  whole = is.whole;
  apart = is.idles;
  left = is.left;
}

-- as much stays left
pub left_again : (s : SetContents) (t : Tree) (units start : ℕ) → Recurs s.tasks t units start → (n x : ℕ) → start ≤ n → n + 2 * (units * t.scale) < 2 ^
    33 * t.scale →
    IsMember t x → is_idle (leaf t x) ≡ false → left_of s t x (n + units * t.scale) ≡ left_of s t x n
left_again s t units start r n x after early i other = elim (idle_or_busy s.tasks t units start r x i) [
  | inl idle ↦ absurd (both_ways (is_idle (leaf t x)) other idle.1)
  | inr busy ↦ busy_left s.tasks t units start r n after (early_unit s.tasks t units start r n early)
      (λ m y a l b. runs_again s.tasks t units start r m y a (omega (arith, l, early)) b) x i other busy.1
]

-- what follows the same rows is the same
same_rest : (first one other : List Row) → first ++ one ≡ first ++ other → one ≡ other
same_rest [] one other e = e
same_rest (r ∷ first) one other e = same_rest first one other (let e' : first ++ one ≡ first ++ other = cc in e')

pub schedule_goes_on : (s : SetContents) (t : Tree) (units start : ℕ) → Recurs s.tasks t units start → (from to : ℕ) → start ≤ from → from < to →
    to + 2 * (units * t.scale) ≤ 2 ^ 33 * t.scale → is_event (set_boundary s.tasks) t from ≡ true → is_event (set_boundary s.tasks) t
    (from + units * t.scale) ≡ true →
    places_below (set_boundary s.tasks) t (from + units * t.scale) ≡ places_below (set_boundary s.tasks) t from →
    (rows : List Row) → schedule s.tasks t to ≡ schedule s.tasks t from ++ rows →
    schedule s.tasks t (to + units * t.scale) ≡ schedule s.tasks t (from + units * t.scale) ++ map (later (units * t.scale)) rows
schedule_goes_on s t units start r from to after up early on there same rows goes =
    let d = units * t.scale in
    let ticks = to - from - 1 in
    let e : from + suc ticks ≡ to = omega (arith, up) in
    let f : from + d + suc ticks ≡ to + d = omega (arith, up) in
    let past = rows_of s.tasks t (from + suc ticks) from (events_past s.tasks t from ticks) in
    let here : rows ≡ past = same_rest (schedule s.tasks t from) rows past (sym goes ∙ ap (schedule s.tasks t) (sym e) ∙ schedule_split s.tasks t from ticks
    on) in
    ap (schedule s.tasks t) (sym f)
    ∙ schedule_later s.tasks t units start r from ticks after there (omega (arith, up, early)) on same
    ∙ ap (λ rs. schedule s.tasks t (from + d) ++ map (later d) rs) (sym here)

-- without offsets it goes on so from each event after tick 0
pub round_goes_on : (s : SetContents) (t : Tree) (units : ℕ) → ComesRound s t units → (from to : ℕ) → 0 < from → from < to →
    to + 2 * (units * t.scale) ≤ 2 ^ 33 * t.scale → is_event (set_boundary s.tasks) t from ≡ true →
    places_below (set_boundary s.tasks) t (from + units * t.scale) ≡ places_below (set_boundary s.tasks) t from →
    (rows : List Row) → schedule s.tasks t to ≡ schedule s.tasks t from ++ rows →
    schedule s.tasks t (to + units * t.scale) ≡ schedule s.tasks t (from + units * t.scale) ++ map (later (units * t.scale)) rows
round_goes_on s t units is from to some up early on same rows goes =
    let r = recurs_on_time s t units is (few_units from units t.scale (omega (arith, early, up))) in
    schedule_goes_on s t units 0 r from to (omega arith) up early on (event_again s.tasks t units 0 r from some (omega (arith, early, up)) ∙ on) same rows goes
