-- What the tests of a found book show.
use Rattle.std.proofs.Common.{◌≡◌, ℕ, suc, ◌<◌, true, false, List, [], ◌∷◌, Option, Some, length, refl, sym, ap, ◌∙◌, subst, arith, inl, inr}
use Rattle.std.specs.Prelude.{◌+◌, None, option_map, slice_index}
use Rattle.std.proofs.lemmas.List.{get_or_past}
use Rattle.sched_base.specs.declared.rows.Leaf.{Leaf}
use Rattle.sched_base.specs.declared.rows.Leaf.TheVariants.{Task}
use Rattle.sched_base.specs.declared.rows.TaskId.{TaskId}
use Rattle.sched_base.specs.declared.rows.Row.{Row}
use Rattle.sched_base.specs.Tables.{RowAt}
use Rattle.book_machine.specs.declared.machine.LaneState.{LaneState}
use Rattle.book_machine.specs.Machine.{State, IsOut, lane_at, at_start}
use Rattle.book_machine.specs.Reached.{OutRow, counts_of}
use Rattle.book_machine.specs.Rounds.{AreFirstRounds}
use Rattle.book_machine.proofs.RoundLemmas.{row_of_all}
use Rattle.exec_book.specs.Jobs.{Made, IsJobOf}
use Rattle.plan_rounds.proofs.RoundLemmas.{below_or}
use Rattle.locked_book.specs.Promises.{Agrees}

-- a task's row has the task's job
pub job_of_task : {J : Type 0} (id used : J → ℕ) (made : J → Made) (all_made : List Made) (ticks : ℕ → ℕ) (leaf : Leaf) (o : Option J) (task : TaskId) (job : J)
    → leaf ≡ Task task → o ≡ Some job → id job ≡ task.0 → used job ≡ ticks task.0 → Agrees made all_made leaf o → IsJobOf id used made all_made ticks leaf o
job_of_task id used made all_made ticks leaf o task job is there own worked agrees =
    subst (λ l. IsJobOf id used made all_made ticks l o) (sym is) (job, there, record { own = own; worked = worked; agrees = agrees task job is there })

-- a job that goes with a row was made of what the list says
pub agrees_of : {J : Type 0} (id used : J → ℕ) (made : J → Made) (all_made : List Made) (ticks : ℕ → ℕ) (leaf : Leaf) (o : Option J) →
    IsJobOf id used made all_made ticks leaf o → Agrees made all_made leaf o
agrees_of {J} id used made all_made ticks leaf o h task job is there =
    let found : IsJobOf id used made all_made ticks (Task task) o = subst (λ l. IsJobOf id used made all_made ticks l o) is h in
    let same : Some found.0 ≡ Some job = sym found.1 ∙ there in
    let same' : found.0 ≡ job = cc in
    ap made (sym same') ∙ found.2.agrees

-- a side that counts one more is one that was there
pub no_side : (o : Option ℕ) → option_map (λ n. n + 1) o ≡ None → o ≡ None
no_side None none = refl
no_side (Some n) none = cc

-- one row is out on a lane
pub same_out_row : (rows : List (List Row)) (s : State) (p : ℕ) (r q : Row) → OutRow rows s p r → OutRow rows s p q → r ≡ q
same_out_row rows s p r q a b = let same : Some r ≡ Some q = sym a.1 ∙ b.1 in cc

-- a row that a look at a lane and at the first rounds shows is out on the lane
pub out_row : (rows all : List (List Row)) (s : State) (p lane : ℕ) (look : LaneState) (r q : Row) → AreFirstRounds rows all → p ≡ lane →
    look ≡ lane_at s.lanes p → look.out ≡ true → RowAt rows p look.posted r → r ≡ q → OutRow all s lane q
out_row rows all s p lane look r q first own seen out at same =
    let here : OutRow all s p r = (
      ap (λ (l : LaneState). l.out) (sym seen) ∙ out,
      subst (λ (l : LaneState). RowAt all p l.posted r) seen
          (row_of_all rows all first p look.posted r at),
    ) in
    subst (λ n. OutRow all s n q) own (subst (λ (x : Row). OutRow all s p x) same here)

-- where no lane that is there has a row out, none has
pub none_out : (s : State) → ((q : ℕ) → q < length s.lanes → (lane_at s.lanes q).out ≡ false) → (p : ℕ) → IsOut s p → ⊥
none_out s each p out = elim (below_or p (length s.lanes)) [
  | inl within ↦ (let e : true ≡ false = sym out ∙ each p within in cc)
  | inr past ↦ (let e : true ≡ false = sym out ∙ ap (λ (l : LaneState). l.out) (get_or_past s.lanes p at_start past) in cc)
]

-- the counts of the lanes, one by one
pub counts_are : (lanes : List LaneState) (counts : List ℕ) → length lanes ≡ length counts → ((q : ℕ) → q < length lanes →
    (lane_at lanes q).posted ≡ slice_index counts q) → counts_of lanes ≡ counts
counts_are [] [] same each = refl
counts_are [] (n ∷ counts) same each = absurd (omega (arith, same))
counts_are (lane ∷ lanes) [] same each = absurd (omega (arith, same))
counts_are (lane ∷ lanes) (n ∷ counts) same each =
    let first : lane.posted ≡ n = each 0 (omega arith) in
    let rest = counts_are lanes counts (omega (arith, same)) (λ q within. each (suc q) (omega (arith, within))) in
    λ i. first i ∷ rest i

-- a job that has worked was made of the same
pub agrees_worked : {J : Type 0} (made : J → Made) (all_made : List Made) (leaf : Leaf) (old new : Option J)
    → ((now : J) → new ≡ Some now → (was : J) × (old ≡ Some was) × (made now ≡ made was)) → Agrees made all_made leaf old → Agrees made all_made leaf new
agrees_worked made all_made leaf old new kept agrees task job is there =
    let before = kept job there in
    before.2 ∙ agrees task before.0 is before.1
