-- No fault means valid rows, and the other way round.
use Rattle.std.proofs.Common.{ℕ, ◌+◌, ◌*◌, inl, inr, List, refl, arith}
use Rattle.std.proofs.lemmas.Bool.{cases_lt, cases_eq}
use Rattle.std.specs.List.{AllByRecursion}
use Rattle.sched_base.specs.declared.rows.Row.{Row}
use Rattle.sched_base.specs.Sets.{SetContents, task_at}
use Rattle.sched_base.specs.Valid.{period_start, served, IsValid}
use Rattle.trace_verdict.specs.declared.faults.FaultKind.{FaultKind}
use Rattle.trace_verdict.specs.declared.faults.FaultKind.TheVariants.{Processor, End, ProcessorOverlap, TaskOverlap, Early, Supply}
use Rattle.trace_verdict.specs.Faults.{row_at, line_of_row, HasFault, IsTraceRow}
use Rattle.trace_verdict.proofs.HitLemmas.{apart_or_overlap, not_both}
use Rattle.trace_verdict.proofs.IndexLemmas.{all_at, all_from, apart_at, apart_from}
use Rattle.trace_verdict.proofs.Parts.{line_of_total}

abbrev pub NoFault : SetContents → ℕ → List Row → Type 0
NoFault s l rs = (kind : FaultKind) (line : ℕ) → HasFault s l rs kind line → ⊥

pub valid_from : (s : SetContents) (l : ℕ) (rs : List Row) → NoFault s l rs → IsValid s l (s.horizon * l) (s.horizon * l) rs
valid_from s l rs f = record {
  bounded = all_from _ rs (λ i h. (
    elim (cases_lt (row_at rs i).processor s.processors) [ inl a ↦ a | inr b ↦ absurd (f Processor (line_of_row s i) (i, h, refl, b)) ],
    elim (cases_lt (s.horizon * l) (row_at rs i).end) [ inl a ↦ absurd (f End (line_of_row s i) (i, h, refl, a)) | inr b ↦ b ],
  ));
  processors_apart = apart_from _ rs (λ k i h m same. (elim (apart_or_overlap (row_at rs k) (row_at rs i)) [
    | inl apart ↦ apart
    | inr o ↦ absurd (f ProcessorOverlap (line_of_row s i) (i, m, refl, (k, h, same, o)))
  ]));
  tasks_apart = apart_from _ rs (λ k i h m j a b. (elim (apart_or_overlap (row_at rs k) (row_at rs i)) [
    | inl apart ↦ apart
    | inr o ↦ absurd (f TaskOverlap (line_of_row s i) (i, m, refl, (k, j, h, a, b, o)))
  ]));
  full = λ j k h u. (elim (cases_eq (served l s rs j k) ((task_at s.tasks j).work * l)) [
    | inl e ↦ e
    | inr ne ↦ absurd (f Supply (line_of_total s rs j) (j, h, refl, (k, inl (u, ne))))
  ]);
  no_more = λ j k h. (elim (cases_lt ((task_at s.tasks j).work * l) (served l s rs j k)) [
    | inr e ↦ e
    | inl more ↦ (elim (cases_lt (s.horizon * l) (period_start l (task_at s.tasks j) (k + 1))) [
      | inl late ↦ absurd (f Supply (line_of_total s rs j) (j, h, refl, (k, inr (late, more))))
      | inr in_time ↦ absurd (f Supply (line_of_total s rs j) (j, h, refl, (k, inl (in_time, (λ e. omega (arith, e, more))))))
    ])
  ]);
  released = all_from _ rs (λ i h j known a. (elim (cases_lt (row_at rs i).start ((task_at s.tasks j).offset * l)) [
    | inr b ↦ b
    | inl u ↦ absurd (f Early (line_of_row s i) (i, h, refl, (j, a, u)))
  ]));
}

pub fault_free : (s : SetContents) (l : ℕ) (rs : List Row) → AllByRecursion (IsTraceRow s) rs → IsValid s l (s.horizon * l) (s.horizon * l) rs → NoFault s l rs
fault_free s l rs t v Processor line f = (let b = all_at _ rs v.bounded f.0 f.1 in let c = f.3 in omega (arith, b.0, c))
fault_free s l rs t v End line f = (let b = all_at _ rs v.bounded f.0 f.1 in let c = f.3 in omega (arith, b.1, c))
fault_free s l rs t v ProcessorOverlap line f =
    let o = f.3 in
    not_both (row_at rs o.0) (row_at rs f.0) (apart_at _ rs v.processors_apart o.0 f.0 o.1 f.1 o.2) o.3
fault_free s l rs t v TaskOverlap line f =
    let o = f.3 in
    not_both (row_at rs o.0) (row_at rs f.0) (apart_at _ rs v.tasks_apart o.0 f.0 o.2 f.1 o.1 o.3 o.4) o.5
fault_free s l rs t v Early line f =
    let w = f.3 in
    let known = all_at (IsTraceRow s) rs t f.0 f.1 in
    let e = all_at _ rs v.released f.0 f.1 w.0 (known.known w.0 w.1) w.1 in
    omega (arith, e, w.2)
fault_free s l rs t v Supply line f =
    let k = f.3 in
    elim k.1 [
      | inl ended ↦ ended.1 (v.full f.0 k.0 f.1 ended.0)
      | inr late ↦ (let e = v.no_more f.0 k.0 f.1 in omega (arith, e, late.1))
    ]
