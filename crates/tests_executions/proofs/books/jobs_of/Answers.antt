use Rattle.std.proofs.Common.{inl, inr, sym, ap, ◌∙◌, arith, length, subst, length-append, [], ◌∷◌, Some}
use Rattle.std.specs.Prelude.{slice_get}
use Rattle.std.proofs.lemmas.Bool.{cases_eq}
use Rattle.sched_edges.specs.Jobs.{JobAt}
use Rattle.tests_executions.proofs.WorkedJobs.{get-before, get-last}
use Rattle.tests_executions.proofs.books.jobs_of.Goals as goal

pub loop-t-preserved : goal.loop-t-preserved
loop-t-preserved g c =
    let places = c.loop-t.jobs.places in
    let more = c.add.ensures.places in
    let long = c.loop-t.invariant.long in
    record {
      room = let now = c.add.ensures.room in let before = c.loop-t.invariant.room in omega (arith, now, before);
      long = ap length more ∙ (let both = length-append places (Some c.new.result ∷ []) in omega (arith, both, long));
      filled = λ t below. elim (cases_eq t c.loop-t.t) [
        | inl same ↦ subst (λ k. JobAt c.add.new.self.places k (record { id = k; used = 0 })) (sym same)
            (ap (λ xs. slice_get xs c.loop-t.t) more ∙ get-last places (Some c.new.result) c.loop-t.t (omega (arith, long)) ∙ ap (λ j. Some (Some j))
            c.new.ensures)
        | inr other ↦ ap (λ xs. slice_get xs t) more ∙ get-before places (Some c.new.result) t (omega (arith, long, below)) ∙ c.loop-t.invariant.filled t
            (omega (arith, below))
      ];
    }
