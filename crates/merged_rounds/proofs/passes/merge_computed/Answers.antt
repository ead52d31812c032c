use Rattle.std.proofs.Common.{ℕ, ◌≡◌, ◌∙◌, true, false, get_or, None, subst, sym}
use Rattle.merged_rounds.specs.Laps.{IsSumUpTo}
use Rattle.merged_rounds.specs.Passes.{IsKept}
use Rattle.sched_base.specs.Tables.{lane_of}
use Rattle.merged_rounds.proofs.passes.merge_computed.Goals as goal

pub merge_looking-requires-clause-merging : goal.merge_looking-requires-clause-merging
merge_looking-requires-clause-merging c =
    let at = c.requires.computed.tick in
    record {
      belongs = c.requires.computed.belongs;
      sum = subst (λ (n : ℕ). IsSumUpTo c.args.plan.now n c.args.sum.now) (sym at) c.requires.merging.sum;
      kept = λ q l. subst (λ (n : ℕ). IsKept c.args.plan.now n (lane_of c.args.sum.now.rows.lanes q) (get_or c.args.kept.now q None)) (sym at)
          (c.requires.merging.kept q l);
    }

pub returns-clause-merging : goal.returns-clause-merging
returns-clause-merging c =
    let now = c.now-source.ensures.value in
    let m = c.in_ok-merge_looking.ensures.merging in
    record {
      belongs = record {
        computed = λ off. record { belongs = m.belongs; tick = sym now };
        again = λ on. absurd (let e = sym c.requires.off in
            let f : false ≡ true = e ∙ on in cc);
      };
      sum = subst (λ (n : ℕ). IsSumUpTo c.args.plan.now n c.merge_looking.new.sum) (sym now) m.sum;
      kept = λ q l. subst (λ (n : ℕ). IsKept c.args.plan.now n (lane_of c.merge_looking.new.sum.rows.lanes q) (get_or c.merge_looking.new.kept q None))
          (sym now) (m.kept q l);
    }
