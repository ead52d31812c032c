use Rattle.std.proofs.Common.{◌≡◌, ◌∙◌, ℕ, [], ap, arith, get_or, length, refl, set, subst}
use Rattle.merged_rows.specs.Columns.{AreGoingOn, showing}
use Rattle.merged_rows.proofs.ChangedLemmas.{on_none}
use Rattle.merged_rounds.specs.Changes.{leaves_in}
use Rattle.merged_rounds.proofs.ChangeLemmas.{seen_step}
use Rattle.merged_rounds.proofs.sums.show_seen.Goals as goal

pub loop-k-init : goal.loop-k-init
loop-k-init c = record {
  going = on_none c.args.rows.now.begun c.args.rows.now.end c.args.changed.now (leaves_in c.args.plan.now c.args.start c.args.source.now.tick);
  end = refl;
}

pub show-requires : goal.show-requires
show-requires c =
    let on = c.loop-k-test.true in
    let within = c.requires.within c.loop-k.k (omega (arith, on)) in
    let long = c.loop-k.invariant.going.long in
    let many = c.requires.many in
    omega (arith, within, long, many)

pub loop-k-preserved : goal.loop-k-preserved
loop-k-preserved c =
    let on = c.loop-k-test.true in
    let q = get_or c.args.changed.now c.loop-k.k 0 in
    let lanes = c.loop-k.rows.begun in
    let within = c.requires.within c.loop-k.k (omega (arith, on)) in
    let is = c.in_ok-show.ensures.shown ∙ ap (λ (n : ℕ). set lanes q (showing (get_or lanes q []) n c.leaf_by.result)) c.loop-k.invariant.end in
    record {
      going = seen_step c.args.plan.now c.args.start c.args.source.now.tick c.args.rows.now.begun lanes _ c.args.rows.now.end c.args.changed.now c.loop-k.k
          q c.leaf_by.result refl within c.requires.many c.leaf_by.ensures is c.loop-k.invariant.going;
      end = c.in_ok-show.ensures.end ∙ c.loop-k.invariant.end;
    }

pub returns : goal.returns
returns c =
    let all : c.loop-k.k ≡ length c.args.changed.now = omega arith in
    record {
      going = subst (λ (n : ℕ). AreGoingOn c.args.rows.now.begun c.args.rows.now.end c.args.changed.now (leaves_in c.args.plan.now c.args.start
          c.args.source.now.tick) c.loop-k.rows.begun n) all c.loop-k.invariant.going;
    }
