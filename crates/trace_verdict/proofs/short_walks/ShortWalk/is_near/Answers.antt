use Rattle.std.proofs.Common.{◌<◌, ◌≡◌, ◌+◌, ◌-◌, subst, sym, ◌∙◌}
use Rattle.std.proofs.lemmas.Bool.{eqb-true}
use Rattle.trace_verdict.specs.RowLists.{row_for}
use Rattle.trace_verdict.specs.ShortWalks.{wide_of, near_of}
use Rattle.trace_verdict.proofs.NearLemmas.{near_within, near_up_to}
use Rattle.trace_verdict.proofs.short_walks.ShortWalk.is_near.Goals as goal

pub returns-then-end-near : goal.returns-then-end-near
returns-then-end-near c = λ t.
    near_within (wide_of c.args.self.now) (row_for c.args.row.now) (near_of c.args.near.now) c.requires.lawful c.requires.begun c.requires.begins
    (subst (λ x. c.args.row.now.start < x) c.requires.end c.requires.long) (subst (λ x. x < c.args.near.now.next) c.requires.end c.if-end-near.true)

pub returns-then-end-near-2 : goal.returns-then-end-near-2
returns-then-end-near-2 c = λ t.
    near_up_to (wide_of c.args.self.now) (row_for c.args.row.now) (near_of c.args.near.now) c.requires.lawful c.requires.begun c.requires.begins
    (subst (λ x. c.args.row.now.start < x) c.requires.end c.requires.long) (sym c.requires.end ∙ c.if-end-near-2.true)
    (subst (λ x. c.args.self.now.done + (x - c.args.row.now.start) ≡ c.args.near.now.owed) c.requires.end (eqb-true _ _ t))
