use Rattle.std.proofs.Common.{◌≡◌, ◌++◌, ◌∷◌, ◌∙◌, ℕ, [], List, Option, Some, length, ap, arith, subst, sym}
use Rattle.std.specs.Prelude.{slice_index_or}
use Rattle.sched_base.specs.declared.rows.Leaf.{Leaf}
use Rattle.sched_base.specs.declared.rows.Row.{Row}
use Rattle.sched_base.proofs.TableLemmas.{no_row}
use Rattle.sched_laws.proofs.WholeRounds.{length-round}
use Rattle.book_steps.specs.Sources.{IsKeeping}
use Rattle.book_steps.proofs.SourceLemmas.{keeps_more}
use Rattle.book_steps.proofs.source.keep_round.Goals as goal

pub first_leaf-requires : goal.first_leaf-requires
first_leaf-requires c =
    let p = c.args.plan.now in
    let long = length-round p.set.tasks p.tree c.args.start c.args.core.now.tick in
    let is = ap (λ (rs : List Row). length rs) c.requires.rows in
    let alone = c.requires.keeping.turn.alone in
    omega (arith, long, is, alone)

pub stage_behind-requires-clause-keeping : goal.stage_behind-requires-clause-keeping
stage_behind-requires-clause-keeping c =
    let p = c.args.plan.now in
    let end = c.args.core.now.tick in
    let ends : c.deref.result.now ≡ c.args.ends.now.items ++ end ∷ [] = c.deref.ensures.value ∙ c.in-Ok.ensures.ends
    ∙ ap (λ (n : ℕ). c.args.ends.now.items ++ n ∷ []) c.now.ensures.value in
    let shown : c.deref-in-Ok.result.now ≡ c.args.shown.now.items ++ Some c.first_leaf.result ∷ [] = c.deref-in-Ok.ensures.value ∙ c.in-Ok.ensures.shown in
    subst (λ (es : List ℕ). IsKeeping p end es c.deref-in-Ok.result.now c.args.keeping) (sym ends)
    (subst (λ (ss : List (Option Leaf)). IsKeeping p end (c.args.ends.now.items ++ end ∷ []) ss c.args.keeping) (sym shown)
    (keeps_more p c.args.start end c.args.ends.now.items c.args.shown.now.items c.args.keeping c.requires.keeping c.requires.round c.first_leaf.result
    (c.first_leaf.ensures no_row ∙ ap (λ (rs : List Row). (slice_index_or rs 0 no_row).leaf) c.requires.rows)))
