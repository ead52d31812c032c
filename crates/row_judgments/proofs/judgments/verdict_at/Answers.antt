use Rattle.std.proofs.Common.{◌≡◌, ◌+◌, ◌*◌, ◌≤◌, ℕ, false, length, arith, inl, inr, ◌⊎◌, ◌∙◌, ap, sym, subst, not, ltb, leb, eqb}
use Rattle.std.proofs.lemmas.Bool.{cases_eq, ne_eqb}
use Rattle.sched_base.specs.declared.rows.Row.{Row}
use Rattle.trace_verdict.specs.Searches.{kind_of}
use Rattle.trace_verdict.proofs.VerdictLemmas.{row_verdict}
use Rattle.row_judgments.proofs.judgments.verdict_at.Goals as goal

pub returns-clause-verdict : goal.returns-clause-verdict
returns-clause-verdict c =
    let rows = c.args.rows.now in
    let i : ℕ = c.args.first in
    let most : ℕ = c.args.set.now.horizon * c.args.scale in
    let a : i ≤ c.args._unfit = omega (arith, c.requires.first) in
    let b : i ≤ c.args.hit = omega (arith, c.requires.first) in
    let d : i ≤ length rows = omega (arith, c.requires.within) in
    let which : (i ≡ c.args._unfit) ⊎ ((i ≡ c.args.hit) ⊎ (i ≡ length rows)) =
    elim (cases_eq i c.args._unfit) [ inl e ↦ inl e | inr x ↦ inr (inl (omega (arith, x, c.requires.first))) ] in
    let other : eqb (length rows) i ≡ false = ne_eqb _ _ (λ e. omega (arith, e, c.requires.within)) in
    row_verdict c.args.set.now c.args.scale rows c.args._unfit c.args.hit (length rows) i (6 + c.from.result + c.from-2.result) c.row_kind-kind.result
    c.requires.unfit c.requires.hit c.requires.apart a b d c.requires.within (omega arith) which
    (subst (λ (r : Row). c.row_kind-kind.result ≡ kind_of (not (ltb r.processor c.args.set.now.processors)) (not (leb r.end most)) (eqb c.args.hit i)
    (eqb (length rows) i)) c.get.ensures
    (c.row_kind-kind.ensures ∙ ap (kind_of (not (ltb c.get.result.processor c.args.set.now.processors)) (not (leb c.get.result.end most))
    (eqb c.args.hit i)) (sym other)))
