use Rattle.std.proofs.Common.{◌≡◌, ◌+◌, ◌-◌, ◌*◌, ℕ, inl, inr, Some, arith, subst, sym}
use Rattle.std.specs.Prelude.{slice_get, vec_len}
use Rattle.std.proofs.lemmas.Bool.{cases_eq}
use Rattle.book_steps.proofs.pending.Pending.has.Goals as goal

pub loop-n-init : goal.loop-n-init
loop-n-init c = λ k next past low. absurd (omega (arith, past, low))

pub loop-n-preserved : goal.loop-n-preserved
loop-n-preserved c = λ k next past low at.
    let i : ℕ = c.args.from + (c.args.to - 1 - c.loop-n.n) in
    let before = c.loop-n-test.true in
    elim (cases_eq k i) [
      | inl same ↦ (
          let placed : c.place_of.result ≡ i * vec_len c.self.inside.rows + c.args.q = rw (← c.self.view_is) at c.place_of.ensures in
          let there : slice_get c.self.inside.held.items (i * vec_len c.self.inside.rows + c.args.q) ≡ Some next =
          rw (← c.self.view_is) at (subst (λ j. slice_get c.args.self.now.held.items (j * c.args.self.now.width + c.args.q) ≡ Some next) same at) in
          c.is_of.ensures.none c.if-is_of.false next (subst (λ n. slice_get c.self.inside.held.items n ≡ Some next) (sym placed) there)
          )
      | inr other ↦ c.loop-n.invariant k next (omega (arith, past, low, other, before)) low at
    ]

pub returns-clause-none : goal.returns-clause-none
returns-clause-none c = λ _ i next past low at. c.loop-n.invariant i next (let end = c.loop-n-test.false in omega (arith, past, low, end)) low at
