use Rattle.std.proofs.Common.{arith, subst₂, sym, List}
use Rattle.std.proofs.lemmas.Result.{IfOk-from_err}
use Rattle.cpu_assign.specs.Noted.{IsNoted}
use Rattle.cpu_assign.proofs.StepLemmas.{none_noted}
use Rattle.std.proofs.Common.{◌≡◌, ℕ, None, Option, Some, ap₂, refl}
use Rattle.cpu_assign.proofs.StepLemmas.{placing}
use Rattle.cpu_assign.proofs.Places.new.Goals as goal

-- what holds of no Some holds of None alone
only_none : (P : Option ℕ → Type 0) → ((x : ℕ) → P (Some x) → ⊥) → (o : Option ℕ) → P o → o ≡ None
only_none P none None h = refl
only_none P none (Some x) h = absurd (none x h)

pub returns : goal.returns
returns c = ap₂ placing (c.in_ok-vec.ensures.items_if_clones_equal (only_none _ (λ x same. same))) (c.in_ok-vec-2.ensures.items_if_clones_equal
    (only_none _ (λ x same. same)))

pub overflow_cast-processors : goal.overflow_cast-processors
overflow_cast-processors c = let fits = c.ranges.processors in omega (arith, fits)

pub overflow_cast-packs : goal.overflow_cast-packs
overflow_cast-packs c = let fits = c.ranges.packs in omega (arith, fits)

pub returns-in_err-vec : goal.returns-in_err-vec
returns-in_err-vec c = IfOk-from_err c.from_residual.result _ c.from_residual.ensures.0

pub returns-in_err-vec-2 : goal.returns-in_err-vec-2
returns-in_err-vec-2 c = IfOk-from_err c.from_residual-in_err-vec-2.result _ c.from_residual-in_err-vec-2.ensures.0

pub invariant_of-result : goal.invariant_of-result
invariant_of-result c =
    let few_processors = c.ranges.processors in
    let few_packs = c.ranges.packs in
    let onto = c.in_ok-vec.ensures.items_if_clones_equal (only_none _ (λ x same. same)) in
    let last = c.in_ok-vec-2.ensures.items_if_clones_equal (only_none _ (λ x same. same)) in (
      subst₂ (λ (o : List (Option ℕ)) (l : List (Option ℕ)). IsNoted o l) (sym onto) (sym last) (none_noted c.args.processors c.args.packs
          (omega (arith, few_processors)) (omega (arith, few_packs))),
      λ p l none. absurd (omega (arith, l)),
      omega arith,
    )
