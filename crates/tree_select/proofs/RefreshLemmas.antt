-- Packs selected again, one by one.
use Rattle.std.proofs.Common.{◌≡◌, ◌≢◌, ℕ, ◌+◌, ◌<◌, ◌≤◌, ◌&&◌, Bool, false, List, length, Option, Some, refl, ap, ap₂, arith, inl, inr, sym, subst, ◌∙◌}
use Rattle.std.proofs.Common.{get_or}
use Rattle.std.proofs.lemmas.Bool.{cases_eq}
use Rattle.std.proofs.Math.ListN.{set}
use Rattle.sched_base.specs.Candidates.{is_at}
use Rattle.run_tree.specs.Tree.{Tree, IsTree, IsPack, IsMember, kind_at, home, place, members, member, level}
use Rattle.tree_select.specs.Selected.{picked}
use Rattle.tree_select.specs.Marked.{AreLed, IsServed, AreServed, IsTurned, primal_at}
use Rattle.tree_select.proofs.MarkedLemmas.{primal_is, apart, other_at}

-- of pack p, which runs as said, the first k members are right again; the other packs that aren't marked still are
pub record IsUnderWay (t : Tree) (remains ends : List ℕ) (p : ℕ) (on : Bool) (chosen : Option ℕ) (before stale runs : List Bool) (k : ℕ) : Type 0 where
  pub led : AreLed t runs
  pub pack : get_or runs p false ≡ on
  pub done : (j : ℕ) → j < k → get_or runs (member t p j) false ≡ (on && is_at chosen j)
  pub served : (q : ℕ) → IsPack t q → q ≢ p → get_or stale q false ≡ false → IsServed t remains ends runs q
  pub marks : (q : ℕ) → IsPack t q → level t p ≤ level t q → get_or stale q false ≡ get_or before q false

module _ (t : Tree) (h : IsTree t) (remains ends : List ℕ) where
  pub under_way_first : (p : ℕ) (chosen : Option ℕ) (stale runs : List Bool) → AreLed t runs → AreServed t remains ends stale runs →
      IsUnderWay t remains ends p (get_or runs p false) chosen (set stale p false) (set stale p false) runs 0
  under_way_first p chosen stale runs led served = record {
    led = led;
    pack = refl;
    done = λ j b. absurd (omega (arith, b));
    served = λ q j ne off. served q j (sym (other_at t h stale p q false ne) ∙ off);
    marks = λ q j low. refl;
  }

  pub under_way_step : (p k m : ℕ) (on : Bool) (chosen : Option ℕ) (before stale runs stale' runs' : List Bool) (value : Bool) → IsPack t p →
      k < length (members t p) → m ≡ member t p k → value ≡ (on && is_at chosen k) →
      IsTurned t m value stale runs stale' runs' → IsUnderWay t remains ends p on chosen before stale runs k →
      IsUnderWay t remains ends p on chosen before stale' runs' (k + 1)
  under_way_step p k m on chosen before stale runs stale' runs' value i l at is turned u = record {
    led = turned.led u.led;
    pack = turned.others p (apart t h p m i own.0) (no_primal p (omega arith)) ∙ u.pack;
    done = λ j b. elim (cases_eq j k) [
      | inl same ↦ (let P : ℕ → Type 0 = λ x. get_or runs' (member t p x) false ≡ (on && is_at chosen x) in
          subst P (sym same) (ap (λ x. get_or runs' x false) (sym at) ∙ turned.own ∙ is))
      | inr ne ↦
          (let less : j < k = omega (arith, b, ne) in
          let jl : j < length (members t p) = omega (arith, less, l) in
          let its = h.members_are p j i jl in
          turned.others (member t p j) (λ e. ne (sym its.2 ∙ ap (place t) e ∙ own.2)) (member_no_primal (member t p j) its.0) ∙ u.done j less)
    ];
    served = λ q j ne off k' l'. (let old = turned.unmarked q off in
        let its = h.members_are q k' j l' in
        turned.others (member t q k') (λ e. ne (sym its.1 ∙ ap (home t) e ∙ own.1)) (member_no_primal (member t q k') its.0)
        ∙ u.served q j ne old.0 k' l'
        ∙ ap (λ (b : Bool). b && is_at (picked t remains ends q) k') (sym (old.1 (apart t h q m j own.0))));
    marks = λ q j low. turned.marks q (no_primal q low) ∙ u.marks q j low;
  }
    where
      own : IsMember t m × (home t m ≡ p) × (place t m ≡ k)
      own = (let P : ℕ → Type 0 = λ x. IsMember t x × (home t x ≡ p) × (place t x ≡ k) in subst P (sym at) (h.members_are p k i l))

      no_primal : (q : ℕ) → level t p ≤ level t q → primal_at (kind_at t m) ≢ Some q
      no_primal q low e = let up = (primal_is t h m q own.0.0 e).2 in let s = ap (level t) own.1 in omega (arith, up, s, low)

      member_no_primal : (x : ℕ) → IsMember t x → primal_at (kind_at t m) ≢ Some x
      member_no_primal x j e = apart t h x x (primal_is t h m x own.0.0 e).0 j refl

  pub under_way_all : (p n : ℕ) (on : Bool) (chosen : Option ℕ) (before stale runs : List Bool) → n ≡ length (members t p) →
      chosen ≡ picked t remains ends p → IsUnderWay t remains ends p on chosen before stale runs n → AreServed t remains ends stale runs
  under_way_all p n on chosen before stale runs e is u q j off = elim (cases_eq q p) [
    | inl same ↦ (let P : ℕ → Type 0 = λ x. IsServed t remains ends runs x in
        subst P (sym same) (λ k l. u.done k (omega (arith, l, e)) ∙ ap₂ (λ (a : Bool) (o : Option ℕ). a && is_at o k) (sym u.pack) is))
    | inr ne ↦ u.served q j ne off
  ]
