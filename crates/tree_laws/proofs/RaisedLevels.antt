-- Level on level, until all packs are roots.
use Rattle.std.proofs.Common.{◌≡◌, ℕ, zero, suc, ◌+◌, ◌-◌, ◌<◌, ◌≤◌, inl, inr, List, [], ◌∷◌, ◌++◌, length, refl, ap, arith, sym, subst, ◌∙◌}
use Rattle.std.proofs.lemmas.Bool.{cases_eq, cases_lt}
use Rattle.std.proofs.lemmas.List.{append-nil}
use Rattle.run_tree.specs.Tree.{Tree}
use Rattle.run_tree.specs.Making.{Making, lower_packs, dual_items}
use Rattle.run_tree.specs.Compiled.{level_above, climb, climb_by, all_levels}
use Rattle.tree_laws.specs.Raised.{raised, IsRaised}
use Rattle.tree_laws.proofs.LeafEntries.{entries}
use Rattle.tree_laws.proofs.PackItems.{item_entries}
use Rattle.tree_laws.proofs.LastLevel.{IsLevel, is_lower}
use Rattle.tree_laws.proofs.NextLevel.{lift_packed, lift_fewer, lift_level, filter_le}

-- one level of a climb
pub climb_by_some : (qs : List ℕ) (m : Making) (higher : Making → Making) → 0 < length qs → climb_by qs m higher ≡ higher (level_above m qs)
climb_by_some [] m higher some = absurd (omega arith)
climb_by_some (q ∷ qs) m higher some = refl

-- a climb where no level is wanted
pub climb_none : (fuel : ℕ) (m : Making) → length (lower_packs m) ≡ 0 → climb fuel m ≡ m
climb_none zero m e = refl
climb_none (suc fuel) m e = stays (lower_packs m) e
  where
    stays : (qs : List ℕ) → length qs ≡ 0 → climb_by qs m (climb fuel) ≡ m
    stays [] e = refl
    stays (q ∷ qs) e = absurd (omega arith)

pub duals_no_entries : (t : Tree) (qs : List ℕ) → item_entries (dual_items t qs) ≡ []
duals_no_entries t [] = refl
duals_no_entries t (q ∷ qs) = duals_no_entries t qs

-- what further levels leave
pub record IsAbove (m made : Making) : Type 0 where
  pub scale_same : made.tree.scale ≡ m.tree.scale
  pub processors_same : made.tree.processors ≡ m.tree.processors
  pub leaves : entries made.tree.nodes ≡ entries m.tree.nodes

module _ (m : Making) (v : IsLevel m) where
  pub raised_before : (n : ℕ) → IsRaised (suc n) m → IsRaised n m
  raised_before n h k l = h k (omega arith)

  pub raised_level : (n : ℕ) → IsRaised n m → IsLevel (raised n m)
  raised_level zero h = v
  raised_level (suc n) h = lift_level (raised n m) (raised_level n (raised_before n h)) (h n (omega arith))

  pub raised_above : (n : ℕ) → IsRaised n m → IsAbove m (raised n m)
  raised_above zero h = record { scale_same = refl; processors_same = refl; leaves = refl }
  raised_above (suc n) h =
      let below = raised_above n (raised_before n h) in
      let p = lift_packed (raised n m) (raised_level n (raised_before n h)) in
      record {
        scale_same = p.scale_same ∙ below.scale_same;
        processors_same = p.processors_same ∙ below.processors_same;
        leaves = p.leaves ∙ ap (λ xs. entries (raised n m).tree.nodes ++ xs) (duals_no_entries (raised n m).tree (lower_packs (raised n m)))
            ∙ append-nil (entries (raised n m).tree.nodes) ∙ below.leaves;
      }

  pub raised_levels : (n : ℕ) → IsRaised n m → (raised n m).tree.levels ≡ m.tree.levels + n
  raised_levels zero h = omega arith
  raised_levels (suc n) h =
      let below = raised_levels n (raised_before n h) in
      let one = (lift_packed (raised n m) (raised_level n (raised_before n h))).levels_same in
      omega (arith, below, one)

  -- a level has fewer packs than the one below has packs that aren't roots
  pub raised_fewer : (n : ℕ) → IsRaised (suc n) m → length (raised (suc n) m).last < length (lower_packs (raised n m))
  raised_fewer n h = lift_fewer (raised n m) (raised_level n (raised_before n h)) (h n (omega arith))

  pub raised_lower : (n : ℕ) → length (lower_packs (raised n m)) ≤ length (raised n m).last
  raised_lower n = filter_le (is_lower (raised n m)) (raised n m).last

  -- so there are few levels, and few packs in each
  pub raised_few : (n : ℕ) → IsRaised n m → n + length (raised n m).last ≤ length m.last
  raised_few zero h = omega arith
  raised_few (suc n) h =
      let below = raised_few n (raised_before n h) in
      let fewer = raised_fewer n h in
      let lower = raised_lower n in
      omega (arith, below, fewer, lower)

  -- a climb goes over these levels
  pub climb_raised : (n fuel : ℕ) → IsRaised n m → climb (n + fuel) m ≡ climb fuel (raised n m)
  climb_raised zero fuel h = ap (λ f. climb f m) (omega arith)
  climb_raised (suc n) fuel h =
      ap (λ f. climb f m) (omega arith) ∙ climb_raised n (suc fuel) (raised_before n h) ∙ climb_by_some (lower_packs (raised n m)) (raised n m) (climb fuel)
      (h n (omega arith))

  pub raised_ends : (n : ℕ) → IsRaised n m → length (lower_packs (raised n m)) ≡ 0 → all_levels m ≡ raised n m
  raised_ends n h done =
      let few = raised_few n h in
      let rest : n + (length m.last - n) ≡ length m.last = omega (arith, few) in
      ap (λ f. climb f m) (sym rest) ∙ climb_raised n (length m.last - n) h ∙ climb_none (length m.last - n) (raised n m) done

  -- and it ends
  pub all_raised : (n : ℕ) × IsRaised n m × (length (lower_packs (raised n m)) ≡ 0)
  all_raised = search_up (length (lower_packs m)) 0 (λ k l. absurd (omega arith)) (omega arith)
    where
      search_up : (fuel n : ℕ) → IsRaised n m → length (lower_packs (raised n m)) ≤ fuel → (k : ℕ) × IsRaised k m × (length (lower_packs (raised k m)) ≡ 0)
      search_up zero n h l = (n, h, omega (arith, l))
      search_up (suc fuel) n h l =
          elim (cases_eq (length (lower_packs (raised n m))) 0) [
            | inl done ↦ (n, h, done)
            | inr some ↦
                (let next : IsRaised (suc n) m = one_more n h (omega (arith, some)) in
                let fewer = raised_fewer n next in
                let lower = raised_lower (suc n) in
                search_up fuel (suc n) next (omega (arith, fewer, lower, l)))
          ]
        where
          one_more : (n : ℕ) → IsRaised n m → 0 < length (lower_packs (raised n m)) → IsRaised (suc n) m
          one_more n h some k l = elim (cases_lt k n) [
            | inl b ↦ h k b
            | inr ge ↦ (let e : n ≡ k = omega (arith, l, ge) in let P : ℕ → Type 0 = λ x. 0 < length (lower_packs (raised x m)) in
                subst P e some)
          ]
