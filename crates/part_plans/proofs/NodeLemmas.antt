-- Nodes that are read from a tree, and lists of numbers below a bound.
use Rattle.std.proofs.Common.{◌≡◌, ℕ, ◌<◌, ◌≤◌, List, [], ◌∷◌, ◌++◌, length, get_or, ap, arith, subst, sym}
use Rattle.std.proofs.lemmas.Grind.{common_steps}
use Rattle.run_tree.specs.Tree.{IsPack, IsTree, Tree, member, members}

-- a member of a pack that is read is a node
pub member_within : (t : Tree) (p k x m : ℕ) → IsTree t → IsPack t p → k < length (members t p) → x ≡ member t p k → m ≡ length t.nodes → x < m
member_within t p k x m h is l at long =
    subst (λ n. n < m) (sym at) (subst (λ n. member t p k < n) (sym long) (h.members_are p k is l).0.0)

-- what is below the count of a list is below the end of a loop over as many
pub below_end : (k n m i : ℕ) → k < n → m ≡ n → m ≤ i → k < i
below_end k n m i l e end = omega arith

-- an empty list has nothing at any place
pub none_in : (P : ℕ → Type 0) (xs : List ℕ) → xs ≡ [] → (k : ℕ) → k < length xs → P k
none_in P xs none k l = absurd (let e : length xs ≡ 0 = ap length none in omega (arith, e, l))

-- one number more below a bound
pub one_below : (n : ℕ) (xs ys : List ℕ) (i : ℕ) → ((k : ℕ) → k < length xs → get_or xs k 0 < n) → i < n → ys ≡ xs ++ i ∷ [] →
    (k : ℕ) → k < length ys → get_or ys k 0 < n
one_below n xs ys i all l e k b = grind (arith, common_steps, all k)
