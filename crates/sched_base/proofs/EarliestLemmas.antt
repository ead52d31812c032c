-- What `earliest` answers.
use Rattle.std.proofs.Common.{Bool, List, None, Option, Some, [], ap, ap₂, arith, false, get_or, inl, inr, le_refl, leb, length, ltb, map, refl, suc}
use Rattle.std.proofs.Common.{sym, true, zero, ℕ, ◌&&◌, ◌<◌, ◌∙◌, ◌∷◌, ◌≡◌, ◌≤◌, ◌⊎◌}
use Rattle.std.proofs.lemmas.Bool.{and_cases, and_parts, cases_lt, eqb-true, leb-false, leb-true, ltb-false, ltb-true}
use Rattle.sched_base.specs.declared.candidates.Candidate.{Candidate}
use Rattle.sched_base.specs.Candidates.{IsEarliest, candidate_at, earlier_of, earliest, is_at}

-- whether the answer is right for the first n candidates
abbrev pub IsBestOf : List Candidate → ℕ → Option ℕ → Type 0
IsBestOf cs n None = (j : ℕ) → j < n → (candidate_at cs j).remain ≡ 0
IsBestOf cs n (Some k) = IsEarliest cs n k

-- right for the others, and so for one more before them
pub best_before : (c : Candidate) (cs : List Candidate) (o : Option ℕ) → IsBestOf cs (length cs) o → IsBestOf (c ∷ cs) (suc (length cs)) (earlier_of c cs o)
best_before c cs None h = go (ltb 0 c.remain) refl
  where
    go : (b : Bool) → ltb 0 c.remain ≡ b → IsBestOf (c ∷ cs) (suc (length cs)) (elim b [ true ↦ Some 0 | false ↦ None ])
    go true e = record {
      below = omega arith;
      some = ltb-true 0 c.remain e;
      first = elim [ zero ↦ λ l s. inr (refl, le_refl 0) | suc j ↦ λ l s. absurd (let z = h j (omega arith) in omega (arith, z, s)) ];
    }
    go false e = elim [ zero ↦ λ l. (let z = ltb-false 0 c.remain e in omega (arith, z)) | suc j ↦ λ l. h j (omega arith) ]
best_before c cs (Some k) h = go (ltb 0 c.remain && leb c.end ((candidate_at cs k).end)) refl
  where
    go : (b : Bool) → (ltb 0 c.remain && leb c.end ((candidate_at cs k).end)) ≡ b → IsBestOf (c ∷ cs) (suc (length cs))
        (elim b [ true ↦ Some 0 | false ↦ Some (suc k) ])
    go true e =
        let both = and_parts (ltb 0 c.remain) (leb c.end ((candidate_at cs k).end)) e in
        let by = leb-true c.end ((candidate_at cs k).end) both.1 in
        record {
          below = omega arith;
          some = ltb-true 0 c.remain both.0;
          first = elim [
            | zero ↦ λ l s. inr (refl, le_refl 0)
            | suc j ↦ λ l s. elim (h.first j (omega arith) s) [
              | inl less ↦ inl (omega (arith, less, by))
              | inr same ↦ (let q = same.0 in elim (cases_lt c.end ((candidate_at cs j).end))
                  [ inl m ↦ inl m | inr m ↦ inr (omega (arith, q, by, m), omega arith) ])
            ]
          ];
        }
    go false e =
        record {
          below = (let x = h.below in omega (arith, x));
          some = h.some;
          first = elim [
            | zero ↦ λ l s. elim (and_cases (ltb 0 c.remain) (leb c.end ((candidate_at cs k).end)) e) [
              | inl none ↦ absurd (let z = ltb-false 0 c.remain none in omega (arith, z, s))
              | inr late ↦ (let z = leb-false c.end ((candidate_at cs k).end) late in inl (omega (arith, z)))
            ]
            | suc j ↦ λ l s. elim (h.first j (omega arith) s) [ inl less ↦ inl less | inr same ↦ (let q = same.1 in inr (same.0, omega (arith, q))) ]
          ];
        }

-- `earliest` is right
pub earliest_best : (cs : List Candidate) → IsBestOf cs (length cs) (earliest cs)
earliest_best [] = λ j l. absurd (omega arith)
earliest_best (c ∷ cs) = best_before c cs (earliest cs) (earliest_best cs)

-- one answer alone is right
pub same_best : (cs : List Candidate) (n : ℕ) (o o' : Option ℕ) → IsBestOf cs n o → IsBestOf cs n o' → o ≡ o'
same_best cs n None None h g = refl
same_best cs n None (Some k) h g = absurd (let z = h k g.below in let s = g.some in omega (arith, z, s))
same_best cs n (Some k) None h g = absurd (let z = g k h.below in let s = h.some in omega (arith, z, s))
same_best cs n (Some k) (Some j) h g = ap (λ (x : ℕ). Some x) (go (h.first j g.below g.some) (g.first k h.below h.some))
  where
    go : (((candidate_at cs k).end < (candidate_at cs j).end) ⊎ (((candidate_at cs k).end ≡ (candidate_at cs j).end) × (k ≤ j))) →
        (((candidate_at cs j).end < (candidate_at cs k).end) ⊎ (((candidate_at cs j).end ≡ (candidate_at cs k).end) × (j ≤ k))) → k ≡ j
    go (inl a) (inl b) = absurd (omega (arith, a, b))
    go (inl a) (inr b) = absurd (let q = b.0 in omega (arith, a, q))
    go (inr a) (inl b) = absurd (let q = a.0 in omega (arith, b, q))
    go (inr a) (inr b) = (let p = a.1 in let q = b.1 in omega (arith, p, q))

-- the best of all is what `earliest` answers
pub earliest_is : (cs : List Candidate) (o : Option ℕ) → IsBestOf cs (length cs) o → o ≡ earliest cs
earliest_is cs o h = same_best cs (length cs) o (earliest cs) h (earliest_best cs)

-- what is picked has something left, and ends no later than another one with something left
pub IsEarliest-le : (cs : List Candidate) (n k j : ℕ) → IsEarliest cs n k → j < n → 0 < (candidate_at cs j).remain →
    (candidate_at cs k).end ≤ (candidate_at cs j).end
IsEarliest-le cs n k j best l some = elim (best.first j l some) [ inl less ↦ omega (arith, less) | inr same ↦ (let e = same.0 in omega (arith, e)) ]

-- what is at k is k
pub is_at_some : (o : Option ℕ) (k : ℕ) → is_at o k ≡ true → o ≡ Some k
is_at_some None k e = cc
is_at_some (Some j) k e = ap (λ (i : ℕ). Some i) (eqb-true j k e)

-- and at no other place
pub is_at_one : (o : Option ℕ) (p q : ℕ) → is_at o p ≡ true → is_at o q ≡ true → p ≡ q
is_at_one o p q e f = let s : Some p ≡ Some q = sym (is_at_some o p e) ∙ is_at_some o q f in cc

-- members as candidates
abbrev pub listed : (ℕ → ℕ) → (ℕ → ℕ) → List ℕ → List Candidate
listed end remain ms = map (λ m. record { end = end m; remain = remain m }) ms

-- the candidate of a member
pub listed_at : (end remain : ℕ → ℕ) (ms : List ℕ) (k : ℕ) → k < length ms → candidate_at (listed end remain ms) k ≡ record
    { end = end (get_or ms k 0); remain = remain (get_or ms k 0) }
listed_at end remain [] k l = absurd (omega arith)
listed_at end remain (m ∷ ms) zero l = refl
listed_at end remain (m ∷ ms) (suc k) l = listed_at end remain ms k (omega arith)

-- equal ends of members are equal ends of candidates
pub same_end_of : (end remain end' remain' : ℕ → ℕ) (ms : List ℕ) →
    ((k : ℕ) → k < length ms → end (get_or ms k 0) ≡ end' (get_or ms k 0)) →
    (k : ℕ) → (candidate_at (listed end remain ms) k).end ≡ (candidate_at (listed end' remain' ms) k).end
same_end_of end remain end' remain' [] e k = refl
same_end_of end remain end' remain' (m ∷ ms) e zero = e 0 (omega arith)
same_end_of end remain end' remain' (m ∷ ms) e (suc k) = same_end_of end remain end' remain' ms (λ j l. e (suc j) (omega arith)) k

-- one candidate more
pub same_before : (c c' : Candidate) (cs cs' : List Candidate) (o : Option ℕ) → c.end ≡ c'.end → ltb 0 c.remain ≡ ltb 0 c'.remain →
    ((k : ℕ) → (candidate_at cs k).end ≡ (candidate_at cs' k).end) → earlier_of c cs o ≡ earlier_of c' cs' o
same_before c c' cs cs' None e r ends = ap (λ (b : Bool). elim b as (λ x. Option ℕ) [ true ↦ Some 0 | false ↦ None ]) r
same_before c c' cs cs' (Some k) e r ends =
    ap (λ (b : Bool). elim b as (λ x. Option ℕ) [ true ↦ Some 0 | false ↦ Some (suc k) ])
    (ap₂ (λ (a b : Bool). a && b) r (ap₂ (λ (x y : ℕ). leb x y) e (ends k)))

-- `earliest` looks at the ends, and at whether anything is left
pub same_earliest : (end remain end' remain' : ℕ → ℕ) (ms : List ℕ) →
    ((k : ℕ) → k < length ms → end (get_or ms k 0) ≡ end' (get_or ms k 0)) →
    ((k : ℕ) → k < length ms → ltb 0 (remain (get_or ms k 0)) ≡ ltb 0 (remain' (get_or ms k 0))) →
    earliest (listed end remain ms) ≡ earliest (listed end' remain' ms)
same_earliest end remain end' remain' [] e r = refl
same_earliest end remain end' remain' (m ∷ ms) e r =
    same_before (record { end = end m; remain = remain m }) (record { end = end' m; remain = remain' m }) (listed end remain ms) (listed end' remain' ms)
    (earliest (listed end remain ms)) (e 0 (omega arith)) (r 0 (omega arith)) (same_end_of end remain end' remain' ms (λ k l. e (suc k) (omega arith)))
    ∙ ap (earlier_of (record { end = end' m; remain = remain' m }) (listed end' remain' ms))
    (same_earliest end remain end' remain' ms (λ k l. e (suc k) (omega arith)) (λ k l. r (suc k) (omega arith)))
