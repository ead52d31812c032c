-- Who is earliest depends on the order of the ends, and on who has something left.
use Rattle.std.proofs.Common.{List, None, Option, Some, ap, arith, get_or, inl, inr, length, subst, sym, ℕ, ◌<◌, ◌∙◌, ◌≡◌}
use Rattle.std.proofs.lemmas.Bool.{cases_eq}
use Rattle.std.proofs.lemmas.List.{length-map}
use Rattle.sched_base.specs.declared.candidates.Candidate.{Candidate}
use Rattle.sched_base.specs.Candidates.{candidate_at, earliest}
use Rattle.sched_base.proofs.EarliestLemmas.{IsBestOf, earliest_best, earliest_is, listed, listed_at}

-- candidates in the same order, of whom the same have something left
pub record AreAlike (cs ds : List Candidate) (n : ℕ) : Type 0 where
  pub before : (j k : ℕ) → j < n → k < n → (candidate_at cs j).end < (candidate_at cs k).end → (candidate_at ds j).end < (candidate_at ds k).end
  pub equal : (j k : ℕ) → j < n → k < n → (candidate_at cs j).end ≡ (candidate_at cs k).end → (candidate_at ds j).end ≡ (candidate_at ds k).end
  pub some : (k : ℕ) → k < n → 0 < (candidate_at cs k).remain → 0 < (candidate_at ds k).remain
  pub none : (k : ℕ) → k < n → 0 < (candidate_at ds k).remain → 0 < (candidate_at cs k).remain

pub alike_best : (cs ds : List Candidate) (n : ℕ) (o : Option ℕ) → AreAlike cs ds n → IsBestOf cs n o → IsBestOf ds n o
alike_best cs ds n None a best = λ j l. elim (cases_eq ((candidate_at ds j).remain) 0) [
  | inl e ↦ e
  | inr ne ↦ (let z = best j l in let q = a.none j l (omega (arith, ne)) in absurd (omega (arith, z, q)))
]
alike_best cs ds n (Some k) a best = record {
  below = best.below;
  some = a.some k best.below best.some;
  first = λ j l s. elim (best.first j l (a.none j l s)) [
    | inl less ↦ inl (a.before k j best.below l less)
    | inr same ↦ inr (a.equal k j best.below l same.0, same.1)
  ];
}

-- so the same one is earliest
pub alike_earliest : (cs ds : List Candidate) → length cs ≡ length ds → AreAlike cs ds (length ds) → earliest cs ≡ earliest ds
alike_earliest cs ds long a =
    let P : ℕ → Type 0 = λ n. IsBestOf cs n (earliest cs) in
    earliest_is ds (earliest cs) (alike_best cs ds (length ds) (earliest cs) a (subst P long (earliest_best cs)))

-- members with their ends, and what they have left
pub alike_members : (end remain end' remain' : ℕ → ℕ) (ms : List ℕ) →
    ((j k : ℕ) → j < length ms → k < length ms → end (get_or ms j 0) < end (get_or ms k 0) → end' (get_or ms j 0) < end' (get_or ms k 0)) →
    ((j k : ℕ) → j < length ms → k < length ms → end (get_or ms j 0) ≡ end (get_or ms k 0) → end' (get_or ms j 0) ≡ end' (get_or ms k 0)) →
    ((k : ℕ) → k < length ms → 0 < remain (get_or ms k 0) → 0 < remain' (get_or ms k 0)) →
    ((k : ℕ) → k < length ms → 0 < remain' (get_or ms k 0) → 0 < remain (get_or ms k 0)) →
    earliest (listed end remain ms) ≡ earliest (listed end' remain' ms)
alike_members end remain end' remain' ms before equal some none =
    let cs = listed end remain ms in
    let ds = listed end' remain' ms in
    let long : length cs ≡ length ms = length-map ms (λ (m : ℕ). let c : Candidate = record { end = end m; remain = remain m } in c) in
    let long' : length ds ≡ length ms = length-map ms (λ (m : ℕ). let c : Candidate = record { end = end' m; remain = remain' m } in c) in
    let e : (k : ℕ) → k < length ms → (candidate_at cs k).end ≡ end (get_or ms k 0) = (λ k l. ap (λ (c : Candidate). c.end) (listed_at end remain ms k l)) in
    let e' : (k : ℕ) → k < length ms → (candidate_at ds k).end ≡ end' (get_or ms k 0) = (λ k l. ap (λ (c : Candidate). c.end) (listed_at end' remain' ms k
    l)) in
    let r : (k : ℕ) → k < length ms → (candidate_at cs k).remain ≡ remain (get_or ms k 0) = (λ k l. ap (λ (c : Candidate). c.remain)
    (listed_at end remain ms k l)) in
    let r' : (k : ℕ) → k < length ms → (candidate_at ds k).remain ≡ remain' (get_or ms k 0) = (λ k l. ap (λ (c : Candidate). c.remain)
    (listed_at end' remain' ms k l)) in
    alike_earliest cs ds (long ∙ sym long') (record {
      before = λ j k lj lk less. (
          let a : j < length ms = omega (arith, lj, long') in let b : k < length ms = omega (arith, lk, long') in
          let w = before j k a b (let p = e j a in let q = e k b in omega (arith, p, q, less)) in
          let p = e' j a in let q = e' k b in omega (arith, p, q, w));
      equal = λ j k lj lk same. (
          let a : j < length ms = omega (arith, lj, long') in let b : k < length ms = omega (arith, lk, long') in
          let w = equal j k a b (let p = e j a in let q = e k b in omega (arith, p, q, same)) in
          let p = e' j a in let q = e' k b in omega (arith, p, q, w));
      some = λ k lk s. (
          let b : k < length ms = omega (arith, lk, long') in
          let w = some k b (let q = r k b in omega (arith, q, s)) in
          let q = r' k b in omega (arith, q, w));
      none = λ k lk s. (
          let b : k < length ms = omega (arith, lk, long') in
          let w = none k b (let q = r' k b in omega (arith, q, s)) in
          let q = r k b in omega (arith, q, w));
    })
