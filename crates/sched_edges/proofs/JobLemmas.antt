-- Jobs in their places, which are the items of a vector, and their faults.
use Rattle.std.proofs.Common.{◌≡◌, ℕ, ◌+◌, ◌<◌, ◌≤◌, min, List, length, get_or, Option, Some, inl, inr, ap, sym, ◌∙◌, arith}
use Rattle.std.specs.Prelude.{slice_get}
use Rattle.std.proofs.lemmas.Bool.{cases_eq}
use Rattle.std.proofs.lemmas.Option.{get_or_from_slice_get, slice_get_within, slice_get-get_or}
use Rattle.sched_edges.specs.Jobs.{JobAt, FaultsAre}

-- what is read of a place that is there
pub place_is : {X : Type 0} (items places : List X) (i : ℕ) (x place : X) → items ≡ places → slice_get places i ≡ Some x → place ≡ get_or items i place →
    place ≡ x
place_is items places i x place same at is = is ∙ ap (λ xs. get_or xs i place) same ∙ get_or_from_slice_get places i x place at

-- such a place is within the items
pub place_within : {X : Type 0} (items places : List X) (i n : ℕ) (x : X) → items ≡ places → slice_get places i ≡ Some x → length items ≡ n → i < n
place_within items places i n x same at long = omega (arith, slice_get_within places i x at, ap length same)

-- no place comes before the first
pub none_before : (i : ℕ) → i < 0 → ⊥
none_before i below = omega arith

module _ {J : Type 0} (faults : J → ℕ) (items places : List (Option J)) (counts : List ℕ) (same : items ≡ places) where
  -- the jobs before place n tell their counts of faults, and so does the job of place n
  pub told_next : (n : ℕ) (place : Option J) → place ≡ get_or items n place → ((job : J) → place ≡ Some job → faults job ≡ get_or counts n 0)
      → ((i count : ℕ) (job : J) → i < n → JobAt places i job → slice_get counts i ≡ Some count → faults job ≡ count)
      → (i count : ℕ) (job : J) → i < n + 1 → JobAt places i job → slice_get counts i ≡ Some count → faults job ≡ count
  told_next n place is here before i count job within at given = elim (cases_eq i n) [
    | inl this ↦
        (let read : place ≡ get_or places i place = is ∙ ap (λ xs. get_or xs n place) same ∙ ap (λ k. get_or places k place) (sym this) in
        let told = here job (read ∙ get_or_from_slice_get places i (Some job) place at) in
        told ∙ ap (λ k. get_or counts k 0) (sym this) ∙ get_or_from_slice_get counts i count 0 given)
    | inr other ↦ before i count job (omega (arith, within, other)) at given
  ]

  -- where all tell their counts, so does the job of place n
  pub told_at : (n : ℕ) (place : Option J) → place ≡ get_or items n place → n < length items → n < length counts → FaultsAre faults places counts
      → (job : J) → place ≡ Some job → faults job ≡ get_or counts n 0
  told_at n place is within given all job here =
      let read : get_or places n place ≡ Some job = sym (is ∙ ap (λ xs. get_or xs n place) same) ∙ here in
      let long = ap (λ (xs : List (Option J)). length xs) same in
      all n (get_or counts n 0) job (slice_get-get_or places n place (omega (arith, within, long)) ∙ ap (λ x. Some x) read) (slice_get-get_or counts n 0 given)

  -- no job with a given count stands past the places or the counts
  pub told_all : (n : ℕ) → min (length items) (length counts) ≤ n
      → ((i count : ℕ) (job : J) → i < n → JobAt places i job → slice_get counts i ≡ Some count → faults job ≡ count) → FaultsAre faults places counts
  told_all n past before i count job at given =
      let within = slice_get_within places i (Some job) at in
      let within' = slice_get_within counts i count given in
      let long = ap (λ (xs : List (Option J)). length xs) same in
      before i count job (omega (arith, past, within, within', long)) at given
