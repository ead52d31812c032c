-- The earliest deadline: which of several members a server serves at one tick.
use Rattle.std.specs.Prelude.{ℕ, suc, ◌≡◌, ◌<◌, ◌≤◌, ◌⊎◌, ◌==◌, ◌&&◌, nat_lt, nat_le, Bool, true, false, List, []}
use Rattle.std.specs.Prelude.{◌∷◌, Option, Some, None, slice_index_or}
use Rattle.sched_base.specs.declared.candidates.Candidate.{Candidate}

-- stands where a list has no such candidate, and is never looked at
abbrev pub no_candidate : Candidate
no_candidate = record { end = 0; remain = 0 }

-- candidate k
abbrev pub candidate_at : List Candidate → ℕ → Candidate
candidate_at cs k = slice_index_or cs k no_candidate

-- the earliest of a candidate and others, of which this one is the earliest; a tie goes to the lower position
abbrev pub earlier_of : Candidate → List Candidate → Option ℕ → Option ℕ
earlier_of c cs None = elim (nat_lt 0 c.remain) [ true ↦ Some 0 | false ↦ None ]
earlier_of c cs (Some k) = elim (nat_lt 0 c.remain && nat_le c.end (candidate_at cs k).end) [ true ↦ Some 0 | false ↦ Some (suc k) ]

-- the first of those with the least end that have something left
abbrev pub earliest : List Candidate → Option ℕ
earliest [] = None
earliest (c ∷ cs) = earlier_of c cs (earliest cs)

-- whether it is this one
abbrev pub is_at : Option ℕ → ℕ → Bool
is_at None k = false
is_at (Some j) k = j == k

-- of the first n candidates, k is the first of those with the least end that have something left
pub record IsEarliest (cs : List Candidate) (n k : ℕ) : Type 0 where
  pub below : k < n
  pub some : 0 < (candidate_at cs k).remain
  pub first : (j : ℕ) → j < n → 0 < (candidate_at cs j).remain → ((candidate_at cs k).end < (candidate_at cs j).end)
      ⊎ (((candidate_at cs k).end ≡ (candidate_at cs j).end) × (k ≤ j))
