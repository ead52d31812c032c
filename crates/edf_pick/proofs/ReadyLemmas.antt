-- The first end of a knockout is that of the earliest candidate.
use Rattle.std.proofs.Common.{◌≡◌, ◌≢◌, ℕ, ◌<◌, Bool, true, false, List, length, get_or, Some, None, ltb, refl, arith, inl, inr, sym, ◌∙◌}
use Rattle.std.proofs.lemmas.Bool.{cases_lt, ltb-true, ltb-false}
use Rattle.sched_base.specs.declared.candidates.Candidate.{Candidate}
use Rattle.sched_base.specs.Candidates.{candidate_at, earliest}
use Rattle.sched_base.proofs.EarliestLemmas.{earliest_is}
use Rattle.knockout.specs.declared.Entry.{Entry}
use Rattle.knockout.specs.Knockouts.{never, IsFirst}
use Rattle.edf_pick.specs.Ready.{ready_end, AreReady}

-- the end of a candidate with something left, or without
pub ready_some : (c : Candidate) → 0 < c.remain → ready_end c ≡ c.end
ready_some c l = go (ltb 0 c.remain) refl
  where
    go : (b : Bool) → ltb 0 c.remain ≡ b → elim b [ true ↦ c.end | false ↦ never ] ≡ c.end
    go true e = refl
    go false e = absurd (let z = ltb-false 0 c.remain e in omega (arith, z, l))

pub ready_none : (c : Candidate) → c.remain ≡ 0 → ready_end c ≡ never
ready_none c z = go (ltb 0 c.remain) refl
  where
    go : (b : Bool) → ltb 0 c.remain ≡ b → elim b [ true ↦ c.end | false ↦ never ] ≡ never
    go true e = absurd (let l = ltb-true 0 c.remain e in omega (arith, z, l))
    go false e = refl

module _ (cs : List Candidate) (ends : List ℕ) (h : AreReady cs ends) (first : Entry) (f : IsFirst ends first) where
  some_end : (j : ℕ) → j < length cs → 0 < (candidate_at cs j).remain → get_or ends j 0 ≡ (candidate_at cs j).end
  some_end j l some = h.each j l ∙ ready_some (candidate_at cs j) some

  -- where the first end never comes, nothing is left
  pub none_ready : first.end ≡ never → None ≡ earliest cs
  none_ready far = earliest_is cs None (λ j l. elim (cases_lt 0 ((candidate_at cs j).remain)) [
    | inr none ↦ omega (arith, none)
    | inl some ↦ absurd (
        let at = some_end j l some in
        let near = h.near j l in
        let long = h.long in
        elim (f.first j (omega (arith, l, long)))
        [ inl less ↦ omega (arith, less, far, at, near) | inr same ↦ (let e = same.0 in omega (arith, e, far, at, near)) ])
  ])

  -- else it is that of the earliest
  pub first_ready : first.end ≢ never → Some first.index ≡ earliest cs
  first_ready near = earliest_is cs (Some first.index) (record {
    below = below;
    some = some;
    first = λ j l left. (
        let long = h.long in
        let at = some_end j l left in
        let own = some_end first.index below some in
        let here = f.here in
        elim (f.first j (omega (arith, l, long)))
        [ inl less ↦ inl (omega (arith, less, at, own, here)) | inr same ↦ (let e = same.0 in inr (omega (arith, e, at, own, here), same.1)) ]);
  })
    where
      below : first.index < length cs
      below = (let w = f.within in let long = h.long in omega (arith, w, long))

      some : 0 < (candidate_at cs first.index).remain
      some = elim (cases_lt 0 ((candidate_at cs first.index).remain)) [
        | inl l ↦ l
        | inr none ↦ absurd (near (sym f.here ∙ h.each first.index below ∙ ready_none (candidate_at cs first.index) (omega (arith, none))))
      ]
