-- Gates and jobs that are made one after the other, until there is one for each processor and each task: for the invariants of the
-- loops that make them. That a box holds a job of this number is `read_made` at the list of what the function boxes, as in the program.
use Rattle.std.proofs.Common.{◌≡◌, ◌⊎◌, inl, inr, ℕ, zero, suc, ◌+◌, ◌<◌, ◌≤◌, List, [], ◌∷◌, ◌++◌, Option, Some, None, IfSome, option_map, length}
use Rattle.std.proofs.Common.{refl, sym, ◌∙◌, ap, subst, arith}
use Rattle.std.specs.Prelude.{slice_get}
use Rattle.std.proofs.lemmas.List.{map-append, length-append}
use Rattle.sched_base.specs.declared.rows.Row.{Row}
use Rattle.exec_lanes.specs.declared.kits.Kit.{Kit}
use Rattle.run_tool.specs.Executions.{GateSeen, JobSeen, Holds, gates_of, jobs_of, IsFreshCrew}
use Rattle.run_tool.proofs.CrewMade.{crew}
use Rattle.run_tool.specs.Ready.{AreFirstGates, AreFirstJobs}

get-push_before : {X : Type 0} (xs : List X) (x y : X) (i : ℕ) → slice_get xs i ≡ Some y → slice_get (xs ++ x ∷ []) i ≡ Some y
get-push_before [] x y i e = absurd (let h : ◌≡◌ {A = Option _} None (Some y) = e in cc)
get-push_before (z ∷ zs) x y zero e = e
get-push_before (z ∷ zs) x y (suc i) e = get-push_before zs x y i e

get-push_last : {X : Type 0} (xs : List X) (x : X) (i : ℕ) → length xs ≡ i → slice_get (xs ++ x ∷ []) i ≡ Some x
get-push_last [] x zero e = refl
get-push_last [] x (suc i) e = absurd (omega (arith, e))
get-push_last (z ∷ zs) x zero e = absurd (omega (arith, e))
get-push_last (z ∷ zs) x (suc i) e = get-push_last zs x i (omega (arith, e))

-- what is below the next number is below this one or is this one
below_next : (i n : ℕ) → i < n + 1 → (i < n) ⊎ (i ≡ n)
below_next zero zero within = inr refl
below_next zero (suc n) within = inl (omega arith)
below_next (suc i) zero within = absurd (omega (arith, within))
below_next (suc i) (suc n) within = elim (below_next i n (omega (arith, within))) [ inl a ↦ inl (omega (arith, a)) | inr e ↦ inr (ap suc e) ]

first_gates-more : (n : ℕ) (gates : List (Option GateSeen)) (g : GateSeen) → AreFirstGates n gates → IfSome g.ran (λ rows. rows ≡ [])
    → AreFirstGates (n + 1) (gates ++ Some g ∷ [])
first_gates-more n gates g first unrun = record {
  count = let l = length-append gates (Some g ∷ []) in let count = first.count in omega (arith, l, count);
  unrun = λ p within. elim (below_next p n within) [
    | inl below ↦
        let (h, at, none) = first.unrun p below in
        (h, get-push_before gates (Some g) (Some h) p at, none)
    | inr is ↦ (g, get-push_last gates (Some g) p (first.count ∙ sym is), unrun)
  ];
}

first_jobs-more : (n : ℕ) (jobs : List (Option JobSeen)) (j : JobSeen) → AreFirstJobs n jobs → j.id ≡ n → j.used ≡ 0
    → AreFirstJobs (n + 1) (jobs ++ Some j ∷ [])
first_jobs-more n jobs j first own unused = record {
  count = let l = length-append jobs (Some j ∷ []) in let count = first.count in omega (arith, l, count);
  unused = λ i within. elim (below_next i n within) [
    | inl below ↦
        let (k, at, same, none) = first.unused i below in
        (k, get-push_before jobs (Some j) (Some k) i at, same, none)
    | inr is ↦ (j, get-push_last jobs (Some j) i (first.count ∙ sym is), own ∙ sym is, unused)
  ];
}

module _ {G : Type 0} (ran : G → Option (List Row)) (faults : G → ℕ) where
  -- before the first gate
  pub no_gates : (kits : List (Kit G)) → kits ≡ [] → AreFirstGates 0 (gates_of ran faults kits)
  no_gates kits none =
      subst (λ kits. AreFirstGates 0 (gates_of ran faults kits)) (sym none) (record { count = refl; unrun = λ p within. absurd (omega (arith, within)) })

  -- one gate more, which has run nothing
  pub more_gates : (n : ℕ) (kits kits' : List (Kit G)) (gate : G) → AreFirstGates n (gates_of ran faults kits)
      → kits' ≡ kits ++ record { gate = Some gate } ∷ [] → IfSome (ran gate) (λ rows. rows ≡ [])
      → AreFirstGates (n + 1) (gates_of ran faults kits')
  more_gates n kits kits' gate first is unrun =
      subst (λ gates. AreFirstGates (n + 1) gates)
      (sym (ap (gates_of ran faults) is
      ∙ map-append (λ kit. option_map (λ g. record { ran = ran g; faults = faults g }) kit.gate) kits (record { gate = Some gate } ∷ [])))
      (first_gates-more n (gates_of ran faults kits) (record { ran = ran gate; faults = faults gate }) first unrun)

-- so many of 256 jobs have been made, and there is room for the others
pub record AreMade (n room : ℕ) (jobs : List (Option JobSeen)) : Type 0 where
  pub left : room + n ≡ 256
  pub first : AreFirstJobs n jobs

module _ {J : Type 0} (id used faults : J → ℕ) (made : J → Option (ℕ × List ℕ)) where
  no_jobs : (places : List (Option J)) → places ≡ [] → AreFirstJobs 0 (jobs_of id used faults made places)
  no_jobs places none =
      subst (λ places. AreFirstJobs 0 (jobs_of id used faults made places)) (sym none)
      (record { count = refl; unused = λ i within. absurd (omega (arith, within)) })

  more_jobs : (n : ℕ) (places places' : List (Option J)) (job : J) → AreFirstJobs n (jobs_of id used faults made places)
      → places' ≡ places ++ Some job ∷ [] → id job ≡ n → used job ≡ 0
      → AreFirstJobs (n + 1) (jobs_of id used faults made places')
  more_jobs n places places' job first is own unused =
      subst (λ jobs. AreFirstJobs (n + 1) jobs)
      (sym (ap (jobs_of id used faults made) is
      ∙ map-append (λ place. option_map (λ j. record { id = id j; used = used j; faults = faults j; made = made j }) place) places (Some job ∷ [])))
      (first_jobs-more n (jobs_of id used faults made places) (record { id = id job; used = used job; faults = faults job; made = made job }) first own unused)

  -- before the first job
  pub no_jobs_made : (room : ℕ) (places : List (Option J)) → room ≡ 256 → places ≡ [] → AreMade 0 room (jobs_of id used faults made places)
  no_jobs_made room places all none = record { left = omega (arith, all); first = no_jobs places none }

  -- one job more, which has the next number and has worked no tick
  pub one_more_made : (n room room' : ℕ) (places places' : List (Option J)) (job : J) → AreMade n room (jobs_of id used faults made places)
      → room' + 1 ≡ room → places' ≡ places ++ Some job ∷ [] → id job ≡ n → used job ≡ 0
      → AreMade (n + 1) room' (jobs_of id used faults made places')
  one_more_made n room room' places places' job so_far less is own unused = record {
    left = let left = so_far.left in omega (arith, left, less);
    first = more_jobs n places places' job so_far.first is own unused;
  }

-- with the last gate and the last job all is ready
pub are_ready : {gates : List (Option GateSeen)} {jobs : List (Option JobSeen)} (n m : ℕ) → 32 ≤ n → 256 ≡ m → AreFirstGates n gates
    → AreFirstJobs m jobs → IsFreshCrew (crew gates jobs)
are_ready n m enough all g j = record {
  gates = λ p within. g.unrun p (omega (arith, within, enough));
  count = let count = j.count in omega (arith, count, all);
  jobs = λ i within. j.unused i (omega (arith, within, all));
}

-- ---- what a job is made of, and how often a gate failed

-- what is so of each job that is there is so with one more of which it is so
each-pushed : {X : Type 0} (P : X → Type 0) (xs : List (Option X)) (y : X) → ((i : ℕ) (x : X) → slice_get xs i ≡ Some (Some x) → P x) → P y
    → (i : ℕ) (x : X) → slice_get (xs ++ Some y ∷ []) i ≡ Some (Some x) → P x
each-pushed {X} P [] y each last zero x at =
    let is : ◌≡◌ {A = Option (Option X)} (Some (Some y)) (Some (Some x)) = at in
    let same : y ≡ x = cc in
    subst P same last
each-pushed {X} P [] y each last (suc i) x at = absurd (let bad : ◌≡◌ {A = Option (Option X)} None (Some (Some x)) = at in cc)
each-pushed P (z ∷ zs) y each last zero x at = each zero x at
each-pushed P (z ∷ zs) y each last (suc i) x at = each-pushed P zs y (λ i x at. each (suc i) x at) last i x at

-- each job that is there is made of this
abbrev pub AreMadeOf : Option (ℕ × List ℕ) → List (Option JobSeen) → Type 0
AreMadeOf what jobs = (i : ℕ) (j : JobSeen) → Holds jobs i j → j.made ≡ what

module _ {J : Type 0} (id used faults : J → ℕ) (made : J → Option (ℕ × List ℕ)) (what : Option (ℕ × List ℕ)) where
  -- before the first job
  pub none_made_of : (places : List (Option J)) → places ≡ [] → AreMadeOf what (jobs_of id used faults made places)
  none_made_of places none =
      subst (λ places. AreMadeOf what (jobs_of id used faults made places)) (sym none)
      (λ i j at. absurd (let bad : ◌≡◌ {A = Option (Option JobSeen)} None (Some (Some j)) = at in cc))

  -- one job more, which is made of it
  pub one_more_made_of : (places places' : List (Option J)) (job : J) → AreMadeOf what (jobs_of id used faults made places)
      → places' ≡ places ++ Some job ∷ [] → made job ≡ what → AreMadeOf what (jobs_of id used faults made places')
  one_more_made_of places places' job so_far is own =
      subst (λ jobs. AreMadeOf what jobs)
      (sym (ap (jobs_of id used faults made) is
      ∙ map-append (λ place. option_map (λ j. record { id = id j; used = used j; faults = faults j; made = made j }) place) places (Some job ∷ [])))
      (each-pushed (λ j. j.made ≡ what) (jobs_of id used faults made places) (record { id = id job; used = used job; faults = faults job; made = made job })
      so_far own)

in_kit : {G : Type 0} (ran : G → Option (List Row)) (gate : Option G) (g : GateSeen)
    → ◌≡◌ {A = Option (Option GateSeen)} (Some (option_map (λ gate. record { ran = ran gate; faults = 0 }) gate)) (Some (Some g)) → g.faults ≡ 0
in_kit ran None g at = absurd (let bad : ◌≡◌ {A = Option (Option GateSeen)} (Some None) (Some (Some g)) = at in cc)
in_kit ran (Some gate) g at =
    let seen : GateSeen = record { ran = ran gate; faults = 0 } in
    let is : ◌≡◌ {A = Option (Option GateSeen)} (Some (Some seen)) (Some (Some g)) = at in
    let same : seen ≡ g = cc in
    sym (ap (λ (x : GateSeen). x.faults) same)

-- gates whose count of faults stays 0 haven't failed
pub never_failed : {G : Type 0} (ran : G → Option (List Row)) (kits : List (Kit G)) (q : ℕ) (g : GateSeen) → Holds (gates_of ran (λ _. 0) kits) q g
    → g.faults ≡ 0
never_failed ran [] q g at = absurd (let bad : ◌≡◌ {A = Option (Option GateSeen)} None (Some (Some g)) = at in cc)
never_failed ran (kit ∷ kits) zero g at = in_kit ran kit.gate g at
never_failed ran (kit ∷ kits) (suc q) g at = never_failed ran kits q g at
