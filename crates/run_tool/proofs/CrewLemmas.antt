-- What a run does to kits and jobs, as the crew shows it.
use Rattle.std.proofs.Common.{◌≡◌, ◌⊎◌, inl, inr, ℕ, zero, suc, ◌≤◌, ◌<◌, List, [], ◌∷◌, ◌++◌, Option, Some, None, option_map, length, take, map}
use Rattle.std.proofs.Common.{refl, sym, ◌∙◌, ap, subst, arith, append-nil}
use Rattle.std.specs.Prelude.{slice_get}
use Rattle.std.proofs.lemmas.List.{take_all, get_or_past}
use Rattle.sched_base.specs.declared.rows.Row.{Row}
use Rattle.sched_base.specs.Tables.{lane_of}
use Rattle.sched_edges.specs.Gates.{grown}
use Rattle.sched_edges.specs.Jobs.{JobAt}
use Rattle.run_tree.specs.Plans.{PlanContents, IsPlan, rounds_of}
use Rattle.plan_rounds.specs.PlanRows.{plan_rows}
use Rattle.exec_book.specs.Jobs.{Made}
use Rattle.plan_rounds.proofs.RoundLemmas.{plan_table, plan_count, plan_lanes}
use Rattle.exec_lanes.specs.declared.causes.Cause.{Cause}
use Rattle.exec_lanes.specs.declared.causes.Cause.TheVariants as cause
use Rattle.exec_lanes.specs.declared.kits.Kit.{Kit}
use Rattle.exec_lanes.specs.Kits.{KitAt}
use Rattle.exec_lanes.specs.Lanes.{LaneContents, NoneFailed, AllAt, lane_in, unposted}
use Rattle.exec_workers.specs.Runs.{CountsGate, Ran}
use Rattle.run_tool.specs.Executions.{GateSeen, JobSeen, Crew, gates_of, jobs_of, Holds, AreBack}
use Rattle.run_tool.proofs.CrewMade.{crew}

slice_get-map : {A B : Type 0} (f : A → B) (xs : List A) (i : ℕ) → slice_get (map f xs) i ≡ option_map f (slice_get xs i)
slice_get-map f [] i = refl
slice_get-map f (x ∷ xs) zero = refl
slice_get-map f (x ∷ xs) (suc i) = slice_get-map f xs i

pub below_or : (q m : ℕ) → (q < m) ⊎ (m ≤ q)
below_or q zero = inr (omega arith)
below_or zero (suc m) = inl (omega arith)
below_or (suc q) (suc m) = elim (below_or q m) [ inl a ↦ inl (omega (arith, a)) | inr b ↦ inr (omega (arith, b)) ]

pub grown_none : (ran : Option (List Row)) → grown ran [] ≡ ran
grown_none None = refl
grown_none (Some rows) = ap Some (append-nil rows)

-- what is shown in a place is of what is in it
shown : {A B : Type 0} (f : A → B) (o : Option A) (b : B) → ◌≡◌ {A = Option (Option B)} (Some (option_map f o)) (Some (Some b))
    → (a : A) × (o ≡ Some a) × (f a ≡ b)
shown f None b e = absurd (let h : ◌≡◌ {A = Option _} None (Some b) = cc in cc)
shown f (Some a) b e = (a, refl, (let h : ◌≡◌ {A = Option _} (Some (f a)) (Some b) = cc in cc))

module _ {G : Type 0} (ran : G → Option (List Row)) (faults : G → ℕ) where
  abbrev pub seen_gate : G → GateSeen
  seen_gate gate = record { ran = ran gate; faults = faults gate }

  in_kit : (o : Option (Kit G)) (g : GateSeen)
      → option_map (λ kit. option_map (λ gate. record { ran = ran gate; faults = faults gate }) kit.gate) o ≡ Some (Some g)
      → (gate : G) × (o ≡ Some (record { gate = Some gate })) × (seen_gate gate ≡ g)
  in_kit None g e = absurd (let h : ◌≡◌ {A = Option (Option GateSeen)} None (Some (Some g)) = e in cc)
  in_kit (Some kit) g e =
      let (gate, is, same) = shown (λ (x : G). seen_gate x) kit.gate g e in
      (gate, (λ i. Some (record { gate = is i })), same)

  -- kits that hold the same show the same
  pub same_shown : (kits kits' : List (Kit G)) (q : ℕ) → slice_get kits' q ≡ slice_get kits q
      → slice_get (gates_of ran faults kits') q ≡ slice_get (gates_of ran faults kits) q
  same_shown kits kits' q same =
      slice_get-map (λ kit. option_map (λ gate. record { ran = ran gate; faults = faults gate }) kit.gate) kits' q
      ∙ ap (option_map (λ kit. option_map (λ gate. record { ran = ran gate; faults = faults gate }) kit.gate)) same
      ∙ sym (slice_get-map (λ kit. option_map (λ gate. record { ran = ran gate; faults = faults gate }) kit.gate) kits q)

  -- a gate that the crew shows is in its kit
  pub gate_in_kit : (kits : List (Kit G)) (q : ℕ) (g : GateSeen) → Holds (gates_of ran faults kits) q g → (gate : G) × KitAt kits q gate × (seen_gate gate ≡ g)
  gate_in_kit kits q g at =
      in_kit (slice_get kits q) g (sym (slice_get-map (λ kit. option_map (λ gate. record { ran = ran gate; faults = faults gate }) kit.gate) kits q) ∙ at)

  pub kit_shown : (kits : List (Kit G)) (q : ℕ) (gate : G) → KitAt kits q gate → Holds (gates_of ran faults kits) q (seen_gate gate)
  kit_shown kits q gate at =
      slice_get-map (λ kit. option_map (λ gate. record { ran = ran gate; faults = faults gate }) kit.gate) kits q
      ∙ ap (option_map (λ kit. option_map (λ gate. record { ran = ran gate; faults = faults gate }) kit.gate)) at

module _ {J : Type 0} (id used faults : J → ℕ) (made : J → Made) where
  abbrev pub seen_job : J → JobSeen
  seen_job job = record { id = id job; used = used job; faults = faults job; made = made job }

  in_place : (o : Option (Option J)) (j : JobSeen)
      → option_map (λ place. option_map (λ job. record { id = id job; used = used job; faults = faults job; made = made job }) place) o ≡ Some (Some j)
      → (job : J) × (o ≡ Some (Some job)) × (seen_job job ≡ j)
  in_place None j e = absurd (let h : ◌≡◌ {A = Option (Option JobSeen)} None (Some (Some j)) = e in cc)
  in_place (Some place) j e =
      let (job, is, same) = shown (λ (x : J). seen_job x) place j e in
      (job, ap Some is, same)

  -- a job that the crew shows is in its place
  pub job_in_place : (places : List (Option J)) (i : ℕ) (j : JobSeen) → Holds (jobs_of id used faults made places) i j
      → (job : J) × JobAt places i job × (seen_job job ≡ j)
  job_in_place places i j at =
      in_place (slice_get places i) j (sym (slice_get-map
      (λ place. option_map (λ job. record { id = id job; used = used job; faults = faults job; made = made job }) place) places i) ∙ at)

  pub place_shown : (places : List (Option J)) (i : ℕ) (job : J) → JobAt places i job → Holds (jobs_of id used faults made places) i (seen_job job)
  place_shown places i job at =
      slice_get-map (λ place. option_map (λ job. record { id = id job; used = used job; faults = faults job; made = made job }) place) places i
      ∙ ap (option_map (λ place. option_map (λ job. record { id = id job; used = used job; faults = faults job; made = made job }) place)) at

-- a gate's count never falls
later_gate : (c : Option Cause) (before now : ℕ) → CountsGate c before now → before ≤ now
later_gate None before now e = omega (arith, e)
later_gate (Some (cause.Gate r)) before now e = e.later
later_gate (Some (cause.Job r faults)) before now e = omega (arith, e)

module _ {G J : Type 0} (ran : G → Option (List Row)) (gate_faults : G → ℕ) (id used : J → ℕ) (made : J → Made) (job_faults : J → ℕ) (p : PlanContents)
    (window : ℕ)
    (kits kits' : List (Kit G)) (places places' : List (Option J)) (lanes : List LaneContents)
    (r : Ran ran gate_faults id used made job_faults p window kits kits' places places' lanes) where
  -- each gate is back in its kit, and each job in its place
  pub back_after : AreBack (crew (gates_of ran gate_faults kits) (jobs_of id used job_faults made places))
      (crew (gates_of ran gate_faults kits') (jobs_of id used job_faults made places'))
  back_after = record {
    gates = λ q g at.
        let (gate, there, same) = gate_in_kit ran gate_faults kits q g at in
        elim (below_or q p.tree.processors) [
          | inl within ↦
              let (now, back, gr) = r.gates q gate within there in
              let later : gate_faults gate ≤ gate_faults now = later_gate (lane_in lanes q).cause (gate_faults gate) (gate_faults now) gr.count in
              (seen_gate ran gate_faults now, kit_shown ran gate_faults kits' q now back, subst (λ (x : GateSeen). x.faults ≤ gate_faults now) same later)
          | inr past ↦ (
            g,
            subst (λ (x : GateSeen). Holds (gates_of ran gate_faults kits') q x) same
                (kit_shown ran gate_faults kits' q gate (r.other_kits q past ∙ there)),
            omega arith,
          )
        ];
    jobs = λ i j at.
        let (job, there, same) = job_in_place id used job_faults made places i j at in
        elim (below_or i (length p.set.tasks)) [
          | inl within ↦
              let (now, back, jr) = r.jobs i job within there in (
                seen_job id used job_faults made now,
                place_shown id used job_faults made places' i now back,
                jr.own
                    ∙ ap (λ (x : JobSeen). x.id) same,
                subst (λ (x : JobSeen). x.faults ≤ job_faults now) same jr.later,
              )
          | inr past ↦ (
            j,
            subst (λ (x : JobSeen). Holds (jobs_of id used job_faults made places') i x) same
                (place_shown id used job_faults made places' i job (r.other_jobs i past ∙ there)),
            refl,
            omega arith,
          )
        ];
  }

  module _ (h : IsPlan p) (none : NoneFailed lanes) (at_end : AllAt (rounds_of p) lanes) where
    -- where nothing failed, a lane's gate ran all rows of the lane
    all_of_lane : (q : ℕ) → q < p.tree.processors
        → take (lane_in lanes q).seat.posted (lane_of (plan_rows p) q) ++ unposted (lane_in lanes q).cause ≡ lane_of (plan_rows p) q
    all_of_lane q within =
        let width = r.width in
        let inside : q < length lanes = omega (arith, within, width) in
        let lanes_are = plan_lanes p h in
        let whole = (plan_table p h).whole q (omega (arith, within, lanes_are)) in
        let count = plan_count p h in
        (λ i. take (at_end q inside i) (lane_of (plan_rows p) q) ++ unposted (none q inside i))
        ∙ append-nil (take (rounds_of p) (lane_of (plan_rows p) q))
        ∙ take_all (rounds_of p) (lane_of (plan_rows p) q) (omega (arith, whole, count))

    -- a processor that the plan doesn't have has no rows
    no_lane_past : (q : ℕ) → p.tree.processors ≤ q → lane_of (plan_rows p) q ≡ []
    no_lane_past q past = let lanes_are = plan_lanes p h in get_or_past (plan_rows p) q [] (omega (arith, past, lanes_are))

    pub gates_ran_all : (q : ℕ) (g : GateSeen) → Holds (gates_of ran gate_faults kits) q g
        → Holds (gates_of ran gate_faults kits') q (record { ran = grown g.ran (lane_of (plan_rows p) q); faults = g.faults })
    gates_ran_all q g at =
        let (gate, there, same) = gate_in_kit ran gate_faults kits q g at in
        elim (below_or q p.tree.processors) [
          | inl within ↦
              let width = r.width in
              let inside : q < length lanes = omega (arith, within, width) in
              let (now, back, gr) = r.gates q gate within there in
              let list : ran now ≡ grown (ran gate) (lane_of (plan_rows p) q) = gr.list ∙ ap (grown (ran gate)) (all_of_lane q within) in
              let count : gate_faults now ≡ gate_faults gate =
              subst (λ (c : Option Cause). CountsGate c (gate_faults gate) (gate_faults now)) (none q inside) gr.count in
              subst (λ (x : GateSeen). Holds (gates_of ran gate_faults kits') q
              (record { ran = grown x.ran (lane_of (plan_rows p) q); faults = x.faults })) same
              (kit_shown ran gate_faults kits' q now back ∙ (λ i. Some (Some (record { ran = list i; faults = count i }))))
          | inr past ↦
              let unrun : g.ran ≡ grown g.ran (lane_of (plan_rows p) q) = sym (ap (grown g.ran) (no_lane_past q past) ∙ grown_none g.ran) in
              subst (λ (x : GateSeen). Holds (gates_of ran gate_faults kits') q x) same (kit_shown ran gate_faults kits' q gate (r.other_kits q past ∙ there))
              ∙ (λ i. Some (Some (record { ran = unrun i; faults = g.faults })))
        ]

-- kits and places that are as before are back
pub back_kept : {G J : Type 0} (ran : G → Option (List Row)) (gate_faults : G → ℕ) (id used : J → ℕ) (made : J → Made) (job_faults : J → ℕ)
    (kits kits' : List (Kit G))
    (places places' : List (Option J)) → (kits' ≡ kits) × (places' ≡ places)
    → AreBack (crew (gates_of ran gate_faults kits) (jobs_of id used job_faults made places))
    (crew (gates_of ran gate_faults kits') (jobs_of id used job_faults made places'))
back_kept ran gate_faults id used made job_faults kits kits' places places' same =
    subst (λ (c : Crew). AreBack (crew (gates_of ran gate_faults kits) (jobs_of id used job_faults made places)) c)
    (λ i. crew (gates_of ran gate_faults (sym same.0 i)) (jobs_of id used job_faults made (sym same.1 i)))
    (record { gates = λ p g at. (g, at, omega arith); jobs = λ i j at. (j, at, refl, omega arith) })
