-- Jobs that are lifted out of their places, loaded, and laid back.
use Rattle.std.proofs.Common.{ℕ, zero, suc, ◌+◌, ◌<◌, ◌≤◌, ◌≡◌, ◌≢◌, List, [], ◌∷◌, length, get_or, set, take, Option, Some, None, Result, Ok, Err}
use Rattle.std.proofs.Common.{OnOk, OnErr, option_map, option_and_then, sym, refl, ap, ◌∙◌, subst, arith, inl, inr, add-one}
use Rattle.std.specs.Prelude.{slice_get, slice_set}
use Rattle.std.proofs.lemmas.Bool.{cases_eq}
use Rattle.std.proofs.lemmas.List.{set-set, map-set, set-get_or}
use Rattle.std.proofs.lemmas.Option.{slice_get_within, get_or_from_slice_get}
use Rattle.std.proofs.Math.Seq.{map-set_same}
use Rattle.sched_base.specs.declared.sets.Task.{Task}
use Rattle.sched_edges.specs.declared.jobs.Job.{Ghosts as JobTells}
use Rattle.sched_edges.specs.Jobs.{JobAt, JobPlaces, reloaded}
use Rattle.job_vm.specs.Programs.{Program}
use Rattle.job_vm.specs.Seen.{JobSeen, job_seen, seen}
use Rattle.job_vm.specs.Loading.{code_of, anew, loaded}
use Rattle.job_vm.specs.Results.{Told, told_of, told_at}

pub at_set_same : {X : Type 0} (xs : List X) (i : ℕ) (x : X) → i < length xs → slice_get (set xs i x) i ≡ Some x
at_set_same [] i x within = absurd (omega arith)
at_set_same (y ∷ xs) zero x within = refl
at_set_same (y ∷ xs) (suc i) x within = at_set_same xs i x (omega arith)

pub at_set_other : {X : Type 0} (xs : List X) (i j : ℕ) (x : X) → j ≢ i → slice_get (set xs i x) j ≡ slice_get xs j
at_set_other [] i j x other = refl
at_set_other (y ∷ xs) zero zero x other = absurd (other refl)
at_set_other (y ∷ xs) zero (suc j) x other = refl
at_set_other (y ∷ xs) (suc i) zero x other = refl
at_set_other (y ∷ xs) (suc i) (suc j) x other = at_set_other xs i j x (λ same. other (ap suc same))

-- what stands in a place, written there again
pub set_again : {X : Type 0} (xs : List X) (i : ℕ) (x : X) → slice_get xs i ≡ Some x → set xs i x ≡ xs
set_again xs i x at = ap (set xs i) (sym (get_or_from_slice_get xs i x x at)) ∙ set-get_or xs i x

-- a job that is lifted, and laid back as it was
pub put_back : {J : Type 0} (s t u : JobPlaces J) (i : ℕ) (job : J) → JobAt s.places i job → t ≡ record s { places = slice_set s.places i None }
    → u ≡ record t { places = slice_set t.places i (Some job) } → u ≡ s
put_back s t u i job at lifted laid =
    laid ∙ (ap (λ (v : JobPlaces _). record v { places = slice_set v.places i (Some job) }) lifted
    ∙ ap (λ ps. record s { places = ps }) (set-set s.places i None (Some job) ∙ set_again s.places i (Some job) at))

-- the places once a job was lifted, and another one laid there
pub put_new : {J : Type 0} (s t u : JobPlaces J) (i : ℕ) (job : J) → t ≡ record s { places = slice_set s.places i None }
    → u ≡ record t { places = slice_set t.places i (Some job) } → u ≡ record s { places = set s.places i (Some job) }
put_new s t u i job lifted laid =
    laid ∙ (ap (λ (v : JobPlaces _). record v { places = slice_set v.places i (Some job) }) lifted
    ∙ ap (λ ps. record s { places = ps }) (set-set s.places i None (Some job)))

-- what the places tell once another job stands in one of them
seen_put : {J : Type 0} (tells : JobTells J) (places : List (Option J)) (i : ℕ) (job : J)
    → seen tells (set places i (Some job)) ≡ set (seen tells places) i (Some (job_seen tells.id tells.used tells.faults tells.made job))
seen_put tells places i job = map-set (option_map (job_seen tells.id tells.used tells.faults tells.made)) places i (Some job)

-- what a load leaves a job with
pub record AfterLoad {J E : Type 0} (tells : JobTells J) (scale : ℕ) (code : List ℕ) (old new : J) (result : Result (Unit {0}) E) : Type 0 where
  pub id : tells.id new ≡ tells.id old
  pub faults : tells.faults new ≡ tells.faults old
  pub used : OnOk result (tells.used new ≡ 0)
  pub made : OnOk result (tells.made new ≡ reloaded (tells.made old) scale code)
  pub left_used : OnErr result (tells.used new ≡ tells.used old)
  pub left_made : OnErr result (tells.made new ≡ tells.made old)

pub loaded_place : {J E : Type 0} (tells : JobTells J) (scale : ℕ) (code : List ℕ) (places : List (Option J)) (i : ℕ) (old new : J)
    (result : Result (Unit {0}) E)
    → JobAt places i old → AfterLoad tells scale code old new result
    → OnOk result ((job : J) → JobAt places i job → seen tells (set places i (Some new))
    ≡ slice_set (seen tells places) i (Some (anew scale code (job_seen tells.id tells.used tells.faults tells.made job))))
loaded_place tells scale code places i old new (Err e) at after = tt
loaded_place tells scale code places i old new (Ok v) at after = λ job there.
    let both : Some (Some old) ≡ Some (Some job) = sym at ∙ there in
    let same : old ≡ job = cc in
    let id : tells.id new ≡ tells.id job = after.id ∙ ap tells.id same in
    let faults : tells.faults new ≡ tells.faults job = after.faults ∙ ap tells.faults same in
    let used : tells.used new ≡ 0 = after.used in
    let made : tells.made new ≡ reloaded (tells.made job) scale code = after.made ∙ ap (λ j. reloaded (tells.made j) scale code) same in
    let is : job_seen tells.id tells.used tells.faults tells.made new ≡ anew scale code (job_seen tells.id tells.used tells.faults tells.made job) =
    rw (id, used, faults, made) refl in
    seen_put tells places i new ∙ ap (λ s. set (seen tells places) i (Some s)) is

pub left_place : {J E : Type 0} (tells : JobTells J) (scale : ℕ) (code : List ℕ) (places : List (Option J)) (i : ℕ) (old new : J) (result : Result (Unit {0}) E)
    → JobAt places i old → AfterLoad tells scale code old new result → OnErr result (seen tells (set places i (Some new)) ≡ seen tells places)
left_place tells scale code places i old new (Ok v) at after = tt
left_place tells scale code places i old new (Err e) at after =
    let id : tells.id new ≡ tells.id old = after.id in
    let faults : tells.faults new ≡ tells.faults old = after.faults in
    let used : tells.used new ≡ tells.used old = after.left_used in
    let made : tells.made new ≡ tells.made old = after.left_made in
    let is : job_seen tells.id tells.used tells.faults tells.made new ≡ job_seen tells.id tells.used tells.faults tells.made old =
    rw (id, used, faults, made) refl in
    let here : get_or places i None ≡ Some old = get_or_from_slice_get places i (Some old) None at in
    map-set_same (option_map (job_seen tells.id tells.used tells.faults tells.made)) places i (Some new) None
    (ap Some is ∙ ap (option_map (job_seen tells.id tells.used tells.faults tells.made)) (sym here))

-- a place that was filled stays so where a job is laid somewhere
pub still_filled : {J : Type 0} (places : List (Option J)) (i : ℕ) (old new : J) → JobAt places i old → (k : ℕ) (job : J) → JobAt places k job
    → (now : J) × JobAt (set places i (Some new)) k now
still_filled places i old new at k job there = elim (cases_eq k i) [
  | inl same ↦ (
    new,
    subst (λ n. slice_get (set places i (Some new)) n ≡ Some (Some new)) (sym same) (at_set_same places i (Some new)
        (slice_get_within places i (Some old) at)),
  )
  | inr other ↦ (job, at_set_other places i k (Some new) other ∙ there)
]

-- a job of no task stays
pub loaded_past : (scale : ℕ) (programs : List Program) (tasks : List Task) (jobs : List (Option JobSeen)) (i : ℕ) → length tasks ≤ i
    → slice_get (loaded scale programs tasks jobs) i ≡ slice_get jobs i
loaded_past scale programs [] jobs i past = refl
loaded_past scale programs (t ∷ tasks) [] i past = refl
loaded_past scale programs (t ∷ tasks) (job ∷ jobs) zero past = absurd (omega (arith, past))
loaded_past scale programs (t ∷ tasks) (job ∷ jobs) (suc i) past = loaded_past scale programs tasks jobs i (omega arith)

-- one task more
loaded_next : (scale : ℕ) (programs : List Program) (tasks : List Task) (jobs : List (Option JobSeen)) (i : ℕ) (t : Task) (job : JobSeen) →
    i < length tasks → t ≡ get_or tasks i t
    → slice_get (loaded scale programs (take i tasks) jobs) i ≡ Some (Some job)
    → set (loaded scale programs (take i tasks) jobs) i (Some (anew scale (code_of programs t.name) job)) ≡ loaded scale programs (take (suc i) tasks) jobs
loaded_next scale programs [] jobs i t job within at there = absurd (omega arith)
loaded_next scale programs (u ∷ tasks) [] zero t job within at there = absurd (cc)
loaded_next scale programs (u ∷ tasks) [] (suc i) t job within at there = absurd (cc)
loaded_next scale programs (u ∷ tasks) (place ∷ jobs) zero t job within at there =
    let same : place ≡ Some job = cc in
    rw (same, at) refl
loaded_next scale programs (u ∷ tasks) (place ∷ jobs) (suc i) t job within at there =
    ap (λ rest. option_map (anew scale (code_of programs u.name)) place ∷ rest) (loaded_next scale programs tasks jobs i t job (omega arith) at there)

-- what a filled place tells
pub seen_at : {J : Type 0} (tells : JobTells J) (places : List (Option J)) (i : ℕ) (job : J) → JobAt places i job
    → slice_get (seen tells places) i ≡ Some (Some (job_seen tells.id tells.used tells.faults tells.made job))
seen_at tells [] i job at = absurd (cc)
seen_at tells (place ∷ places) zero job at =
    let same : place ≡ Some job = cc in
    ap (λ (p : Option _). Some (option_map (job_seen tells.id tells.used tells.faults tells.made) p)) same
seen_at tells (place ∷ places) (suc i) job at = seen_at tells places i job at

-- the programs of the tasks before i are loaded, and then that of task i
pub loaded_more : {J : Type 0} (tells : JobTells J) (scale : ℕ) (programs : List Program) (tasks : List Task) (start now next : List (Option J)) (i : ℕ)
    (t : Task) (job : J) → i < length tasks → t ≡ get_or tasks i t
    → seen tells now ≡ loaded scale programs (take i tasks) (seen tells start) → JobAt now i job
    → seen tells next ≡ slice_set (seen tells now) i (Some (anew scale (code_of programs t.name) (job_seen tells.id tells.used tells.faults tells.made job)))
    → seen tells next ≡ loaded scale programs (take (i + 1) tasks) (seen tells start)
loaded_more tells scale programs tasks start now next i t job within at before there step =
    let here = sym (ap (λ s. slice_get s i) before) ∙ seen_at tells now i job there in
    let more = loaded_next scale programs tasks (seen tells start) i t (job_seen tells.id tells.used tells.faults tells.made job) within at here in
    step ∙ (ap (λ s. set s i (Some (anew scale (code_of programs t.name) (job_seen tells.id tells.used tells.faults tells.made job)))) before
    ∙ (more ∙ ap (λ n. loaded scale programs (take n tasks) (seen tells start)) (sym (add-one i))))

-- what is told of a job in its place
pub told_in_place : {J : Type 0} (tells : JobTells J) (scale : ℕ) (places : List (Option J)) (i : ℕ) (job : J) → JobAt places i job
    → told_at scale (seen tells places) i ≡ told_of scale (job_seen tells.id tells.used tells.faults tells.made job)
told_in_place tells scale places i job at =
    let told : Option (Option JobSeen) → Told = λ found. elim (option_and_then (λ (place : Option JobSeen). place) found) [
      | Some seen ↦ told_of scale seen
      | None ↦ record { units = 0; numbers = [] }
    ] in
    ap told (seen_at tells places i job at)

-- a place that a job was lifted out of
pub lifted_place : {J : Type 0} (s t : JobPlaces J) (i : ℕ) (job : J) → JobAt s.places i job → t ≡ record s { places = slice_set s.places i None } →
    slice_get t.places i ≡ Some None
lifted_place s t i job at lifted =
    ap (λ (v : JobPlaces _). slice_get v.places i) lifted ∙ at_set_same s.places i None (slice_get_within s.places i (Some job) at)
