-- The member of a pack that runs, and what is left of its due.
use Rattle.std.specs.Prelude.{ℕ, ◌+◌, ◌-◌, ◌*◌, ◌<◌, ◌≤◌, ◌≡◌, ◌≢◌, ◌⊎◌, ◌&&◌, not, Bool, true, false, List, []}
use Rattle.std.specs.Prelude.{filter, length, replicate, Option, Some, None}
use Rattle.std.specs.Prelude.{slice_set, slice_index, slice_index_or}
use Rattle.sched_base.specs.declared.candidates.Candidate.{Candidate}
use Rattle.std.specs.List.{range_with_len}
use Rattle.sched_base.specs.Candidates.{candidate_at, is_at}
use Rattle.sched_base.specs.Places.{is_held}
use Rattle.run_tree.specs.Tree.{Tree, IsPack, IsMember, kind_at, is_pack, home, place, rate, members, member}
use Rattle.run_tree.specs.Schedule.{packs_at}
use Rattle.cpu_assign.specs.Changed.{ChangeLists}
use Rattle.knockout.specs.Knockouts.{never}
use Rattle.edf_pick.specs.Ready.{ready_end, AreReady}
use Rattle.server_budget.specs.Dues.{DueContents}
use Rattle.tree_select.specs.Selected.{candidates}
use Rattle.tree_select.specs.Marked.{AreLed, IsServed, AreServed}

-- What is kept of packs, by their numbers: the ends of the members that have something left, the place of the member that
-- runs, the tick at which it has nothing left, and whether the pack is to be looked at; and of all nodes which of them run.
pub record ServingContents : Type 0 where
  pub ready : List (List ℕ)
  pub serves : List (Option ℕ)
  pub dry : List ℕ
  pub stale : List Bool
  pub runs : List Bool

-- these lists, together
abbrev pub lists : List (List ℕ) → List (Option ℕ) → List ℕ → List Bool → List Bool → ServingContents
lists ready serves dry stale runs = record { ready = ready; serves = serves; dry = dry; stale = stale; runs = runs }

-- stands for the tick at which a pack's member has nothing left where none runs
abbrev pub no_tick : ℕ
no_tick = 340282366920938463463374607431768211455

-- the tick at which the member at a place of pack p has nothing left, where there is one, and it runs
abbrev pub dry_by : Tree → DueContents → ℕ → Option ℕ → ℕ
dry_by t d p None = no_tick
dry_by t d p (Some k) = d.tick + slice_index d.remains (member t p k)

-- what each member has left fits
abbrev pub AreFitting : Tree → DueContents → Type 0
AreFitting t d = (x : ℕ) → IsMember t x → d.tick + slice_index d.remains x < no_tick

-- member k of pack p runs or rests, where there is such a place
abbrev pub with_place : Tree → ℕ → Option ℕ → Bool → List Bool → List Bool
with_place t p None on runs = runs
with_place t p (Some k) on runs = slice_set runs (member t p k) on

-- of pack p's members the one at this place alone runs; all other nodes as before
pub record IsOver (t : Tree) (p : ℕ) (next : Option ℕ) (before after : List Bool) : Type 0 where
  pub each : (k : ℕ) → k < length (members t p) → slice_index_or after (member t p k) false ≡ is_at next k
  pub others : (x : ℕ) → IsMember t x → home t x ≢ p → slice_index_or after x false ≡ slice_index_or before x false
  pub rest : (x : ℕ) → (IsMember t x → ⊥) → slice_index_or after x false ≡ slice_index_or before x false
  pub long : length after ≡ length before

-- each list that the core keeps has one entry for each node
pub record AreLong (t : Tree) (d : DueContents) (s : ServingContents) : Type 0 where
  pub dues : length d.runs ≡ length t.nodes
  pub ready : length s.ready ≡ length t.nodes
  pub serves : length s.serves ≡ length t.nodes
  pub stale : length s.stale ≡ length t.nodes
  pub runs : length s.runs ≡ length t.nodes

-- the place of each pack is that of its member that runs
pub record AreAt (t : Tree) (s : ServingContents) : Type 0 where
  pub within : (p j : ℕ) → IsPack t p → slice_index_or s.serves p None ≡ Some j → j < length (members t p)
  pub at : (p j : ℕ) → IsPack t p → j < length (members t p) → slice_index_or s.runs (member t p j) false ≡ is_at (slice_index_or s.serves p None) j

-- there is a tick for each node, and packs alone may run dry
pub record AreOfPacks (t : Tree) (dry : List ℕ) : Type 0 where
  pub long : length dry ≡ length t.nodes
  pub members : (x : ℕ) → IsMember t x → slice_index dry x ≡ no_tick

-- Of each pack, the knockout has the ends of its members that have something left, and the place is that of the one that runs;
-- the dues say the same of members as the list of all nodes; and each pack that isn't marked serves the one that it picks, and
-- the tick at which that one has nothing left is known.
pub record IsServing (t : Tree) (d : DueContents) (ends : List ℕ) (s : ServingContents) : Type 0 where
  pub picks : (p : ℕ) → IsPack t p → AreReady (candidates t d.remains ends p) (slice_index_or s.ready p [])
  pub within : (p j : ℕ) → IsPack t p → slice_index_or s.serves p None ≡ Some j → j < length (members t p)
  pub at : (p j : ℕ) → IsPack t p → j < length (members t p) → slice_index_or s.runs (member t p j) false ≡ is_at (slice_index_or s.serves p None) j
  pub agree : (x : ℕ) → IsMember t x → slice_index_or d.runs x false ≡ slice_index_or s.runs x false
  pub rest : (x : ℕ) → (IsMember t x → ⊥) → slice_index_or d.runs x false ≡ false
  pub ticks : AreOfPacks t s.dry
  pub told : (p : ℕ) → IsPack t p → slice_index_or s.stale p false ≡ false → slice_index s.dry p ≡ dry_by t d p (slice_index_or s.serves p None)
  pub led : AreLed t s.runs
  pub served : AreServed t d.remains ends s.stale s.runs

-- nothing is ready, no member runs, and all packs are to be looked at
pub record IsBlank (t : Tree) (s : ServingContents) : Type 0 where
  pub ready_long : length s.ready ≡ length t.nodes
  pub ready : (p : ℕ) → IsPack t p → slice_index_or s.ready p [] ≡ replicate (length (members t p)) never
  pub serves : s.serves ≡ replicate (length t.nodes) None
  pub dry : s.dry ≡ replicate (length t.nodes) no_tick
  pub stale : s.stale ≡ replicate (length t.nodes) true
  pub runs_long : length s.runs ≡ length t.nodes
  pub runs : (x : ℕ) → x < length t.nodes → slice_index_or s.runs x false ≡ is_pack (kind_at t x)

-- ---- what changes in level 0

-- of pack p alone a mark went away, and the packs that aren't marked run as before
pub record AreUnchanged (t : Tree) (p : ℕ) (stale runs stale' runs' : List Bool) : Type 0 where
  pub unmarked : (q : ℕ) → IsPack t q → q ≢ p → slice_index_or stale' q false ≡ false → slice_index_or stale q false ≡ false
  pub unchanged : (q : ℕ) → IsPack t q → slice_index_or stale' q false ≡ false → slice_index_or runs' q false ≡ slice_index_or runs q false
  pub long : length stale' ≡ length stale

-- whether pack i of level 0 runs by this list
abbrev pub first_runs : Tree → List Bool → ℕ → Bool
first_runs t runs i = slice_index_or runs (slice_index (packs_at t 0) i) false

-- pack i of level 0 is on a processor where it runs, unless it is marked
abbrev pub IsSettled : Tree → List (Option ℕ) → List Bool → List Bool → ℕ → Type 0
IsSettled t onto stale runs i = slice_index_or stale (slice_index (packs_at t 0) i) false ≡ false → is_held onto i ≡ first_runs t runs i

-- each unmarked pack of level 0 from number n on is on a processor exactly where it runs
abbrev pub AreSettledFrom : Tree → List (Option ℕ) → List Bool → List Bool → ℕ → Type 0
AreSettledFrom t onto stale runs n = (i : ℕ) → n ≤ i → i < length (packs_at t 0) → IsSettled t onto stale runs i

-- the place of the member of pack i of level 0 that runs
abbrev pub first_served : Tree → List (Option ℕ) → ℕ → Option ℕ
first_served t serves i = slice_index_or serves (slice_index (packs_at t 0) i) None

-- pack i is one of these
abbrev pub IsAmong : List ℕ → ℕ → Type 0
IsAmong packs i = (k : ℕ) × (k < length packs) × (slice_index packs k ≡ i)

-- Some packs of level 0 were looked at. In all others the same member runs as before, and those that stop or begin are among them.
pub record AreSeen (t : Tree) (before after : List (Option ℕ)) (changes : ChangeLists) : Type 0 where
  pub within : (k : ℕ) → k < length changes.seen → slice_index changes.seen k < length (packs_at t 0)
  pub same : (i : ℕ) → i < length (packs_at t 0) → (IsAmong changes.seen i → ⊥) → first_served t after i ≡ first_served t before i
  pub stops : (k : ℕ) → k < length changes.stopped → IsAmong changes.seen (slice_index changes.stopped k)
  pub begins : (k : ℕ) → k < length changes.begun → IsAmong changes.seen (slice_index changes.begun k)

-- the packs of level 0 below number n that are on processors and run no more, in order
abbrev pub stops_below : Tree → List (Option ℕ) → List Bool → ℕ → List ℕ
stops_below t onto runs n = filter (λ i. not (first_runs t runs i) && is_held onto i) (range_with_len 0 n)

-- those that run and are on none
abbrev pub begins_below : Tree → List (Option ℕ) → List Bool → ℕ → List ℕ
begins_below t onto runs n = filter (λ i. first_runs t runs i && not (is_held onto i)) (range_with_len 0 n)

-- ---- the end of a round

-- the least of `most` and of the ticks at which packs run dry
pub record IsSoonest (t : Tree) (dry : List ℕ) (most least : ℕ) : Type 0 where
  pub below : least ≤ most
  pub all : (p : ℕ) → IsPack t p → least ≤ slice_index dry p
  pub one : (least ≡ most) ⊎ ((p : ℕ) × IsPack t p × (least ≡ slice_index dry p))

-- ---- what ran dry

-- the ends are those of the candidates that have something left, but for the one at this place
pub record AreReadyBut (cs : List Candidate) (ends : List ℕ) (o : Option ℕ) : Type 0 where
  pub long : length ends ≡ length cs
  pub each : (k : ℕ) → k < length cs → o ≢ Some k → slice_index ends k ≡ ready_end (candidate_at cs k)
  pub near : (k : ℕ) → k < length cs → (candidate_at cs k).end < never

-- At this tick some members ran dry that their packs still serve. Of the packs that are done such members' ends are taken away, and
-- the packs are marked; the rest is as where packs serve.
pub record IsDrying (t : Tree) (d : DueContents) (ends : List ℕ) (s : ServingContents) (done : ℕ → Type 0) : Type 0 where
  pub early : d.tick < no_tick
  pub but : (p : ℕ) → IsPack t p → AreReadyBut (candidates t d.remains ends p) (slice_index_or s.ready p []) (slice_index_or s.serves p None)
  pub picks : (p : ℕ) → IsPack t p → (slice_index s.dry p ≡ d.tick → done p) →
      AreReady (candidates t d.remains ends p) (slice_index_or s.ready p [])
  pub within : (p j : ℕ) → IsPack t p → slice_index_or s.serves p None ≡ Some j → j < length (members t p)
  pub at : (p j : ℕ) → IsPack t p → j < length (members t p) → slice_index_or s.runs (member t p j) false ≡ is_at (slice_index_or s.serves p None) j
  pub agree : (x : ℕ) → IsMember t x → slice_index_or d.runs x false ≡ slice_index_or s.runs x false
  pub rest : (x : ℕ) → (IsMember t x → ⊥) → slice_index_or d.runs x false ≡ false
  pub ticks : AreOfPacks t s.dry
  pub known : (p : ℕ) → IsPack t p → slice_index s.dry p ≡ dry_by t d p (slice_index_or s.serves p None)
  pub led : AreLed t s.runs
  pub served : (p : ℕ) → IsPack t p → (slice_index s.dry p ≡ d.tick → done p) → slice_index_or s.stale p false ≡ false →
      IsServed t d.remains ends s.runs p

-- the member that pack p serves has no end any more, and the pack is marked, where it runs dry at tick `now`
pub record IsDried (serves : List (Option ℕ)) (dry : List ℕ) (p now : ℕ) (ready ready' : List (List ℕ)) (stale stale' : List Bool) : Type 0 where
  pub out : (k : ℕ) → slice_index_or serves p None ≡ Some k → slice_index dry p ≡ now →
      (ready' ≡ slice_set ready p (slice_set (slice_index_or ready p []) k never)) × (stale' ≡ slice_set stale p true)
  pub kept : ((k : ℕ) → slice_index_or serves p None ≡ Some k → slice_index dry p ≡ now → ⊥) → (ready' ≡ ready) × (stale' ≡ stale)

-- ---- what begins

-- the due of the window of leaf or dual x
abbrev pub due_of : Tree → List ℕ → List ℕ → ℕ → ℕ
due_of t begins ends x = rate t x * (slice_index ends x - slice_index begins x)

-- The first n of these leaves and duals have the due of their windows, with the windows' ends, and their packs are marked. All
-- others are as before.
pub record AreBegun (t : Tree) (begins ends begun : List ℕ) (remains : List ℕ) (ready : List (List ℕ)) (stale : List Bool) (remains' : List ℕ)
    (ready' : List (List ℕ)) (stale' : List Bool) (n : ℕ) : Type 0 where
  pub same : length remains' ≡ length remains
  pub filled : (j x : ℕ) → j < n → slice_index begun j ≡ x → IsMember t x → slice_index remains' x ≡ due_of t begins ends x
  pub put : (j x : ℕ) → j < n → slice_index begun j ≡ x → IsMember t x →
      slice_index (slice_index_or ready' (home t x) []) (place t x) ≡ slice_index ends x
  pub marked : (j x : ℕ) → j < n → slice_index begun j ≡ x → IsMember t x → slice_index_or stale' (home t x) false ≡ true
  pub kept : (x : ℕ) → ((j : ℕ) → j < n → slice_index begun j ≢ x) → slice_index remains' x ≡ slice_index remains x
  pub kept_end : (x : ℕ) → IsMember t x → ((j : ℕ) → j < n → slice_index begun j ≢ x) →
      slice_index (slice_index_or ready' (home t x) []) (place t x) ≡ slice_index (slice_index_or ready (home t x) []) (place t x)
  pub long : (p : ℕ) → length (slice_index_or ready' p []) ≡ length (slice_index_or ready p [])
  pub unmarked : (p : ℕ) → slice_index_or stale' p false ≡ false → slice_index_or stale p false ≡ false
  pub as_many : length stale' ≡ length stale
