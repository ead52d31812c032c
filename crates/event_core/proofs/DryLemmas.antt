-- Ticks pass, and some members run dry.
use Rattle.std.proofs.Common.{◌≡◌, ◌≢◌, ℕ, ◌+◌, ◌-◌, ◌*◌, ◌<◌, ◌≤◌, ltb, Bool, true, false, List, [], length, get_or, Option, Some, None, refl, ap}
use Rattle.std.proofs.Common.{arith, inl, inr, sym, subst, ◌∙◌, eq-eqb, get_or-set_same, get_or-set_other}
use Rattle.std.proofs.lemmas.Bool.{cases_eq, cases_lt, cases_Bool, both_ways, lt-ltb}
use Rattle.std.proofs.lemmas.List.{length-map, length-set, get_or-map}
use Rattle.std.proofs.Math.ListN.{set}
use Rattle.sched_base.specs.Counting.{bit}
use Rattle.sched_base.specs.declared.candidates.Candidate.{Candidate}
use Rattle.sched_base.specs.Candidates.{candidate_at, is_at}
use Rattle.sched_base.proofs.CountingLemmas.{bit_at, bit_off}
use Rattle.run_tree.specs.Tree.{Tree, IsTree, IsPack, IsMember, kind_at, is_pack, members, member}
use Rattle.knockout.specs.Knockouts.{never}
use Rattle.edf_pick.specs.Ready.{ready_end, AreReady}
use Rattle.edf_pick.proofs.ReadyLemmas.{ready_none}
use Rattle.server_budget.specs.Dues.{DueContents}
use Rattle.tree_select.specs.Selected.{candidates}
use Rattle.tree_select.specs.Marked.{AreFreshFrom}
use Rattle.tree_select.proofs.ServedLemmas.{still_served}
use Rattle.event_core.specs.Serving.{ServingContents, no_tick, dry_by, IsServing, AreReadyBut, IsDrying, IsDried}
use Rattle.event_core.proofs.EndLemmas.{at_is, dry_known}

same_place : (a b : ℕ) → Some a ≡ Some b → a ≡ b
same_place a b e = cc

-- a member as a candidate
pub candidate_is : (t : Tree) (remains ends : List ℕ) (p k : ℕ) → k < length (members t p) → candidate_at (candidates t remains ends p)
    k ≡ (let c : Candidate = record { end = get_or ends (member t p k) 0; remain = get_or remains (member t p k) 0 } in c)
candidate_is t remains ends p k l = get_or-map (λ (m : ℕ). let c : Candidate = record { end = get_or ends m 0; remain = get_or remains m 0 } in c)
    (members t p) k 0 _ l

pub candidates_long : (t : Tree) (remains ends : List ℕ) (p : ℕ) → length (candidates t remains ends p) ≡ length (members t p)
candidates_long t remains ends p = length-map (members t p) (λ (m : ℕ). let c : Candidate = record { end = get_or ends m 0; remain = get_or remains m 0 } in c)

-- whether something is left, of two numbers that are both positive
some_left : (a b : ℕ) → 0 < a → 0 < b → ltb 0 a ≡ ltb 0 b
some_left a b l m = lt-ltb 0 a l ∙ sym (lt-ltb 0 b m)

-- the end of a candidate stays where its end does, and something is left before and after
same_ready : (c c' : Candidate) → c.end ≡ c'.end → ltb 0 c.remain ≡ ltb 0 c'.remain → ready_end c ≡ ready_end c'
same_ready c c' e s = ap (λ (b : Bool). elim b as (λ z. ℕ) [ true ↦ c.end | false ↦ never ]) s ∙ ap (λ (n : ℕ). elim (ltb 0 c'.remain) as (λ z. ℕ)
    [ true ↦ n | false ↦ never ]) e

-- where all packs are looked at, ticks pass that each member has left that runs
module _ (t : Tree) (h : IsTree t) (d d' : DueContents) (ends : List ℕ) (s : ServingContents) (k : ℕ) (v : IsServing t d ends s) (fresh : AreFreshFrom t
    s.stale 0)
    (tick : d'.tick ≡ d.tick + k) (early : d'.tick < no_tick) (same : d'.runs ≡ d.runs) (enough : (x : ℕ) → IsMember t x → get_or d.runs x false ≡ true →
    k ≤ get_or d.remains x 0)
    (spent : (x : ℕ) → IsMember t x → get_or d'.remains x 0 ≡ get_or d.remains x 0 - bit (get_or d.runs x false) * k) where
  -- who runs by the dues
  run_at : (p j : ℕ) → IsPack t p → j < length (members t p) → get_or d.runs (member t p j) false ≡ is_at (get_or s.serves p None) j
  run_at p j i l = v.agree (member t p j) (h.members_are p j i l).0 ∙ v.at p j i l

  resting : (p j : ℕ) → IsPack t p → j < length (members t p) → is_at (get_or s.serves p None) j ≡ false → get_or d'.remains (member t p j) 0 ≡ get_or
      d.remains (member t p j) 0
  resting p j i l off = (let e = spent (member t p j) (h.members_are p j i l).0 in let b = ap (λ n. n * k) (bit_off (get_or d.runs (member t p j) false)
      (run_at p j i l ∙ off)) in omega (arith, e, b))

  running : (p j : ℕ) → IsPack t p → j < length (members t p) → is_at (get_or s.serves p None) j ≡ true → (get_or d'.remains (member t p j) 0 ≡ get_or
      d.remains (member t p j) 0 - k) × (k ≤ get_or d.remains (member t p j) 0)
  running p j i l on = (let m = (h.members_are p j i l).0 in let e = spent (member t p j) m in let b = ap (λ n. n * k)
      (bit_at (get_or d.runs (member t p j) false) (run_at p j i l ∙ on)) in (omega (arith, e, b), enough (member t p j) m (run_at p j i l ∙ on)))

  -- the tick at which a member runs dry stays
  dry_stays : (p : ℕ) → IsPack t p → (o : Option ℕ) → get_or s.serves p None ≡ o → dry_by t d p o ≡ dry_by t d' p o
  dry_stays p i None e = refl
  dry_stays p i (Some j) e =
      let l = v.within p j i e in
      let r = running p j i l (ap (λ o. is_at o j) e ∙ at_self j) in
      let a = r.0 in let b = r.1 in
      omega (arith, a, b, tick)
    where
      at_self : (j : ℕ) → is_at (Some j) j ≡ true
      at_self j = eq-eqb j j refl

  known : (p : ℕ) → IsPack t p → get_or s.dry p 0 ≡ dry_by t d' p (get_or s.serves p None)
  known p i = dry_known t h d ends s v fresh p i ∙ dry_stays p i (get_or s.serves p None) refl

  -- of a pack that doesn't run dry, each member has something left where it had before
  left_same : (p j : ℕ) → IsPack t p → j < length (members t p) → (get_or s.dry p 0 ≡ d'.tick → ⊥) → ltb 0 (get_or d.remains (member t p j) 0) ≡ ltb 0
      (get_or d'.remains (member t p j) 0)
  left_same p j i l wet = elim (cases_Bool (is_at (get_or s.serves p None) j)) [
    | inr off ↦ ap (ltb 0) (sym (resting p j i l off))
    | inl on ↦
        (let r = running p j i l on in
        let a = r.0 in let b = r.1 in
        let dry = known p i ∙ ap (dry_by t d' p) (at_is (get_or s.serves p None) j on) in
        elim (cases_eq (get_or d'.remains (member t p j) 0) 0) [
          | inl none ↦ absurd (wet (omega (arith, dry, none)))
          | inr some ↦ some_left (get_or d.remains (member t p j) 0) (get_or d'.remains (member t p j) 0) (omega (arith, a, b, some)) (omega (arith, some))
        ])
  ]

  ready_same : (p j : ℕ) → IsPack t p → j < length (members t p) → ltb 0 (get_or d.remains (member t p j) 0) ≡ ltb 0 (get_or d'.remains (member t p j) 0) →
      ready_end (candidate_at (candidates t d.remains ends p) j) ≡ ready_end (candidate_at (candidates t d'.remains ends p) j)
  ready_same p j i l e =
      ap ready_end (candidate_is t d.remains ends p j l)
      ∙ same_ready (record { end = get_or ends (member t p j) 0; remain = get_or d.remains (member t p j) 0 })
      (record { end = get_or ends (member t p j) 0; remain = get_or d'.remains (member t p j) 0 }) refl e
      ∙ ap ready_end (sym (candidate_is t d'.remains ends p j l))

  long_same : (p : ℕ) → length (candidates t d.remains ends p) ≡ length (candidates t d'.remains ends p)
  long_same p = candidates_long t d.remains ends p ∙ sym (candidates_long t d'.remains ends p)

  within_members : (p j : ℕ) → j < length (candidates t d'.remains ends p) → j < length (members t p)
  within_members p j l = (let e = candidates_long t d'.remains ends p in omega (arith, e, l))

  near_same : (p j : ℕ) → IsPack t p → j < length (candidates t d'.remains ends p) → (candidate_at (candidates t d'.remains ends p) j).end < never
  near_same p j i l =
      let m = within_members p j l in
      let n = (v.picks p i).near j (let e = long_same p in omega (arith, e, l)) in
      let a = ap (λ (c : Candidate). c.end) (candidate_is t d.remains ends p j m) in
      let b = ap (λ (c : Candidate). c.end) (candidate_is t d'.remains ends p j m) in
      omega (arith, n, a, b)

  pub passed : IsDrying t d' ends s (λ q. ⊥)
  passed = record {
    early = early;
    but = λ p i. record {
      long = (v.picks p i).long ∙ long_same p;
      each = λ j l other. (let m = within_members p j l in
          (v.picks p i).each j (let e = long_same p in omega (arith, e, l)) ∙ ready_same p j i m (ap (ltb 0) (sym (resting p j i m (not_at p j other)))));
      near = λ j l. near_same p j i l;
    };
    picks = λ p i wet. record {
      long = (v.picks p i).long ∙ long_same p;
      each = λ j l. (let m = within_members p j l in (v.picks p i).each j (let e = long_same p in omega (arith, e, l)) ∙ ready_same p j i m
          (left_same p j i m wet));
      near = λ j l. near_same p j i l;
    };
    within = v.within;
    at = v.at;
    agree = λ x i. ap (λ (rs : List Bool). get_or rs x false) same ∙ v.agree x i;
    rest = λ x none. ap (λ (rs : List Bool). get_or rs x false) same ∙ v.rest x none;
    ticks = v.ticks;
    known = known;
    led = v.led;
    served = λ p i wet off. still_served t h d.remains ends d'.remains ends s.runs p (λ j l. refl) (λ j l. left_same p j i l wet) (v.served p i off);
  }
    where
      not_at : (p j : ℕ) → (get_or s.serves p None ≢ Some j) → is_at (get_or s.serves p None) j ≡ false
      not_at p j other = elim (cases_Bool (is_at (get_or s.serves p None) j)) [ inl on ↦ absurd (other (at_is (get_or s.serves p None) j on)) | inr off ↦ off ]

-- ---- the walk

-- more packs are done only in name
pub drying_wide : (t : Tree) (d : DueContents) (ends : List ℕ) (s : ServingContents) (done done' : ℕ → Type 0) → ((q : ℕ) → IsPack t q → done' q → done q) →
    IsDrying t d ends s done → IsDrying t d ends s done'
drying_wide t d ends s done done' less v = record {
  early = v.early;
  but = v.but;
  picks = λ p i wet. v.picks p i (λ e. less p i (wet e));
  within = v.within;
  at = v.at;
  agree = v.agree;
  rest = v.rest;
  ticks = v.ticks;
  known = v.known;
  led = v.led;
  served = λ p i wet off. v.served p i (λ e. less p i (wet e)) off;
}

-- packs at places where none runs dry at this tick are done as they are
pub drying_skip : (t : Tree) (d : DueContents) (ends : List ℕ) (s : ServingContents) (number : List ℕ) (n m now : ℕ) → now ≡ d.tick →
    ((q : ℕ) → q < length s.dry → n ≤ get_or number q 0 → get_or number q 0 < m → get_or s.dry q 0 ≢ now) →
    IsDrying t d ends s (λ q. get_or number q 0 < n) → IsDrying t d ends s (λ q. get_or number q 0 < m)
drying_skip t d ends s number n m now is_now wet v = record {
  early = v.early;
  but = v.but;
  picks = λ q i w. v.picks q i (λ e. less q i e (w e));
  within = v.within;
  at = v.at;
  agree = v.agree;
  rest = v.rest;
  ticks = v.ticks;
  known = v.known;
  led = v.led;
  served = λ q i w off. v.served q i (λ e. less q i e (w e)) off;
}
  where
    less : (q : ℕ) → IsPack t q → get_or s.dry q 0 ≡ d.tick → get_or number q 0 < m → get_or number q 0 < n
    less q i e high = elim (cases_lt (get_or number q 0) n) [
      | inl low ↦ low
      | inr past ↦ absurd (wet q (let l = i.0 in let long = v.ticks.long in omega (arith, l, long)) (omega (arith, past)) high (e ∙ sym is_now))
    ]

-- the place that a pack serves stands in its knockout
pub dry_within : (t : Tree) (d : DueContents) (ends : List ℕ) (s : ServingContents) (done : ℕ → Type 0) → IsDrying t d ends s done → (p j : ℕ) →
    IsPack t p → get_or s.serves p None ≡ Some j → j < length (get_or s.ready p [])
dry_within t d ends s done v p j i e = (let l = v.within p j i e in let m = (v.but p i).long in let n = candidates_long t d.remains ends p in
    omega (arith, l, m, n))

-- all are done where no other has a tick
pub all_dried : (t : Tree) (d : DueContents) (ends : List ℕ) (s : ServingContents) (done : ℕ → Type 0) → ((q : ℕ) → IsPack t q → get_or s.dry q 0 ≡ d.tick →
    done q) → IsDrying t d ends s done → IsServing t d ends s
all_dried t d ends s done all v = record {
  picks = λ p i. v.picks p i (all p i);
  within = v.within;
  at = v.at;
  agree = v.agree;
  rest = v.rest;
  ticks = v.ticks;
  told = λ p i off. v.known p i;
  led = v.led;
  served = λ p i off. v.served p i (all p i) off;
}

-- a node that has a tick is a pack
pub dry_is_pack : (t : Tree) (d : DueContents) (ends : List ℕ) (s : ServingContents) (done : ℕ → Type 0) → IsDrying t d ends s done → (x : ℕ) →
    x < length s.dry → get_or s.dry x 0 ≡ d.tick → IsPack t x
dry_is_pack t d ends s done v x l e =
    let long = v.ticks.long in
    let within : x < length t.nodes = omega (arith, l, long) in
    elim (cases_Bool (is_pack (kind_at t x))) [
      | inl pack ↦ (within, pack)
      | inr member ↦ absurd (let far = v.ticks.members x (within, member) in let early = v.early in omega (arith, far, early, e))
    ]

-- what a pack's step does, by whether there is a member
pub dried_is : (serves : List (Option ℕ)) (dry : List ℕ) (p now : ℕ) (ready ready' : List (List ℕ)) (stale stale' : List Bool) → get_or dry p 0 ≡ now →
    ((k : ℕ) → get_or serves p None ≡ Some k → (ready' ≡ set ready p (set (get_or ready p []) k never)) × (stale' ≡ set stale p true)) →
    (get_or serves p None ≡ None → (ready' ≡ ready) × (stale' ≡ stale)) → IsDried serves dry p now ready ready' stale stale'
dried_is serves dry p now ready ready' stale stale' at some none =
    record { out = λ k e f. some k e; kept = λ never_so. go never_so (get_or serves p None) refl }
  where
    go : ((k : ℕ) → get_or serves p None ≡ Some k → get_or dry p 0 ≡ now → ⊥) → (o : Option ℕ) → get_or serves p None ≡ o → (ready' ≡ ready) × (stale' ≡ stale)
    go never_so None e = none e
    go never_so (Some k) e = absurd (never_so k e at)

-- one pack more is done
module _ (t : Tree) (d : DueContents) (ends : List ℕ) (s : ServingContents) (ready' : List (List ℕ)) (stale' : List Bool) (number : List ℕ) (n p now : ℕ)
    (is_now : now ≡ d.tick) (b : p < length s.ready) (b' : p < length s.stale) (i : IsPack t p) (once : (q : ℕ) → IsPack t q → get_or number q 0 ≡ n → q ≡ p)
    (step : IsDried s.serves s.dry p now s.ready ready' s.stale stale') where
  abbrev Done : ℕ → ℕ → Type 0
  Done m q = get_or number q 0 < m

  abbrev After : ServingContents
  After = record { ready = ready'; serves = s.serves; dry = s.dry; stale = stale'; runs = s.runs }

  earlier : (q : ℕ) → IsPack t q → q ≢ p → Done (n + 1) q → Done n q
  earlier q j ne low = elim (cases_eq (get_or number q 0) n) [
    | inl same ↦ absurd (ne (once q j same))
    | inr other ↦ omega (arith, low, other)
  ]

  -- nothing is changed
  as_before : (get_or s.dry p 0 ≡ d.tick → ⊥) → ready' ≡ s.ready → stale' ≡ s.stale → IsDrying t d ends s (Done n) → IsDrying t d ends After (Done (n + 1))
  as_before wet er es v = record {
    early = v.early;
    but = λ q j. subst (λ (ks : List (List ℕ)). AreReadyBut (candidates t d.remains ends q) (get_or ks q []) (get_or s.serves q None)) (sym er) (v.but q j);
    picks = λ q j w. subst (λ (ks : List (List ℕ)). AreReady (candidates t d.remains ends q) (get_or ks q [])) (sym er) (v.picks q j (λ e. before q j w e));
    within = v.within;
    at = v.at;
    agree = v.agree;
    rest = v.rest;
    ticks = v.ticks;
    known = v.known;
    led = v.led;
    served = λ q j w off. v.served q j (λ e. before q j w e) (ap (λ (xs : List Bool). get_or xs q false) (sym es) ∙ off);
  }
    where
      before : (q : ℕ) → IsPack t q → (get_or s.dry q 0 ≡ d.tick → Done (n + 1) q) → get_or s.dry q 0 ≡ d.tick → Done n q
      before q j w e = earlier q j (λ same. wet (ap (λ x. get_or s.dry x 0) (sym same) ∙ e)) (w e)

  -- the one that ran dry is taken out
  taken_out : (k : ℕ) → get_or s.serves p None ≡ Some k → get_or s.dry p 0 ≡ d.tick → ready' ≡ set s.ready p (set (get_or s.ready p []) k never) →
      stale' ≡ set s.stale p true → IsDrying t d ends s (Done n) → IsDrying t d ends After (Done (n + 1))
  taken_out k serves dry er es v = record {
    early = v.early;
    but = λ q j. elim (cases_eq q p) [
      | inl same ↦ (let P : ℕ → Type 0 = λ x. AreReadyBut (candidates t d.remains ends x) (get_or ready' x []) (get_or s.serves x None) in
          subst P (sym same) (record { long = own.long; each = λ m lm other. own.each m lm; near = own.near }))
      | inr ne ↦ subst (λ (ks : List ℕ). AreReadyBut (candidates t d.remains ends q) ks (get_or s.serves q None)) (sym (there q ne)) (v.but q j)
    ];
    picks = λ q j w. elim (cases_eq q p) [
      | inl same ↦ (let P : ℕ → Type 0 = λ x. AreReady (candidates t d.remains ends x) (get_or ready' x []) in subst P (sym same) own)
      | inr ne ↦ subst (λ (ks : List ℕ). AreReady (candidates t d.remains ends q) ks) (sym (there q ne)) (v.picks q j (λ e. earlier q j ne (w e)))
    ];
    within = v.within;
    at = v.at;
    agree = v.agree;
    rest = v.rest;
    ticks = v.ticks;
    known = v.known;
    led = v.led;
    served = λ q j w off. elim (cases_eq q p) [
      | inl same ↦ absurd (both_ways (get_or stale' p false) (ap (λ x. get_or stale' x false) (sym same) ∙ off) marked)
      | inr ne ↦ v.served q j (λ e. earlier q j ne (w e)) (sym (unmarked q ne) ∙ off)
    ];
  }
    where
      there : (q : ℕ) → q ≢ p → get_or ready' q [] ≡ get_or s.ready q []
      there q ne = ap (λ (ks : List (List ℕ)). get_or ks q []) er ∙ other
        where
          other : get_or (set s.ready p (set (get_or s.ready p []) k never)) q [] ≡ get_or s.ready q []
          other = rw get_or-set_other refl

      here : get_or ready' p [] ≡ set (get_or s.ready p []) k never
      here = ap (λ (ks : List (List ℕ)). get_or ks p []) er ∙ one
        where
          one : get_or (set s.ready p (set (get_or s.ready p []) k never)) p [] ≡ set (get_or s.ready p []) k never
          one = rw get_or-set_same

      marked : get_or stale' p false ≡ true
      marked = ap (λ (xs : List Bool). get_or xs p false) es ∙ one
        where
          one : get_or (set s.stale p true) p false ≡ true
          one = rw get_or-set_same

      unmarked : (q : ℕ) → q ≢ p → get_or stale' q false ≡ get_or s.stale q false
      unmarked q ne = ap (λ (xs : List Bool). get_or xs q false) es ∙ other
        where
          other : get_or (set s.stale p true) q false ≡ get_or s.stale q false
          other = rw get_or-set_other refl

      in_pack : k < length (members t p)
      in_pack = v.within p k i serves

      in_ready : k < length (get_or s.ready p [])
      in_ready = dry_within t d ends s (Done n) v p k i serves

      -- what ran dry has nothing left
      none_left : (candidate_at (candidates t d.remains ends p) k).remain ≡ 0
      none_left = (let c = ap (λ (c : Candidate). c.remain) (candidate_is t d.remains ends p k in_pack) in let e = v.known p i ∙ ap (dry_by t d p) serves in
          omega (arith, c, e, dry))

      at_place : (m : ℕ) → m < length (candidates t d.remains ends p) → get_or (set (get_or s.ready p []) k never) m 0 ≡ ready_end
          (candidate_at (candidates t d.remains ends p) m)
      at_place m lm = elim (cases_eq m k) [
        | inl same ↦ (let P : ℕ → Type 0 = λ x. get_or (set (get_or s.ready p []) k never) x 0 ≡ ready_end (candidate_at (candidates t d.remains ends p) x)
            in subst P (sym same) (one in_ready ∙ sym (ready_none (candidate_at (candidates t d.remains ends p) k) none_left)))
        | inr ne ↦ other ne ∙ (v.but p i).each m lm (λ e. ne (same_place m k (sym e ∙ serves)))
      ]
        where
          one : k < length (get_or s.ready p []) → get_or (set (get_or s.ready p []) k never) k 0 ≡ never
          one l = rw get_or-set_same

          other : m ≢ k → get_or (set (get_or s.ready p []) k never) m 0 ≡ get_or (get_or s.ready p []) m 0
          other ne = rw get_or-set_other refl

      own : AreReady (candidates t d.remains ends p) (get_or ready' p [])
      own = subst (λ (ks : List ℕ). AreReady (candidates t d.remains ends p) ks) (sym here) (record {
        long = length-set (get_or s.ready p []) k never ∙ (v.but p i).long;
        each = at_place;
        near = (v.but p i).near;
      })

  pub drying_step : IsDrying t d ends s (Done n) → IsDrying t d ends After (Done (n + 1))
  drying_step v = elim (cases_eq (get_or s.dry p 0) d.tick) [
    | inr wet ↦ (let k = step.kept (λ k e f. wet (f ∙ is_now)) in as_before wet k.0 k.1 v)
    | inl dry ↦ by_place dry (get_or s.serves p None) refl
  ]
    where
      by_place : get_or s.dry p 0 ≡ d.tick → (o : Option ℕ) → get_or s.serves p None ≡ o → IsDrying t d ends After (Done (n + 1))
      by_place dry (Some k) e = (let o = step.out k e (dry ∙ sym is_now) in taken_out k e dry o.0 o.1 v)
      by_place dry None e = (let f = v.known p i ∙ ap (dry_by t d p) e in let k = step.kept (λ k some g. (let z : None ≡ Some k = sym e ∙ some in cc)) in
          no_wet f dry k.0 k.1)
        where
          -- a tick is never that far
          no_wet : get_or s.dry p 0 ≡ no_tick → get_or s.dry p 0 ≡ d.tick → ready' ≡ s.ready → stale' ≡ s.stale → IsDrying t d ends After (Done (n + 1))
          no_wet far at er es = absurd (let l = v.early in omega (arith, far, at, l))
