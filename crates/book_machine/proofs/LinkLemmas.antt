-- What the links of a table's rows say, from row to row.
use Rattle.std.proofs.Common.{◌≡◌, ◌≢◌, ◌⊎◌, inl, inr, ℕ, zero, suc, ◌+◌, ◌*◌, ◌<◌, ◌≤◌, List, [], ◌∷◌, ◌++◌, Some, None, length, set, get_or}
use Rattle.std.proofs.Common.{replicate, take, map, refl, sym, ap, ◌∙◌, subst, arith}
use Rattle.std.specs.Prelude.{slice_get, nat_lt, nat_eq, if◌then◌else◌, Bool, Option, IfSome, true, false}
use Rattle.std.proofs.lemmas.Bool.{cases_eq, cases_lt, cases_order, eqb-true, eqb-false, ltb-true, ltb-false}
use Rattle.std.proofs.lemmas.List.{get_or-set_other, get_or-set_same, get_or_append_left, get_or_default, get_or-map, get_or_past, get_or_push}
use Rattle.std.proofs.lemmas.List.{get_or-replicate, get_or-take, set_past, length-append, length-map, length-set, length-replicate, length-take}
use Rattle.sched_base.specs.declared.rows.Row.{Row}
use Rattle.sched_base.specs.declared.rows.Leaf.{Leaf}
use Rattle.sched_base.specs.declared.rows.Leaf.TheVariants.{Task, Idle, Wait, Empty}
use Rattle.sched_base.specs.Tables.{Table, RowAt, IsTable, rounds_in, with_round}
use Rattle.sched_base.proofs.TableLemmas.{RowAt-with_round, lane_within, length-with_round, length-lane_of-with_round}
use Rattle.book_machine.specs.declared.links.Link.{Link}
use Rattle.book_machine.specs.declared.links.Link.TheVariants.{First, After, Unknown}
use Rattle.book_machine.specs.declared.links.Latest.{Latest}
use Rattle.book_machine.specs.declared.links.Latest.TheVariants.{NoRow, Last, Lost}
use Rattle.book_machine.specs.declared.links.Place.{Place}
use Rattle.book_machine.specs.Machine.{State, posted_at, least_posted, EarlierPosted, WaitsFor, HasTakeable}
use Rattle.book_machine.specs.Links.{IsBefore, LinkMeans, IsLatest, followed, last_link, slot_of, latest_in, latest_at, with_latest, with_latest_in}
use Rattle.book_machine.specs.Links.{link_at, AreLinked, KeepsLink, link_of, posted_by, AreEarlierPosted, ArePostedInOrder, IsLinkedTable}
use Rattle.book_machine.proofs.Lanes.{least_le}

-- ---- places before others

before_trans : (n p u k v i : ℕ) → IsBefore k u v i → IsBefore n p u k → IsBefore n p v i
before_trans n p u k v i (inl a) (inl b) = inl (omega (arith, a, b))
before_trans n p u k v i (inl a) (inr b) = inl (omega (arith, a, b.0))
before_trans n p u k v i (inr a) (inl b) = inl (omega (arith, a.0, b))
before_trans n p u k v i (inr a) (inr b) = inr (omega (arith, a.0, b.0), omega (arith, a.1, b.1))

-- what is before the next place is before this one, or is this one
before_next : (n p u i : ℕ) → IsBefore n (p + 1) u i → IsBefore n p u i ⊎ ((u ≡ p) × (i ≡ n))
before_next n p u i (inl a) = inl (inl a)
before_next n p u i (inr b) = elim (cases_order u p) [
  | inl same ↦ inr (same, b.0)
  | inr rest ↦ elim rest [ inl less ↦ inl (inr (b.0, less)) | inr more ↦ absurd (omega (arith, more, b.1)) ]
]

-- what is in an earlier round is before each row of the round
before_row : (n p u i : ℕ) → IsBefore n 0 u i → IsBefore n p u i
before_row n p u i (inl a) = inl a
before_row n p u i (inr b) = absurd (omega (arith, b.1))

-- what is before this place is before the next one
before_later : (n p u i : ℕ) → IsBefore n p u i → IsBefore n (p + 1) u i
before_later n p u i (inl a) = inl a
before_later n p u i (inr b) = inr (b.0, omega (arith, b.1))

-- ---- what is said of these rows and places said of other ones

module _ (rows new : List (List Row)) (forth : (u i : ℕ) (r : Row) → RowAt rows u i r → RowAt new u i r) where
  says-by : (leaf : Leaf) (lane n p n' p' : ℕ)
      → ((u i : ℕ) → IsBefore n p u i → IsBefore n' p' u i)
      → ((u i : ℕ) (r : Row) → u ≢ lane → IsBefore n' p' u i → RowAt new u i r → r.leaf ≡ leaf → IsBefore n p u i × RowAt rows u i r)
      → (link : Link) → LinkMeans rows leaf lane n p link → LinkMeans new leaf lane n' p' link
  says-by leaf lane n p n' p' later back First says = λ u i r other before at is. let b = back u i r other before at is in says u i r other b.0 b.1 is
  says-by leaf lane n p n' p' later back (After place) link = record {
    other = link.other;
    before = later place.lane place.round link.before;
    row = link.row;
    at = forth place.lane place.round link.row link.at;
    of_leaf = link.of_leaf;
    last = λ u i r other before at is. let b = back u i r other before at is in link.last u i r other b.0 b.1 is;
  }
  says-by leaf lane n p n' p' later back Unknown says = tt

  latest-by : (leaf : Leaf) (n p n' p' : ℕ)
      → ((u i : ℕ) → IsBefore n p u i → IsBefore n' p' u i)
      → ((u i : ℕ) (r : Row) → IsBefore n' p' u i → RowAt new u i r → r.leaf ≡ leaf → IsBefore n p u i × RowAt rows u i r)
      → (latest : Latest) → IsLatest rows leaf n p latest → IsLatest new leaf n' p' latest
  latest-by leaf n p n' p' later back NoRow none = λ u i r before at is. let b = back u i r before at is in none u i r b.0 b.1 is
  latest-by leaf n p n' p' later back (Last place link) h = (
    record {
      row = h.0.row;
      before = later place.lane place.round h.0.before;
      at = forth place.lane place.round h.0.row h.0.at;
      of_leaf = h.0.of_leaf;
      last = λ u i r before at is. let b = back u i r before at is in h.0.last u i r b.0 b.1 is;
    },
    says-by leaf place.lane n p n' p' later (λ u i r other. back u i r) link h.1,
  )
  latest-by leaf n p n' p' later back Lost h = tt

  linked-by : (n p n' p' : ℕ) (links : List (List Link)) (latest_rows : List Latest) → length rows ≡ length new
      → ((u i : ℕ) → IsBefore n p u i → IsBefore n' p' u i)
      → ((u i : ℕ) (r : Row) → IsBefore n' p' u i → RowAt new u i r → IsBefore n p u i × RowAt rows u i r)
      → AreLinked rows n p links latest_rows → AreLinked new n' p' links latest_rows
  linked-by n p n' p' links latest_rows same later back l = record {
    lanes = l.lanes ∙ same;
    says = λ u k r before at. let b = back u k r before at in
        says-by r.leaf u k 0 k 0 (λ v i early. early) (λ v i s other early there of. (
          early,
          (back v i s (before_trans n' p' u k v i (before_row k u v i early) before) there).1,
        )) (link_at links u k) (l.says u k r b.0 b.1);
    ends = λ leaf. latest-by leaf n p n' p' later (λ u i r before there of. back u i r before there) (latest_at latest_rows leaf) (l.ends leaf);
  }

-- ---- no round yet

replicate_none : (m p i : ℕ) (r : Row) → RowAt (replicate m []) p i r → ⊥
replicate_none zero p i r at = absurd (let e : None ≡ Some r = at in cc)
replicate_none (suc m) zero i r at = absurd (let e : None ≡ Some r = at in cc)
replicate_none (suc m) (suc p) i r at = replicate_none m p i r at

-- what no row is kept of says so, or nothing
latest_none : (rows : List (List Row)) (n k : ℕ) (leaf : Leaf) (slot : Option ℕ) → ((u i : ℕ) (r : Row) → RowAt rows u i r → ⊥) → IsLatest rows leaf n 0
    (latest_in (replicate k NoRow) slot)
latest_none rows n k leaf None none = tt
latest_none rows n k leaf (Some slot) none = elim (cases_lt slot k) [
  | inl inside ↦ subst (IsLatest rows leaf n 0) (sym (get_or-replicate k slot NoRow Lost inside)) (λ u i r before at is. none u i r at)
  | inr past ↦ subst (IsLatest rows leaf n 0) (sym (get_or_past (replicate k NoRow) slot Lost (let many = length-replicate k NoRow in
      omega (arith, many, past)))) tt
]

pub linked_none : (rows : List (List Row)) (m n : ℕ) (links : List (List Link)) (latest_rows : List Latest) → rows ≡ replicate m [] → length links ≡ m →
    (k : ℕ) × (latest_rows ≡ replicate k NoRow)
    → AreLinked rows n 0 links latest_rows
linked_none rows m n links latest_rows none many no_rows =
    let no : (u i : ℕ) (r : Row) → RowAt rows u i r → ⊥ = λ u i r at. replicate_none m u i r (subst (λ (ls : List (List Row)). RowAt ls u i r) none at) in
    record {
      lanes = many ∙ sym (length-replicate m []) ∙ ap length (sym none);
      says = λ u k r before at. absurd (no u k r at);
      ends = λ leaf. subst (λ (latest : List Latest). IsLatest rows leaf n 0 (latest_at latest leaf)) (sym no_rows.1) (latest_none rows n no_rows.0 leaf
          (slot_of leaf) no);
    }

-- ---- one round more

slice_get-append_left : {X : Type 0} (xs : List X) (y : X) (k : ℕ) (x : X) → slice_get xs k ≡ Some x → slice_get (xs ++ y ∷ []) k ≡ Some x
slice_get-append_left [] y k x at = absurd (let e : None ≡ Some x = at in cc)
slice_get-append_left (z ∷ xs) y zero x at = at
slice_get-append_left (z ∷ xs) y (suc k) x at = slice_get-append_left xs y k x at

-- the rows of a table stay
RowAt-kept : (lanes : List (List Row)) (rows : List Row) (p k : ℕ) (r : Row) → RowAt lanes p k r → RowAt (with_round lanes rows) p k r
RowAt-kept [] rows p k r at = at
RowAt-kept (lane ∷ lanes) [] p k r at = at
RowAt-kept (lane ∷ lanes) (s ∷ rows) zero k r at = slice_get-append_left lane s k r at
RowAt-kept (lane ∷ lanes) (s ∷ rows) (suc p) k r at = RowAt-kept lanes rows p k r at

pub linked-with_round : (lanes : List (List Row)) (rows : List Row) (links : List (List Link)) (latest_rows : List Latest) → IsTable lanes
    → AreLinked lanes (rounds_in lanes) 0 links latest_rows → AreLinked (with_round lanes rows) (rounds_in lanes) 0 links latest_rows
linked-with_round lanes rows links latest_rows table l =
    linked-by lanes (with_round lanes rows) (RowAt-kept lanes rows) (rounds_in lanes) 0 (rounds_in lanes) 0 links latest_rows
    (sym (length-with_round lanes rows)) (λ u i before. before)
    (λ u i r before at. elim (RowAt-with_round lanes rows u i r at) [
      | inl a ↦ (before, a.1)
      | inr b ↦ absurd (let whole = table.whole u b.0 in elim before [ inl early ↦ omega (arith, early, whole, b.1) | inr never ↦ omega (arith, never.1) ])
    ]) l

-- all rows of a round are linked
pub linked_round : (rows : List (List Row)) (n : ℕ) (links : List (List Link)) (latest_rows : List Latest) → AreLinked rows n (length rows) links
    latest_rows → AreLinked rows (n + 1) 0 links latest_rows
linked_round rows n links latest_rows l =
    linked-by rows rows (λ u i r at. at) n (length rows) (n + 1) 0 links latest_rows refl
    (λ u i before. elim before [ inl early ↦ inl (omega (arith, early)) | inr here ↦ inl (omega (arith, here.0)) ])
    (λ u i r before at. (
      elim (cases_order i n) [
        | inl same ↦ inr (same, lane_within rows u i r at)
        | inr rest ↦ elim rest [
          | inl less ↦ inl less
          | inr more ↦ absurd (elim before [ inl early ↦ omega (arith, early, more) | inr never ↦ omega (arith, never.1) ])
        ]
      ],
      at,
    )) l

-- ---- one row more

-- what a slot keeps that was written: that, or nothing
latest_written : (latest_rows : List Latest) (slot : ℕ) (latest : Latest) → (get_or (set latest_rows slot latest) slot Lost ≡ latest)
    ⊎ (get_or (set latest_rows slot latest) slot Lost ≡ Lost)
latest_written latest_rows slot latest = elim (cases_lt slot (length latest_rows)) [
  | inl inside ↦ inl (get_or-set_same latest_rows slot latest Lost inside)
  | inr past ↦ inr (ap (λ (l : List Latest). get_or l slot Lost) (set_past latest_rows slot latest past) ∙ get_or_past latest_rows slot Lost past)
]

-- the first n links and one more behind them keep what stood there
pub keeps_link : (codes rest : List ℕ) (n code : ℕ) (link : Link) → (link_of code ≡ link) ⊎ (link_of code ≡ Unknown) → length (take n codes) ≡ n
    → (rest ≡ take n codes ++ code ∷ []) ⊎ (rest ≡ take n codes) → KeepsLink (map link_of codes) (map link_of rest) n link
keeps_link codes rest n code link says full (inl more) =
    let some = length-take n codes in
    let all = length-append (take n codes) (code ∷ []) in
    let many = ap length more in
    record {
      before = λ k early.
          get_or-map link_of rest k 0 Unknown (omega (arith, many, all, full, early)) ∙ ap (λ (l : List ℕ). link_of (get_or l k 0)) more
          ∙ ap link_of (get_or_append_left (take n codes) (code ∷ []) 0 k (omega (arith, full, early)) ∙ get_or-take n codes k 0 early)
          ∙ sym (get_or-map link_of codes k 0 Unknown (omega (arith, some, full, early)));
      here =
          let at : get_or (map link_of rest) n Unknown ≡ link_of code =
          get_or-map link_of rest n 0 Unknown (omega (arith, many, all, full)) ∙ ap (λ (l : List ℕ). link_of (get_or l n 0)) more
          ∙ ap link_of (get_or_push (take n codes) code 0 n full) in
          elim says [ inl is ↦ inl (at ∙ is) | inr none ↦ inr (at ∙ none) ];
    }
keeps_link codes rest n code link says full (inr same) =
    let some = length-take n codes in
    let many = ap length same in
    record {
      before = λ k early.
          get_or-map link_of rest k 0 Unknown (omega (arith, many, full, early)) ∙ ap (λ (l : List ℕ). link_of (get_or l k 0)) same
          ∙ ap link_of (get_or-take n codes k 0 early) ∙ sym (get_or-map link_of codes k 0 Unknown (omega (arith, some, full, early)));
      here = inr (get_or_past (map link_of rest) n Unknown (let e = length-map rest link_of in omega (arith, e, many, full)));
    }

-- the other links stay where a lane's links keep that of row n
link_at-other : (links : List (List Link)) (lane : List Link) (p n u k : ℕ) (link : Link) → p < length links → KeepsLink (get_or links p []) lane n link →
    IsBefore n p u k
    → link_at (set links p lane) u k ≡ link_at links u k
link_at-other links lane p n u k link within keeps before = elim (cases_eq u p) [
  | inl same ↦ (
      let early : k < n = elim before [ inl a ↦ a | inr b ↦ absurd (omega (arith, same, b.1)) ] in
      subst (λ v. link_at (set links p lane) v k ≡ link_at links v k) (sym same)
      (ap (λ (l : List Link). get_or l k Unknown) (get_or-set_same links p lane [] within) ∙ keeps.before k early)
      )
  | inr other ↦ ap (λ (l : List Link). get_or l k Unknown) (get_or-set_other links p u lane [] other)
]

-- what the new link says holds of what stands there afterwards, which is the link, or nothing
says_kept : (rows : List (List Row)) (leaf : Leaf) (links : List (List Link)) (lane : List Link) (p n : ℕ) (link : Link) → p < length links →
    KeepsLink (get_or links p []) lane n link
    → LinkMeans rows leaf p n 0 link → LinkMeans rows leaf p n 0 (link_at (set links p lane) p n)
says_kept rows leaf links lane p n link within keeps says =
    let here : link_at (set links p lane) p n ≡ get_or lane n Unknown = ap (λ (l : List Link). get_or l n Unknown) (get_or-set_same links p lane [] within) in
    elim keeps.here [
      | inl is ↦ subst (LinkMeans rows leaf p n 0) (sym (here ∙ is)) says
      | inr none ↦ subst (LinkMeans rows leaf p n 0) (sym (here ∙ none)) tt
    ]

some_is : {A : Type 0} (a b : A) → Some a ≡ Some b → a ≡ b
some_is a b e = cc

-- leaves with one slot are the same
slots_apart : (a b : Leaf) (i j : ℕ) → slot_of a ≡ Some i → slot_of b ≡ Some j → i ≡ j → a ≡ b
slots_apart (Task t) (Task u) i j at to same =
    let e : Some (2 * t.0) ≡ Some i = at in
    let f : Some (2 * u.0) ≡ Some j = to in
    let number : t.0 ≡ u.0 = omega (arith, some_is _ _ e, some_is _ _ f, same) in
    ap (λ (k : ℕ). Task (record { 0 = k })) number
slots_apart (Task t) (Idle u) i j at to same =
    let e : Some (2 * t.0) ≡ Some i = at in
    let f : Some (2 * u + 1) ≡ Some j = to in
    absurd (omega (arith, some_is _ _ e, some_is _ _ f, same))
slots_apart (Task t) (Wait u) i j at to same = absurd (let e : None ≡ Some j = to in cc)
slots_apart (Task t) Empty i j at to same = absurd (let e : None ≡ Some j = to in cc)
slots_apart (Idle t) (Task u) i j at to same =
    let e : Some (2 * t + 1) ≡ Some i = at in
    let f : Some (2 * u.0) ≡ Some j = to in
    absurd (omega (arith, some_is _ _ e, some_is _ _ f, same))
slots_apart (Idle t) (Idle u) i j at to same =
    let e : Some (2 * t + 1) ≡ Some i = at in
    let f : Some (2 * u + 1) ≡ Some j = to in
    ap Idle (omega (arith, some_is _ _ e, some_is _ _ f, same))
slots_apart (Idle t) (Wait u) i j at to same = absurd (let e : None ≡ Some j = to in cc)
slots_apart (Idle t) Empty i j at to same = absurd (let e : None ≡ Some j = to in cc)
slots_apart (Wait t) b i j at to same = absurd (let e : None ≡ Some i = at in cc)
slots_apart Empty b i j at to same = absurd (let e : None ≡ Some i = at in cc)

module _ (rows : List (List Row)) (n p : ℕ) (links : List (List Link)) (latest_rows : List Latest) (r : Row) (at : RowAt rows p n r) (l : AreLinked rows n p
    links latest_rows) where
  within : p < length links
  within = let inside = lane_within rows p n r at in let many = l.lanes in omega (arith, inside, many)

  same_row : (u i : ℕ) (s : Row) → u ≡ p → i ≡ n → RowAt rows u i s → s ≡ r
  same_row u i s lane round there =
      let here : RowAt rows p n s = subst (λ v. RowAt rows v n s) lane (subst (λ k. RowAt rows u k s) round there) in
      let e : Some s ≡ Some r = sym here ∙ at in
      cc

  -- the links with the row's link
  says_next : (lane : List Link) (link : Link) → KeepsLink (get_or links p []) lane n link → LinkMeans rows r.leaf p n 0 link
      → (u k : ℕ) (s : Row) → IsBefore n (p + 1) u k → RowAt rows u k s → LinkMeans rows s.leaf u k 0 (link_at (set links p lane) u k)
  says_next lane link keeps says u k s before there = elim (before_next n p u k before) [
    | inl b ↦ subst (LinkMeans rows s.leaf u k 0) (sym (link_at-other links lane p n u k link within keeps b)) (l.says u k s b there)
    | inr e ↦ (
        let same : r ≡ s = sym (same_row u k s e.0 e.1 there) in
        subst (λ (x : Row). LinkMeans rows x.leaf u k 0 (link_at (set links p lane) u k)) same
        (subst (λ v. LinkMeans rows r.leaf v k 0 (link_at (set links p lane) v k)) (sym e.0)
        (subst (λ i. LinkMeans rows r.leaf p i 0 (link_at (set links p lane) p i)) (sym e.1) (says_kept rows r.leaf links lane p n link within keeps says)))
        )
  ]

  -- the latest of a leaf that isn't the row's
  latest_past : (leaf : Leaf) (latest : Latest) → r.leaf ≢ leaf → IsLatest rows leaf n p latest → IsLatest rows leaf n (p + 1) latest
  latest_past leaf latest off h = latest-by rows rows (λ u i s there. there) leaf n p n (p + 1) (before_later n p)
      (λ u i s before there is. elim (before_next n p u i before) [
        | inl b ↦ (b, there)
        | inr e ↦ absurd (off (ap (λ (x : Row). x.leaf) (sym (same_row u i s e.0 e.1 there)) ∙ is))
      ]) latest h

  -- the latest of the row's leaf, which has this link
  latest_here : (place : Place) (link : Link) → place.lane ≡ p → place.round ≡ n → ((u i : ℕ) (s : Row) → IsBefore n p u i → RowAt rows u i s →
      s.leaf ≡ r.leaf → i < n) → LinkMeans rows r.leaf p n p link
      → IsLatest rows r.leaf n (p + 1) (Last place link)
  latest_here place link lane round early says = (
    record {
      row = r;
      before = inr (round, omega (arith, lane));
      at = subst (λ v. RowAt rows v place.round r) (sym lane) (subst (λ k. RowAt rows p k r) (sym round) at);
      of_leaf = refl;
      last = λ u i s before there of. elim (before_next n p u i before) [
        | inl b ↦ inl (let low = early u i s b there of in omega (arith, low, round))
        | inr e ↦ inr (e.1 ∙ sym round, e.0 ∙ sym lane)
      ];
    },
    subst (λ v. LinkMeans rows r.leaf v n (p + 1) link) (sym lane) (says-by rows rows (λ u i s there. there) r.leaf p n p n (p + 1) (before_later n p)
        (λ u i s other before there of. elim (before_next n p u i before) [ inl b ↦ (b, there) | inr e ↦ absurd (other e.0) ]) link says),
  )

  -- what a link says of all earlier rows it says of those in earlier rounds, where it leads there itself
  says_rounds : (link : Link) → ((place : Place) → link ≡ After place → place.round < n) → LinkMeans rows r.leaf p n p link → LinkMeans rows r.leaf p n 0 link
  says_rounds First low says = λ u i s other before there of. says u i s other (before_row n p u i before) there of
  says_rounds (After place) low says = record {
    other = says.other;
    before = inl (low place refl);
    row = says.row;
    at = says.at;
    of_leaf = says.of_leaf;
    last = λ u i s other before there of. says.last u i s other (before_row n p u i before) there of;
  }
  says_rounds Unknown low says = tt

  -- the leaf's last row is in an earlier round, where it isn't in this one
  last_low : (place : Place) → place.round ≡ n → (last : Place) (link : Link) → IsLatest rows r.leaf n p (Last last link) →
      nat_eq last.round place.round ≡ false → last.round < n
  last_low place round last link h apart = elim h.0.before [
    | inl low ↦ low
    | inr here ↦ absurd (eqb-false last.round place.round apart (here.0 ∙ sym round))
  ]

  -- so are all its rows
  earlier_rows : (place : Place) → place.round ≡ n → (last : Place) (link : Link) → IsLatest rows r.leaf n p (Last last link) →
      nat_eq last.round place.round ≡ false
      → (u i : ℕ) (s : Row) → IsBefore n p u i → RowAt rows u i s → s.leaf ≡ r.leaf → i < n
  earlier_rows place round last link h apart u i s before there of =
      let low = last_low place round last link h apart in
      elim (h.0.last u i s before there of) [ inl a ↦ omega (arith, a, low) | inr b ↦ omega (arith, b.0, low) ]

  -- what is kept of the row's leaf, and its link, where its last row is there, as the two tests say
  next_after : (place : Place) → place.lane ≡ p → place.round ≡ n → (last : Place) (link : Link) → IsLatest rows r.leaf n p (Last last link)
      → (in_round : Bool) → nat_eq last.round place.round ≡ in_round → (on_lane : Bool) → nat_eq last.lane place.lane ≡ on_lane
      → (latest : Latest) → latest ≡ (if in_round then Lost else if on_lane then Last place link else Last place (After last))
      → IsLatest rows r.leaf n (p + 1) latest × LinkMeans rows r.leaf p n 0 (last_link latest)
  next_after place lane round last link h true is_round on_lane is_lane latest is = subst (λ (k : Latest). IsLatest rows r.leaf n (p + 1) k × LinkMeans rows
      r.leaf p n 0 (last_link k)) (sym is) (tt, tt)
  next_after place lane round last link h false is_round true is_lane latest is =
      let low = last_low place round last link h is_round in
      let same : last.lane ≡ p = eqb-true last.lane place.lane is_lane ∙ lane in
      let says : LinkMeans rows r.leaf p n p link = subst (λ v. LinkMeans rows r.leaf v n p link) same h.1 in
      let there : (other : Place) → link ≡ After other → other.round < n = λ other after.
      let to : LinkMeans rows r.leaf last.lane n p (After other) = subst (LinkMeans rows r.leaf last.lane n p) after h.1 in
      elim (h.0.last other.lane other.round to.row to.before to.at to.of_leaf) [ inl a ↦ omega (arith, a, low) | inr b ↦ omega (arith, b.0, low) ] in
      subst (λ (k : Latest). IsLatest rows r.leaf n (p + 1) k × LinkMeans rows r.leaf p n 0 (last_link k)) (sym is) (
        latest_here place link lane round (earlier_rows place round last link h is_round) says,
        says_rounds link there says,
      )
  next_after place lane round last link h false is_round false is_lane latest is =
      let low = last_low place round last link h is_round in
      let says : LinkMeans rows r.leaf p n p (After last) = record {
        other = λ same. eqb-false last.lane place.lane is_lane (same ∙ sym lane);
        before = h.0.before;
        row = h.0.row;
        at = h.0.at;
        of_leaf = h.0.of_leaf;
        last = λ u i s other before there of. h.0.last u i s before there of;
      } in
      let there : (other : Place) → After last ≡ After other → other.round < n = λ other after. let same : last ≡ other = cc in
      subst (λ (k : Place). k.round < n) same low in
      subst (λ (k : Latest). IsLatest rows r.leaf n (p + 1) k × LinkMeans rows r.leaf p n 0 (last_link k)) (sym is) (
        latest_here place (After last) lane round (earlier_rows place round last link h is_round) says,
        says_rounds (After last) there says,
      )

  -- what is kept of the row's leaf, and its link
  latest_next : (place : Place) → place.lane ≡ p → place.round ≡ n → (latest : Latest) → IsLatest rows r.leaf n p latest
      → IsLatest rows r.leaf n (p + 1) (followed latest place) × LinkMeans rows r.leaf p n 0 (last_link (followed latest place))
  latest_next place lane round NoRow none = (
    latest_here place First lane round (λ u i s before there of. absurd (none u i s before there of)) (λ u i s other before there of. none u i s before
        there of),
    λ u i s other before there of. none u i s (before_row n p u i before) there of,
  )
  latest_next place lane round (Last last link) h = next_after place lane round last link h (nat_eq last.round place.round) refl
      (nat_eq last.lane place.lane) refl (followed (Last last link) place) refl
  latest_next place lane round Lost h = (tt, tt)

  -- what is kept of each leaf, with this of the row's
  ends_next : (latest : Latest) → IsLatest rows r.leaf n (p + 1) latest → (leaf : Leaf) (a b : Option ℕ) → slot_of r.leaf ≡ a → slot_of leaf ≡ b
      → IsLatest rows leaf n p (latest_in latest_rows b) → IsLatest rows leaf n (p + 1) (latest_in (with_latest_in latest_rows a latest) b)
  ends_next latest here leaf a None is_a is_b h = tt
  ends_next latest here leaf None (Some j) is_a is_b h = latest_past leaf (get_or latest_rows j Lost)
      (λ same. let e : None ≡ Some j = sym is_a ∙ ap slot_of same ∙ is_b in absurd (cc)) h
  ends_next latest here leaf (Some i) (Some j) is_a is_b h = elim (cases_eq j i) [
    | inl same ↦ (
        let leaves : r.leaf ≡ leaf = slots_apart r.leaf leaf i j is_a is_b (sym same) in
        subst (λ k. IsLatest rows leaf n (p + 1) (get_or (set latest_rows i latest) k Lost)) (sym same) (elim (latest_written latest_rows i latest) [
          | inl is ↦ subst (IsLatest rows leaf n (p + 1)) (sym is) (subst (λ (x : Leaf). IsLatest rows x n (p + 1) latest) leaves here)
          | inr none ↦ subst (IsLatest rows leaf n (p + 1)) (sym none) tt
        ])
        )
    | inr other ↦ subst (IsLatest rows leaf n (p + 1)) (sym (get_or-set_other latest_rows i j latest Lost other))
        (latest_past leaf (get_or latest_rows j Lost) (λ same. other (sym (some_is i j (sym is_a ∙ ap slot_of same ∙ is_b)))) h)
  ]

  -- the row is linked
  pub linked_next : (place : Place) (lane : List Link) → place.lane ≡ p → place.round ≡ n → KeepsLink (get_or links p []) lane n
      (last_link (followed (latest_at latest_rows r.leaf) place))
      → AreLinked rows n (p + 1) (set links p lane) (with_latest latest_rows r.leaf (followed (latest_at latest_rows r.leaf) place))
  linked_next place lane on round keeps =
      let next = latest_next place on round (latest_at latest_rows r.leaf) (l.ends r.leaf) in
      record {
        lanes = length-set links p lane ∙ l.lanes;
        says = says_next lane (last_link (followed (latest_at latest_rows r.leaf) place)) keeps next.1;
        ends = λ leaf. ends_next (followed (latest_at latest_rows r.leaf) place) next.0 leaf (slot_of r.leaf) (slot_of leaf) refl refl (l.ends leaf);
      }

-- ---- what a look at a link tells

-- the row to which the link leads is posted, and so are the earlier rows of the leaf
earlier_by_link : (rows : List (List Row)) (s : State) → ArePostedInOrder rows s → (leaf : Leaf) (p k : ℕ) (link : Link) → LinkMeans rows leaf p k 0 link →
    posted_by s link ≡ Some true
    → EarlierPosted rows s.lanes p k leaf
earlier_by_link rows s order leaf p k First says told = λ u other i r early at is. absurd (says u i r other (inl early) at is)
earlier_by_link rows s order leaf p k (After place) link told = λ u other i r early at is.
    let q = place.lane in
    let j = place.round in
    let posted : j < posted_at s q = ltb-true j (posted_at s q) (let e : Some (nat_lt j (posted_at s q)) ≡ Some true = told in cc) in
    elim (link.last u i r other (inl early) at is) [
      | inl low ↦ elim (cases_eq u q) [
        | inl same ↦ (let there : i < posted_at s q = omega (arith, low, posted) in subst (λ v. i < posted_at s v) (sym same) there)
        | inr apart ↦ (let earlier : EarlierPosted rows s.lanes q j link.row.leaf = order q j link.row posted link.at in
            earlier u apart i r low at (subst (λ (l : Leaf). r.leaf ≡ l) (sym link.of_leaf) is))
      ]
      | inr here ↦ (let there : i < posted_at s q = omega (arith, here.0, posted) in subst (λ v. i < posted_at s v) (sym here.1) there)
    ]
earlier_by_link rows s order leaf p k Unknown says told = absurd (let e : None ≡ Some true = told in cc)

-- the row to which the link leads isn't posted, and is an earlier one of the leaf
behind_by_link : (rows : List (List Row)) (s : State) (leaf : Leaf) (p k : ℕ) (link : Link) → LinkMeans rows leaf p k 0 link → posted_by s link ≡ Some false
    → EarlierPosted rows s.lanes p k leaf → ⊥
behind_by_link rows s leaf p k First says told earlier = absurd (let e : Some true ≡ Some false = told in cc)
behind_by_link rows s leaf p k (After place) link told earlier =
    let q = place.lane in
    let j = place.round in
    let unposted : posted_at s q ≤ j = ltb-false j (posted_at s q) (let e : Some (nat_lt j (posted_at s q)) ≡ Some false = told in cc) in
    let before : j < k = elim link.before [ inl less ↦ less | inr same ↦ absurd (omega (arith, same.1)) ] in
    let posted = earlier q link.other j link.row before link.at link.of_leaf in
    absurd (omega (arith, posted, unposted))
behind_by_link rows s leaf p k Unknown says told earlier = absurd (let e : None ≡ Some false = told in cc)

-- what a look at a row's link tells, as far as it does
pub told_by_link : (rows : List (List Row)) (s : State) → ArePostedInOrder rows s → (p k : ℕ) (link : Link) (r : Row) → LinkMeans rows r.leaf p k 0 link
    → RowAt rows p k r → (told : Option Bool) → told ≡ posted_by s link → IfSome told (λ posted. AreEarlierPosted rows s p k posted)
told_by_link rows s order p k link r says at None told = tt
told_by_link rows s order p k link r says at (Some true) told = (r, at, (λ _. earlier_by_link rows s order r.leaf p k link says (sym told), λ _. refl))
told_by_link rows s order p k link r says at (Some false) told = (
  r,
  at,
  (
    λ never. absurd (let e : false ≡ true = never in cc),
    λ earlier. absurd (behind_by_link rows s r.leaf p k link says (sym told) earlier),
  ),
)

-- a lane that waits for another isn't due
pub waiting_not_due : (rows : List (List Row)) (window : ℕ) (s : State) (p q : ℕ) → WaitsFor rows window s p q → HasTakeable rows window s p → ⊥
waiting_not_due rows window s p q (inl (past, lowest)) due = absurd (let below = due.in_window in omega (arith, past, below))
waiting_not_due rows window s p q (inr (below, (u, at, waited))) due =
    let (j, v, low, early, there, is) = waited.unposted in
    let (r, here, earlier) = due.next in
    let e : Some u ≡ Some r = sym at ∙ here in
    let same : u ≡ r = cc in
    absurd (let posted = earlier q waited.other j v early there (is ∙ ap (λ (x : Row). x.leaf) same) in omega (arith, posted, low))

-- all rows before the least posted count are posted
pub earlier_at_least : (rows : List (List Row)) (s : State) (p k : ℕ) (leaf : Leaf) → length s.lanes ≡ length rows → k ≤ least_posted s →
    EarlierPosted rows s.lanes p k leaf
earlier_at_least rows s p k leaf many low q other j r early at is =
    let inside = lane_within rows q j r at in
    let least = least_le s.lanes q (omega (arith, inside, many)) in
    omega (arith, early, low, least)

-- the link that a table's fields hold for a row
pub linked_says : (table : Table) (links : List (List Link)) (latest_rows : List Latest) → IsLinkedTable table links latest_rows → (seen : Table) →
    table ≡ seen → (p k : ℕ) (r : Row) (lane : List Link) (link : Link)
    → k < rounds_in seen.lanes → lane ≡ get_or links p lane → link ≡ get_or lane k Unknown → RowAt seen.lanes p k r → LinkMeans seen.lanes r.leaf p k 0 link
linked_says table links latest_rows h seen view p k r lane link round lane_is link_is at =
    subst (λ (t : Table). LinkMeans t.lanes r.leaf p k 0 link) view (
    let early : k < rounds_in table.lanes = subst (λ (t : Table). k < rounds_in t.lanes) (sym view) round in
    let there : RowAt table.lanes p k r = subst (λ (t : Table). RowAt t.lanes p k r) (sym view) at in
    let many = h.linked.lanes in
    let inside = lane_within table.lanes p k r there in
    let here : link ≡ link_at links p k = link_is ∙ ap (λ (l : List Link). get_or l k Unknown) (lane_is ∙ get_or_default links p lane []
    (omega (arith, many, inside))) in
    subst (LinkMeans table.lanes r.leaf p k 0) (sym here) (h.linked.says p k r (inl early) there)
    )

pub rounds_in-with_round : (lanes : List (List Row)) (rows : List Row) → length rows ≡ length lanes → 1 ≤ length lanes →
    rounds_in (with_round lanes rows) ≡ rounds_in lanes + 1
rounds_in-with_round lanes rows whole some = length-lane_of-with_round lanes rows 0 whole (omega (arith, some))

none_of_none : (m : ℕ) → rounds_in (replicate m []) ≡ 0
none_of_none zero = refl
none_of_none (suc m) = refl

pub rounds_in-none : (lanes : List (List Row)) (m : ℕ) → lanes ≡ replicate m [] → rounds_in lanes ≡ 0
rounds_in-none lanes m none = ap rounds_in none ∙ none_of_none m
