-- The rounds of a wrapped schedule, as rounds of a table.
use Rattle.std.proofs.Common.{List, Some, [], add-mul, add-zero, ap, ap₂, arith, drop, drop-cons, filter, get_or, inl, inr, length, lit<, le_of_lt}
use Rattle.std.proofs.Common.{map, mul-le-mul_right, refl, subst, suc, sym, take, zero, zero-add, ℕ, ◌*◌, ◌+◌, ◌++◌, ◌-◌, ◌<◌, ◌^◌, ◌∙◌, ◌∷◌, ◌≡◌}
use Rattle.std.proofs.Common.{◌≤◌}
use Rattle.std.specs.Prelude.{slice_get}
use Rattle.std.proofs.Math.Nat.{mul-lt-mul_of_pos_right, mul-le-mul}
use Rattle.std.proofs.lemmas.Bool.{cases_lt}
use Rattle.std.proofs.lemmas.List.{append-nil, append_assoc, drop_all, get_or-map, length-map, map-append, take_more}
use Rattle.std.proofs.lemmas.List.FromFn.{get_or-map-range_with_len, length-map-range_with_len}
use Rattle.std.proofs.lemmas.Grind.{flat_map-append}
use Rattle.std.specs.List.{flat_map, range_with_len}
use Rattle.sched_base.specs.declared.rows.Leaf.TheVariants.{Task}
use Rattle.sched_base.specs.declared.rows.Row.{Row}
use Rattle.sched_base.specs.declared.rows.TaskId.{TaskId}
use Rattle.sched_base.specs.Scale.{Fits, IsScale}
use Rattle.sched_base.specs.Sets.{IsLawful, SetContents}
use Rattle.sched_base.specs.Tables.{IsRound, end_after, end_of, rounds_in, with_round}
use Rattle.sched_base.proofs.RowLemmas.{is_of_task_at}
use Rattle.sched_base.proofs.TableLemmas.{length-lane_of-with_round, length-with_round}
use Rattle.sched_base.specs.Lanes.{lanes_of}
use Rattle.wrap_sched.specs.Spans.{Span, spans}
use Rattle.wrap_sched.specs.Steps.{HeldRound, cuts, rates, stretched_rows, unit_round, unit_rounds}
use Rattle.wrap_sched.specs.Wrapped.{holder, is_cut, is_point, leaf_of, round_rows, round_spans, row_of, shares, slice_rows, units, wrapped, wrapped_rounds}
use Rattle.wrap_sched.proofs.CountLemmas.{rounds_are, wrapped_rounds_are}
use Rattle.sched_base.proofs.ScheduleLanes.{end_of-with_round, lane_of-lanes_of, lanes_of-round}
use Rattle.wrap_sched.proofs.ShareLemmas.{cut_at_zero}
use Rattle.wrap_sched.proofs.SpanLemmas.{Tile, tile_at}
use Rattle.wrap_sched.proofs.StretchLemmas.{holder_stretch, length-spans, shares_are, stretch}
use Rattle.wrap_sched.proofs.ValidRows.{once}

-- rows that agree on each processor are the same
map_same : {X : Type 0} (f g : ℕ → X) (n a : ℕ) → ((k : ℕ) → a ≤ k → k < a + n → f k ≡ g k) → map f (range_with_len a n) ≡ map g (range_with_len a n)
map_same f g zero a h = refl
map_same f g (suc n) a h = ap₂ (λ y ys. y ∷ ys) (h a (omega arith) (omega arith)) (map_same f g n (a + 1) (λ k l m. h k (omega arith) (omega arith)))

-- the row at place k
map_get : (f : ℕ → Row) (n a k : ℕ) (r : Row) → slice_get (map f (range_with_len a n)) k ≡ Some r → r ≡ f (a + k)
map_get f zero a k r at = cc
map_get f (suc n) a zero r at = let same : f a ≡ r = cc in sym same ∙ ap f (sym (add-zero a))
map_get f (suc n) a (suc k) r at = let e : a + 1 + k ≡ a + suc k = omega arith in map_get f n (a + 1) k r at ∙ ap f e

-- all ticks fit
pub ticks_fit : (x horizon scale : ℕ) → x ≤ horizon → horizon < 2 ^ 32 → scale ≤ 2 ^ 94 → x * scale < 2 ^ 127
ticks_fit x horizon scale l m n =
    let most : x * scale ≤ 2 ^ 32 * 2 ^ 94 = mul-le-mul (le_of_lt (let k : x < 2 ^ 32 = omega arith in k)) n in
    let fits : 2 ^ 32 * 2 ^ 94 < 2 ^ 127 = lit< tt in
    omega (arith, most, fits)

module _ (s : SetContents) (scale : ℕ) (lawful : IsLawful s) (is : IsScale s.tasks scale) (fits : Fits scale s) (slice : Span)
    (up : slice.begin < slice.end) where
  abbrev row : Span → ℕ → Row
  row = row_of s.tasks scale slice.begin (units slice * scale) (shares scale (units slice) s.tasks)

  -- the row of processor p in a round
  pub round_get : (r : Span) (p : ℕ) (x : Row) → slice_get (round_rows scale s.tasks s.processors slice r) p ≡ Some x → x ≡ row r p
  round_get r p x at = map_get (row r) s.processors 0 p x at ∙ ap (row r) (zero-add p)

  pub round_long : (r : Span) → length (round_rows scale s.tasks s.processors slice r) ≡ s.processors
  round_long r = length-map-range_with_len (row r) 0 s.processors

  round_once : (r : Span) (p q : ℕ) (x y : Row) (task : TaskId) → p < q → slice_get (round_rows scale s.tasks s.processors slice r) p ≡ Some x →
      slice_get (round_rows scale s.tasks s.processors slice r) q ≡ Some y
      → x.leaf ≡ Task task → y.leaf ≡ Task task → ⊥
  round_once r p q x y task l at there of of' =
      once s scale lawful is fits slice up r p q task.0 l
      (is_of_task_at task.0 (row r p).leaf (ap (λ (z : Row). z.leaf) (sym (round_get r p x at)) ∙ of))
      (is_of_task_at task.0 (row r q).leaf (ap (λ (z : Row). z.leaf) (sym (round_get r q y there)) ∙ of'))

  -- the rows of a round are a whole round
  pub round_whole : (r : Span) → r.begin < r.end → slice.begin * scale + r.end < 2 ^ 127 → IsRound (slice.begin * scale + r.begin) (round_rows scale s.tasks
      s.processors slice r)
  round_whole r forward early = record {
    own = λ p x at. ap (λ (z : Row). z.processor) (round_get r p x at);
    starts = λ p x at. ap (λ (z : Row). z.start) (round_get r p x at);
    forward = λ p x at.
        (let begin = ap (λ (z : Row). z.start) (round_get r p x at) in
        let end = ap (λ (z : Row). z.end) (round_get r p x at) in
        (omega (arith, begin, end, forward), omega (arith, end, early)));
    ends = λ p q x y at there. ap (λ (z : Row). z.end) (round_get r p x at) ∙ sym (ap (λ (z : Row). z.end) (round_get r q y there));
    once = λ p q x y task at there of of'. elim (cases_lt p q) [
      | inl l ↦ absurd (round_once r p q x y task l at there of of')
      | inr l ↦ elim (cases_lt q p) [
        | inl m ↦ absurd (round_once r q p y x task m there at of' of)
        | inr m ↦ omega arith
      ]
    ];
  }

  -- one round more on the lanes
  pub round_lanes : (rows : List Row) (r : Span) → lanes_of s.processors (rows ++ round_rows scale s.tasks s.processors slice r) ≡ with_round
      (lanes_of s.processors rows) (round_rows scale s.tasks s.processors slice r)
  round_lanes rows r = lanes_of-round s.processors rows (round_rows scale s.tasks s.processors slice r) (round_long r)
      (record { own = λ k x at. ap (λ (z : Row). z.processor) (round_get r k x at) ∙ sym (zero-add k) })

  module _ (lanes : List (List Row)) (long : length lanes ≡ s.processors) (r : Span) where
    same_length : length (round_rows scale s.tasks s.processors slice r) ≡ length lanes
    same_length = round_long r ∙ sym long

    some_lanes : 0 < length lanes
    some_lanes = let some = lawful.some_processors in omega (arith, some, long)

    pub next_end : end_of (with_round lanes (round_rows scale s.tasks s.processors slice r)) ≡ slice.begin * scale + r.end
    next_end = end_of-with_round lanes (round_rows scale s.tasks s.processors slice r) (slice.begin * scale + r.end) same_length some_lanes
        (λ x at. ap (λ (z : Row). z.end) (round_get r 0 x at))

    pub next_count : rounds_in (with_round lanes (round_rows scale s.tasks s.processors slice r)) ≡ rounds_in lanes + 1
    next_count = length-lane_of-with_round lanes (round_rows scale s.tasks s.processors slice r) 0 same_length some_lanes

    pub next_long : length (with_round lanes (round_rows scale s.tasks s.processors slice r)) ≡ s.processors
    next_long = length-with_round lanes (round_rows scale s.tasks s.processors slice r) ∙ long

module _ (s : SetContents) (scale : ℕ) (lawful : IsLawful s) (is : IsScale s.tasks scale) (slice : Span) (up : slice.begin < slice.end) where
  -- the rows as the code writes them, from the round of one unit
  pub written : (r : Span) (begin end : ℕ) → begin ≡ slice.begin * scale + units slice * r.begin → end ≡ slice.begin * scale + units slice * r.end →
      map (λ p. record {
        processor = p;
        start = begin;
        end = end;
        leaf = leaf_of s.tasks slice.begin p
            (get_or (unit_round s.processors scale (rates scale s.tasks) r).holders p 0);
      }) (range_with_len 0 s.processors)
      ≡ round_rows scale s.tasks s.processors slice (stretch (units slice) r)
  written r begin end begin_is end_is =
      map_same (λ p. record {
        processor = p;
        start = begin;
        end = end;
        leaf = leaf_of s.tasks slice.begin p
            (get_or (unit_round s.processors scale (rates scale s.tasks) r).holders p 0);
      }) (row_of s.tasks scale slice.begin (units slice * scale)
      (shares scale (units slice) s.tasks) (stretch (units slice) r)) s.processors 0
      (λ p l m.
      let u = units slice in
      let a : begin ≡ slice.begin * scale + r.begin * u = omega (arith, begin_is) in
      let b : end ≡ slice.begin * scale + r.end * u = omega (arith, end_is) in
      let place : p * (u * scale) + r.begin * u ≡ (p * scale + r.begin) * u = (let d = add-mul (p * scale) r.begin u in omega (arith, d)) in
      let held : get_or (unit_round s.processors scale (rates scale s.tasks) r).holders p 0 ≡ holder (shares scale u s.tasks) (p * (u * scale) + r.begin * u) =
      get_or-map-range_with_len (λ q. holder (rates scale s.tasks) (q * scale + r.begin)) 0 s.processors p p 0 (omega arith) (omega arith)
      ∙ sym (ap₂ holder (shares_are scale u s.tasks) place ∙ holder_stretch u (omega arith) (rates scale s.tasks) (p * scale + r.begin)) in
      ap (λ x. record {
        processor = p;
        start = x;
        end = end;
        leaf = leaf_of s.tasks slice.begin p
            (get_or (unit_round s.processors scale (rates scale s.tasks) r).holders p 0);
      }) a
      ∙ ap₂ (λ x i. record { processor = p; start = slice.begin * scale + r.begin * u; end = x; leaf = leaf_of s.tasks slice.begin p i }) b held)

  -- the slice's rows, from the rounds of one unit
  pub slice_rows_are : slice_rows scale s.tasks s.processors slice ≡ flat_map (round_rows scale s.tasks s.processors slice) (map (stretch (units slice))
      (round_spans scale (rates scale s.tasks)))
  slice_rows_are = ap (λ rs. flat_map (round_rows scale s.tasks s.processors slice) rs) (rounds_are scale s.tasks is.positive slice up)

-- an item of the rounds of one unit
pub record IsItem (m scale : ℕ) (ns : List ℕ) (i : ℕ) (item : HeldRound) : Type 0 where
  pub round : Span
  pub is : item ≡ unit_round m scale ns round
  pub rest : drop i (round_spans scale ns) ≡ round ∷ drop (i + 1) (round_spans scale ns)
  pub before : take (i + 1) (round_spans scale ns) ≡ take i (round_spans scale ns) ++ round ∷ []

pub item_at : (m scale : ℕ) (ns : List ℕ) (pattern : List HeldRound) (i : ℕ) (item : HeldRound) → pattern ≡ unit_rounds m scale ns → i < length pattern →
    item ≡ get_or pattern i item → IsItem m scale ns i item
item_at m scale ns pattern i item is less at =
    let many = ap length is ∙ length-map (round_spans scale ns) (unit_round m scale ns) in
    let l : i < length (round_spans scale ns) = omega (arith, many, less) in
    let none : Span = record { begin = 0; end = 0 } in
    let rs = round_spans scale ns in
    let next : suc i ≡ i + 1 = omega arith in
    record {
      round = get_or rs i none;
      is = at ∙ ap (λ ps. get_or ps i item) is ∙ get_or-map (unit_round m scale ns) rs i none item l;
      rest = drop-cons rs i none l ∙ ap (λ k. get_or rs i none ∷ drop k rs) next;
      before = take_more rs i none l;
    }

-- ---- the rounds of a slice, one after another

-- the slice from unit x up to unit y
abbrev pub slice_of : ℕ → ℕ → Span
slice_of x y = record { begin = x; end = y }

-- the rows of its first i rounds
abbrev pub rows_up_to : SetContents → ℕ → ℕ → ℕ → ℕ → List Row
rows_up_to s scale x y i = flat_map (round_rows scale s.tasks s.processors (slice_of x y)) (map (stretch (y - x))
    (take i (round_spans scale (rates scale s.tasks))))

-- where the lanes end before round i
pub record IsReached (s : SetContents) (scale x y i : ℕ) (lanes : List (List Row)) : Type 0 where
  pub place : ℕ
  pub tile : Tile (is_cut scale (rates scale s.tasks)) place scale (drop i (round_spans scale (rates scale s.tasks)))
  pub end : end_of lanes ≡ x * scale + place * (y - x)
  pub whole : length lanes ≡ s.processors

-- places of a slice fit
pub place_fits : (u q scale : ℕ) → u < 2 ^ 32 → q ≤ scale → scale ≤ 2 ^ 94 → u * q < 2 ^ 127
place_fits u q scale l m n =
    let most : u * q ≤ 2 ^ 32 * 2 ^ 94 = mul-le-mul (le_of_lt l) (let k : q ≤ 2 ^ 94 = omega arith in k) in
    let fits : 2 ^ 32 * 2 ^ 94 < 2 ^ 127 = lit< tt in
    omega (arith, most, fits)

module _ (s : SetContents) (scale : ℕ) (lawful : IsLawful s) (is : IsScale s.tasks scale) (x y : ℕ) (forward : x < y) (lanes : List (List Row)) where
  pub first_reached : end_of lanes ≡ x * scale → length lanes ≡ s.processors → IsReached s scale x y 0 lanes
  first_reached end whole = record {
    place = 0;
    tile = tile_at (is_cut scale (rates scale s.tasks)) scale is.positive (cut_at_zero scale (rates scale s.tasks));
    end = omega (arith, end);
    whole = whole;
  }

  pub last_reached : (i : ℕ) → length (round_spans scale (rates scale s.tasks)) ≤ i → IsReached s scale x y i lanes → end_of lanes ≡ y * scale
  last_reached i l h =
      let F : List Span → Type 0 = λ rs. Tile (is_cut scale (rates scale s.tasks)) h.place scale rs in
      let done : h.place ≡ scale = subst F (drop_all i (round_spans scale (rates scale s.tasks)) l) h.tile in
      let at = h.end in
      let e = ap (λ a. a * (y - x)) done in
      let parts = add-mul (y - x) x scale in
      let whole : y - x + x ≡ y = omega arith in
      let f = ap (λ k. k * scale) whole in
      omega (arith, at, e, parts, f)

  module _ (i : ℕ) (h : IsReached s scale x y i lanes) (item : HeldRound) (it : IsItem s.processors scale (rates scale s.tasks) i item) where
    tile_here : Tile (is_cut scale (rates scale s.tasks)) h.place scale (it.round ∷ drop (i + 1) (round_spans scale (rates scale s.tasks)))
    tile_here = let F : List Span → Type 0 = λ rs. Tile (is_cut scale (rates scale s.tasks)) h.place scale rs in subst F it.rest h.tile

    pub item_bounds : (item.begin < item.end) × (item.end ≤ scale)
    item_bounds =
        let (at, up, high, still, rest) = tile_here in
        let b = ap (λ (z : HeldRound). z.begin) it.is in
        let e = ap (λ (z : HeldRound). z.end) it.is in
        (omega (arith, b, e, up), omega (arith, e, high))

    -- the round begins where the lanes end
    pub item_begins : end_of lanes ≡ x * scale + it.round.begin * (y - x)
    item_begins =
        let (at, up, high, still, rest) = tile_here in
        let e = ap (λ a. a * (y - x)) at in
        let end = h.end in
        omega (arith, e, end)

    module _ (fits : Fits scale s) where
      pub next_reached : IsReached s scale x y (i + 1) (with_round lanes (round_rows scale s.tasks s.processors (slice_of x y) (stretch (y - x) it.round)))
      next_reached =
          let (at, up, high, still, rest) = tile_here in
          record {
            place = it.round.end;
            tile = rest;
            end = next_end s scale lawful is fits (slice_of x y) forward lanes h.whole (stretch (y - x) it.round);
            whole = next_long s scale lawful is fits (slice_of x y) forward lanes h.whole (stretch (y - x) it.round);
          }

      pub item_whole : y ≤ s.horizon → scale ≤ 2 ^ 94 → IsRound (end_of lanes) (round_rows scale s.tasks s.processors (slice_of x y) (stretch (y - x) it.round))
      item_whole early small =
          let (at, up, high, still, rest) = tile_here in
          let room = lawful.horizon_fits in
          let more = mul-lt-mul_of_pos_right {m = it.round.begin} {n = it.round.end} {k = y - x} up (omega arith) in
          let all = ticks_fit y s.horizon scale early room small in
          let most : it.round.end * (y - x) ≤ scale * (y - x) = mul-le-mul_right (y - x) high in
          let parts = add-mul (y - x) x scale in
          let whole : y - x + x ≡ y = omega arith in
          let f = ap (λ k. k * scale) whole in
          let F : ℕ → Type 0 = λ n. IsRound n (round_rows scale s.tasks s.processors (slice_of x y) (stretch (y - x) it.round)) in
          subst F (sym item_begins) (round_whole s scale lawful is fits (slice_of x y) forward (stretch (y - x) it.round) more (omega (
            arith,
            all,
            most,
            parts,
            f,
          )))

      -- the rows so far, with one round more
      pub next_rows : (done : List Row) → (done ++ rows_up_to s scale x y i) ++ round_rows scale s.tasks s.processors (slice_of x y)
          (stretch (y - x) it.round) ≡ done ++ rows_up_to s scale x y (i + 1)
      next_rows done =
          let f = round_rows scale s.tasks s.processors (slice_of x y) in
          let g = stretch (y - x) in
          let here : flat_map f (g it.round ∷ []) ≡ f (g it.round) = append-nil (f (g it.round)) in
          append_assoc done (rows_up_to s scale x y i) (f (g it.round))
          ∙ ap (λ rows. done ++ (rows_up_to s scale x y i ++ rows)) (sym here)
          ∙ ap (λ rows. done ++ rows) (sym (flat_map-append f (map g (take i (round_spans scale (rates scale s.tasks)))) (g it.round ∷ [])))
          ∙ ap (λ rs. done ++ flat_map f rs) (sym (ap (map g) it.before ∙ map-append g (take i (round_spans scale (rates scale s.tasks))) (it.round ∷ [])))

module _ (s : SetContents) (scale : ℕ) (lawful : IsLawful s) (is : IsScale s.tasks scale) (x y : ℕ) (forward : x < y) (i : ℕ) (item : HeldRound)
    (it : IsItem s.processors scale (rates scale s.tasks) i item) where
  -- a holder for each processor
  pub item_holders : length item.holders ≡ s.processors
  item_holders =
      ap length (ap (λ (z : HeldRound). z.holders) it.is)
      ∙ length-map-range_with_len (λ p. holder (rates scale s.tasks) (p * scale + it.round.begin)) 0 s.processors

  module _ (start : ℕ) (at : start ≡ x * scale) where
    -- all ticks of a round fit
    pub item_fits : y ≤ s.horizon → scale ≤ 2 ^ 94 → item.end ≤ scale → start + (y - x) * item.end < 2 ^ 128
    item_fits early small within =
        let room = lawful.horizon_fits in
        let a = ticks_fit x s.horizon scale (omega (arith, early, forward)) room small in
        let b = place_fits (y - x) item.end scale (omega (arith, early, room)) within small in
        let two : 2 ^ 127 + 2 ^ 127 ≡ 2 ^ 128 = refl in
        omega (arith, a, b, two, at)

    -- the rows that the code writes are the round's
    pub written_rows : stretched_rows s x y start item ≡ round_rows scale s.tasks s.processors (slice_of x y) (stretch (y - x) it.round)
    written_rows =
        let r = it.round in
        let place : ℕ → ℕ → ℕ = λ n q. n + (y - x) * q in
        let begin_is : start + (y - x) * item.begin ≡ x * scale + (y - x) * r.begin = ap₂ place at (ap (λ (z : HeldRound). z.begin) it.is) in
        let end_is : start + (y - x) * item.end ≡ x * scale + (y - x) * r.end = ap₂ place at (ap (λ (z : HeldRound). z.end) it.is) in
        ap (λ (ns : List ℕ). map (λ p. record {
          processor = p;
          start = start + (y - x) * item.begin;
          end = start + (y - x) * item.end;
          leaf = leaf_of s.tasks x p (get_or ns p 0);
        }) (range_with_len 0 s.processors))
        (ap (λ (z : HeldRound). z.holders) it.is)
        ∙ written s scale lawful is (slice_of x y) forward r (start + (y - x) * item.begin) (start + (y - x) * item.end) begin_is end_is

-- ---- the slices, one after another

-- all rows
pub wrapped_from : (s : SetContents) (scale : ℕ) → flat_map (slice_rows scale s.tasks s.processors)
    (spans (filter (is_point s.tasks) (range_with_len 0 (s.horizon - 0))) s.horizon) ≡ wrapped scale s
unfolding wrapped
wrapped_from s scale = let e : s.horizon - 0 ≡ s.horizon = omega arith in ap (λ n. flat_map (slice_rows scale s.tasks s.processors)
    (spans (filter (is_point s.tasks) (range_with_len 0 n)) s.horizon)) e

-- lanes with no row
pub none_end : (m : ℕ) (lanes : List (List Row)) → 0 < m → lanes ≡ lanes_of m [] → end_of lanes ≡ 0
none_end m lanes some is = ap end_of is ∙ ap (end_after 0) (lane_of-lanes_of m [] 0 some)

pub none_rounds : (m : ℕ) (lanes : List (List Row)) → 0 < m → lanes ≡ lanes_of m [] → rounds_in lanes ≡ 0
none_rounds m lanes some is = ap rounds_in is ∙ ap length (lane_of-lanes_of m [] 0 some)

-- as many rounds as are left
pub room_from : (s : SetContents) (scale : ℕ) → IsLawful s → IsScale s.tasks scale → (pattern : List HeldRound) → pattern ≡ unit_rounds s.processors scale
    (rates scale s.tasks)
    → wrapped_rounds scale s ≡ length pattern * length (filter (is_point s.tasks) (range_with_len 0 (s.horizon - 0)))
room_from s scale lawful is pattern pattern_is =
    let ns = rates scale s.tasks in
    let e : s.horizon - 0 ≡ s.horizon = omega arith in
    let many : length pattern ≡ length (cuts scale ns) = ap length pattern_is ∙ length-map (round_spans scale ns) (unit_round s.processors scale ns)
    ∙ length-spans (cuts scale ns) scale in
    wrapped_rounds_are s scale lawful is ∙ sym (ap₂ (λ a b. a * b) many (ap (λ n. length (filter (is_point s.tasks) (range_with_len 0 n))) e))
