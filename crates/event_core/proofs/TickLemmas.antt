-- Ticks in blocks, and the places of nodes.
use Rattle.std.proofs.Common.{◌≡◌, ◌≢◌, ◌⊎◌, ℕ, ◌+◌, ◌*◌, ◌/◌, ◌<◌, ◌≤◌, min, List, length, replicate, get_or, refl, ap, arith, inl, inr, sym}
use Rattle.std.proofs.Common.{le_refl, ◌∙◌, get_or-set_same, get_or-set_other}
use Rattle.std.proofs.lemmas.Bool.{cases_eq, cases_lt}
use Rattle.std.proofs.lemmas.List.{ext_get_or, length-map, get_or-map, length-set, length-replicate, get_or-replicate, get_or_past}
use Rattle.std.proofs.Math.ListN.{set}
use Rattle.event_core.specs.Serving.{no_tick}
use Rattle.event_core.specs.Ticks.{no_narrow, ticks_by, AreInBlocks, AreNarrowed, ArePlaces, IsFirstTick}

-- ---- places

-- the nodes below x have places, packs in front and members behind; those between are free
pub record AreNumbered (number nodes : List ℕ) (front back x count : ℕ) : Type 0 where
  pub number_long : length number ≡ count
  pub nodes_long : length nodes ≡ count
  pub free : front + count ≡ back + x
  pub few : back ≤ count
  pub apart : (y : ℕ) → y < x → (get_or number y 0 < front) ⊎ (back ≤ get_or number y 0)
  pub stands : (y : ℕ) → y < x → get_or number y 0 < count
  pub back_at : (y : ℕ) → y < x → get_or nodes (get_or number y 0) 0 ≡ y
  pub within : (k : ℕ) → k < count → get_or nodes k 0 < count
  pub forth : (k : ℕ) → (k < front) ⊎ (back ≤ k) → k < count → get_or number (get_or nodes k 0) 0 ≡ k
  pub given : (k : ℕ) → (k < front) ⊎ (back ≤ k) → k < count → get_or nodes k 0 < x

pub none_numbered : (number nodes : List ℕ) (back count : ℕ) → back ≡ count → number ≡ replicate count 0 → nodes ≡ replicate count 0 →
    AreNumbered number nodes 0 back 0 count
none_numbered number nodes back count all e f = record {
  number_long = ap (λ (xs : List ℕ). length xs) e ∙ length-replicate {A = ℕ} count 0;
  nodes_long = ap (λ (xs : List ℕ). length xs) f ∙ length-replicate {A = ℕ} count 0;
  free = omega (arith, all);
  few = omega (arith, all);
  apart = λ y l. absurd (omega (arith, l));
  stands = λ y l. absurd (omega (arith, l));
  back_at = λ y l. absurd (omega (arith, l));
  within = λ k l. (let z = ap (λ (xs : List ℕ). get_or xs k 0) f ∙ get_or-replicate count k 0 0 l in omega (arith, z, l));
  forth = λ k taken l. elim taken [ inl low ↦ absurd (omega (arith, low)) | inr high ↦ absurd (omega (arith, high, l, all)) ];
  given = λ k taken l. elim taken [ inl low ↦ absurd (omega (arith, low)) | inr high ↦ absurd (omega (arith, high, l, all)) ];
}

-- one node more has a place, among those that were free
module _ (number nodes number' nodes' : List ℕ) (front back front' back' x place count : ℕ) (l : x < count) (en : number' ≡ set number x place)
    (em : nodes' ≡ set nodes place x) (low : front ≤ place) (high : place < back)
    (front_up : front ≤ front') (back_down : back' ≤ back) (taken : (place < front') ⊎ (back' ≤ place)) (only : (k : ℕ) → (k < front') ⊎ (back' ≤ k) →
    k ≢ place → (k < front) ⊎ (back ≤ k)) (free : front' + count ≡ back' + (x + 1)) (was : AreNumbered number nodes front back x count) where
  own : get_or number' x 0 ≡ place
  own = ap (λ (xs : List ℕ). get_or xs x 0) en ∙ get_or-set_same number x place 0 (let e = was.number_long in omega (arith, e, l))

  other : (y : ℕ) → y ≢ x → get_or number' y 0 ≡ get_or number y 0
  other y ne = ap (λ (xs : List ℕ). get_or xs y 0) en ∙ get_or-set_other number x y place 0 ne

  in_places : place < count
  in_places = (let f = was.few in omega (arith, f, high))

  node_own : get_or nodes' place 0 ≡ x
  node_own = ap (λ (xs : List ℕ). get_or xs place 0) em ∙ get_or-set_same nodes place x 0 (let e = was.nodes_long in let b = in_places in omega (arith, e, b))

  node_other : (k : ℕ) → k ≢ place → get_or nodes' k 0 ≡ get_or nodes k 0
  node_other k ne = ap (λ (xs : List ℕ). get_or xs k 0) em ∙ get_or-set_other nodes place k x 0 ne

  earlier : (y : ℕ) → y < x + 1 → y ≢ x → y < x
  earlier y m ne = omega (arith, m, ne)

  not_there : (y : ℕ) → y < x → get_or number y 0 ≢ place
  not_there y m e = elim (was.apart y m) [ inl b ↦ absurd (omega (arith, b, e, low)) | inr a ↦ absurd (omega (arith, a, e, high)) ]

  pub one_numbered : AreNumbered number' nodes' front' back' (x + 1) count
  one_numbered = record {
    number_long = ap (λ (xs : List ℕ). length xs) en ∙ length-set number x place ∙ was.number_long;
    nodes_long = ap (λ (xs : List ℕ). length xs) em ∙ length-set nodes place x ∙ was.nodes_long;
    free = free;
    few = (let f = was.few in omega (arith, f, back_down));
    apart = λ y m. elim (cases_eq y x) [
      | inl same ↦ (let e = ap (λ z. get_or number' z 0) same ∙ own in elim taken [ inl b ↦ inl (omega (arith, b, e)) | inr a ↦ inr (omega (arith, a, e)) ])
      | inr ne ↦ (let e = other y ne in elim (was.apart y (earlier y m ne))
          [ inl b ↦ inl (omega (arith, b, e, front_up)) | inr a ↦ inr (omega (arith, a, e, back_down)) ])
    ];
    stands = λ y m. elim (cases_eq y x) [
      | inl same ↦ (let e = ap (λ z. get_or number' z 0) same ∙ own in let b = in_places in omega (arith, e, b))
      | inr ne ↦ (let e = other y ne in let s = was.stands y (earlier y m ne) in omega (arith, e, s))
    ];
    back_at = λ y m. elim (cases_eq y x) [
      | inl same ↦ ap (λ k. get_or nodes' k 0) (ap (λ z. get_or number' z 0) same ∙ own) ∙ node_own ∙ sym same
      | inr ne ↦ ap (λ k. get_or nodes' k 0) (other y ne) ∙ node_other (get_or number y 0) (not_there y (earlier y m ne)) ∙ was.back_at y (earlier y m ne)
    ];
    within = λ k m. elim (cases_eq k place) [
      | inl same ↦ (let e = ap (λ z. get_or nodes' z 0) same ∙ node_own in omega (arith, e, l))
      | inr ne ↦ (let e = node_other k ne in let w = was.within k m in omega (arith, e, w))
    ];
    forth = λ k mine m. elim (cases_eq k place) [
      | inl same ↦ ap (λ y. get_or number' y 0) (ap (λ z. get_or nodes' z 0) same ∙ node_own) ∙ own ∙ sym same
      | inr ne ↦ (let g = was.given k (only k mine ne) m in
          ap (λ y. get_or number' y 0) (node_other k ne) ∙ other (get_or nodes k 0) (λ e. omega (arith, e, g)) ∙ was.forth k (only k mine ne) m)
    ];
    given = λ k mine m. elim (cases_eq k place) [
      | inl same ↦ (let e = ap (λ z. get_or nodes' z 0) same ∙ node_own in omega (arith, e))
      | inr ne ↦ (let e = node_other k ne in let g = was.given k (only k mine ne) m in omega (arith, e, g))
    ];
  }

-- a pack has the first free place
pub pack_numbered : (number nodes number' nodes' : List ℕ) (front back x count : ℕ) → x < count → number' ≡ set number x front → nodes' ≡ set nodes front x
    → AreNumbered number nodes front back x count → AreNumbered number' nodes' (front + 1) back (x + 1) count
pack_numbered number nodes number' nodes' front back x count l en em was =
    let free = was.free in
    one_numbered number nodes number' nodes' front back (front + 1) back x front count l en em (le_refl front) (omega (arith, free, l)) (omega arith)
    (le_refl back) (inl (omega arith))
    (λ k mine ne. elim mine [ inl low ↦ inl (omega (arith, low, ne)) | inr high ↦ inr high ]) (omega (arith, free)) was

-- a member has the last one
pub member_numbered : (number nodes number' nodes' : List ℕ) (front back back' x count : ℕ) → x < count → back' + 1 ≡ back → number' ≡ set number x back' →
    nodes' ≡ set nodes back' x → AreNumbered number nodes front back x count → AreNumbered number' nodes' front back' (x + 1) count
member_numbered number nodes number' nodes' front back back' x count l next en em was =
    let free = was.free in
    one_numbered number nodes number' nodes' front back front back' x back' count l en em (omega (arith, free, l, next)) (omega (arith, next))
    (le_refl front) (omega (arith, next)) (inr (le_refl back'))
    (λ k mine ne. elim mine [ inl low ↦ inl low | inr high ↦ inr (omega (arith, high, ne, next)) ]) (omega (arith, free, next)) was

pub all_numbered : (number nodes : List ℕ) (front back x count : ℕ) → x ≡ count → AreNumbered number nodes front back x count → ArePlaces number nodes count
all_numbered number nodes front back x count e was = record {
  number_long = was.number_long;
  nodes_long = was.nodes_long;
  stands = λ y l. was.stands y (omega (arith, l, e));
  back = λ y l. was.back_at y (omega (arith, l, e));
  within = was.within;
  forth = λ k l. was.forth k (elim (cases_lt k front) [ inl low ↦ inl low | inr high ↦ inr (let free = was.free in omega (arith, free, high, e)) ]) l;
}

-- ---- blocks

-- the tick of a node is that at its place
pub tick_of : (number ticks : List ℕ) (x : ℕ) → x < length number → get_or (ticks_by number ticks) x 0 ≡ get_or ticks (get_or number x 0) 0
tick_of number ticks x l = get_or-map (λ (k : ℕ). get_or ticks k 0) number x 0 0 l

pub ticks_long : (number ticks : List ℕ) → length (ticks_by number ticks) ≡ length number
ticks_long number ticks = length-map number (λ (k : ℕ). get_or ticks k 0)

-- one tick changes
pub ticks_set : (number nodes ticks ticks' : List ℕ) (x place tick : ℕ) → ArePlaces number nodes (length ticks) → x < length number →
    place ≡ get_or number x 0 → ticks' ≡ set ticks place tick → ticks_by number ticks' ≡ set (ticks_by number ticks) x tick
ticks_set number nodes ticks ticks' x place tick h l is e = ext_get_or 0 (ticks_by number ticks') (set (ticks_by number ticks) x tick)
    (ticks_long number ticks' ∙ sym (ticks_long number ticks) ∙ sym (length-set (ticks_by number ticks) x tick)) each
  where
    long : length number ≡ length ticks
    long = h.number_long

    each : (y : ℕ) → y < length (ticks_by number ticks') → get_or (ticks_by number ticks') y 0 ≡ get_or (set (ticks_by number ticks) x tick) y 0
    each y m =
        let low : y < length number = (let a = ticks_long number ticks' in omega (arith, a, m)) in
        tick_of number ticks' y low
        ∙ elim (cases_eq y x) [
          | inl same ↦
              ap (λ (ts : List ℕ). get_or ts (get_or number y 0) 0) e
              ∙ ap (λ (k : ℕ). get_or (set ticks place tick) k 0) (ap (λ (z : ℕ). get_or number z 0) same ∙ sym is)
              ∙ get_or-set_same ticks place tick 0 (let s = h.stands x (omega (arith, l, long)) in omega (arith, s, is))
              ∙ sym (ap (λ (z : ℕ). get_or (set (ticks_by number ticks) x tick) z 0) same ∙ get_or-set_same (ticks_by number ticks) x tick 0
              (let a = ticks_long number ticks in omega (arith, a, l)))
          | inr ne ↦
              ap (λ (ts : List ℕ). get_or ts (get_or number y 0) 0) e
              ∙ get_or-set_other ticks place (get_or number y 0) tick 0 (λ same. ne (sym (h.back y (omega (arith, low, long)))
              ∙ ap (λ (k : ℕ). get_or nodes k 0) (same ∙ is) ∙ h.back x (omega (arith, l, long))))
              ∙ sym (get_or-set_other (ticks_by number ticks) x y tick 0 ne ∙ tick_of number ticks y low)
        ]

-- the first of the ticks at places is that of nodes
pub first_by : (number nodes ticks : List ℕ) (most first : ℕ) → ArePlaces number nodes (length ticks) → IsFirstTick ticks most first →
    IsFirstTick (ticks_by number ticks) most first
first_by number nodes ticks most first h was = record {
  below = was.below;
  all = λ x l. (let low = in_number x l in let a = was.all (get_or number x 0) (h.stands x (let long = h.number_long in omega (arith, low, long))) in
      let e = tick_of number ticks x low in omega (arith, a, e));
  one = elim was.one [
    | inl most ↦ inl most
    | inr found ↦
        (let (k, l, e) = found in
        let w = h.within k l in
        let long = h.number_long in
        let low : get_or nodes k 0 < length number = omega (arith, w, long) in
        inr (
          get_or nodes k 0,
          (let a = ticks_long number ticks in omega (arith, a, low)),
          e ∙ ap (λ (j : ℕ). get_or ticks j 0) (sym (h.forth k l))
              ∙ sym (tick_of number ticks (get_or nodes k 0) low),
        ))
  ];
}
  where
    in_number : (x : ℕ) → x < length (ticks_by number ticks) → x < length number
    in_number x l = (let a = ticks_long number ticks in omega (arith, a, l))

-- no node has a tick
pub none_by : (number nodes ticks : List ℕ) (count : ℕ) → ArePlaces number nodes count → ticks ≡ replicate count no_tick → ticks_by number ticks ≡ replicate
    count no_tick
none_by number nodes ticks count h e = ext_get_or 0 (ticks_by number ticks) (replicate count no_tick) (ticks_long number ticks ∙ h.number_long
    ∙ sym (length-replicate {A = ℕ} count no_tick)) each
  where
    each : (x : ℕ) → x < length (ticks_by number ticks) → get_or (ticks_by number ticks) x 0 ≡ get_or (replicate count no_tick) x 0
    each x l =
        let a = ticks_long number ticks in
        let long = h.number_long in
        let low : x < length number = omega (arith, a, l) in
        let in_count : x < count = omega (arith, low, long) in
        tick_of number ticks x low ∙ ap (λ (ts : List ℕ). get_or ts (get_or number x 0) 0) e ∙ get_or-replicate count (get_or number x 0) no_tick 0
        (h.stands x in_count) ∙ sym (get_or-replicate count x no_tick 0 in_count)

-- one place more
pub least_next : (ticks : List ℕ) (from k first next : ℕ) → k < length ticks → next ≡ min first (get_or ticks k 0) →
    ((j : ℕ) → from ≤ j → j < k → first ≤ get_or ticks j 0) × ((j : ℕ) × (j < length ticks) × (first ≡ get_or ticks j 0)) →
    ((j : ℕ) → from ≤ j → j < k + 1 → next ≤ get_or ticks j 0) × ((j : ℕ) × (j < length ticks) × (next ≡ get_or ticks j 0))
least_next ticks from k first next l e was = (
  λ j low high. elim (cases_eq j k) [
    | inl same ↦ (let a = ap (λ i. get_or ticks i 0) same in omega (arith, a, e))
    | inr ne ↦ (let a = was.0 j low (omega (arith, high, ne)) in omega (arith, a, e))
  ],
  elim (cases_lt first (get_or ticks k 0)) [
    | inl less ↦ (let same : next ≡ first = omega (arith, e, less) in (was.1.0, was.1.1, same ∙ was.1.2))
    | inr more ↦ (k, l, omega (arith, e, more))
  ],
)

pub blocks_first : (least ticks : List ℕ) (count blocks : ℕ) → least ≡ replicate blocks 0 → ticks ≡ replicate count no_narrow → count ≤ blocks * 8 →
    AreInBlocks least ticks 0
blocks_first least ticks count blocks el et far = record {
  long = (let a = long in let b = ap (λ (xs : List ℕ). length xs) el ∙ length-replicate {A = ℕ} blocks 0 in omega (arith, a, b, far));
  few = omega arith;
  bound = λ k l. (let a = zero_at (k / 8) in omega (arith, a));
  none = λ one b. zero_at b;
  rest = λ k l past. none k l;
}
  where
    long : length ticks ≡ count
    long = ap (λ (xs : List ℕ). length xs) et ∙ length-replicate {A = ℕ} count no_narrow

    zero_at : (b : ℕ) → get_or least b 0 ≡ 0
    zero_at b = ap (λ (xs : List ℕ). get_or xs b 0) el ∙ (elim (cases_lt b blocks) [
      | inl low ↦ get_or-replicate blocks b 0 0 low
      | inr past ↦ get_or_past (replicate blocks 0) b 0 (let l = length-replicate {A = ℕ} blocks 0 in omega (arith, l, past))
    ])

    none : (k : ℕ) → k < length ticks → get_or ticks k 0 ≡ no_narrow
    none k l = ap (λ (xs : List ℕ). get_or xs k 0) et ∙ get_or-replicate count k no_narrow 0 (omega (arith, l, long))

-- no place has a tick
pub narrowed_first : (narrow ticks : List ℕ) (count : ℕ) → narrow ≡ replicate count no_narrow → ticks ≡ replicate count no_tick → AreNarrowed narrow ticks 0
narrowed_first narrow ticks count en et = record {
  long = ap (λ (xs : List ℕ). length xs) en ∙ length-replicate {A = ℕ} count no_narrow ∙ sym long;
  few = omega arith;
  each = λ k l. (
      let a = ap (λ (xs : List ℕ). get_or xs k 0) en ∙ get_or-replicate count k no_narrow 0 (omega (arith, l, long)) in
      let b = none k l in
      omega (arith, a, b));
  rest = λ k l past. none k l;
}
  where
    long : length ticks ≡ count
    long = ap (λ (xs : List ℕ). length xs) et ∙ length-replicate {A = ℕ} count no_tick

    none : (k : ℕ) → k < length ticks → get_or ticks k 0 ≡ no_tick
    none k l = ap (λ (xs : List ℕ). get_or xs k 0) et ∙ get_or-replicate count k no_tick 0 (omega (arith, l, long))

-- one place has another tick
pub narrowed_set : (narrow ticks narrow' ticks' : List ℕ) (used used' place tick small : ℕ) → AreNarrowed narrow ticks used → place < length ticks →
    small ≡ min tick no_narrow → narrow' ≡ set narrow place small → ticks' ≡ set ticks place tick →
    used ≤ used' → place < used' → used' ≤ length ticks → AreNarrowed narrow' ticks' used'
narrowed_set narrow ticks narrow' ticks' used used' place tick small was l is en et more past few = record {
  long = ap (λ (xs : List ℕ). length xs) en ∙ length-set narrow place small ∙ was.long ∙ sym long;
  few = (let e = long in omega (arith, few, e));
  each = λ k b. elim (cases_eq k place) [
    | inl same ↦
        (let a = ap (λ (xs : List ℕ). get_or xs k 0) en ∙ ap (λ (j : ℕ). get_or (set narrow place small) j 0) same ∙ get_or-set_same narrow place small 0
        (let e = was.long in omega (arith, l, e)) in
        let c = ap (λ (xs : List ℕ). get_or xs k 0) et ∙ ap (λ (j : ℕ). get_or (set ticks place tick) j 0) same ∙ get_or-set_same ticks place tick 0 l in
        omega (arith, a, c, is))
    | inr ne ↦
        (let a = ap (λ (xs : List ℕ). get_or xs k 0) en ∙ get_or-set_other narrow place k small 0 ne in
        let c = ap (λ (xs : List ℕ). get_or xs k 0) et ∙ get_or-set_other ticks place k tick 0 ne in
        let e = was.each k (let m = long in omega (arith, b, m)) in
        omega (arith, a, c, e))
  ];
  rest = λ k b high. ap (λ (xs : List ℕ). get_or xs k 0) et ∙ get_or-set_other ticks place k tick 0 (λ e. absurd (omega (arith, e, past, high)))
      ∙ was.rest k (let m = long in omega (arith, b, m)) (omega (arith, more, high));
}
  where
    long : length ticks' ≡ length ticks
    long = ap (λ (xs : List ℕ). length xs) et ∙ length-set ticks place tick

-- the first of ticks that are narrowed
pub first_narrowed : (narrow ticks : List ℕ) (used most first : ℕ) → most < no_narrow → AreNarrowed narrow ticks used → IsFirstTick narrow most first →
    IsFirstTick ticks most first
first_narrowed narrow ticks used most first early n was = record {
  below = was.below;
  all = λ k l. (let a = was.all k (let e = n.long in omega (arith, l, e)) in let e = n.each k l in omega (arith, a, e));
  one = elim was.one [
    | inl same ↦ inl same
    | inr found ↦
        (let (k, l, e) = found in
        let low : k < length ticks = (let m = n.long in omega (arith, l, m)) in
        let b = was.below in
        let c = n.each k low in
        inr (k, low, omega (arith, e, b, c, early)))
  ];
}

-- the first of all ticks that are used
pub first_used : (narrow ticks : List ℕ) (used most first : ℕ) → most < no_tick → AreNarrowed narrow ticks used → first ≤ most →
    ((k : ℕ) → k < used → first ≤ get_or ticks k 0) →
    ((first ≡ most) ⊎ ((k : ℕ) × (k < length ticks) × (first ≡ get_or ticks k 0))) → IsFirstTick ticks most first
first_used narrow ticks used most first early n below all one = record {
  below = below;
  all = λ k l. elim (cases_lt k used) [
    | inl low ↦ all k low
    | inr past ↦ (let r = n.rest k l (omega (arith, past)) in omega (arith, r, below, early))
  ];
  one = one;
}

-- one place more
pub wide_next : (ticks : List ℕ) (most k first next : ℕ) → k < length ticks → next ≡ min first (get_or ticks k 0) →
    (first ≤ most) × ((j : ℕ) → j < k → first ≤ get_or ticks j 0) × ((first ≡ most) ⊎ ((j : ℕ) × (j < length ticks) × (first ≡ get_or ticks j 0))) →
    (next ≤ most) × ((j : ℕ) → j < k + 1 → next ≤ get_or ticks j 0) × ((next ≡ most) ⊎ ((j : ℕ) × (j < length ticks) × (next ≡ get_or ticks j 0)))
wide_next ticks most k first next l e was = (
  (let b = was.0 in omega (arith, e, b)),
  λ j high. elim (cases_eq j k) [
    | inl same ↦ (let a = ap (λ i. get_or ticks i 0) same in omega (arith, a, e))
    | inr ne ↦ (let a = was.1 j (omega (arith, high, ne)) in omega (arith, a, e))
  ],
  elim (cases_lt first (get_or ticks k 0)) [
    | inl less ↦ (let same : next ≡ first = omega (arith, e, less) in
        elim was.2 [ inl most ↦ inl (same ∙ most) | inr found ↦ inr (found.0, found.1, same ∙ found.2) ])
    | inr more ↦ inr (k, l, omega (arith, e, more))
  ],
)

-- what is found and skipped among ticks that are narrowed
pub here_narrowed : (narrow ticks : List ℕ) (used now k : ℕ) → now < no_narrow → AreNarrowed narrow ticks used → k < length ticks → get_or narrow k 0 ≡ now
    → get_or ticks k 0 ≡ now
here_narrowed narrow ticks used now k early n l e = (let c = n.each k l in omega (arith, c, e, early))

pub skipped_narrowed : (narrow ticks : List ℕ) (used now k : ℕ) → now < no_narrow → AreNarrowed narrow ticks used → k < length ticks →
    get_or narrow k 0 ≢ now → get_or ticks k 0 ≢ now
skipped_narrowed narrow ticks used now k early n l ne e = ne (let c = n.each k l in omega (arith, c, e, early))

-- the first of a tick and of those in the blocks before one
pub record IsFirstBelow (ticks : List ℕ) (most block first : ℕ) : Type 0 where
  pub below : first ≤ most
  pub all : (k : ℕ) → k < length ticks → k / 8 < block → first ≤ get_or ticks k 0
  pub one : (first ≡ most) ⊎ ((k : ℕ) × (k < length ticks) × (first ≡ get_or ticks k 0))

pub first_none : (ticks : List ℕ) (most : ℕ) → IsFirstBelow ticks most 0 most
first_none ticks most = record { below = le_refl most; all = λ k l m. absurd (omega (arith, m)); one = inl refl }

pub first_next : (ticks : List ℕ) (most block first next : ℕ) → next ≤ first → ((k : ℕ) → k < length ticks → k / 8 ≡ block → next ≤ get_or ticks k 0) →
    ((next ≡ first) ⊎ ((k : ℕ) × (k < length ticks) × (next ≡ get_or ticks k 0))) → IsFirstBelow ticks most block first → IsFirstBelow ticks most
    (block + 1) next
first_next ticks most block first next less own from was = record {
  below = (let b = was.below in omega (arith, b, less));
  all = λ k l m. elim (cases_eq (k / 8) block) [
    | inl same ↦ own k l same
    | inr ne ↦ (let a = was.all k l (omega (arith, m, ne)) in omega (arith, a, less))
  ];
  one = elim from [
    | inr found ↦ inr found
    | inl same ↦ elim was.one [ inl most ↦ inl (same ∙ most) | inr found ↦ inr (found.0, found.1, same ∙ found.2) ]
  ];
}

-- no tick of these blocks comes before it
pub first_past : (least ticks : List ℕ) (used most from to first : ℕ) → AreInBlocks least ticks used → ((b : ℕ) → from ≤ b → b < to → first ≤ get_or least b
    0) → IsFirstBelow ticks most from first → IsFirstBelow ticks most to first
first_past least ticks used most from to first h past was = record {
  below = was.below;
  all = λ k l m. elim (cases_lt (k / 8) from) [
    | inl low ↦ was.all k l low
    | inr high ↦ (let b = h.bound k l in let p = past (k / 8) (omega (arith, high)) m in omega (arith, b, p))
  ];
  one = was.one;
}

pub first_all : (least ticks : List ℕ) (used most block first : ℕ) → AreInBlocks least ticks used → most < no_narrow → used ≤ block * 8 →
    IsFirstBelow ticks most block first → IsFirstTick ticks most first
first_all least ticks used most block first h early far was = record {
  below = was.below;
  all = λ k l. elim (cases_lt k used) [
    | inl low ↦ was.all k l (omega (arith, low, far))
    | inr past ↦ (let r = h.rest k l (omega (arith, past)) in let b = was.below in omega (arith, r, b, early))
  ];
  one = was.one;
}

-- where all that is used is one block, it is gone over
pub one_block : (least ticks : List ℕ) (used most own first : ℕ) → AreInBlocks least ticks used → most < no_narrow → first ≡ min most own →
    ((k : ℕ) → 0 ≤ k → k < used → own ≤ get_or ticks k 0) →
    ((k : ℕ) × (k < length ticks) × (own ≡ get_or ticks k 0)) → IsFirstTick ticks most first
one_block least ticks used most own first h early is all one = record {
  below = omega (arith, is);
  all = λ k l. elim (cases_lt k used) [
    | inl low ↦ (let a = all k (omega arith) low in omega (arith, a, is))
    | inr past ↦ (let r = h.rest k l (omega (arith, past)) in omega (arith, r, is, early))
  ];
  one = elim (cases_lt own most) [
    | inl less ↦ inr (one.0, one.1, (let e = one.2 in omega (arith, is, less, e)))
    | inr more ↦ inl (omega (arith, is, more))
  ];
}

-- ---- the next one

-- none at these places has the tick
abbrev pub AreSkipped : List ℕ → ℕ → ℕ → ℕ → Type 0
AreSkipped ticks now from to = (k : ℕ) → k < length ticks → from ≤ k → k < to → get_or ticks k 0 ≢ now

pub none_skipped : (ticks : List ℕ) (now from : ℕ) → AreSkipped ticks now from from
none_skipped ticks now from = λ k l low high e. omega (arith, low, high)

-- no tick of these blocks is as soon
pub blocks_past : (least ticks : List ℕ) (used now from at to : ℕ) → AreInBlocks least ticks used → ((b : ℕ) → at ≤ b → b < to → now + 1 ≤ get_or least b 0)
    → AreSkipped ticks now from (at * 8) → AreSkipped ticks now from (to * 8)
blocks_past least ticks used now from at to h past was k l low high e = elim (cases_lt k (at * 8)) [
  | inl before ↦ was k l low before e
  | inr after ↦ (let b = h.bound k l in let p = past (k / 8) (omega (arith, after)) (omega (arith, high)) in omega (arith, b, p, e))
]

-- one block was gone over
pub block_past : (least ticks : List ℕ) (used now from block : ℕ) → AreInBlocks least ticks used → now < no_narrow → ((k : ℕ) → k < length ticks →
    from ≤ k → block * 8 ≤ k → k < block * 8 + 8 → k < used → get_or ticks k 0 ≢ now) →
    AreSkipped ticks now from (block * 8) → AreSkipped ticks now from ((block + 1) * 8)
block_past least ticks used now from block h early here was k l low high e = elim (cases_lt k (block * 8)) [
  | inl before ↦ was k l low before e
  | inr after ↦ elim (cases_lt k used) [
    | inl within ↦ here k l low (omega (arith, after)) (omega (arith, high)) within e
    | inr past ↦ (let r = h.rest k l (omega (arith, past)) in omega (arith, r, e, early))
  ]
]

-- by nodes
pub skipped_by : (number nodes ticks : List ℕ) (now from to : ℕ) → ArePlaces number nodes (length ticks) → AreSkipped ticks now from to →
    (x : ℕ) → x < length (ticks_by number ticks) → from ≤ get_or number x 0 → get_or number x 0 < to → get_or (ticks_by number ticks) x 0 ≢ now
skipped_by number nodes ticks now from to h was x l low high e =
    let a = ticks_long number ticks in
    let long = h.number_long in
    let in_number : x < length number = omega (arith, a, l) in
    was (get_or number x 0) (h.stands x (omega (arith, in_number, long))) low high (sym (tick_of number ticks x in_number) ∙ e)

-- the node at a place has the tick there
pub tick_at : (number nodes ticks : List ℕ) (k : ℕ) → ArePlaces number nodes (length ticks) → k < length ticks →
    (get_or nodes k 0 < length (ticks_by number ticks)) × (get_or (ticks_by number ticks) (get_or nodes k 0) 0 ≡ get_or ticks k 0)
tick_at number nodes ticks k h l =
    let w = h.within k l in
    let a = ticks_long number ticks in
    let long = h.number_long in
    (omega (arith, w, a, long), tick_of number ticks (get_or nodes k 0) (omega (arith, w, long)) ∙ ap (λ (j : ℕ). get_or ticks j 0) (h.forth k l))
