-- One pack more of a scan: its bad members, its rate, its pairs, and the first fault so far.
use Rattle.std.proofs.Common.{◌≡◌, ◌≢◌, ℕ, zero, suc, ◌+◌, ◌-◌, ◌^◌, ◌<◌, ◌≤◌, ◌⊎◌, cond, eqb, leb, List, [], ◌∷◌, ◌++◌, Option, Some, None, map, min}
use Rattle.std.proofs.Common.{length, get_or, take, drop, MatchOption, refl, ap, arith, inl, inr, sym, subst, ◌∙◌}
use Rattle.std.specs.Prelude.{sum}
use Rattle.std.proofs.lemmas.Bool.{cases_eq, cases_lt, cond-true, cond-false, eq-eqb, eqb-true, le-leb, leb-true, false_from_ne_true}
use Rattle.std.proofs.lemmas.List.{append_assoc, length-append, length-map, map-append, get_or_append_left}
use Rattle.tree_check.specs.declared.check.Fault.{Fault}
use Rattle.tree_check.specs.declared.faults.TreeKind.{TreeKind}
use Rattle.tree_check.specs.declared.faults.TreeKind.TheVariants.{Total, Unplaced, Member, Rate, Pair, Unfinished}
use Rattle.tree_check.specs.Written.{Pack, Written, level_at, pack_at, pack_line}
use Rattle.tree_check.specs.Faults.{to_place, named, rate_of_named, member_rate, members_of, before, names_at, members_rate, rank, HasBadMember}
use Rattle.tree_check.specs.Faults.{HasRoomWith, HasNone, IsFirstOf}
use Rattle.tree_check.specs.Scans.{rate_in, names_of, IsBadAfter, HasBadAfter, IsLeast, fault_of, HasPackFault, HasFaultBelow, with_fault}
use Rattle.tree_check.proofs.MoreHomes.{members_more}

-- ---- a part of a list of names

pub front_take : (news post : List (Option ℕ)) (k j : ℕ) → k ≤ length news → j < k → get_or (take k news) j None ≡ get_or (news ++ post) j None
front_take news post zero j l m = absurd (omega (arith, m))
front_take [] post (suc k) j l m = absurd (omega (arith, l))
front_take (x ∷ news) post (suc k) zero l m = refl
front_take (x ∷ news) post (suc k) (suc j) l m = front_take news post k j (omega (arith, l)) (omega (arith, m))

pub front_same : (pre news post : List (Option ℕ)) (k j : ℕ) → k ≤ length news → j < length pre + k → get_or (pre ++ take k news) j None ≡ get_or
    (pre ++ (news ++ post)) j None
front_same [] news post k j l m = front_take news post k j l (omega (arith, m))
front_same (x ∷ pre) news post k zero l m = refl
front_same (x ∷ pre) news post k (suc j) l m = front_same pre news post k j l (omega (arith, m))

pub part_at : (pre news post : List (Option ℕ)) (k : ℕ) → k < length news → get_or (pre ++ (news ++ post)) (length pre + k) None ≡ get_or news k None
part_at [] news post k l = (let e : 0 + k ≡ k = omega arith in ap (λ n. get_or (news ++ post) n None) e) ∙ get_or_append_left news post None k l
part_at (x ∷ pre) news post k l = (let e : suc (length pre) + k ≡ suc (length pre + k) = omega arith in ap (λ n. get_or (x ∷ (pre ++ (news ++ post))) n
    None) e) ∙ part_at pre news post k l

pub length_take : (news : List (Option ℕ)) (k : ℕ) → k ≤ length news → length (take k news) ≡ k
length_take news zero l = refl
length_take [] (suc k) l = absurd (omega (arith, l))
length_take (x ∷ news) (suc k) l = ap suc (length_take news k (omega (arith, l)))

-- ---- bad members

pub rate_same : (w : Written) (l : ℕ) (o : Option ℕ) → rate_of_named w l o ≡ rate_in (to_place w l) o
rate_same w l None = refl
rate_same w l (Some i) = refl

-- a name by its place in the whole list is bad
abbrev pub IsBadIn : List ℕ → List (Option ℕ) → ℕ → Type 0
IsBadIn rates all k = (rate_in rates (get_or all k None) ≡ 0) ⊎ ((j : ℕ) × (j < k) × (get_or all j None ≡ get_or all k None))

module _ (rates : List ℕ) (pre news post : List (Option ℕ)) where
  abbrev pub all : List (Option ℕ)
  all = pre ++ (news ++ post)

  pub bad_in : (k : ℕ) → k < length news → IsBadAfter rates (pre ++ take k news) (get_or news k None) → IsBadIn rates all (length pre + k)
  bad_in k l b =
      let at = part_at pre news post k l in
      elim b [
        | inl z ↦ inl (ap (rate_in rates) at ∙ z)
        | inr st ↦ inr (
            let j = st.0 in
            let long = length-append pre (take k news) in
            let n = length_take news k (omega (arith, l)) in
            let lj : j < length pre + k = (let a = st.1 in omega (arith, a, long, n)) in
            (j, lj, sym (front_same pre news post k j (omega (arith, l)) lj) ∙ st.2 ∙ sym at))
      ]

  pub bad_out : (k : ℕ) → k < length news → IsBadIn rates all (length pre + k) → IsBadAfter rates (pre ++ take k news) (get_or news k None)
  bad_out k l b =
      let at = part_at pre news post k l in
      elim b [
        | inl z ↦ inl (sym (ap (rate_in rates) at) ∙ z)
        | inr s ↦ inr (
            let j = s.0 in
            let lj = s.1 in
            let long = length-append pre (take k news) in
            let n = length_take news k (omega (arith, l)) in
            (j, omega (arith, lj, long, n), front_same pre news post k j (omega (arith, l)) lj ∙ s.2 ∙ at))
      ]

pub length_names : (w : Written) (l : ℕ) (packs : List Pack) → length (names_of w l packs) ≡ length (members_of packs)
length_names w l packs = length-map (members_of packs) (named w l)

pub take_drop : (i : ℕ) (packs : List Pack) → packs ≡ take i packs ++ drop i packs
take_drop zero packs = refl
take_drop (suc i) [] = refl
take_drop (suc i) (p ∷ packs) = ap (λ ps. p ∷ ps) (take_drop i packs)

pub members_both : (ps qs : List Pack) → members_of (ps ++ qs) ≡ members_of ps ++ members_of qs
members_both [] qs = refl
members_both (p ∷ ps) qs = ap (λ ms. p.members ++ ms) (members_both ps qs) ∙ sym (append_assoc p.members (members_of ps) (members_of qs))

pub names_more : (w : Written) (l i : ℕ) (packs : List Pack) → i < length packs → names_of w l (take (i + 1) packs) ≡ names_of w l (take i packs) ++ map
    (named w l) (pack_at packs i).members
names_more w l i packs low = ap (map (named w l)) (members_more i packs low) ∙ map-append (named w l) (members_of (take i packs)) (pack_at packs i).members

module _ (w : Written) (l i : ℕ) (low : i < length (level_at w l)) where
  abbrev pub packs : List Pack
  packs = level_at w l

  abbrev pub pre : List (Option ℕ)
  pre = names_of w l (take i packs)

  abbrev pub news : List (Option ℕ)
  news = map (named w l) (pack_at packs i).members

  abbrev pub post : List (Option ℕ)
  post = names_of w l (drop (i + 1) packs)

  pub whole : names_of w l packs ≡ pre ++ (news ++ post)
  whole =
      ap (names_of w l) (take_drop (i + 1) packs)
      ∙ ap (map (named w l)) (members_both (take (i + 1) packs) (drop (i + 1) packs))
      ∙ map-append (named w l) (members_of (take (i + 1) packs)) (members_of (drop (i + 1) packs))
      ∙ ap (λ xs. xs ++ post) (names_more w l i packs low)
      ∙ append_assoc pre news post

  pub before_is : length pre ≡ before packs i
  before_is = length_names w l (take i packs)

  pub after_is : length pre + length news ≡ before packs (suc i)
  after_is =
      let a = ap length (members_more i packs low) in
      let b = length-append (members_of (take i packs)) (pack_at packs i).members in
      let c = length-map (pack_at packs i).members (named w l) in
      let d = before_is in
      let e : suc i ≡ i + 1 = omega arith in
      let f = ap (before packs) e in
      omega (arith, a, b, c, d, f)

  pub has_bad : HasBadAfter (to_place w l) pre news → HasBadMember w l i
  has_bad b =
      let k = b.0 in let lk = b.1 in
      let Q : List (Option ℕ) → Type 0 = λ xs. IsBadIn (to_place w l) xs (length pre + k) in
      let bad = subst Q (sym whole) (bad_in (to_place w l) pre news post k lk b.2) in
      let e = before_is in let f = after_is in
      (length pre + k, omega (arith, e), omega (arith, f, lk), elim bad [ inl z ↦ inl (rate_same w l (names_at w l (length pre + k)) ∙ z) | inr s ↦ inr s ])

  pub no_bad : HasBadMember w l i → HasBadAfter (to_place w l) pre news
  no_bad b =
      let k = b.0 in
      let from = b.1 in let to = b.2 in
      let e = before_is in let f = after_is in
      let back : length pre + (k - length pre) ≡ k = omega (arith, from, e) in
      let lk : k - length pre < length news = omega (arith, from, to, e, f) in
      let bad : IsBadIn (to_place w l) (names_of w l packs) k = elim b.3 [ inl z ↦ inl (sym (rate_same w l (names_at w l k)) ∙ z) | inr s ↦ inr s ] in
      let R : ℕ → Type 0 = λ n. IsBadIn (to_place w l) (names_of w l packs) n in
      let Q : List (Option ℕ) → Type 0 = λ xs. IsBadIn (to_place w l) xs (length pre + (k - length pre)) in
      (k - length pre, lk, bad_out (to_place w l) pre news post (k - length pre) lk (subst Q whole (subst R (sym back) bad)))

-- the sum of the members' rates, as they are named
pub rates_named : (w : Written) (l : ℕ) (p : Pack) → sum (map (rate_in (to_place w l)) (map (named w l) p.members)) ≡ members_rate w l p
rates_named w l p = ap sum (go p.members)
  where
    go : (ms : List _) → map (rate_in (to_place w l)) (map (named w l) ms) ≡ map (member_rate w l) ms
    go [] = refl
    go (x ∷ ms) = ap (λ r. r ∷ map (rate_in (to_place w l)) (map (named w l) ms)) (sym (rate_same w l (named w l x))) ∙ ap (λ rs. member_rate w l x ∷ rs)
        (go ms)

-- ---- the least rate

pub least_none : (scale least : ℕ) (packs : List Pack) → scale < least → IsLeast scale packs 0 least
least_none scale least packs l = record { some = λ r within le. absurd (omega (arith, l, within, le)); all = λ j lj. absurd (omega (arith, lj)) }

pub least_more : (scale least i : ℕ) (packs : List Pack) → IsLeast scale packs i least → IsLeast scale packs (i + 1) (min least (pack_at packs i).rate)
least_more scale least i packs a = record {
  some = λ r within le. elim (cases_lt r least) [
    | inl above ↦ (i, omega arith, omega (arith, le, above))
    | inr here ↦ (let (j, lj, lr) = a.some r within here in (j, omega (arith, lj), lr))
  ];
  all = λ j lj. elim (cases_lt j i) [
    | inl lower ↦ (let z = a.all j lower in omega (arith, z))
    | inr ge ↦ (let e : j ≡ i = omega (arith, lj, ge) in let f = ap (λ k. (pack_at packs k).rate) e in omega (arith, f))
  ];
}

pub room_from : (w : Written) (l i least : ℕ) → IsLeast w.scale (level_at w l) i least → (pack_at (level_at w l) i).rate ≤ w.scale →
    least ≤ w.scale - (pack_at (level_at w l) i).rate → HasRoomWith w l i
room_from w l i least a within le = let (j, lj, lr) = a.some (w.scale - (pack_at (level_at w l) i).rate) (omega arith) le in (j, lj, omega (arith, lr, within))

pub room_none : (w : Written) (l i least : ℕ) → IsLeast w.scale (level_at w l) i least → w.scale - (pack_at (level_at w l) i).rate < least →
    HasRoomWith w l i → ⊥
room_none w l i least a less room = let z = a.all room.0 room.1 in let r = room.2 in omega (arith, z, r, less)

-- ---- what is wrong with a pack

-- the first kind of fault of pack i, where it has one
abbrev pub IsPackFirst : Written → ℕ → ℕ → Option TreeKind → Type 0
IsPackFirst w l i o = MatchOption o ((kind : TreeKind) → HasPackFault w l kind i → ⊥) (λ kind. HasPackFault w l kind i × ((other : TreeKind) →
    HasPackFault w l other i → rank kind ≤ rank other))

-- what placing a pack's members tells
abbrev pub IsSum : Written → ℕ → ℕ → Option ℕ → Type 0
IsSum w l i o = MatchOption o (HasBadMember w l i) (λ s. (¬ HasBadMember w l i) × (s ≡ min (members_rate w l (pack_at (level_at w l) i)) (2 ^ 128 - 1)))

module _ (w : Written) (l i least : ℕ) (scale_fits : w.scale ≤ 2 ^ 94) (within : (pack_at (level_at w l) i).rate ≤ w.scale)
    (a : IsLeast w.scale (level_at w l) i least) where
  abbrev pub printed : ℕ
  printed = (pack_at (level_at w l) i).rate

  pub first_member : HasBadMember w l i → IsPackFirst w l i (Some Member)
  first_member bad = (bad, others)
    where
      others : (other : TreeKind) → HasPackFault w l other i → rank Member ≤ rank other
      others Total f = absurd f
      others Unplaced f = absurd f
      others Member f = omega arith
      others Rate f = omega arith
      others Pair f = omega arith
      others Unfinished f = absurd f

  pub first_rate : ¬ HasBadMember w l i → printed ≢ members_rate w l (pack_at (level_at w l) i) → IsPackFirst w l i (Some Rate)
  first_rate good ne = (ne, others)
    where
      others : (other : TreeKind) → HasPackFault w l other i → rank Rate ≤ rank other
      others Total f = absurd f
      others Unplaced f = absurd f
      others Member f = absurd (good f)
      others Rate f = omega arith
      others Pair f = omega arith
      others Unfinished f = absurd f

  pub first_pair : ¬ HasBadMember w l i → printed ≡ members_rate w l (pack_at (level_at w l) i) → HasRoomWith w l i → IsPackFirst w l i (Some Pair)
  first_pair good e room = (room, others)
    where
      others : (other : TreeKind) → HasPackFault w l other i → rank Pair ≤ rank other
      others Total f = absurd f
      others Unplaced f = absurd f
      others Member f = absurd (good f)
      others Rate f = absurd (f e)
      others Pair f = omega arith
      others Unfinished f = absurd f

  pub first_no : ¬ HasBadMember w l i → printed ≡ members_rate w l (pack_at (level_at w l) i) → ¬ HasRoomWith w l i → IsPackFirst w l i None
  first_no good e room = none
    where
      none : (kind : TreeKind) → HasPackFault w l kind i → ⊥
      none Total f = f
      none Unplaced f = f
      none Member f = good f
      none Rate f = f e
      none Pair f = room f
      none Unfinished f = f

  pub pack_first : (o : Option ℕ) → IsSum w l i o → IsPackFirst w l i (fault_of o printed least w.scale)
  pack_first None s = first_member s
  pack_first (Some s) (good, e) = elim (cases_eq s printed) [
    | inl same ↦ (
        let is : printed ≡ members_rate w l (pack_at (level_at w l) i) = omega (arith, same, e, within, scale_fits) in
        elim (cases_lt (w.scale - printed) least) [
          | inl less ↦ subst (IsPackFirst w l i) (sym (no_fault s same less)) (first_no good is (room_none w l i least a less))
          | inr le ↦ subst (IsPackFirst w l i) (sym (pair_fault s same le)) (first_pair good is (room_from w l i least a within le))
        ])
    | inr ne ↦ subst (IsPackFirst w l i) (sym (rate_fault s ne)) (first_rate good (λ x. ne (omega (arith, x, e, within, scale_fits))))
  ]
    where
      no_fault : (s : ℕ) → s ≡ printed → w.scale - printed < least → fault_of (Some s) printed least w.scale ≡ None
      no_fault s same less =
          cond-true (eqb s printed) (cond (leb least (w.scale - printed)) (Some Pair) None) (Some Rate) (eq-eqb s printed same)
          ∙ cond-false (leb least (w.scale - printed)) (Some Pair) None (false_from_ne_true (leb least (w.scale - printed))
          (λ t. (let x = leb-true least (w.scale - printed) t in omega (arith, x, less))))

      pair_fault : (s : ℕ) → s ≡ printed → least ≤ w.scale - printed → fault_of (Some s) printed least w.scale ≡ Some Pair
      pair_fault s same le =
          cond-true (eqb s printed) (cond (leb least (w.scale - printed)) (Some Pair) None) (Some Rate) (eq-eqb s printed same)
          ∙ cond-true (leb least (w.scale - printed)) (Some Pair) None (le-leb least (w.scale - printed) le)

      rate_fault : (s : ℕ) → (s ≡ printed → ⊥) → fault_of (Some s) printed least w.scale ≡ Some Rate
      rate_fault s ne = cond-false (eqb s printed) (cond (leb least (w.scale - printed)) (Some Pair) None) (Some Rate) (false_from_ne_true (eqb s printed)
          (λ t. ne (eqb-true s printed t)))

-- ---- the first fault so far

-- the first fault among the first n packs
abbrev pub IsFirstBelow : Written → ℕ → ℕ → Option Fault → Type 0
IsFirstBelow w l n o = MatchOption o (HasNone (HasFaultBelow w l n)) (λ f. IsFirstOf (HasFaultBelow w l n) f.line f.kind)

pub first_none : (w : Written) (l : ℕ) → IsFirstBelow w l 0 None
first_none w l kind line f = let z = f.1 in omega (arith, z)

pub below_split : (w : Written) (l i : ℕ) (kind : TreeKind) (line : ℕ) → HasFaultBelow w l (i + 1) kind line → HasFaultBelow w l i kind line
    ⊎ ((line ≡ pack_line w l i) × HasPackFault w l kind i)
below_split w l i kind line f = elim (cases_lt f.0 i) [
  | inl low ↦ inl (f.0, low, f.2, f.3)
  | inr ge ↦ inr (let lt = f.1 in let e : f.0 ≡ i = omega (arith, ge, lt) in let P : ℕ → Type 0 = λ k. HasPackFault w l kind k in
      (f.2 ∙ ap (pack_line w l) e, subst P e f.3))
]

pub first_more : (w : Written) (l i line : ℕ) (first : Option Fault) (o : Option TreeKind) → line ≡ pack_line w l i → IsFirstBelow w l i first →
    IsPackFirst w l i o → IsFirstBelow w l (i + 1) (with_fault first o line)
first_more w l i line (Some f) o e a b = (
  (let h = a.0 in (h.0, (let z = h.1 in omega (arith, z)), h.2, h.3)),
  λ other at g. elim (below_split w l i other at g) [
    | inl old ↦ a.1 other at old
    | inr new ↦ inl (let h = a.0 in let z = h.1 in let x = h.2 in let y = new.0 in omega (arith, x, y, z))
  ],
)
first_more w l i line None None e a b = λ kind at g. elim (below_split w l i kind at g) [ inl old ↦ a kind at old | inr new ↦ b kind new.1 ]
first_more w l i line None (Some kind) e a b = (
  (i, omega arith, e, b.0),
  λ other at g. elim (below_split w l i other at g) [
    | inl old ↦ absurd (a other at old)
    | inr new ↦ inr (e ∙ sym new.0, b.1 other new.1)
  ],
)
