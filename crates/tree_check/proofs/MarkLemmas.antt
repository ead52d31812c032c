-- Marks of what a level's members name, one member more.
use Rattle.std.proofs.Common.{◌≡◌, ◌≢◌, ℕ, ◌<◌, ◌≤◌, ◌⊎◌, ◌&&◌, Bool, true, false, List, [], ◌∷◌, ◌++◌, Option, Some, None, length, get_or, replicate}
use Rattle.std.proofs.Common.{take, set, MatchBool, refl, ap, arith, inl, inr, sym, subst, ◌∙◌}
use Rattle.std.proofs.lemmas.Bool.{cases_eq, cases_lt, both_ways}
use Rattle.std.proofs.lemmas.List.{append_assoc, length-append, length-set, get_or-set_same, get_or-set_other, get_or_append_left, get_or_past}
use Rattle.std.proofs.lemmas.List.{take-append-le, length-replicate, get_or-replicate}
use Rattle.tree_check.specs.Scans.{rate_in, Stands, IsBadAfter, HasBadAfter, AreMarks}

-- ---- names, one more

pub stands_left : (names more : List (Option ℕ)) (o : Option ℕ) → Stands names o → Stands (names ++ more) o
stands_left names more o s = (s.0, (let a = length-append names more in let l = s.1 in omega (arith, a, l)), get_or_append_left names more None s.0 s.1 ∙ s.2)

pub last_at : (names : List (Option ℕ)) (o : Option ℕ) → get_or (names ++ o ∷ []) (length names) None ≡ o
last_at [] o = refl
last_at (x ∷ names) o = last_at names o

pub stands_end : (names : List (Option ℕ)) (o : Option ℕ) → Stands (names ++ o ∷ []) o
stands_end names o = (length names, (let a = length-append names (o ∷ []) in omega (arith, a)), last_at names o)

pub stands_split : (names : List (Option ℕ)) (o p : Option ℕ) → Stands (names ++ o ∷ []) p → Stands names p ⊎ (o ≡ p)
stands_split names o p s = elim (cases_lt s.0 (length names)) [
  | inl l ↦ inl (s.0, l, sym (get_or_append_left names (o ∷ []) None s.0 l) ∙ s.2)
  | inr ge ↦ inr (
      let a = length-append names (o ∷ []) in
      let l = s.1 in
      let e : s.0 ≡ length names = omega (arith, l, ge, a) in
      sym (last_at names o) ∙ sym (ap (λ k. get_or (names ++ o ∷ []) k None) e) ∙ s.2)
]

-- ---- one mark more

-- no name yet, and no mark
pub marks_none : (rates : List ℕ) → AreMarks rates [] (replicate (length rates) false)
marks_none rates = record {
  long = length-replicate (length rates) false;
  named = λ n some on. absurd (elim (cases_lt n (length rates)) as (λ l. ⊥) [
    | inl low ↦ both_ways (get_or (replicate (length rates) false) n false) (get_or-replicate (length rates) n false false low) on
    | inr past ↦ (let z = get_or_past rates n 0 past in omega (arith, z, some))
  ]);
  marked = λ n some s. absurd (let l = s.1 in omega (arith, l));
}

pub marks_bad : (rates : List ℕ) (names : List (Option ℕ)) (marks : List Bool) (o : Option ℕ) → AreMarks rates names marks → IsBadAfter rates names o →
    AreMarks rates (names ++ o ∷ []) marks
marks_bad rates names marks o a bad = record {
  long = a.long;
  named = λ n some on. stands_left names (o ∷ []) (Some n) (a.named n some on);
  marked = λ n some s. elim (stands_split names o (Some n) s) [
    | inl before ↦ a.marked n some before
    | inr e ↦ elim bad [
      | inl z ↦ absurd (let z' = ap (rate_in rates) e in omega (arith, z, z', some))
      | inr st ↦ a.marked n some (subst (Stands names) e st)
    ]
  ];
}

pub marks_good : (rates : List ℕ) (names : List (Option ℕ)) (marks : List Bool) (n : ℕ) → AreMarks rates names marks → n < length rates →
    AreMarks rates (names ++ Some n ∷ []) (set marks n true)
marks_good rates names marks n a low =
    let lm : n < length marks = (let e = a.long in omega (arith, e, low)) in
    record {
      long = length-set marks n true ∙ a.long;
      named = λ k some on. elim (cases_eq k n) [
        | inl e ↦ subst (λ (x : ℕ). Stands (names ++ Some n ∷ []) (Some x)) (sym e) (stands_end names (Some n))
        | inr ne ↦ stands_left names (Some n ∷ []) (Some k) (a.named k some (sym (get_or-set_other marks n k true false ne) ∙ on))
      ];
      marked = λ k some s. elim (cases_eq k n) [
        | inl e ↦ ap (λ x. get_or (set marks n true) x false) e ∙ get_or-set_same marks n true false lm
        | inr ne ↦ get_or-set_other marks n k true false ne ∙ a.marked k some (elim (stands_split names (Some n) (Some k) s) [
          | inl before ↦ before
          | inr e ↦ absurd (ne (let z : k ≡ n = cc in z))
        ])
      ];
    }

pub fresh_good : (rates : List ℕ) (names : List (Option ℕ)) (marks : List Bool) (n : ℕ) → AreMarks rates names marks → get_or rates n 0 ≢ 0 →
    get_or marks n false ≡ false → IsBadAfter rates names (Some n) → ⊥
fresh_good rates names marks n a some off bad = elim bad [
  | inl z ↦ some z
  | inr st ↦ both_ways (get_or marks n false) off (a.marked n (omega (arith, some)) st)
]

pub past_bad : (rates : List ℕ) (names : List (Option ℕ)) (n : ℕ) → length rates ≤ n → IsBadAfter rates names (Some n)
past_bad rates names n past = inl (get_or_past rates n 0 past)

-- ---- the members of a pack, one more

pub bad_more : (rates : List ℕ) (names news : List (Option ℕ)) (o : Option ℕ) → HasBadAfter rates names news → HasBadAfter rates names (news ++ o ∷ [])
bad_more rates names news o b =
    let k = b.0 in let l = b.1 in
    let P : List (Option ℕ) → Option ℕ → Type 0 = λ t x. IsBadAfter rates (names ++ t) x in (
      k,
      (let a = length-append news (o ∷ []) in omega (arith, a, l)),
      subst (λ (t : List (Option ℕ)). P t (get_or (news ++ o ∷ []) k None)) (sym (take-append-le k news (o ∷ []) (omega (arith, l))))
          (subst (λ (x : Option ℕ). P (take k news) x) (sym (get_or_append_left news (o ∷ []) None k l)) b.2),
    )

pub take_all : (news : List (Option ℕ)) (o : Option ℕ) → take (length news) (news ++ o ∷ []) ≡ news
take_all [] o = refl
take_all (x ∷ news) o = ap (λ xs. x ∷ xs) (take_all news o)

pub bad_last : (rates : List ℕ) (names news : List (Option ℕ)) (o : Option ℕ) → IsBadAfter rates (names ++ news) o → HasBadAfter rates names (news ++ o ∷ [])
bad_last rates names news o b =
    let P : List (Option ℕ) → Option ℕ → Type 0 = λ t x. IsBadAfter rates (names ++ t) x in (
      length news,
      (let a = length-append news (o ∷ []) in omega (arith, a)),
      subst (λ (t : List (Option ℕ)). P t (get_or (news ++ o ∷ []) (length news) None)) (sym (take_all news o))
          (subst (λ (x : Option ℕ). P news x) (sym (last_at news o)) b),
    )

pub bad_split : (rates : List ℕ) (names news : List (Option ℕ)) (o : Option ℕ) → HasBadAfter rates names (news ++ o ∷ []) → HasBadAfter rates names news
    ⊎ IsBadAfter rates (names ++ news) o
bad_split rates names news o b =
    let k = b.0 in
    let P : List (Option ℕ) → Option ℕ → Type 0 = λ t x. IsBadAfter rates (names ++ t) x in
    elim (cases_lt k (length news)) [
      | inl l ↦ inl (
        k,
        l,
        subst (λ (t : List (Option ℕ)). P t (get_or news k None)) (take-append-le k news (o ∷ []) (omega (arith, l)))
            (subst (λ (x : Option ℕ). P (take k (news ++ o ∷ [])) x) (get_or_append_left news (o ∷ []) None k l) b.2),
      )
      | inr ge ↦ inr (
          let a = length-append news (o ∷ []) in
          let low = b.1 in
          let e : k ≡ length news = omega (arith, low, ge, a) in
          let Q : ℕ → Type 0 = λ n. IsBadAfter rates (names ++ take n (news ++ o ∷ [])) (get_or (news ++ o ∷ []) n None) in
          subst (λ (t : List (Option ℕ)). P t o) (take_all news o) (subst (λ (x : Option ℕ). P (take (length news) (news ++ o ∷ [])) x) (last_at news o)
          (subst Q e b.2)))
    ]

-- what holds once the members `news` of a pack are placed
pub record Placing (rates : List ℕ) (names news : List (Option ℕ)) (fine : Bool) (marks : List Bool) : Type 0 where
  pub are : AreMarks rates (names ++ news) marks
  pub good : MatchBool fine (¬ HasBadAfter rates names news) (HasBadAfter rates names news)

pub placing_none : (rates : List ℕ) (names : List (Option ℕ)) (marks : List Bool) → AreMarks rates names marks → Placing rates names [] true marks
placing_none rates names marks a =
    record { are = subst (λ (xs : List (Option ℕ)). AreMarks rates xs marks) (sym (nil names)) a; good = λ b. (let l = b.1 in omega (arith, l)) }
  where
    nil : (xs : List (Option ℕ)) → xs ++ [] ≡ xs
    nil [] = refl
    nil (x ∷ xs) = ap (λ ys. x ∷ ys) (nil xs)

pub placing_more : (rates : List ℕ) (names news : List (Option ℕ)) (o : Option ℕ) (good placed : Bool) (marks marks' : List Bool) → Placing rates names news
    good marks
    → AreMarks rates ((names ++ news) ++ o ∷ []) marks' → MatchBool placed (¬ IsBadAfter rates (names ++ news) o) (IsBadAfter rates (names ++ news) o)
    → Placing rates names (news ++ o ∷ []) (good && placed) marks'
placing_more rates names news o good placed marks marks' p m b = record {
  are = subst (λ (xs : List (Option ℕ)). AreMarks rates xs marks') (append_assoc names news (o ∷ [])) m;
  good = go good placed p.good b;
}
  where
    go : (good placed : Bool) → MatchBool good (¬ HasBadAfter rates names news) (HasBadAfter rates names news) →
        MatchBool placed (¬ IsBadAfter rates (names ++ news) o) (IsBadAfter rates (names ++ news) o) →
        MatchBool (good && placed) (¬ HasBadAfter rates names (news ++ o ∷ [])) (HasBadAfter rates names (news ++ o ∷ []))
    go true true g b = λ bad. elim (bad_split rates names news o bad) [ inl x ↦ g x | inr y ↦ b y ]
    go true false g b = bad_last rates names news o b
    go false placed g b = bad_more rates names news o g
