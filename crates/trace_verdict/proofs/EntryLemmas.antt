-- Rows as entries: two of one key overlap among the entries exactly where they do among the rows.
use Rattle.std.proofs.Common.{zero, suc, ℕ, ◌+◌, ◌<◌, ◌≤◌, ◌≡◌, inl, inr, Bool, true, false, List, [], ◌∷◌, ◌++◌, length, take, append-nil, add-zero}
use Rattle.std.proofs.Common.{append_assoc, get_or, Option, Some, None, ◌&&◌, ltb, sym, refl, ap, ◌∙◌, subst, arith}
use Rattle.std.specs.List.{AllByRecursion, IsDistinct}
use Rattle.std.proofs.lemmas.Bool.{cases_lt, both_ways, and_parts, and_from, eqb-true, eq-eqb, ltb-true, lt-ltb, false_from_ne_true}
use Rattle.sched_base.specs.declared.rows.Row.{Row}
use Rattle.trace_verdict.specs.declared.entries.Entry.{Entry}
use Rattle.trace_verdict.specs.Orders.{entry_of, entries_from}
use Rattle.trace_verdict.specs.Overlaps.{clash}
use Rattle.trace_verdict.specs.Searches.{overlaps, same_key}
use Rattle.trace_verdict.proofs.OverlapLemmas.{clash_parts, clash_from}

-- rows overlap, with one key, both at places below n counted from `at`
abbrev pub meets : (Row → Option ℕ) → Row → Row → Bool
meets key q r = same_key (key q) (key r) && overlaps q r

-- no row below n meets q
abbrev pub Clear : (Row → Option ℕ) → ℕ → Row → ℕ → List Row → Type 0
Clear key n q at [] = Unit {0}
Clear key n q at (r ∷ rs) = (at < n → meets key q r ≡ false) × Clear key n q (at + 1) rs

abbrev pub Apart : (Row → Option ℕ) → ℕ → ℕ → List Row → Type 0
Apart key n at [] = Unit {0}
Apart key n at (r ∷ rs) = (at < n → Clear key n r (at + 1) rs) × Apart key n (at + 1) rs

-- ---- one row against the entries of the later ones

abbrev pub entry_for : ℕ → Row → ℕ → Entry
entry_for c q at = record { key = c; start = q.start; place = at; end = q.end }

pub same_key_parts : (a b : Option ℕ) (c : ℕ) → a ≡ Some c → b ≡ Some c → same_key a b ≡ true
same_key_parts a b c e f = subst (λ x. same_key x b ≡ true) (sym e) (subst (λ x. same_key (Some c) x ≡ true) (sym f) (eq-eqb c c refl))

-- the entry of the next row, where it has one, against q's
pub clash_one : (key : Row → Option ℕ) (n c : ℕ) (q : Row) (p : ℕ) (r : Row) (at : ℕ) (k : Option ℕ) → p < n → key q ≡ Some c → key r ≡ k →
    (at < n → meets key q r ≡ false) → AllByRecursion (λ f. clash n (entry_for c q p) f ≡ false) (entry_of k r at)
clash_one key n c q p r at None h e g no_meet = tt
clash_one key n c q p r at (Some d) h e g no_meet = (
  false_from_ne_true _ (λ t. (
      let w = clash_parts n (entry_for c q p) (entry_for d r at) t in
      let s : same_key (key q) (key r) ≡ true = same_key_parts _ _ c e (g ∙ ap Some (sym w.key)) in
      both_ways _ (no_meet w.second) (and_from _ _ s (and_from _ _ (lt-ltb _ _ w.begins) (lt-ltb _ _ w.ends))))),
  tt,
)

pub AllByRecursion-append : {A : Type 0} (P : A → Type 0) (xs ys : List A) → AllByRecursion P xs → AllByRecursion P ys → AllByRecursion P (xs ++ ys)
AllByRecursion-append P [] ys a b = b
AllByRecursion-append P (x ∷ xs) ys a b = (a.0, AllByRecursion-append P xs ys a.1 b)

pub AllByRecursion-front : {A : Type 0} (P : A → Type 0) (xs ys : List A) → AllByRecursion P (xs ++ ys) → AllByRecursion P xs
AllByRecursion-front P [] ys a = tt
AllByRecursion-front P (x ∷ xs) ys a = (a.0, AllByRecursion-front P xs ys a.1)

pub AllByRecursion-back : {A : Type 0} (P : A → Type 0) (xs ys : List A) → AllByRecursion P (xs ++ ys) → AllByRecursion P ys
AllByRecursion-back P [] ys a = a
AllByRecursion-back P (x ∷ xs) ys a = AllByRecursion-back P xs ys a.1

pub clash_all : (key : Row → Option ℕ) (n c : ℕ) (q : Row) (p : ℕ) (at : ℕ) (rs : List Row) → p < n → key q ≡ Some c → Clear key n q at rs →
    AllByRecursion (λ f. clash n (entry_for c q p) f ≡ false) (entries_from key at rs)
clash_all key n c q p at [] h e a = tt
clash_all key n c q p at (r ∷ rs) h e a = AllByRecursion-append _ (entry_of (key r) r at) _ (clash_one key n c q p r at (key r) h e refl a.0)
    (clash_all key n c q p (at + 1) rs h e a.1)

pub no_clash_past : (n : ℕ) (e : Entry) (es : List Entry) → n ≤ e.place → AllByRecursion (λ f. clash n e f ≡ false) es
no_clash_past n e [] h = tt
no_clash_past n e (f ∷ es) h =
    (false_from_ne_true _ (λ c. (let p = clash_parts n e f c in absurd (omega (arith, p.first, h)))), no_clash_past n e es h)

pub distinct_one : (key : Row → Option ℕ) (n at : ℕ) (r : Row) (rs : List Row) (k : Option ℕ) → key r ≡ k → (at < n → Clear key n r (at + 1) rs) →
    IsDistinct (clash n) (entries_from key (at + 1) rs) → IsDistinct (clash n) (entry_of k r at ++ entries_from key (at + 1) rs)
unfolding IsDistinct
distinct_one key n at r rs None e a d = d
distinct_one key n at r rs (Some c) e a d = (
  elim (cases_lt at n) [
    | inl below ↦ clash_all key n c r at (at + 1) rs below e (a below)
    | inr past ↦ no_clash_past n (entry_for c r at) (entries_from key (at + 1) rs) past
  ],
  d,
)

pub distinct_from_apart : (key : Row → Option ℕ) (n at : ℕ) (rs : List Row) → Apart key n at rs → IsDistinct (clash n) (entries_from key at rs)
unfolding IsDistinct
distinct_from_apart key n at [] a = tt
distinct_from_apart key n at (r ∷ rs) a = distinct_one key n at r rs (key r) refl a.0 (distinct_from_apart key n (at + 1) rs a.1)

-- ---- and back

pub some_key : (a b : Option ℕ) → same_key a b ≡ true → (c : ℕ) × (a ≡ Some c) × (b ≡ Some c)
some_key None b h = absurd (both_ways _ refl h)
some_key (Some x) None h = absurd (both_ways _ refl h)
some_key (Some x) (Some y) h = (x, refl, ap Some (sym (eqb-true x y h)))

pub clear_one : (key : Row → Option ℕ) (n c : ℕ) (q : Row) (p : ℕ) (r : Row) (at : ℕ) (k : Option ℕ) → p < n → key q ≡ Some c → key r ≡ k →
    AllByRecursion (λ f. clash n (entry_for c q p) f ≡ false) (entry_of k r at) → at < n → meets key q r ≡ true → ⊥
clear_one key n c q p r at None h e g all below m =
    let w = and_parts (same_key (key q) (key r)) (overlaps q r) m in
    let s = some_key (key q) (key r) w.0 in
    let t : None ≡ Some s.0 = sym g ∙ s.2 in
    cc
clear_one key n c q p r at (Some d) h e g all below m =
    let w = and_parts (same_key (key q) (key r)) (overlaps q r) m in
    let s = some_key (key q) (key r) w.0 in
    let u = and_parts (ltb q.start r.end) (ltb r.start q.end) w.1 in
    let x : Some c ≡ Some d = (sym e ∙ s.1) ∙ (sym s.2 ∙ g) in
    let y : c ≡ d = cc in
    both_ways _ all.0 (clash_from n (entry_for c q p) (entry_for d r at) h below y (ltb-true _ _ u.0) (ltb-true _ _ u.1))

pub clear_all : (key : Row → Option ℕ) (n c : ℕ) (q : Row) (p : ℕ) (at : ℕ) (rs : List Row) → p < n → key q ≡ Some c →
    AllByRecursion (λ f. clash n (entry_for c q p) f ≡ false) (entries_from key at rs) → Clear key n q at rs
clear_all key n c q p at [] h e all = tt
clear_all key n c q p at (r ∷ rs) h e all = (
  (λ below. false_from_ne_true _ (clear_one key n c q p r at (key r) h e refl (AllByRecursion-front _ (entry_of (key r) r at) _ all) below)),
  clear_all key n c q p (at + 1) rs h e (AllByRecursion-back _ (entry_of (key r) r at) _ all),
)

-- a row with no key meets none
pub clear_none : (key : Row → Option ℕ) (n : ℕ) (q : Row) (at : ℕ) (rs : List Row) → key q ≡ None → Clear key n q at rs
clear_none key n q at [] e = tt
clear_none key n q at (r ∷ rs) e = ((λ below. subst (λ k. (same_key k (key r) && overlaps q r) ≡ false) (sym e) refl), clear_none key n q (at + 1) rs e)

pub apart_one : (key : Row → Option ℕ) (n at : ℕ) (r : Row) (rs : List Row) (k : Option ℕ) → key r ≡ k →
    IsDistinct (clash n) (entry_of k r at ++ entries_from key (at + 1) rs) → (at < n → Clear key n r (at + 1) rs) × IsDistinct (clash n)
    (entries_from key (at + 1) rs)
unfolding IsDistinct
apart_one key n at r rs None e d = ((λ below. clear_none key n r (at + 1) rs e), d)
apart_one key n at r rs (Some c) e d = ((λ below. clear_all key n c r at (at + 1) rs below e d.0), d.1)

pub apart_from_distinct : (key : Row → Option ℕ) (n at : ℕ) (rs : List Row) → IsDistinct (clash n) (entries_from key at rs) → Apart key n at rs
apart_from_distinct key n at [] d = tt
apart_from_distinct key n at (r ∷ rs) d =
    let w = apart_one key n at r rs (key r) refl d in
    (w.0, apart_from_distinct key n (at + 1) rs w.1)

pub entries_more : (key : Row → Option ℕ) (at : ℕ) (rs : List Row) (i : ℕ) (d : Row) → i < length rs → entries_from key at (take (i + 1) rs) ≡ entries_from
    key at (take i rs) ++ entry_of (key (get_or rs i d)) (get_or rs i d) (at + i)
entries_more key at [] i d h = absurd (omega (arith, h))
entries_more key at (r ∷ rs) zero d h = subst (λ p. entry_of (key r) r at ++ [] ≡ [] ++ entry_of (key r) r p) (sym (add-zero at))
    (append-nil (entry_of (key r) r at))
entries_more key at (r ∷ rs) (suc i) d h =
    let rest = entries_more key (at + 1) rs i d (omega (arith, h)) in
    let one : suc (i + 1) ≡ suc i + 1 = omega arith in
    let two : at + 1 + i ≡ at + suc i = omega arith in
    subst (λ n. entries_from key at (take n (r ∷ rs)) ≡ entries_from key at (take (suc i) (r ∷ rs)) ++ entry_of (key (get_or rs i d)) (get_or rs i d)
    (at + suc i)) one
    (ap (λ t. entry_of (key r) r at ++ t) (subst (λ p. entries_from key (at + 1) (take (i + 1) rs) ≡ entries_from key (at + 1) (take i rs) ++ entry_of
    (key (get_or rs i d)) (get_or rs i d) p) two rest)
    ∙ sym (append_assoc (entry_of (key r) r at) (entries_from key (at + 1) (take i rs)) (entry_of (key (get_or rs i d)) (get_or rs i d) (at + suc i))))

pub entries_push : (key : Row → Option ℕ) (rs : List Row) (i : ℕ) (d : Row) (es new : List Entry) (k : Option ℕ) → i < length rs → es ≡ entries_from key 0
    (take i rs)
    → new ≡ es ++ entry_of k (get_or rs i d) i → k ≡ key (get_or rs i d) → new ≡ entries_from key 0 (take (i + 1) rs)
entries_push key rs i d es new k h e f g =
    let more = entries_more key 0 rs i d h in
    let at : 0 + i ≡ i = omega arith in
    f ∙ (ap (λ t. t ++ entry_of k (get_or rs i d) i) e ∙ (ap (λ x. entries_from key 0 (take i rs) ++ entry_of x (get_or rs i d) i) g
    ∙ (ap (λ p. entries_from key 0 (take i rs) ++ entry_of (key (get_or rs i d)) (get_or rs i d) p) (sym at) ∙ sym more)))
