-- Words, cut off one by one.
use Rattle.std.proofs.Common.{◌≡◌, ℕ, zero, suc, ◌-◌, ◌^◌, ◌<◌, ◌≤◌, ◌&&◌, Bool, true, false, cond, eqb, leb, List, [], ◌∷◌, ◌++◌, Option, Some, None}
use Rattle.std.proofs.Common.{option_map, option_and_then, length, refl, ap, ap₂, arith, inl, inr, sym, subst, ◌∙◌}
use Rattle.std.specs.List.{AllByRecursion}
use Rattle.std.proofs.lemmas.Bool.{cases_Bool, cond-true, cond-false, and_parts, leb-true}
use Rattle.sched_base.specs.Names.{is_lawful_name}
use Rattle.text_words.specs.Words.{onto_first_line, lines_of, cut_space, number_of}
use Rattle.trace_check.specs.Steps.{within}
use Rattle.tree_check.specs.declared.written.Member.{Member}
use Rattle.tree_check.specs.declared.written.Member.TheVariants.{Name, Number}
use Rattle.tree_check.specs.Written.{Pack, IsMemberAt, IsWrittenPack}
use Rattle.tree_reader.specs.Members.{words_of, member_number, member_of, leaf_member, dual_member, members_from}
use Rattle.text_words.proofs.Parts.{onto_first}

-- two texts
abbrev pub Two : Type 0
Two = List ℕ × List ℕ

onto : (b : ℕ) (o : Option Two) (bs w r : List ℕ) → ((w' r' : List ℕ) → o ≡ Some (w', r') → words_of bs ≡ w' ∷ words_of r')
    → option_map (onto_first b) o ≡ Some (w, r) → onto_first_line b (words_of bs) ≡ w ∷ words_of r
onto b None bs w r ih e = cc
onto b (Some p) bs w r ih e =
    let q : ◌≡◌ {A = Two} (onto_first b p) (w, r) = cc in
    ap (onto_first_line b) (ih p.0 p.1 refl) ∙ ap₂ (λ x y. x ∷ words_of y) (ap (λ (t : Two). t.0) q) (ap (λ (t : Two). t.1) q)

pub words_cut : (text w r : List ℕ) → cut_space text ≡ Some (w, r) → words_of text ≡ w ∷ words_of r
words_cut [] w r e = cc
words_cut (b ∷ bs) w r e = elim (cases_Bool (eqb b 32)) [
  | inl on ↦ (
      let f : ◌≡◌ {A = Option Two} (Some ([], bs)) (Some (w, r)) = sym (cond-true (eqb b 32) (Some ([], bs)) (option_map (onto_first b) (cut_space bs)) on)
      ∙ e in
      let q : ◌≡◌ {A = Two} ([], bs) (w, r) = cc in
      cond-true (eqb b 32) ([] ∷ words_of bs) (onto_first_line b (words_of bs)) on ∙ ap₂ (λ x y. x ∷ words_of y) (ap (λ (t : Two). t.0) q)
      (ap (λ (t : Two). t.1) q))
  | inr off ↦
      cond-false (eqb b 32) ([] ∷ words_of bs) (onto_first_line b (words_of bs)) off
      ∙ onto b (cut_space bs) bs w r (λ w' r' g. words_cut bs w' r' g) (sym (cond-false (eqb b 32) (Some ([], bs)) (option_map (onto_first b)
      (cut_space bs)) off) ∙ e)
]

pub words_last : (text : List ℕ) → cut_space text ≡ None → words_of text ≡ text ∷ []
words_last [] e = refl
words_last (b ∷ bs) e = elim (cases_Bool (eqb b 32)) [
  | inl on ↦ absurd (let f : Some ([], bs) ≡ None = sym (cond-true (eqb b 32) (Some ([], bs)) (option_map (onto_first b) (cut_space bs)) on) ∙ e in cc)
  | inr off ↦
      cond-false (eqb b 32) ([] ∷ words_of bs) (onto_first_line b (words_of bs)) off
      ∙ ap (onto_first_line b) (words_last bs (none (cut_space bs) (sym (cond-false (eqb b 32) (Some ([], bs)) (option_map (onto_first b) (cut_space bs))
      off) ∙ e)))
]
  where
    none : (o : Option Two) → option_map (onto_first b) o ≡ None → o ≡ None
    none None e = refl
    none (Some p) e = cc

-- ---- members, one by one

-- these and then those
abbrev pub after : List Member → Option (List Member) → Option (List Member)
after done rest = option_map (λ ms. done ++ ms) rest

push_after : (m : Member) (done : List Member) (o : Option (List Member)) → after done (option_map (λ ms. m ∷ ms) o) ≡ after (done ++ m ∷ []) o
push_after m done None = refl
push_after m done (Some ms) = ap Some (both done)
  where
    both : (ds : List Member) → ds ++ m ∷ ms ≡ (ds ++ m ∷ []) ++ ms
    both [] = refl
    both (d ∷ ds) = ap (λ xs. d ∷ xs) (both ds)

pub members_more : (l : ℕ) (rest word later : List ℕ) (m : Member) (done : List Member) → cut_space rest ≡ Some (word, later) → member_of l word ≡ Some m
    → after done (members_from l (words_of rest)) ≡ after (done ++ m ∷ []) (members_from l (words_of later))
members_more l rest word later m done e f =
    ap (λ ws. after done (members_from l ws)) (words_cut rest word later e)
    ∙ ap (λ o. after done (option_and_then (λ x. option_map (λ ms. x ∷ ms) (members_from l (words_of later))) o)) f
    ∙ push_after m done (members_from l (words_of later))

pub members_stop : (l : ℕ) (rest word later : List ℕ) (done : List Member) → cut_space rest ≡ Some (word, later) → member_of l word ≡ None →
    after done (members_from l (words_of rest)) ≡ None
members_stop l rest word later done e f =
    ap (λ ws. after done (members_from l ws)) (words_cut rest word later e)
    ∙ ap (λ o. after done (option_and_then (λ x. option_map (λ ms. x ∷ ms) (members_from l (words_of later))) o)) f

pub members_last : (l : ℕ) (rest : List ℕ) (m : Member) (done : List Member) → cut_space rest ≡ None → member_of l rest ≡ Some m →
    after done (members_from l (words_of rest)) ≡ Some (done ++ m ∷ [])
members_last l rest m done e f =
    ap (λ ws. after done (members_from l ws)) (words_last rest e)
    ∙ ap (λ o. after done (option_and_then (λ x. option_map (λ ms. x ∷ ms) (members_from l [])) o)) f

pub members_last_stop : (l : ℕ) (rest : List ℕ) (done : List Member) → cut_space rest ≡ None → member_of l rest ≡ None →
    after done (members_from l (words_of rest)) ≡ None
members_last_stop l rest done e f =
    ap (λ ws. after done (members_from l ws)) (words_last rest e)
    ∙ ap (λ o. after done (option_and_then (λ x. option_map (λ ms. x ∷ ms) (members_from l [])) o)) f

pub after_none : (o : Option (List Member)) → after [] o ≡ o
after_none None = refl
after_none (Some ms) = refl

pub cut_shorter : (text w r : List ℕ) → cut_space text ≡ Some (w, r) → length r < length text
cut_shorter [] w r e = cc
cut_shorter (b ∷ bs) w r e = elim (cases_Bool (eqb b 32)) [
  | inl on ↦ (
      let f : ◌≡◌ {A = Option Two} (Some ([], bs)) (Some (w, r)) = sym (cond-true (eqb b 32) (Some ([], bs)) (option_map (onto_first b) (cut_space bs)) on)
      ∙ e in
      let q : ◌≡◌ {A = Two} ([], bs) (w, r) = cc in
      let z = ap (λ (t : Two). length t.1) q in
      omega (arith, z))
  | inr off ↦ shorter (cut_space bs) (λ w' r' g. cut_shorter bs w' r' g) (sym (cond-false (eqb b 32) (Some ([], bs)) (option_map (onto_first b)
      (cut_space bs)) off) ∙ e)
]
  where
    shorter : (o : Option Two) → ((w' r' : List ℕ) → o ≡ Some (w', r') → length r' < length bs) → option_map (onto_first b) o ≡ Some (w, r) →
        length r < length (b ∷ bs)
    shorter None ih e = cc
    shorter (Some p) ih e =
        let q : ◌≡◌ {A = Two} (onto_first b p) (w, r) = cc in
        let z = ap (λ (t : Two). length t.1) q in
        let l = ih p.0 p.1 refl in
        omega (arith, z, l)

-- ---- the form of members

pub number_at : (l : ℕ) (o : Option ℕ) (m : Member) → option_map Number (option_and_then (within 0 (2 ^ 32 - 1)) o) ≡ Some m → IsMemberAt l m
number_at l None m e = cc
number_at l (Some n) m e = go (leb 0 n && leb n (2 ^ 32 - 1)) (λ t. (let p = and_parts (leb 0 n) (leb n (2 ^ 32 - 1)) t in let h = leb-true n (2 ^ 32 - 1)
    p.1 in omega (arith, h))) e
  where
    go : (t : Bool) → (t ≡ true → n < 2 ^ 32) → option_map Number (cond t (Some n) None) ≡ Some m → IsMemberAt l m
    go true h e = (let q : Number n ≡ m = cc in subst (IsMemberAt l) q (h refl))
    go false h e = cc

pub leaf_at : (word : List ℕ) (m : Member) → leaf_member word ≡ Some m → IsMemberAt 0 m
leaf_at [] m e = cc
leaf_at (b ∷ word) m e = go (eqb b 45) (is_lawful_name (b ∷ word)) e
  where
    go : (t u : Bool) → cond t (member_number word) (cond u (Some (Name (b ∷ word))) None) ≡ Some m → IsMemberAt 0 m
    go true u e = number_at 0 (number_of word) m e
    go false true e = (let q : Name (b ∷ word) ≡ m = cc in subst (IsMemberAt 0) q refl)
    go false false e = cc

pub dual_at : (l : ℕ) (word : List ℕ) (m : Member) → dual_member word ≡ Some m → IsMemberAt l m
dual_at l [] m e = cc
dual_at l (b ∷ word) m e = go (eqb b 126) e
  where
    go : (t : Bool) → cond t (member_number word) None ≡ Some m → IsMemberAt l m
    go true e = number_at l (number_of word) m e
    go false e = cc

pub member_at : (l : ℕ) (word : List ℕ) (m : Member) → member_of l word ≡ Some m → IsMemberAt l m
member_at zero word m e = leaf_at word m e
member_at (suc l) word m e = dual_at (suc l) word m e

-- so many members as words, each of the form
pub members_at : (l : ℕ) (words : List (List ℕ)) (ms : List Member) → members_from l words ≡ Some ms → AllByRecursion (IsMemberAt l) ms
    × (length ms ≡ length words)
members_at l [] ms e = (let q : [] ≡ ms = cc in (subst (AllByRecursion (IsMemberAt l)) q tt, sym (ap length q)))
members_at l (word ∷ words) ms e = go (member_of l word) (members_from l words) (λ m f. member_at l word m f) (λ rest f. members_at l words rest f) e
  where
    go : (o : Option Member) (rest : Option (List Member)) → ((m : Member) → o ≡ Some m → IsMemberAt l m) → ((xs : List Member) → rest ≡ Some xs →
        AllByRecursion (IsMemberAt l) xs × (length xs ≡ length words))
        → option_and_then (λ m. option_map (λ xs. m ∷ xs) rest) o ≡ Some ms → AllByRecursion (IsMemberAt l) ms × (length ms ≡ length (word ∷ words))
    go None rest one more e = cc
    go (Some m) None one more e = cc
    go (Some m) (Some xs) one more e =
        let q : m ∷ xs ≡ ms = cc in
        let r = more xs refl in
        (subst (AllByRecursion (IsMemberAt l)) q (one m refl, r.0), (let z = ap length q in let n = r.1 in omega (arith, z, n)))

pub some_words : (text : List ℕ) → 0 < length (words_of text)
some_words [] = omega arith
some_words (b ∷ bs) = go (eqb b 32) (words_of bs)
  where
    go : (t : Bool) (ws : List (List ℕ)) → 0 < length (cond t ([] ∷ ws) (onto_first_line b ws))
    go true ws = omega arith
    go false [] = omega arith
    go false (w ∷ ws) = omega arith

-- the pack of a rate within the scale, and of these members
pub pack_is : (scale l : ℕ) (p : Pack) (words : List ℕ) → p.rate ≤ scale → members_from l (words_of words) ≡ Some p.members → IsWrittenPack scale l p
pack_is scale l p words within e =
    let m = members_at l (words_of words) p.members e in
    record { within = within; some = (let n = m.1 in let s = some_words words in omega (arith, n, s)); each = m.0 }

-- ---- lines

pub some_line : (text : List ℕ) → (length text ≡ 0 → ⊥) → (p : List ℕ × List (List ℕ)) × (lines_of text ≡ p.0 ∷ p.1)
some_line [] some = absurd (some refl)
some_line (b ∷ bs) some = go (eqb b 10) (lines_of bs)
  where
    go : (t : Bool) (ls : List (List ℕ)) → (p : List ℕ × List (List ℕ)) × (cond t ([] ∷ ls) (onto_first_line b ls) ≡ p.0 ∷ p.1)
    go true ls = (([], ls), refl)
    go false [] = ((b ∷ [], []), refl)
    go false (w ∷ ls) = ((b ∷ w, ls), refl)
