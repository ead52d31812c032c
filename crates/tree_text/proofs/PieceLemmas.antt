-- Lines that go out in pieces.
use Rattle.std.proofs.Common.{◌≡◌, ◌∙◌, ℕ, ◌+◌, ◌<◌, ◌≤◌, List, [], ◌∷◌, ◌++◌, length, take, drop, get_or, map, codes, decimal, Option, Result, Ok}
use Rattle.std.proofs.Common.{Err, ap, subst, sym, append_assoc, append-nil}
use Rattle.std.specs.List.{flat_map, range_with_len}
use Rattle.std.specs.Io.KnownBytes.{Appends}
use Rattle.std.proofs.KnownBytes.{Appends-trans}
use Rattle.std.proofs.lemmas.List.{take_all, take_more, take-append-drop}
use Rattle.std.proofs.lemmas.List.Concat.{flat_map-append}
use Rattle.std.proofs.lemmas.List.Folds.{flat_map-map}
use Rattle.sched_base.specs.declared.rows.NodeId.{NodeId}
use Rattle.sched_edges.specs.Streams.{Wrote, TookPart}
use Rattle.sched_edges.proofs.CauseLemmas.{took_none}
use Rattle.sched_edges.proofs.Wrote.{part_then, part_cut}
use Rattle.sched_edges.proofs.LinesLemmas.{line_end_is, line_of_is}
use Rattle.run_tree.specs.Tree.{numbers, rate, members}
use Rattle.run_tree.specs.Plans.{PlanContents}
use Rattle.tree_text.specs.Text.{member_word, pack_line}
use Rattle.tree_text.specs.Pieces.{Added}

-- ---- texts of one part for each item, once all are written

-- the items of a list
pub items_done : {A T E : Type 0} (f : A → List ℕ) (xs : List A) (i : ℕ) (a b : Option (List ℕ)) (v : T) → length xs ≤ i →
    Appends a b (flat_map f (take i xs)) → Wrote {E = E} a b (flat_map f xs) (Ok v)
items_done {A = A} f xs i a b v done wrote = record { ok = subst (λ (ys : List A). Appends a b (flat_map f ys)) (take_all i xs done) wrote; err = tt }

-- the numbers from 0 on
pub numbers_done : {T E : Type 0} (f : ℕ → List ℕ) (n i : ℕ) (a b : Option (List ℕ)) (v : T) → i ≡ n → Appends a b (flat_map f (range_with_len 0 i)) →
    Wrote {E = E} a b (flat_map f (range_with_len 0 n)) (Ok v)
numbers_done f n i a b v done wrote = record { ok = subst (λ (k : ℕ). Appends a b (flat_map f (range_with_len 0 k))) done wrote; err = tt }

-- ---- texts added one after the other

-- nothing added yet
pub added_none : (a : Option (List ℕ)) (line : List ℕ) → Added a a line [] line
added_none a line = record { took = ([], sym (append-nil line), took_none a) }

-- a text after what was added so far
pub added_then : (a b c : Option (List ℕ)) (first text more line next : List ℕ) → Added a b first text line → Added b c line more next →
    Added a c first (text ++ more) next
added_then a b c first text more line next so_far now =
    let (xs, parts, took) = so_far.took in
    let (ys, then, later) = now.took in
    record {
      took = (
        xs ++ ys,
        append_assoc xs ys next ∙ ap (λ zs. xs ++ zs) then ∙ sym (append_assoc xs line more) ∙ ap (λ zs. zs ++ more) parts ∙ append_assoc first text more,
        Appends-trans a b c xs ys took later,
      );
    }

-- the line went out in part
pub added_cut : (a b c : Option (List ℕ)) (first text rest line : List ℕ) → Added a b first text line → TookPart b c line →
    TookPart a c (first ++ (text ++ rest))
added_cut a b c first text rest line so_far part =
    let (xs, parts, took) = so_far.took in
    let whole = append_assoc xs line rest in
    let is : xs ++ line ++ rest ≡ first ++ (text ++ rest) = ap (λ zs. zs ++ rest) parts ∙ append_assoc first text rest in
    rw (← is) (part_cut a c (xs ++ line) rest (part_then a b c xs line took part))

-- the line went out
pub added_wrote : {T E : Type 0} (a b c : Option (List ℕ)) (first text line : List ℕ) (r : Result T E) → Added a b first text line → Wrote b c line r →
    Wrote a c (first ++ text) r
added_wrote a b c first text line (Ok v) so_far wrote =
    let (xs, parts, took) = so_far.took in
    record { ok = rw (← parts) (Appends-trans a b c xs line took wrote.ok); err = tt }
added_wrote a b c first text line (Err e) so_far wrote =
    let (xs, parts, took) = so_far.took in
    record { ok = tt; err = rw (← parts) (part_then a b c xs line took wrote.err) }

-- ---- a pack's line

-- the line up to its members
abbrev pub pack_start : PlanContents → ℕ → List ℕ
pack_start p n = codes "pack " ++ decimal (rate p.tree n)

-- its members, each after a space
abbrev pub spaced_words : PlanContents → List NodeId → List ℕ
spaced_words p ids = flat_map (λ (id : NodeId). 32 ∷ member_word p id.0) ids

pub pack_line_is : (p : PlanContents) (n : ℕ) (ids : List NodeId) → numbers ids ≡ members p.tree n → pack_line p n ≡ pack_start p
    n ++ (spaced_words p ids ++ 10 ∷ [])
unfolding pack_line
pack_line_is p n ids all =
    let spaced : ℕ → List ℕ = λ x. 32 ∷ member_word p x in
    let words : List (List ℕ) = map (member_word p) (members p.tree n) in
    let same : flat_map (λ (word : List ℕ). 32 ∷ word) words ≡ spaced_words p ids =
    flat_map-map (λ (word : List ℕ). 32 ∷ word) (member_word p) (members p.tree n)
    ∙ ap (flat_map spaced) (sym all)
    ∙ flat_map-map spaced (λ (id : NodeId). id.0) ids in
    line_of_is (codes "pack") (decimal (rate p.tree n) ∷ words)
    ∙ ap (λ text. codes "pack " ++ (decimal (rate p.tree n) ++ text)) (line_end_is words)
    ∙ ap (λ text. codes "pack " ++ (decimal (rate p.tree n) ++ (text ++ 10 ∷ []))) same

-- a member more
pub words_next : (p : PlanContents) (ids : List NodeId) (i : ℕ) (x : NodeId) → i < length ids → x ≡ get_or ids i x →
    spaced_words p (take (i + 1) ids) ≡ spaced_words p (take i ids) ++ (32 ∷ member_word p x.0)
words_next p ids i x within at =
    let one = flat_map-append (λ (id : NodeId). 32 ∷ member_word p id.0) (take i ids) (x ∷ []) ∙ ap (λ text. spaced_words p (take i ids) ++ text)
    (append-nil (32 ∷ member_word p x.0)) in
    rw (take_more ids i x within, ← at) one

module _ (p : PlanContents) (n : ℕ) (ids : List NodeId) (all : numbers ids ≡ members p.tree n) where
  -- the members before one, and then that one
  pub pack_next : (i : ℕ) (x : NodeId) (a b c : Option (List ℕ)) (line next : List ℕ) → i < length ids → x ≡ get_or ids i x
      → Added a b (pack_start p n) (spaced_words p (take i ids)) line → Added b c line (32 ∷ member_word p x.0) next
      → Added a c (pack_start p n) (spaced_words p (take (i + 1) ids)) next
  pack_next i x a b c line next within at so_far now =
      rw (words_next p ids i x within at) (added_then a b c (pack_start p n) (spaced_words p (take i ids)) (32 ∷ member_word p x.0) line next so_far now)

  -- the members before one, and then a failure
  pub pack_cut : (i : ℕ) (a b c : Option (List ℕ)) (line : List ℕ) → Added a b (pack_start p n) (spaced_words p (take i ids)) line → TookPart b c line →
      TookPart a c (pack_line p n)
  pack_cut i a b c line so_far part =
      let before : List ℕ = spaced_words p (take i ids) in
      let after : List ℕ = spaced_words p (drop i ids) in
      let parts : spaced_words p ids ≡ before ++ after =
      ap (spaced_words p) (sym (take-append-drop i ids)) ∙ flat_map-append (λ (id : NodeId). 32 ∷ member_word p id.0) (take i ids) (drop i ids) in
      let is : pack_line p n ≡ pack_start p n ++ (before ++ (after ++ 10 ∷ [])) =
      pack_line_is p n ids all
      ∙ ap (λ words. pack_start p n ++ (words ++ 10 ∷ [])) parts
      ∙ ap (λ text. pack_start p n ++ text) (append_assoc before after (10 ∷ [])) in
      rw is (added_cut a b c (pack_start p n) before (after ++ 10 ∷ []) line so_far part)

  -- all members, and then the line feed and the write of what is left
  pub pack_done : {T E : Type 0} (i : ℕ) (a b c d : Option (List ℕ)) (line next : List ℕ) (r : Result T E) → length ids ≤ i
      → Added a b (pack_start p n) (spaced_words p (take i ids)) line → Added b c line (10 ∷ []) next → Wrote c d next r → Wrote a d (pack_line p n) r
  pack_done i a b c d line next r done so_far feed wrote =
      let whole = ap (λ xs. spaced_words p xs ++ 10 ∷ []) (take_all i ids done) in
      let added = added_then a b c (pack_start p n) (spaced_words p (take i ids)) (10 ∷ []) line next so_far feed in
      rw (pack_line_is p n ids all, ← whole) (added_wrote a c d (pack_start p n) (spaced_words p (take i ids) ++ 10 ∷ []) next r added wrote)
