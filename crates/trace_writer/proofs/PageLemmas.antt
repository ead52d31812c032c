-- Lines of items that go out page by page.
use Rattle.std.proofs.Common.{ℕ, ◌+◌, ◌<◌, ◌≡◌, List, [], ◌∷◌, ◌++◌, length, take, drop, get_or, Option, Result, Err, sym, ap, ◌∙◌, arith}
use Rattle.std.proofs.Common.{append_assoc, append-nil, length-append}
use Rattle.std.specs.Prelude.{IsErr}
use Rattle.std.specs.List.{flat_map}
use Rattle.std.specs.Io.KnownBytes.{Appends}
use Rattle.std.proofs.KnownBytes.{Appends-trans}
use Rattle.std.proofs.lemmas.List.{take_more, take-append-drop}
use Rattle.std.proofs.lemmas.List.Concat.{flat_map-append}
use Rattle.sched_edges.specs.Streams.{Wrote}
use Rattle.sched_edges.proofs.Wrote.{part_then, part_cut, wrote_part}

-- one item more on a page
pub page_more : {A : Type 0} (f : A → List ℕ) (xs : List A) (i : ℕ) (x : A) (before page : List ℕ) → i < length xs → x ≡ get_or xs i x
    → flat_map f (take i xs) ≡ before ++ page → flat_map f (take (i + 1) xs) ≡ before ++ (page ++ f x)
page_more f xs i x before page within at so_far =
    let one = flat_map-append f (take i xs) (x ∷ []) ∙ ap (λ text. flat_map f (take i xs) ++ text) (append-nil (f x)) in
    (rw (take_more xs i x within, ← at) one) ∙ ap (λ text. text ++ f x) so_far ∙ append_assoc before page (f x)

-- a page without an item is empty
pub page_none : {A : Type 0} (f : A → List ℕ) (xs : List A) (first i : ℕ) (page : List ℕ) → flat_map f (take i xs) ≡ flat_map f (take first xs) ++ page →
    i ≡ first → length page ≡ 0
page_none f xs first i page so_far same =
    let long = ap length so_far ∙ length-append (flat_map f (take first xs)) page in
    let long' = ap (λ n. length (flat_map f (take n xs))) same in
    omega (arith, long, long')

-- a page went out
pub page_written : {A : Type 0} (f : A → List ℕ) (xs : List A) (i j : ℕ) (page : List ℕ) (a b c : Option (List ℕ)) → flat_map f (take j xs) ≡ flat_map f
    (take i xs) ++ page
    → Appends a b (flat_map f (take i xs)) → Appends b c page → Appends a c (flat_map f (take j xs))
page_written f xs i j page a b c text before now = rw text (Appends-trans a b c _ _ before now)

-- a page's write failed
pub page_failed : {A T U E F : Type 0} (f : A → List ℕ) (xs : List A) (i j : ℕ) (page : List ℕ) (a b c : Option (List ℕ)) (e : F) (r : Result T E)
    → flat_map f (take j xs) ≡ flat_map f (take i xs) ++ page → Appends a b (flat_map f (take i xs)) → Wrote {T = U} b c page (Err e) → IsErr r →
    Wrote a c (flat_map f xs) r
page_failed f xs i j page a b c e r text before wrote failed =
    let whole : flat_map f xs ≡ (flat_map f (take i xs) ++ page) ++ flat_map f (drop j xs) =
    ap (flat_map f) (sym (take-append-drop j xs)) ∙ flat_map-append f (take j xs) (drop j xs) ∙ ap (λ t. t ++ flat_map f (drop j xs)) text in
    wrote_part a c (flat_map f xs) r failed (rw whole (part_cut a c _ (flat_map f (drop j xs)) (part_then a b c _ _ before wrote.err)))
