-- What several writes, one after the other, took.
use Rattle.std.proofs.Common.{◌≡◌, ℕ, ◌+◌, ◌-◌, ◌<◌, refl, List, [], ◌∷◌, ◌++◌, length, take, drop, get_or, Result, Ok, Err, sym, ◌∙◌, ap, arith, suc}
use Rattle.std.proofs.Common.{zero, length-append, append_assoc, append-nil}
use Rattle.std.specs.declared.option.Option.{Option}
use Rattle.std.specs.Prelude.{IsErr}
use Rattle.std.specs.List.{flat_map, range_with_len}
use Rattle.std.proofs.lemmas.List.{take-append-le, take_more}
use Rattle.std.proofs.lemmas.List.Concat.{flat_map-append}
use Rattle.std.proofs.Math.Seq.{take-append-add}
use Rattle.std.specs.Io.KnownBytes.{Appends}
use Rattle.std.proofs.KnownBytes.{Appends-trans}
use Rattle.sched_edges.specs.Streams.{Wrote, TookPart}

-- a whole text, and then a first part of another
pub part_then : (a b c : Option (List ℕ)) (xs ys : List ℕ) → Appends a b xs → TookPart b c ys → TookPart a c (xs ++ ys)
part_then a b c xs ys whole part =
    let (n, fits, more) = part.took in
    record { took = (length xs + n, omega (arith, length-append xs ys), rw (take-append-add xs ys n) (Appends-trans a b c xs (take n ys) whole more)) }

-- a write of a whole text, and then another write
pub wrote_then : {T U E F : Type 0} (a b c : Option (List ℕ)) (xs ys : List ℕ) (v : U) (r : Result T E) → Wrote {E = F} a b xs (Ok v) → Wrote b c ys r →
    Wrote a c (xs ++ ys) r
wrote_then a b c xs ys v (Ok w) first second = record { ok = Appends-trans a b c xs ys first.ok second.ok; err = tt }
wrote_then a b c xs ys v (Err e) first second = record { ok = tt; err = part_then a b c xs ys first.ok second.err }

-- a first part of a text is one of a longer text
pub part_cut : (a b : Option (List ℕ)) (xs ys : List ℕ) → TookPart a b xs → TookPart a b (xs ++ ys)
part_cut a b xs ys part =
    let (n, fits, more) = part.took in
    record { took = (n, omega (arith, length-append xs ys), rw (take-append-le n xs ys) more) }

-- where the sink took a first part, any failure may be answered
pub wrote_part : {T E : Type 0} (a b : Option (List ℕ)) (xs : List ℕ) (r : Result T E) → IsErr r → TookPart a b xs → Wrote a b xs r
wrote_part a b xs (Ok v) failed part = absurd (let e = failed in cc)
wrote_part a b xs (Err e) failed part = record { ok = tt; err = part }

-- a write that failed is one of a longer text, and any failure may be answered
pub wrote_cut : {T U E F : Type 0} (a b : Option (List ℕ)) (xs ys : List ℕ) (e : F) (r : Result T E) → Wrote {T = U} a b xs (Err e) → IsErr r →
    Wrote a b (xs ++ ys) r
wrote_cut a b xs ys e r wrote failed = wrote_part a b (xs ++ ys) r failed (part_cut a b xs ys wrote.err)

flat_map_parts : {A : Type 0} (f : A → List ℕ) (xs : List A) (i : ℕ) (x : A) → i < length xs → x ≡ get_or xs i x
    → flat_map f xs ≡ flat_map f (take i xs) ++ (f x ++ flat_map f (drop (suc i) xs))
flat_map_parts f [] i x within at = absurd (omega arith)
flat_map_parts f (y ∷ xs) zero x within at = ap (λ z. f z ++ flat_map f xs) (sym at)
flat_map_parts f (y ∷ xs) (suc i) x within at =
    ap (λ text. f y ++ text) (flat_map_parts f xs i x (omega arith) at) ∙ sym (append_assoc (f y) (flat_map f (take i xs))
    (f x ++ flat_map f (drop (suc i) xs)))

flat_map_next : {A : Type 0} (f : A → List ℕ) (xs : List A) (i : ℕ) (x : A) → i < length xs → x ≡ get_or xs i x
    → flat_map f (take (i + 1) xs) ≡ flat_map f (take i xs) ++ f x
flat_map_next f xs i x within at =
    let one = flat_map-append f (take i xs) (x ∷ []) ∙ ap (λ text. flat_map f (take i xs) ++ text) (append-nil (f x)) in
    rw (take_more xs i x within, ← at) one

-- a text of one part for each item: the parts before an item, and then the item's
pub item_written : {A : Type 0} (f : A → List ℕ) (xs : List A) (i : ℕ) (x : A) (a b c : Option (List ℕ)) → i < length xs → x ≡ get_or xs i x
    → Appends a b (flat_map f (take i xs)) → Appends b c (f x) → Appends a c (flat_map f (take (i + 1) xs))
item_written f xs i x a b c within at before now = rw (flat_map_next f xs i x within at) (Appends-trans a b c _ _ before now)

-- the parts before an item, and then a write of the item's that failed
pub wrote_item : {A T U E F : Type 0} (f : A → List ℕ) (xs : List A) (i : ℕ) (x : A) (a b c : Option (List ℕ)) (e : F) (r : Result T E) → i < length xs →
    x ≡ get_or xs i x
    → Appends a b (flat_map f (take i xs)) → Wrote {T = U} b c (f x) (Err e) → IsErr r → Wrote a c (flat_map f xs) r
wrote_item f xs i x a b c e r within at before wrote failed =
    wrote_part a c (flat_map f xs) r failed (rw (flat_map_parts f xs i x within at) (part_then a b c _ _ before
    (part_cut b c (f x) (flat_map f (drop (suc i) xs)) wrote.err)))

-- ---- a text of one part for each number from 0 on

range_parts : (f : ℕ → List ℕ) (start n i : ℕ) → i < n → flat_map f (range_with_len start n) ≡ flat_map f (range_with_len start i)
    ++ (f (start + i) ++ flat_map f (range_with_len (start + i + 1) (n - i - 1)))
range_parts f start zero i within = absurd (omega arith)
range_parts f start (suc n) zero within =
    let at : start + 0 ≡ start = omega arith in
    let count : suc n - 0 - 1 ≡ n = omega arith in
    rw (at, count) refl
range_parts f start (suc n) (suc i) within =
    let at : start + suc i ≡ start + 1 + i = omega arith in
    let count : suc n - suc i - 1 ≡ n - i - 1 = omega arith in
    rw (at, count) (ap (λ text. f start ++ text) (range_parts f (start + 1) n i (omega arith))
    ∙ sym (append_assoc (f start) (flat_map f (range_with_len (start + 1) i)) _))

range_next : (f : ℕ → List ℕ) (i : ℕ) → flat_map f (range_with_len 0 (i + 1)) ≡ flat_map f (range_with_len 0 i) ++ f i
range_next f i =
    let at : 0 + i ≡ i = omega arith in
    let none : i + 1 - i - 1 ≡ 0 = omega arith in
    let parts = range_parts f 0 (i + 1) i (omega arith) in
    (rw (none, at) at parts) ∙ ap (λ text. flat_map f (range_with_len 0 i) ++ text) (append-nil (f i))

-- the parts before number i, and then that of i
pub number_written : (f : ℕ → List ℕ) (i : ℕ) (a b c : Option (List ℕ)) → Appends a b (flat_map f (range_with_len 0 i)) → Appends b c (f i) →
    Appends a c (flat_map f (range_with_len 0 (i + 1)))
number_written f i a b c before now = rw (range_next f i) (Appends-trans a b c _ _ before now)

-- the parts before number i, and then a write of its part that failed
pub wrote_number : {T U E F : Type 0} (f : ℕ → List ℕ) (n i : ℕ) (a b c : Option (List ℕ)) (e : F) (r : Result T E) → i < n
    → Appends a b (flat_map f (range_with_len 0 i)) → Wrote {T = U} b c (f i) (Err e) → IsErr r → Wrote a c (flat_map f (range_with_len 0 n)) r
wrote_number f n i a b c e r within before wrote failed =
    let at : 0 + i ≡ i = omega arith in
    wrote_part a c _ r failed (rw (range_parts f 0 n i within, at) (part_then a b c _ _ before (part_cut b c (f i) _ wrote.err)))
