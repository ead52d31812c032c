-- What is taken of a piece, and what is given of known bytes.
use Rattle.std.proofs.Common.{◌≡◌, ℕ, ◌+◌, ◌-◌, ◌<◌, ◌≤◌, List, [], ◌++◌, length, take, drop, Option, None, Some, Result, Ok, Err, refl, ap, subst}
use Rattle.std.proofs.Common.{arith, length-drop, length-append}
use Rattle.std.proofs.lemmas.List.{take_all}
use Rattle.std.proofs.Math.Seq.{take-add}
use Rattle.std.specs.Io.KnownBytes.{Appends, Consumes, IsAtEnd}
use Rattle.std.proofs.KnownBytes.{Appends-trans, Consumes-trans}
use Rattle.sched_edges.specs.Causes.{Rose}
use Rattle.sched_edges.specs.declared.read.TakeFault.{TakeFault}
use Rattle.sched_edges.specs.declared.read.TakeFault.TheVariants as fault
use Rattle.sched_edges.specs.Streams.{GaveAll, GaveCount, GaveAtMost, HoldsAtMost, HoldsMore}

-- a sink that took the first bytes of a piece takes some more of it
pub next_piece : (a b c : Option (List ℕ)) (piece : List ℕ) (done n : ℕ) → done ≤ length piece → Appends a b (take done piece) →
    n ≤ length (take (length piece - done) (drop done piece))
    → Appends b c (take n (take (length piece - done) (drop done piece))) → (done + n ≤ length piece) × Appends a c (take (done + n) piece)
next_piece a b c piece done n within before count after =
    let rest : take (length piece - done) (drop done piece) ≡ drop done piece = take_all (length piece - done) (drop done piece)
    (omega (arith, length-drop done piece)) in
    let fits : n ≤ length (drop done piece) = rw rest at count in
    let after' : Appends b c (take n (drop done piece)) = rw rest at after in
    (omega (arith, length-drop done piece), rw (take-add done n piece) (Appends-trans a b c _ _ before after'))

-- a source that gave all its bytes had no more of them
pub holds_what_it_gave : (old new : Option (List ℕ)) (limit : ℕ) (bytes : List ℕ) → GaveAll old new limit bytes → HoldsAtMost limit old
holds_what_it_gave None new limit bytes all = tt
holds_what_it_gave (Some xs) None limit bytes all = absurd all.gave
holds_what_it_gave (Some xs) (Some ys) limit bytes all =
    let within = all.within in
    let whole = ap length all.gave in
    let ended = ap length all.ended in
    omega (arith, length-append bytes ys)

-- a source that gave one byte more than the limit had more than it
pub holds_more : (old new : Option (List ℕ)) (limit : ℕ) → GaveCount old new (limit + 1) → HoldsMore limit old
holds_more None new limit gave = tt
holds_more (Some xs) None limit more = absurd more.gave.2
holds_more (Some xs) (Some ys) limit more =
    let (bytes, count, whole) = more.gave in
    let long = ap length whole in
    omega (arith, length-append bytes ys)

-- a source that gave these bytes, and then at most n
pub gave_at_most : (a b c : Option (List ℕ)) (bytes : List ℕ) (n most : ℕ) → Consumes a b bytes → GaveAtMost b c n → length bytes + n ≤ most →
    GaveAtMost a c most
gave_at_most a b c bytes n most before after fits =
    let (more, count, gave) = after.gave in
    record { gave = (bytes ++ more, omega (arith, length-append bytes more), Consumes-trans a b c bytes more before gave) }

-- a source that gave these bytes, and then n more
pub gave_some_more : (a b c : Option (List ℕ)) (bytes more : List ℕ) (most : ℕ) → Consumes a b bytes → Consumes b c more → length bytes + length more ≤ most
    → GaveAtMost a c most
gave_some_more a b c bytes more most before after fits =
    record { gave = (bytes ++ more, omega (arith, length-append bytes more), Consumes-trans a b c bytes more before after) }

-- a source that gave these bytes, and then none more, as it was at its end
pub gave_all : (a b c : Option (List ℕ)) (bytes more now : List ℕ) (count limit : ℕ) → Consumes a b bytes → Consumes b c more → now ≡ bytes ++ more →
    length more ≡ count
    → IsAtEnd c → count ≡ 0 → length bytes ≤ limit → GaveAll a c limit now
gave_all a b c bytes more now count limit before after grows counted ended none within = record {
  gave = rw grows (Consumes-trans a b c bytes more before after);
  ended = ended;
  within = rw grows (omega (arith, length-append bytes more));
}

-- a source that gave these bytes, and then more, one byte more than the limit
pub gave_count : (a b c : Option (List ℕ)) (bytes more now : List ℕ) (limit count : ℕ) → Consumes a b bytes → Consumes b c more → now ≡ bytes ++ more →
    count ≡ length now
    → limit < count → length bytes + length more ≤ limit + 1 → (count ≡ limit + 1) × GaveCount a c count
gave_count a b c bytes more now limit count before after grows counted above within =
    let long = ap length grows in
    (omega (arith, length-append bytes more), record { gave = (now, omega arith, rw grows (Consumes-trans a b c bytes more before after)) })

-- a rise of the faults after others
pub rose_later : (before mid now : ℕ) → before ≤ mid → Rose mid now → Rose before now
rose_later before mid now later rose = omega arith

-- a value is no fault
pub ok_is_no_fault : {T E : Type 0} {v : T} {e : E} → Ok v ≡ Err e → ⊥
ok_is_no_fault same = cc

-- the fault of too much input tells its count
pub same_count : {T : Type 0} {n count : ℕ} → ◌≡◌ {A = Result T TakeFault} (Err (fault.TooLong n)) (Err (fault.TooLong count)) → n ≡ count
same_count same = cc

-- and is no failure of the source
pub long_is_no_failure : {T : Type 0} {n : ℕ} → ◌≡◌ {A = Result T TakeFault} (Err (fault.TooLong n)) (Err fault.Read) → ⊥
long_is_no_failure same = cc

-- a fault that is handed on is the fault
pub handed_on : {T U E : Type 0} {r : Result T E} {x y e : E} → r ≡ Err y → y ≡ x → r ≡ Err e → ◌≡◌ {A = Result U E} (Err x) (Err e)
handed_on is same told = cc

-- a source of which so much was told has more than the limit
pub holds_more_than : (old new : Option (List ℕ)) (limit count : ℕ) → (count ≡ limit + 1) × GaveCount old new count → HoldsMore limit old
holds_more_than old new limit count told = holds_more old new limit (subst (λ n. GaveCount old new n) told.0 told.1)

-- a refusal of memory is no fault of too much input
pub memory_is_not_long : {T : Type 0} {r : Result T TakeFault} {y : TakeFault} {count : ℕ} → r ≡ Err y → y ≡ fault.NoMemory → r ≡ Err (fault.TooLong count) → ⊥
memory_is_not_long is same long = cc

-- and no failure of the source
pub memory_is_no_failure : {T : Type 0} {r : Result T TakeFault} {y : TakeFault} → r ≡ Err y → y ≡ fault.NoMemory → r ≡ Err fault.Read → ⊥
memory_is_no_failure is same failed = cc

-- a source that gave a piece, whose room is the most
pub gave_piece : (a b : Option (List ℕ)) (bytes : List ℕ) (count room most : ℕ) → Consumes a b bytes → count ≡ length bytes → count ≤ room → room ≡ most →
    GaveAtMost a b most
gave_piece a b bytes count room most gave long within same = record { gave = (bytes, omega (arith, long, within, same), gave) }

-- a source that wasn't read
pub gave_nothing : (a : Option (List ℕ)) (most : ℕ) → GaveAtMost a a most
gave_nothing None most = record { gave = ([], omega arith, tt) }
gave_nothing (Some xs) most = record { gave = ([], omega arith, refl) }
