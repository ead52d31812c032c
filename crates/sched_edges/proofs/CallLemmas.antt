-- What a call on a source, a sink or a gate for tests leaves. What was held before is what the value shows.
use Rattle.std.proofs.Common.{◌≡◌, ℕ, ◌+◌, ◌-◌, ◌<◌, ◌≤◌, min, Bool, List, [], ◌++◌, length, take, drop, length-drop, Ok, Err, le_refl, ap, ap₂}
use Rattle.std.proofs.Common.{subst, sym, ◌∙◌, arith}
use Rattle.std.proofs.lemmas.List.{drop-drop, drop_all, length-take-le, take_rest, take-append-drop}
use Rattle.sched_edges.specs.Causes.{Rose, HasCause}
use Rattle.sched_edges.specs.Memory.{is_listed}

-- a fault that was counted is a cause
pub fault_cause : {T E : Type 0} (before held now : ℕ) (e : E) → before ≡ held → before ≤ now → Rose before now → HasCause {T = T} held now (Err e)
fault_cause before held now e same later rose = record { later = subst (λ n. n ≤ now) same later; failed = subst (λ n. Rose n now) same rose }

-- where no fault was counted, none was
pub no_cause : {T E : Type 0} (before held : ℕ) (v : T) → before ≡ held → HasCause {E = E} held before (Ok v)
no_cause before held v same = record { later = subst (λ n. n ≤ before) same (le_refl before); failed = tt }

-- whether the call is one of those that fail
pub listed_is : (seen held : List ℕ) (call : ℕ) (fails : Bool) → seen ≡ held → fails ≡ is_listed seen call → is_listed held call ≡ fails
listed_is seen held call fails same is = sym (is ∙ ap (λ numbers. is_listed numbers call) same)

-- ---- a source for tests gives the front of what was left

pub front_within : (items held : List ℕ) (at n room : ℕ) → at ≤ length items → held ≡ items → n ≡ min (length (take (length held - at) (drop at held))) room
    → at + n ≤ length items
front_within items held at n room low same counted =
    let rest = ap length (take_rest held at) in
    let long = ap length same in
    omega (arith, length-drop at held, low, counted)

pub front_fits : (buffer : List ℕ) (n most room : ℕ) → n ≡ min most room → length buffer ≡ room → (n ≤ length buffer) × (n ≡ length (take n buffer))
front_fits buffer n most room counted long =
    let low : n ≤ length buffer = omega (arith, counted, long) in
    (low, sym (length-take-le n buffer low))

pub front_count : (left items held : List ℕ) (at n room : ℕ) → drop at items ≡ left → held ≡ items →
    n ≡ min (length (take (length held - at) (drop at held))) room → n ≡ min (length left) room
front_count left items held at n room shown same counted = counted ∙ ap (λ (xs : List ℕ). min (length xs) room) (take_rest held at ∙ ap (drop at) same ∙ shown)

pub front_given : (left items held buffer : List ℕ) (at n room : ℕ) → drop at items ≡ left → held ≡ items →
    n ≡ min (length (take (length held - at) (drop at held))) room
    → take n buffer ≡ take n (take (length held - at) (drop at held)) → length buffer ≡ room
    → (left ≡ take n buffer ++ drop (at + n) items) × (n ≡ 0 → 0 < length buffer → drop (at + n) items ≡ [])
front_given left items held buffer at n room shown same counted copied long =
    let count = front_count left items held at n room shown same counted in
    let whole : take (length held - at) (drop at held) ≡ left = take_rest held at ∙ ap (drop at) same ∙ shown in
    let rest : drop (at + n) items ≡ drop n left = sym (drop-drop n at items) ∙ ap (drop n) shown in (
      sym (take-append-drop n left) ∙ ap₂ ◌++◌ (sym (copied ∙ ap (take n) whole)) (sym rest),
      λ none some. rest ∙ drop_all n left (omega (arith, count, long)),
    )
