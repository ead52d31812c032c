-- Lemmas on the refusals for keys.
use Rattle.std.proofs.Common.{◌≡◌, ℕ, suc, ◌+◌, ◌<◌, ◌≤◌, length, get_or, drop, add-one, ap₂, Ordering, Less, Equal, Greater, nat_cmp, is_eq, IsSome}
use Rattle.std.proofs.Common.{true, false, List, [], ◌∷◌, Option, Some, None, String, Global, string_bytes, refl, sym, ◌∙◌, ap, subst, inl, inr}
use Rattle.std.proofs.lemmas.List.{at_drop_more, at_drop_all}
use Rattle.std.proofs.lemmas.Bool.{cases_Bool, false≢true}
use Rattle.std.proofs.lemmas.Cmp.{nat_list_cmp_total, tied_itself}
use Rattle.std.proofs.lemmas.Map.Text.{is_eq-slice_cmp}
use Rattle.std.proofs.lemmas.Slice.Eq.{bytes_eq-Decides}
use Rattle.std.specs.Cmp.Lexicographic.{slice_cmp}
use Rattle.std.specs.List.{AllByRecursion}
use Rattle.std.specs.List.Sorted.{IsStrictlySortedBy}
use Rattle.std.specs.Map.{keys_of}
use Rattle.std.specs.Option.{option_or}
use Rattle.std.specs.Ordering.{is_lt, match_ordering}
use Rattle.std.specs.Str.{bytes_eq}
use Rattle.std.specs.String.{string_cmp}
use Rattle.toml.specs.Data.{Data, table, Members, no_members, member, get_member}
use Rattle.toml.specs.View.{view, items_view, members_view}
use Rattle.toml.specs.declared.value.Value.{Value}
use Rattle.task_reader.specs.declared.refusals.Place.{Place}
use Rattle.task_reader.specs.declared.refusals.ReadSet.{ReadSet}
use Rattle.task_reader.specs.Keys.{is_known}
use Rattle.task_reader.specs.Tree.{Placed, placed_from, task_place}
use Rattle.task_reader.specs.Members.{first_refusal, flawed_keys, flawed_key, flawed_at, lesser, least_unknown}
use Rattle.task_reader.specs.declared.members.KeyFlaw.{KeyFlaw}
use Rattle.task_reader.specs.declared.members.KeyFlaw.TheVariants as flaw
use Rattle.task_reader.specs.Writes.{HasOnlyKnown}

-- where the first has no refusal, it is that of the others
pub first_refusal-none : {A : Type 0} (refusal : A → Option ReadSet) (x : A) (xs : List A) → refusal x ≡ None →
    first_refusal refusal (x ∷ xs) ≡ first_refusal refusal xs
first_refusal-none refusal x xs none = rw none refl

-- a key before another, and before the rest, comes before both
lesser-both : (k l : List ℕ) (o : Option (List ℕ)) → slice_cmp nat_cmp k l ≡ Less → lesser k o ≡ k → lesser k (Some (lesser l o)) ≡ k
lesser-both k l None order rest = rw order refl
lesser-both k l (Some m) order rest =
    elim (cases_Bool (is_lt (slice_cmp nat_cmp l m))) [ inl here ↦ rw (here, order) refl | inr later ↦ rw later rest ]

-- a key before all entries comes before the least unknown one
lesser-least_unknown : (p : Place) (k : String Global) (es : List (String Global × Value)) → AllByRecursion (λ l. string_cmp k l ≡ Less) (keys_of es) →
    lesser (string_bytes k) (least_unknown p (members_view es)) ≡ string_bytes k
lesser-least_unknown p k [] before = refl
lesser-least_unknown p k (e ∷ es) before =
    let rest = lesser-least_unknown p k es before.1 in
    elim (cases_Bool (is_known p (string_bytes e.0))) [
      | inl known ↦ rw known rest
      | inr other ↦ rw other (lesser-both (string_bytes k) (string_bytes e.0) (least_unknown p (members_view es)) before.0 rest)
    ]

-- of entries that ascend and are what is left of all, an unknown first key is the least of all
pub least_unknown-first : (p : Place) (all : Members) (left : List (String Global × Value)) (e : String Global × Value)
    (rest : List (String Global × Value)) → left ≡ e ∷ rest
    → IsStrictlySortedBy string_cmp (keys_of left) → least_unknown p (members_view left) ≡ least_unknown p all → is_known p (string_bytes e.0) ≡ false
    → least_unknown p all ≡ Some (string_bytes e.0)
unfolding IsStrictlySortedBy
least_unknown-first p all left e rest split sorted same other =
    let ascends : IsStrictlySortedBy string_cmp (keys_of (e ∷ rest)) = subst (λ es. IsStrictlySortedBy string_cmp (keys_of es)) split sorted in
    let found : least_unknown p (members_view (e ∷ rest)) ≡ Some (string_bytes e.0) = rw other (ap Some (lesser-least_unknown p e.0 rest ascends.0)) in
    sym same ∙ ap (λ es. least_unknown p (members_view es)) split ∙ found

-- a known first key is passed over
pub least_unknown-known : (p : Place) (all : Members) (left : List (String Global × Value)) (e : String Global × Value)
    (rest : List (String Global × Value)) → left ≡ e ∷ rest
    → IsStrictlySortedBy string_cmp (keys_of left) → least_unknown p (members_view left) ≡ least_unknown p all → is_known p (string_bytes e.0) ≡ true
    → IsStrictlySortedBy string_cmp (keys_of rest) × (least_unknown p (members_view rest) ≡ least_unknown p all)
unfolding IsStrictlySortedBy
least_unknown-known p all left e rest split sorted same known =
    let ascends : IsStrictlySortedBy string_cmp (keys_of (e ∷ rest)) = subst (λ es. IsStrictlySortedBy string_cmp (keys_of es)) split sorted in
    let passed : least_unknown p (members_view (e ∷ rest)) ≡ least_unknown p (members_view rest) = rw known refl in
    (ascends.1, sym passed ∙ (sym (ap (λ es. least_unknown p (members_view es)) split) ∙ same))

known_or_later : (p : Place) (text l : List ℕ) (d : Data) (ms : Members) (o : Ordering) → slice_cmp nat_cmp text l ≡ o → is_known p l ≡ true → HasOnlyKnown p ms
    → IsSome (match_ordering o (get_member text ms) (Some d) (get_member text ms)) → is_known p text ≡ true
known_or_later p text l d ms Less order known rest there = rest text there
known_or_later p text l d ms Greater order known rest there = rest text there
known_or_later p text l d ms Equal order known rest there =
    let same : bytes_eq text l ≡ true = sym (is_eq-slice_cmp text l) ∙ ap is_eq order in
    subst (λ k. is_known p k ≡ true) (sym ((bytes_eq-Decides text l).0 same)) known

-- a table in which no key is unknown has only known ones
pub known_from_none : (p : Place) (ms : Members) → least_unknown p ms ≡ None → HasOnlyKnown p ms
known_from_none p no_members none text there = absurd (false≢true there)
known_from_none p (member l d ms) none text there =
    elim (cases_Bool (is_known p l)) [
      | inl known ↦ known_or_later p text l d ms (slice_cmp nat_cmp text l) refl known (known_from_none p ms (rw known at none)) there
      | inr other ↦ absurd (let e = rw other at none in cc)
    ]

there_later : (text l : List ℕ) (d : Data) (ms : Members) (o : Ordering) → IsSome (get_member text ms) → IsSome (match_ordering o (get_member text ms)
    (Some d) (get_member text ms))
there_later text l d ms Less there = there
there_later text l d ms Equal there = refl
there_later text l d ms Greater there = there

-- and the other way round
pub none_from_known : (p : Place) (ms : Members) → HasOnlyKnown p ms → least_unknown p ms ≡ None
none_from_known p no_members only = refl
none_from_known p (member l d ms) only =
    let here : IsSome (get_member l (member l d ms)) = rw (tied_itself nat_list_cmp_total l) refl in
    rw (only l here) (none_from_known p ms (λ text there. only text (there_later text l d ms (slice_cmp nat_cmp text l) there)))

-- ---- one after the other

-- what is found at place i is the first refusal from there on
pub first_found : {A : Type 0} (refusal : A → Option ReadSet) (xs : List A) (i : ℕ) (d : A) (found : Option ReadSet) (r : ReadSet) → i < length xs →
    found ≡ refusal (get_or xs i d) → found ≡ Some r
    → first_refusal refusal (drop i xs) ≡ Some r
first_found refusal xs i d found r within is some =
    at_drop_more (first_refusal refusal) xs i d within ∙ ap (λ o. option_or o (first_refusal refusal (drop (i + 1) xs))) (sym is ∙ some)

pub first_more : {A : Type 0} (refusal : A → Option ReadSet) (xs : List A) (i : ℕ) (d : A) (found : Option ReadSet) → i < length xs →
    found ≡ refusal (get_or xs i d) → found ≡ None
    → first_refusal refusal (drop i xs) ≡ first_refusal refusal (drop (i + 1) xs)
first_more refusal xs i d found within is none =
    at_drop_more (first_refusal refusal) xs i d within ∙ first_refusal-none refusal (get_or xs i d) (drop (i + 1) xs) (sym is ∙ none)

pub first_past : {A : Type 0} (refusal : A → Option ReadSet) (xs : List A) (i : ℕ) → length xs ≤ i → first_refusal refusal (drop i xs) ≡ None
first_past refusal xs i past = at_drop_all (first_refusal refusal) xs i past

-- the first refusal of the tasks from i on
abbrev from_task : (Placed → Option ReadSet) → ℕ → List Value → Option ReadSet
from_task refusal i vs = first_refusal refusal (placed_from i (items_view vs))

-- the same of the tasks of the document
pub task_found : (at : Place → Data → Option ReadSet) (vs : List Value) (i : ℕ) (v : Value) (p : Place) (found : Option ReadSet) (r : ReadSet) →
    i < length vs → v ≡ get_or vs i v → p ≡ task_place i
    → found ≡ at p (view v) → found ≡ Some r → from_task (λ (w : Placed). at w.place w.value) i (drop i vs) ≡ Some r
task_found at vs i v p found r within here place is some =
    at_drop_more (from_task (λ (w : Placed). at w.place w.value) i) vs i v within
    ∙ ap (λ o. option_or o (from_task (λ (w : Placed). at w.place w.value) (suc i) (drop (i + 1) vs))) (ap₂ (λ q w. at q (view w)) (sym place) (sym here)
    ∙ sym is ∙ some)

pub task_more : (at : Place → Data → Option ReadSet) (vs : List Value) (i : ℕ) (v : Value) (p : Place) (found : Option ReadSet) → i < length vs →
    v ≡ get_or vs i v → p ≡ task_place i
    → found ≡ at p (view v) → found ≡ None
    → from_task (λ (w : Placed). at w.place w.value) i (drop i vs) ≡ from_task (λ (w : Placed). at w.place w.value) (i + 1) (drop (i + 1) vs)
task_more at vs i v p found within here place is none =
    at_drop_more (from_task (λ (w : Placed). at w.place w.value) i) vs i v within
    ∙ ap (λ o. option_or o (from_task (λ (w : Placed). at w.place w.value) (suc i) (drop (i + 1) vs))) (ap₂ (λ q w. at q (view w)) (sym place) (sym here)
    ∙ sym is ∙ none)
    ∙ ap (λ n. from_task (λ (w : Placed). at w.place w.value) n (drop (i + 1) vs)) (sym (add-one i))

pub task_past : (at : Place → Data → Option ReadSet) (vs : List Value) (i : ℕ) → length vs ≤ i → from_task (λ (w : Placed). at w.place w.value) i
    (drop i vs) ≡ None
task_past at vs i past = at_drop_all (from_task (λ (w : Placed). at w.place w.value) i) vs i past

-- what a table has of a flaw is that of its keys, in their order
pub flawed_in : (f : KeyFlaw) (p : Place) (ms : Members) → first_refusal (flawed_key f p ms) (flawed_keys f p) ≡ flawed_at f p (table ms)
flawed_in flaw.Missing p ms = refl
flawed_in flaw.WrongKind p ms = refl
