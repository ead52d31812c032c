-- The refusals for the keys of a document and the kinds of their values.
use Rattle.std.specs.Prelude.{ℕ, if◌then◌else◌, List, [], ◌∷◌, Option, Some, None, is_some, option_map, option_and_then}
use Rattle.std.specs.Option.{option_or}
use Rattle.std.specs.Ordering.{nat_cmp, is_lt}
use Rattle.std.specs.Cmp.Lexicographic.{slice_cmp}
use Rattle.toml.specs.Data.{Data, table, Members, no_members, member, get_member}
use Rattle.task_reader.specs.declared.members.KeyFlaw.{KeyFlaw}
use Rattle.task_reader.specs.declared.members.KeyFlaw.TheVariants as flaw
use Rattle.task_reader.specs.declared.refusals.Key.{Key}
use Rattle.task_reader.specs.declared.refusals.Key.TheVariants as key
use Rattle.task_reader.specs.declared.refusals.Place.{Place}
use Rattle.task_reader.specs.declared.refusals.Place.TheVariants as place
use Rattle.task_reader.specs.declared.refusals.ReadSet.{ReadSet}
use Rattle.task_reader.specs.declared.refusals.ReadSet.TheVariants.{UnknownKey, Missing, WrongKind}
use Rattle.task_reader.specs.Keys.{key_text, keys_of, needed_keys_of, is_known, has_kind}
use Rattle.task_reader.specs.Tree.{Placed, placed_from, tasks_of}

-- the first refusal that any of these has
abbrev pub first_refusal : {A : Type 0} → (A → Option ReadSet) → List A → Option ReadSet
first_refusal refusal [] = None
first_refusal refusal (x ∷ xs) = option_or (refusal x) (first_refusal refusal xs)

-- of the text of a key and another, if there is one, the one that comes first in the order of bytes
abbrev pub lesser : List ℕ → Option (List ℕ) → List ℕ
lesser text None = text
lesser text (Some other) = if is_lt (slice_cmp nat_cmp text other) then text else other

-- the unknown key of a table that comes first in the order of bytes
abbrev pub least_unknown : Place → Members → Option (List ℕ)
least_unknown p no_members = None
least_unknown p (member text d ms) = if is_known p text then least_unknown p ms else Some (lesser text (least_unknown p ms))

-- an unknown key in a table
abbrev pub unknown_at : Place → Data → Option ReadSet
unknown_at p (table ms) = option_map (λ text. UnknownKey p text) (least_unknown p ms)
unknown_at p _ = None

-- the key, if the table lacks it
abbrev pub missing_key : Place → Members → Key → Option ReadSet
missing_key p ms k = if is_some (get_member (key_text k) ms) then None else Some (Missing p k)

-- a key that a table lacks
abbrev pub missing_at : Place → Data → Option ReadSet
missing_at p (table ms) = first_refusal (missing_key p ms) (needed_keys_of p)
missing_at p _ = None

-- the key, if its value is there and of another kind
abbrev pub wrong_key : Place → Members → Key → Option ReadSet
wrong_key p ms k = option_and_then (λ d. if has_kind k d then None else Some (WrongKind p k)) (get_member (key_text k) ms)

-- a key of a table whose value is of another kind; or a task that is no table
abbrev pub wrong_at : Place → Data → Option ReadSet
wrong_at p (table ms) = first_refusal (wrong_key p ms) (keys_of p)
wrong_at p _ = Some (WrongKind p key.Task)

-- the keys of a table that may have this flaw
abbrev pub flawed_keys : KeyFlaw → Place → List Key
flawed_keys flaw.Missing = needed_keys_of
flawed_keys flaw.WrongKind = keys_of

-- the key, if it has this flaw
abbrev pub flawed_key : KeyFlaw → Place → Members → Key → Option ReadSet
flawed_key flaw.Missing = missing_key
flawed_key flaw.WrongKind = wrong_key

-- a key of what should be a table that has this flaw
abbrev pub flawed_at : KeyFlaw → Place → Data → Option ReadSet
flawed_at flaw.Missing = missing_at
flawed_at flaw.WrongKind = wrong_at

-- the first such refusal of what should be a table of the document: of the top table first, then of the tasks in order
abbrev pub in_tables : (Place → Data → Option ReadSet) → Members → Option ReadSet
in_tables refusal top =
    first_refusal (λ (v : Placed). refusal v.place v.value) (record { place = place.Top; value = table top } ∷ placed_from 0 (tasks_of top))
