-- The keys of a set's tables.
use Rattle.std.specs.Prelude.{ℕ, Bool, List, [], ◌∷◌, codes, is_some}
use Rattle.std.specs.List.{list_any}
use Rattle.std.specs.Str.{bytes_eq}
use Rattle.toml.specs.Data.{Data, as_str, as_integer, as_array}
use Rattle.task_reader.specs.declared.refusals.Key.{Key}
use Rattle.task_reader.specs.declared.refusals.Key.TheVariants.{Processors, Horizon, Task, Name, Work, Period, Offset}
use Rattle.task_reader.specs.declared.refusals.Place.{Place}
use Rattle.task_reader.specs.declared.refusals.Place.TheVariants as place

-- the key as it is written
abbrev pub key_text : Key → List ℕ
key_text Processors = codes "processors"
key_text Horizon = codes "horizon"
key_text Task = codes "task"
key_text Name = codes "name"
key_text Work = codes "work"
key_text Period = codes "period"
key_text Offset = codes "offset"

-- the keys that a table may have, in their order
abbrev pub keys_of : Place → List Key
keys_of place.Top = Processors ∷ Horizon ∷ Task ∷ []
keys_of (place.Task i) = Name ∷ Work ∷ Period ∷ Offset ∷ []

-- the keys that a table must have, in their order
abbrev pub needed_keys_of : Place → List Key
needed_keys_of place.Top = Processors ∷ Horizon ∷ []
needed_keys_of (place.Task i) = Name ∷ Work ∷ Period ∷ []

-- whether this is the text of a key that the table may have
abbrev pub is_known : Place → List ℕ → Bool
is_known p text = list_any (λ k. bytes_eq (key_text k) text) (keys_of p)

-- whether the value is of the key's kind: an array, a string, or a whole number
abbrev pub has_kind : Key → Data → Bool
has_kind Task d = is_some (as_array d)
has_kind Name d = is_some (as_str d)
has_kind Processors d = is_some (as_integer d)
has_kind Horizon d = is_some (as_integer d)
has_kind Work d = is_some (as_integer d)
has_kind Period d = is_some (as_integer d)
has_kind Offset d = is_some (as_integer d)
