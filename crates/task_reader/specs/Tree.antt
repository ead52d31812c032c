-- What the tree of a document has where a set is written.
use Rattle.std.specs.Prelude.{ℕ, suc, ◌-◌, ◌^◌, min, ℤ, pos, List, [], ◌∷◌, unwrap_or, option_and_then}
use Rattle.toml.specs.Data.{Data, Items, no_items, item, Members, get_member, as_str, as_integer, as_array}
use Rattle.task_reader.specs.declared.refusals.Key.{Key}
use Rattle.task_reader.specs.declared.refusals.Key.TheVariants as key
use Rattle.task_reader.specs.declared.refusals.Place.{Place}
use Rattle.task_reader.specs.declared.refusals.Place.TheVariants as place
use Rattle.task_reader.specs.Keys.{key_text}

-- the whole number at a key; 0 where there is none, as a missing offset means. No other missing one is looked at, since it is refused before
abbrev pub number_at : Key → Members → ℤ
number_at k ms = unwrap_or (option_and_then as_integer (get_member (key_text k) ms)) (pos 0)

-- the string at a key; empty where there is none, which is not looked at, since it is refused before
abbrev pub text_at : Key → Members → List ℕ
text_at k ms = unwrap_or (option_and_then as_str (get_member (key_text k) ms)) []

-- the values of the array `task`, in order; none where there is no such array
abbrev pub tasks_of : Members → Items
tasks_of top = unwrap_or (option_and_then as_array (get_member (key_text key.Task) top)) no_items

-- the place of task i; a document within the limit of its bytes has fewer than 2 ^ 32
abbrev pub task_place : ℕ → Place
task_place i = place.Task (min i (2 ^ 32 - 1))

-- a value of the document that should be a table, and its place
pub record Placed : Type 0 where
  pub place : Place
  pub value : Data

-- the values of the array, of which the first is task i
abbrev pub placed_from : ℕ → Items → List Placed
placed_from i no_items = []
placed_from i (item d ds) = record { place = task_place i; value = d } ∷ placed_from (suc i) ds
