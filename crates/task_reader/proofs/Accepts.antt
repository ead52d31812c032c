-- A tree that isn't refused writes its set, and the set is lawful.
use Rattle.std.proofs.Common.{◌≡◌, ℕ, suc, pos, true, cond, List, [], map, Ok, Option, Some, None, is_some, unwrap_or, option_and_then, refl, sym}
use Rattle.std.proofs.Common.{◌∙◌, ap, subst, inl, inr}
use Rattle.std.proofs.lemmas.Bool.{cases_Bool}
use Rattle.std.specs.List.{AllByRecursion}
use Rattle.std.specs.Option.{option_or}
use Rattle.std.specs.Str.{is_utf8}
use Rattle.toml.specs.Data.{Data, string, integer, float, boolean, datetime, array, table, Items, no_items, item, Members, as_str, as_integer, as_array}
use Rattle.toml.specs.Parse.{parse_document}
use Rattle.sched_base.specs.Sets.{SetContents, IsLawful}
use Rattle.task_reader.specs.declared.refusals.ReadSet.{ReadSet}
use Rattle.task_reader.specs.declared.refusals.ReadSet.TheVariants.{UnknownKey}
use Rattle.task_reader.specs.declared.refusals.Key.TheVariants as key
use Rattle.task_reader.specs.declared.refusals.Place.TheVariants as place
use Rattle.task_reader.specs.Tree.{Placed, number_at, tasks_of, task_place, placed_from}
use Rattle.task_reader.specs.Written.{natural, written_in, written_tasks, task_of}
use Rattle.task_reader.specs.Members.{first_refusal, unknown_at, missing_key, missing_at, wrong_key, wrong_at}
use Rattle.task_reader.specs.Limits.{bad_processors, bad_horizon, too_many, same_name}
use Rattle.task_reader.specs.Reading.{refusal_of, set_of, answer_of, document_read_from, set_read_from}
use Rattle.task_reader.specs.Writes.{WritesOffset, WritesTask, WritesTasks, WritesArray, Writes}
use Rattle.task_reader.proofs.MembersLemmas.{known_from_none}
use Rattle.task_reader.proofs.LimitsLemmas.{none-option_map, IsGood, good_tasks, good_processors, good_horizon, lawful_set}
use Rattle.task_reader.proofs.Parts.{unknown, missing, wrong, bad_name, bad_period, bad_work, bad_offset}

or_none : {A : Type 0} (a b : Option A) → option_or a b ≡ None → (a ≡ None) × (b ≡ None)
or_none None b h = (refl, h)
or_none (Some x) b h = absurd (let e = h in cc)

-- a key that is there, with a value of its kind
integer_there : {R : Type 0} (o : Option Data) (r r' : R) → cond (is_some o) None (Some r) ≡ None → option_and_then (λ d. cond (is_some (as_integer d)) None
    (Some r')) o ≡ None
    → o ≡ Some (integer (unwrap_or (option_and_then as_integer o) (pos 0)))
integer_there None r r' h k = absurd (let e = h in cc)
integer_there (Some (integer z)) r r' h k = refl
integer_there (Some (string z)) r r' h k = absurd (let e = k in cc)
integer_there (Some (float z)) r r' h k = absurd (let e = k in cc)
integer_there (Some (boolean z)) r r' h k = absurd (let e = k in cc)
integer_there (Some (datetime z)) r r' h k = absurd (let e = k in cc)
integer_there (Some (array z)) r r' h k = absurd (let e = k in cc)
integer_there (Some (table z)) r r' h k = absurd (let e = k in cc)

string_there : {R : Type 0} (o : Option Data) (r r' : R) → cond (is_some o) None (Some r) ≡ None → option_and_then (λ d. cond (is_some (as_str d)) None
    (Some r')) o ≡ None
    → o ≡ Some (string (unwrap_or (option_and_then as_str o) []))
string_there None r r' h k = absurd (let e = h in cc)
string_there (Some (string z)) r r' h k = refl
string_there (Some (integer z)) r r' h k = absurd (let e = k in cc)
string_there (Some (float z)) r r' h k = absurd (let e = k in cc)
string_there (Some (boolean z)) r r' h k = absurd (let e = k in cc)
string_there (Some (datetime z)) r r' h k = absurd (let e = k in cc)
string_there (Some (array z)) r r' h k = absurd (let e = k in cc)
string_there (Some (table z)) r r' h k = absurd (let e = k in cc)

-- an offset that is missing, or there and a whole number
offset_there : {R : Type 0} (o : Option Data) (r : R) → option_and_then (λ d. cond (is_some (as_integer d)) None (Some r)) o ≡ None
    → unwrap_or (option_and_then as_integer o) (pos 0) ≡ pos (natural (unwrap_or (option_and_then as_integer o) (pos 0))) →
    WritesOffset o (natural (unwrap_or (option_and_then as_integer o) (pos 0)))
offset_there None r k whole = refl
offset_there (Some (integer z)) r k whole = ap integer whole
offset_there (Some (string z)) r k whole = absurd (let e = k in cc)
offset_there (Some (float z)) r k whole = absurd (let e = k in cc)
offset_there (Some (boolean z)) r k whole = absurd (let e = k in cc)
offset_there (Some (datetime z)) r k whole = absurd (let e = k in cc)
offset_there (Some (array z)) r k whole = absurd (let e = k in cc)
offset_there (Some (table z)) r k whole = absurd (let e = k in cc)

-- nothing in the tasks is refused for its keys and kinds
pub record KeysFit (i : ℕ) (ds : Items) : Type 0 where
  pub known : first_refusal (λ (v : Placed). unknown_at v.place v.value) (placed_from i ds) ≡ None
  pub there : first_refusal (λ (v : Placed). missing_at v.place v.value) (placed_from i ds) ≡ None
  pub kinds : first_refusal (λ (v : Placed). wrong_at v.place v.value) (placed_from i ds) ≡ None

-- the table of a task writes it
task_written : (i : ℕ) (ms : Members) → unknown_at (task_place i) (table ms) ≡ None → missing_at (task_place i) (table ms) ≡ None → wrong_at (task_place i)
    (table ms) ≡ None
    → IsGood (written_in ms) → WritesTask ms (task_of (written_in ms))
task_written i ms u m w good =
    let (mn, mr) = or_none (missing_key (task_place i) ms key.Name) _ m in
    let (mw, ms') = or_none (missing_key (task_place i) ms key.Work) _ mr in
    let (mp, mt) = or_none (missing_key (task_place i) ms key.Period) _ ms' in
    let (wn, wr) = or_none (wrong_key (task_place i) ms key.Name) _ w in
    let (ww, ws) = or_none (wrong_key (task_place i) ms key.Work) _ wr in
    let (wp, wt) = or_none (wrong_key (task_place i) ms key.Period) _ ws in
    let (wo, wu) = or_none (wrong_key (task_place i) ms key.Offset) _ wt in
    record {
      name = string_there _ _ _ mn wn;
      work = integer_there _ _ _ mw ww ∙ ap (λ z. Some (integer z)) good.work;
      period = integer_there _ _ _ mp wp ∙ ap (λ z. Some (integer z)) good.period;
      offset = offset_there _ _ wo good.offset;
      only = known_from_none (task_place i) ms (none-option_map (λ text. UnknownKey (task_place i) text) _ u);
    }

tasks_written : (i : ℕ) (ds : Items) → KeysFit i ds → AllByRecursion IsGood (written_tasks ds) → WritesTasks ds (map task_of (written_tasks ds))
tasks_written i no_items fit good = tt
tasks_written i (item (table ms) ds) fit good =
    let (u1, u2) = or_none (unknown_at (task_place i) (table ms)) _ fit.known in
    let (m1, m2) = or_none (missing_at (task_place i) (table ms)) _ fit.there in
    let (w1, w2) = or_none (wrong_at (task_place i) (table ms)) _ fit.kinds in
    ((ms, refl, task_written i ms u1 m1 w1 good.0), tasks_written (suc i) ds (record { known = u2; there = m2; kinds = w2 }) good.1)
tasks_written i (item (string x) ds) fit good = absurd (let e = fit.kinds in cc)
tasks_written i (item (integer x) ds) fit good = absurd (let e = fit.kinds in cc)
tasks_written i (item (float x) ds) fit good = absurd (let e = fit.kinds in cc)
tasks_written i (item (boolean x) ds) fit good = absurd (let e = fit.kinds in cc)
tasks_written i (item (datetime x) ds) fit good = absurd (let e = fit.kinds in cc)
tasks_written i (item (array x) ds) fit good = absurd (let e = fit.kinds in cc)

array_written : {R : Type 0} (o : Option Data) (r : R) → option_and_then (λ d. cond (is_some (as_array d)) None (Some r)) o ≡ None
    → KeysFit 0 (unwrap_or (option_and_then as_array o) no_items) → AllByRecursion IsGood (written_tasks (unwrap_or (option_and_then as_array o) no_items))
    → WritesArray o (map task_of (written_tasks (unwrap_or (option_and_then as_array o) no_items)))
array_written None r k fit good = refl
array_written (Some (array ds)) r k fit good = (ds, refl, tasks_written 0 ds fit good)
array_written (Some (string x)) r k fit good = absurd (let e = k in cc)
array_written (Some (integer x)) r k fit good = absurd (let e = k in cc)
array_written (Some (float x)) r k fit good = absurd (let e = k in cc)
array_written (Some (boolean x)) r k fit good = absurd (let e = k in cc)
array_written (Some (datetime x)) r k fit good = absurd (let e = k in cc)
array_written (Some (table x)) r k fit good = absurd (let e = k in cc)

-- a document that isn't refused has none of the eleven refusals
record IsUnrefused (top : Members) : Type 0 where
  known : unknown top ≡ None
  there : missing top ≡ None
  kinds : wrong top ≡ None
  processors : bad_processors (number_at key.Processors top) ≡ None
  horizon : bad_horizon (number_at key.Horizon top) ≡ None
  few : too_many (written_tasks (tasks_of top)) ≡ None
  names : bad_name (written_tasks (tasks_of top)) ≡ None
  apart : same_name (written_tasks (tasks_of top)) ≡ None
  periods : bad_period (written_tasks (tasks_of top)) ≡ None
  works : bad_work (written_tasks (tasks_of top)) ≡ None
  offsets : bad_offset (written_tasks (tasks_of top)) ≡ None

unrefused : (top : Members) → refusal_of top ≡ None → IsUnrefused top
unrefused top h =
    let (r2, h2) = or_none (unknown top) _ h in
    let (r3, h3) = or_none (missing top) _ h2 in
    let (r4, h4) = or_none (wrong top) _ h3 in
    let (r5, h5) = or_none (bad_processors (number_at key.Processors top)) _ h4 in
    let (r6, h6) = or_none (bad_horizon (number_at key.Horizon top)) _ h5 in
    let (r7, h7) = or_none (too_many (written_tasks (tasks_of top))) _ h6 in
    let (r8, h8) = or_none (bad_name (written_tasks (tasks_of top))) _ h7 in
    let (r9, h9) = or_none (same_name (written_tasks (tasks_of top))) _ h8 in
    let (r10, h10) = or_none (bad_period (written_tasks (tasks_of top))) _ h9 in
    let (r11, h11) = or_none (bad_work (written_tasks (tasks_of top))) _ h10 in
    let (r12, h12) = or_none (bad_offset (written_tasks (tasks_of top))) _ h11 in
    record { known = r2; there = r3; kinds = r4; processors = r5; horizon = r6; few = r7; names = r8; apart = r9; periods = r10; works = r11; offsets = r12 }

-- a document that isn't refused writes its set
writes_set : (top : Members) → IsUnrefused top → Writes top (set_of top)
writes_set top h =
    let (u, us) = or_none (unknown_at place.Top (table top)) _ h.known in
    let (m, ms) = or_none (missing_at place.Top (table top)) _ h.there in
    let (w, ws) = or_none (wrong_at place.Top (table top)) _ h.kinds in
    let (mp, mr) = or_none (missing_key place.Top top key.Processors) _ m in
    let (mh, mt) = or_none (missing_key place.Top top key.Horizon) _ mr in
    let (wp, wr) = or_none (wrong_key place.Top top key.Processors) _ w in
    let (wh, wt) = or_none (wrong_key place.Top top key.Horizon) _ wr in
    let (wa, we) = or_none (wrong_key place.Top top key.Task) _ wt in
    let good = good_tasks (written_tasks (tasks_of top)) h.names h.periods h.works h.offsets in
    record {
      processors = integer_there _ _ _ mp wp ∙ ap (λ z. Some (integer z)) (good_processors _ h.processors).whole;
      horizon = integer_there _ _ _ mh wh ∙ ap (λ z. Some (integer z)) (good_horizon _ h.horizon).whole;
      tasks = array_written _ _ wa (record { known = us; there = ms; kinds = ws }) good;
      only = known_from_none place.Top top (none-option_map (λ text. UnknownKey place.Top text) _ u);
    }

-- the set, and that it is lawful
pub record Accepts (top : Members) (s : SetContents) : Type 0 where
  pub writes : Writes top s
  pub lawful : IsLawful s

accepted : (top : Members) → refusal_of top ≡ None → Accepts top (set_of top)
accepted top h =
    let none = unrefused top h in
    record {
      writes = writes_set top none;
      lawful = lawful_set (number_at key.Processors top) (number_at key.Horizon top) _ none.processors none.horizon
          none.few none.names none.apart none.periods none.works none.offsets;
    }

answered : (top : Members) (o : Option ReadSet) (s : SetContents) → o ≡ refusal_of top → answer_of top o ≡ Ok s → Accepts top s
answered top None s same h = subst (Accepts top) (let e = h in cc) (accepted top (sym same))
answered top (Some r) s same h = absurd (let e = h in cc)

document_accepted : (bytes : List ℕ) (s : SetContents) (o : Option Members) → o ≡ parse_document bytes → document_read_from o ≡ Ok s → (top : Members)
    × (parse_document bytes ≡ Some top) × Accepts top s
document_accepted bytes s None same h = absurd (let e = h in cc)
document_accepted bytes s (Some top) same h = (top, sym same, answered top (refusal_of top) s refl h)

-- bytes that are read as a set are UTF-8
pub read_utf8 : (bytes : List ℕ) (s : SetContents) → set_read_from bytes ≡ Ok s → is_utf8 bytes ≡ true
unfolding set_read_from
read_utf8 bytes s h = elim (cases_Bool (is_utf8 bytes)) [ inl text ↦ text | inr other ↦ absurd (let e = rw other at h in cc) ]

-- bytes that are read as a set are a document that writes it, and it is lawful
pub read_accepts : (bytes : List ℕ) (s : SetContents) → set_read_from bytes ≡ Ok s → (top : Members) × (parse_document bytes ≡ Some top) × Accepts top s
unfolding set_read_from
read_accepts bytes s h = document_accepted bytes s (parse_document bytes) refl (rw (read_utf8 bytes s h) at h)
