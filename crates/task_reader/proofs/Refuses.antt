-- A tree that writes a lawful set isn't refused, and is read as that set.
use Rattle.std.proofs.Common.{◌≡◌, ℕ, suc, ◌-◌, ◌^◌, ◌≤◌, pos, true, false, not, cond, nat_le, List, [], ◌∷◌, ◌++◌, length, map, Ok, Option, Some}
use Rattle.std.proofs.Common.{None, is_some, unwrap_or, option_and_then, refl, sym, ap, subst, inl, inr, arith}
use Rattle.std.proofs.lemmas.Bool.{cases_Bool}
use Rattle.std.proofs.lemmas.Bool.Decides.{nat_tests}
use Rattle.std.proofs.lemmas.List.{map-append, length-map}
use Rattle.std.proofs.lemmas.Slice.Eq.{bytes_eq-Decides}
use Rattle.std.specs.List.{AllByRecursion}
use Rattle.std.specs.Option.{option_or}
use Rattle.std.specs.Str.{bytes_eq, is_utf8}
use Rattle.toml.specs.Data.{Data, table, Items, no_items, item, Members, as_integer, as_array}
use Rattle.toml.specs.Parse.{parse_document}
use Rattle.sched_base.specs.declared.sets.Task.{Task}
use Rattle.sched_base.specs.Sets.{SetContents, IsLawful, IsLawfulTask, IsFree, NamesDiffer}
use Rattle.task_reader.specs.declared.refusals.ReadSet.TheVariants.{WrongKind}
use Rattle.task_reader.specs.declared.refusals.Key.TheVariants as key
use Rattle.task_reader.specs.declared.refusals.Place.TheVariants as place
use Rattle.task_reader.specs.Tree.{number_at, tasks_of, task_place}
use Rattle.task_reader.specs.Written.{WrittenTask, written_in, written_tasks, task_of}
use Rattle.task_reader.specs.Members.{unknown_at, missing_at, wrong_at}
use Rattle.task_reader.specs.Limits.{is_within, is_repeated, first_repeated, bad_processors, bad_horizon, too_many, same_name}
use Rattle.task_reader.specs.Reading.{refusal_of, set_of, set_read_from}
use Rattle.task_reader.specs.Writes.{WritesOffset, WritesTask, WritesTasks, WritesArray, Writes}
use Rattle.task_reader.proofs.MembersLemmas.{none_from_known}
use Rattle.task_reader.proofs.LimitsLemmas.{none-position}
use Rattle.task_reader.proofs.Accepts.{KeysFit}
use Rattle.task_reader.proofs.Parts.{unknown, missing, wrong, has_bad_name, has_bad_period, has_bad_work, has_bad_offset, bad_name, bad_period}
use Rattle.task_reader.proofs.Parts.{bad_work, bad_offset}

-- a task as it is written
abbrev pub written : Task → WrittenTask
written t = record { name = t.name; work = pos t.work; period = pos t.period; offset = pos t.offset }

offset_written : (o : Option Data) (offset : ℕ) → WritesOffset o offset → unwrap_or (option_and_then as_integer o) (pos 0) ≡ pos offset
offset_written None offset h = ap pos (sym h)
offset_written (Some d) offset h = rw h refl

offset_kind : {R : Type 0} (o : Option Data) (offset : ℕ) (r : R) → WritesOffset o offset → option_and_then (λ d. cond (is_some (as_integer d)) None
    (Some r)) o ≡ None
offset_kind None offset r h = refl
offset_kind (Some d) offset r h = rw h refl

task_again : (ms : Members) (t : Task) → WritesTask ms t → written_in ms ≡ written t
task_again ms t h =
    let offset : number_at key.Offset ms ≡ pos t.offset = offset_written _ t.offset h.offset in
    rw (h.name, h.work, h.period, offset) refl

pub written_again : (ds : Items) (ts : List Task) → WritesTasks ds ts → written_tasks ds ≡ map written ts
written_again no_items [] h = refl
written_again no_items (t ∷ ts) h = absurd h
written_again (item d ds) [] h = absurd h
written_again (item d ds) (t ∷ ts) h = let (ms, is, task) = h.0 in rw (is, task_again ms t task, written_again ds ts h.1) refl

pub tasks_again : (ts : List Task) → map task_of (map written ts) ≡ ts
tasks_again [] = refl
tasks_again (t ∷ ts) = ap (λ us. t ∷ us) (tasks_again ts)

none_or : {A : Type 0} (a b : Option A) → a ≡ None → b ≡ None → option_or a b ≡ None
none_or a b p q = rw (p, q) refl

-- nothing in the tasks is refused for its keys and kinds
pub keys_fit : (i : ℕ) (ds : Items) (ts : List Task) → WritesTasks ds ts → KeysFit i ds
keys_fit i no_items [] h = record { known = refl; there = refl; kinds = refl }
keys_fit i no_items (t ∷ ts) h = absurd h
keys_fit i (item d ds) [] h = absurd h
keys_fit i (item d ds) (t ∷ ts) h =
    let (ms, is, task) = h.0 in
    let rest = keys_fit (suc i) ds ts h.1 in
    let known : unknown_at (task_place i) (table ms) ≡ None = rw (none_from_known (task_place i) ms task.only) refl in
    let there : missing_at (task_place i) (table ms) ≡ None = rw (task.name, task.work, task.period) refl in
    let kinds : wrong_at (task_place i) (table ms) ≡ None = rw (
      task.name,
      task.work,
      task.period,
      offset_kind _ t.offset (WrongKind (task_place i)
          key.Offset) task.offset,
    ) refl in
    subst (λ v. KeysFit i (item v ds)) (sym is)
    (record { known = none_or _ _ known rest.known; there = none_or _ _ there rest.there; kinds = none_or _ _ kinds rest.kinds })

-- no name is an earlier one
not_repeated : (done : List Task) (t : Task) (ts : List Task) → AllByRecursion (λ (d : Task). IsFree d.name (t ∷ ts)) done → is_repeated (map written done)
    (written t) ≡ false
not_repeated [] t ts h = refl
not_repeated (d ∷ done) t ts h =
    elim (cases_Bool (bytes_eq d.name t.name))
    [ inl same ↦ absurd (h.0.0 (sym ((bytes_eq-Decides d.name t.name).0 same))) | inr other ↦ rw other (not_repeated done t ts h.1) ]

rest_free : (done : List Task) (t : Task) (ts : List Task) → AllByRecursion (λ (d : Task). IsFree d.name (t ∷ ts)) done → IsFree t.name ts →
    AllByRecursion (λ (d : Task). IsFree d.name ts) (done ++ t ∷ [])
rest_free [] t ts h free = (free, tt)
rest_free (d ∷ done) t ts h free = (h.0.1, rest_free done t ts h.1 free)

pub none_repeated : (done ts : List Task) (i : ℕ) → AllByRecursion (λ (d : Task). IsFree d.name ts) done → NamesDiffer ts →
    first_repeated (map written done) i (map written ts) ≡ None
none_repeated done [] i h differ = refl
none_repeated done (t ∷ ts) i h differ =
    let next : map written done ++ written t ∷ [] ≡ map written (done ++ t ∷ []) = sym (map-append written done (t ∷ [])) in
    rw (not_repeated done t ts h, next) (none_repeated (done ++ t ∷ []) ts (suc i) (rest_free done t ts h differ.0) differ.1)

within_from : (low high n : ℕ) → low ≤ n → n ≤ high → is_within low high (pos n) ≡ true
within_from low high n p q = grind (arith, nat_tests)

-- no limit is passed by the tasks
pub record LimitsFit (ts : List WrittenTask) : Type 0 where
  pub names : AllByRecursion (λ t. has_bad_name t ≡ false) ts
  pub periods : AllByRecursion (λ t. has_bad_period t ≡ false) ts
  pub works : AllByRecursion (λ t. has_bad_work t ≡ false) ts
  pub offsets : AllByRecursion (λ t. has_bad_offset t ≡ false) ts

pub limits_fit : (ts : List Task) → AllByRecursion IsLawfulTask ts → LimitsFit (map written ts)
limits_fit [] h = record { names = tt; periods = tt; works = tt; offsets = tt }
limits_fit (t ∷ ts) h =
    let rest = limits_fit ts h.1 in
    let some : 1 ≤ t.period = omega (arith, h.0.some_work, h.0.work_fits) in
    let period : t.period ≤ 2 ^ 32 - 1 = omega (arith, h.0.period_fits) in
    let offset : t.offset ≤ 2 ^ 32 - 1 = omega (arith, h.0.offset_fits) in
    record {
      names = (ap not h.0.name, rest.names);
      periods = (ap not (within_from 1 (2 ^ 32 - 1) t.period some period), rest.periods);
      works = (ap not (within_from 1 t.period t.work h.0.some_work h.0.work_fits), rest.works);
      offsets = (ap not (within_from 0 (2 ^ 32 - 1) t.offset (omega arith) offset), rest.offsets);
    }

array_items : (o : Option Data) (ts : List Task) → WritesArray o ts → WritesTasks (unwrap_or (option_and_then as_array o) no_items) ts
array_items None ts h = subst (WritesTasks no_items) (sym h) tt
array_items (Some d) ts h = let (ds, is, tasks) = h in rw is tasks

array_kind : {R : Type 0} (o : Option Data) (ts : List Task) (r : R) → WritesArray o ts → option_and_then (λ d. cond (is_some (as_array d)) None (Some r))
    o ≡ None
array_kind None ts r h = refl
array_kind (Some d) ts r h = rw h.1 refl

-- none of the refusals for keys and kinds comes
no_key_refused : (top : Members) (s : SetContents) → Writes top s → (unknown top ≡ None) × (missing top ≡ None) × (wrong top ≡ None)
no_key_refused top s h =
    let fit = keys_fit 0 (tasks_of top) s.tasks (array_items _ s.tasks h.tasks) in
    let known : unknown_at place.Top (table top) ≡ None = rw (none_from_known place.Top top h.only) refl in
    let there : missing_at place.Top (table top) ≡ None = rw (h.processors, h.horizon) refl in
    let kinds : wrong_at place.Top (table top) ≡ None = rw (h.processors, h.horizon, array_kind _ s.tasks (WrongKind place.Top key.Task) h.tasks) refl in
    (none_or _ _ known fit.known, none_or _ _ there fit.there, none_or _ _ kinds fit.kinds)

-- none of the refusals for numbers and names comes
no_limit_passed : (s : SetContents) → IsLawful s → (ts : List WrittenTask) → ts ≡ map written s.tasks
    → (bad_processors (pos s.processors) ≡ None) × (bad_horizon (pos s.horizon) ≡ None) × (too_many ts ≡ None) × (bad_name ts ≡ None)
    × (same_name ts ≡ None) × (bad_period ts ≡ None) × (bad_work ts ≡ None) × (bad_offset ts ≡ None)
no_limit_passed s lawful ts is =
    let fit : LimitsFit ts = subst LimitsFit (sym is) (limits_fit s.tasks lawful.each) in
    let processors : is_within 1 32 (pos s.processors) ≡ true = within_from 1 32 s.processors lawful.some_processors lawful.few_processors in
    let horizon : is_within 1 (2 ^ 32 - 1) (pos s.horizon) ≡ true = within_from 1 (2 ^ 32 - 1) s.horizon lawful.some_horizon
    (omega (arith, lawful.horizon_fits)) in
    let short : length ts ≤ 256 = rw (is, length-map) lawful.few_tasks in
    let few : nat_le (length ts) 256 ≡ true = grind (arith, nat_tests) in
    let apart : first_repeated [] 0 ts ≡ None = rw is (none_repeated [] s.tasks 0 tt lawful.names_differ) in (
      rw processors refl,
      rw horizon refl,
      rw few refl,
      rw (none-position has_bad_name ts fit.names) refl,
      rw apart refl,
      rw (none-position has_bad_period ts fit.periods) refl,
      rw (none-position has_bad_work ts fit.works) refl,
      rw (none-position has_bad_offset ts fit.offsets) refl,
    )

-- the tree is read as the set that it writes
writes_read : (top : Members) (s : SetContents) → Writes top s → IsLawful s → (refusal_of top ≡ None) × (set_of top ≡ s)
writes_read top s h lawful =
    let p : number_at key.Processors top ≡ pos s.processors = rw h.processors refl in
    let q : number_at key.Horizon top ≡ pos s.horizon = rw h.horizon refl in
    let tasks : written_tasks (tasks_of top) ≡ map written s.tasks = written_again (tasks_of top) s.tasks (array_items _ s.tasks h.tasks) in
    let (known, there, kinds) = no_key_refused top s h in
    let (processors, horizon, few, names, apart, periods, works, offsets) = no_limit_passed s lawful (written_tasks (tasks_of top)) tasks in
    let late = none_or _ _ names (none_or _ _ apart (none_or _ _ periods (none_or _ _ works (none_or _ _ offsets refl)))) in
    let numbers = none_or (bad_processors (number_at key.Processors top)) _ (rw p processors) (none_or (bad_horizon (number_at key.Horizon top)) _
    (rw q horizon) (none_or _ _ few late)) in
    (none_or _ _ known (none_or _ _ there (none_or _ _ kinds numbers)), rw (p, q, tasks, tasks_again s.tasks) refl)

-- bytes of a document that writes a lawful set are read as the set
pub writes_reading : (bytes : List ℕ) (top : Members) (s : SetContents) → is_utf8 bytes ≡ true → parse_document bytes ≡ Some top → Writes top s →
    IsLawful s → set_read_from bytes ≡ Ok s
unfolding set_read_from
writes_reading bytes top s text tree h lawful = let (none, same) = writes_read top s h lawful in rw (text, tree, none, same) refl
