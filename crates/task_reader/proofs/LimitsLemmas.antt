-- What the refusals for numbers and names leave of the tasks: a lawful set.
use Rattle.std.proofs.Common.{◌≡◌, ◌≢◌, ℕ, suc, ◌+◌, ◌-◌, ◌^◌, ◌≤◌, ◌<◌, nat_le, ℤ, pos, negsuc, Bool, true, false, not, cond, List, [], ◌∷◌, ◌++◌}
use Rattle.std.proofs.Common.{length, map, take, drop, get_or, Option, Some, None, option_map, refl, sym, ◌∙◌, ap, inl, inr, arith, append_assoc}
use Rattle.std.proofs.lemmas.Bool.{cases_Bool, false≢true, and_parts}
use Rattle.std.proofs.lemmas.Bool.Decides.{nat_tests}
use Rattle.std.proofs.lemmas.Iterator.Adapters.{position_from-zero}
use Rattle.std.proofs.lemmas.List.{length-map, map-append, drop_more, take-append-drop}
use Rattle.std.proofs.lemmas.Slice.Eq.{bytes_eq-Decides}
use Rattle.std.specs.List.{AllByRecursion, position, position_from}
use Rattle.std.specs.Str.{bytes_eq}
use Rattle.sched_base.specs.declared.sets.Task.{Task}
use Rattle.sched_base.specs.Sets.{IsFree, NamesDiffer, IsLawfulTask, IsLawful}
use Rattle.task_reader.specs.declared.refusals.ReadSet.TheVariants.{BadProcessors, BadHorizon, TooManyTasks, BadName, SameName, BadPeriod, BadWork, BadOffset}
use Rattle.task_reader.specs.Written.{WrittenTask, natural, task_of}
use Rattle.task_reader.specs.Limits.{is_within, is_repeated, first_repeated, bad_processors, bad_horizon, too_many, same_name}
use Rattle.task_reader.proofs.Parts.{has_bad_name, has_bad_period, has_bad_work, has_bad_offset, bad_name, bad_period, bad_work, bad_offset}

pub none-option_map : {A B : Type 0} (f : A → B) (o : Option A) → option_map f o ≡ None → o ≡ None
none-option_map f None h = refl
none-option_map f (Some x) h = absurd (let e = h in cc)

none_passes : {A : Type 0} (p : A → Bool) (i : ℕ) (xs : List A) → position_from p i xs ≡ None → AllByRecursion (λ x. p x ≡ false) xs
none_passes p i [] h = tt
none_passes p i (x ∷ xs) h = elim (cases_Bool (p x))
    [ inl passes ↦ absurd (let e = rw passes at h in cc) | inr fails ↦ (fails, none_passes p (i + 1) xs (rw fails at h)) ]

-- where the test passes nowhere, it fails everywhere
pub position-none : {A : Type 0} (p : A → Bool) (xs : List A) → position p xs ≡ None → AllByRecursion (λ x. p x ≡ false) xs
position-none p xs h = none_passes p 0 xs (sym (position_from-zero p xs) ∙ h)

none_from : {A : Type 0} (p : A → Bool) (i : ℕ) (xs : List A) → AllByRecursion (λ x. p x ≡ false) xs → position_from p i xs ≡ None
none_from p i [] h = refl
none_from p i (x ∷ xs) h = rw h.0 (none_from p (i + 1) xs h.1)

pub none-position : {A : Type 0} (p : A → Bool) (xs : List A) → AllByRecursion (λ x. p x ≡ false) xs → position p xs ≡ None
none-position p xs h = position_from-zero p xs ∙ none_from p 0 xs h

-- a whole number between two limits
pub record IsBetween (low high : ℕ) (z : ℤ) : Type 0 where
  pub least : low ≤ natural z
  pub most : natural z ≤ high
  pub whole : z ≡ pos (natural z)

pub between : (low high : ℕ) (z : ℤ) → is_within low high z ≡ true → IsBetween low high z
between low high (pos n) h =
    let (a, b) = and_parts (nat_le low n) (nat_le n high) h in
    record { least = grind (arith, nat_tests, a); most = grind (arith, nat_tests, b); whole = refl }
between low high (negsuc n) h = absurd (false≢true h)

pub true_from_not : (b : Bool) → not b ≡ false → b ≡ true
true_from_not true h = refl
true_from_not false h = absurd (false≢true (sym h))

-- a task that no refusal names
pub record IsGood (t : WrittenTask) : Type 0 where
  pub lawful : IsLawfulTask (task_of t)
  pub work : t.work ≡ pos (natural t.work)
  pub period : t.period ≡ pos (natural t.period)
  pub offset : t.offset ≡ pos (natural t.offset)

good_task : (t : WrittenTask) → has_bad_name t ≡ false → has_bad_period t ≡ false → has_bad_work t ≡ false → has_bad_offset t ≡ false → IsGood t
good_task t n p w o =
    let period = between 1 (2 ^ 32 - 1) t.period (true_from_not _ p) in
    let work = between 1 (natural t.period) t.work (true_from_not _ w) in
    let offset = between 0 (2 ^ 32 - 1) t.offset (true_from_not _ o) in
    record {
      lawful = record {
        name = true_from_not _ n;
        some_work = work.least;
        work_fits = work.most;
        period_fits = omega (arith, period.most);
        offset_fits = omega (arith, offset.most);
      };
      work = work.whole;
      period = period.whole;
      offset = offset.whole;
    }

all_good : (ts : List WrittenTask) → AllByRecursion (λ t. has_bad_name t ≡ false) ts → AllByRecursion (λ t. has_bad_period t ≡ false) ts →
    AllByRecursion (λ t. has_bad_work t ≡ false) ts
    → AllByRecursion (λ t. has_bad_offset t ≡ false) ts → AllByRecursion IsGood ts
all_good [] n p w o = tt
all_good (t ∷ ts) n p w o = (good_task t n.0 p.0 w.0 o.0, all_good ts n.1 p.1 w.1 o.1)

pub good_tasks : (ts : List WrittenTask) → bad_name ts ≡ None → bad_period ts ≡ None → bad_work ts ≡ None → bad_offset ts ≡ None → AllByRecursion IsGood ts
good_tasks ts n p w o =
    all_good ts
    (position-none has_bad_name ts (none-option_map (λ i. BadName i) _ n))
    (position-none has_bad_period ts (none-option_map (λ i. BadPeriod i) _ p))
    (position-none has_bad_work ts (none-option_map (λ i. BadWork i) _ w))
    (position-none has_bad_offset ts (none-option_map (λ i. BadOffset i) _ o))

lawful_tasks : (ts : List WrittenTask) → AllByRecursion IsGood ts → AllByRecursion IsLawfulTask (map task_of ts)
lawful_tasks [] h = tt
lawful_tasks (t ∷ ts) h = (h.0.lawful, lawful_tasks ts h.1)

-- one task of several has another name
other_name : (before : List WrittenTask) (e : WrittenTask) (after : List WrittenTask) (t : WrittenTask) → is_repeated (before ++ e ∷ after) t ≡ false →
    t.name ≢ e.name
other_name [] e after t h same =
    elim (cases_Bool (bytes_eq e.name t.name)) [
      | inl equal ↦ absurd (let f = rw equal at h in cc)
      | inr differs ↦ false≢true (sym differs ∙ (bytes_eq-Decides e.name t.name).1 (sym same))
    ]
other_name (b ∷ before) e after t h same =
    elim (cases_Bool (bytes_eq b.name t.name)) [
      | inl equal ↦ absurd (let f = rw equal at h in cc)
      | inr differs ↦ other_name before e after t (rw differs at h) same
    ]

-- no later task repeats the name of one of the earlier ones
free_later : (before : List WrittenTask) (e : WrittenTask) (after : List WrittenTask) (i : ℕ) (ts : List WrittenTask) → first_repeated (before ++ e ∷ after)
    i ts ≡ None → IsFree e.name (map task_of ts)
free_later before e after i [] h = tt
free_later before e after i (t ∷ ts) h =
    elim (cases_Bool (is_repeated (before ++ e ∷ after) t)) [
      | inl among ↦ absurd (let f = rw among at h in cc)
      | inr apart ↦
          let longer : (before ++ e ∷ after) ++ t ∷ [] ≡ before ++ e ∷ (after ++ t ∷ []) = append_assoc before (e ∷ after) (t ∷ []) in
          let rest : first_repeated ((before ++ e ∷ after) ++ t ∷ []) (suc i) ts ≡ None = rw apart at h in
          (other_name before e after t apart, free_later before e (after ++ t ∷ []) (suc i) ts (rw longer at rest))
    ]

names_differ : (done : List WrittenTask) (i : ℕ) (ts : List WrittenTask) → first_repeated done i ts ≡ None → NamesDiffer (map task_of ts)
names_differ done i [] h = tt
names_differ done i (t ∷ ts) h =
    elim (cases_Bool (is_repeated done t)) [
      | inl among ↦ absurd (let f = rw among at h in cc)
      | inr apart ↦
          let rest : first_repeated (done ++ t ∷ []) (suc i) ts ≡ None = rw apart at h in
          (free_later done t [] (suc i) ts rest, names_differ (done ++ t ∷ []) (suc i) ts rest)
    ]

within_if_none : {R : Type 0} (b : Bool) (r : R) → cond b None (Some r) ≡ None → b ≡ true
within_if_none true r h = refl
within_if_none false r h = absurd (let e = h in cc)

-- numbers that no refusal names
pub good_processors : (z : ℤ) → bad_processors z ≡ None → IsBetween 1 32 z
good_processors z h = between 1 32 z (within_if_none _ (BadProcessors z) h)

pub good_horizon : (z : ℤ) → bad_horizon z ≡ None → IsBetween 1 (2 ^ 32 - 1) z
good_horizon z h = between 1 (2 ^ 32 - 1) z (within_if_none _ (BadHorizon z) h)

-- a set that no refusal names is lawful
pub lawful_set : (processors horizon : ℤ) (ts : List WrittenTask) → bad_processors processors ≡ None → bad_horizon horizon ≡ None → too_many ts ≡ None
    → bad_name ts ≡ None → same_name ts ≡ None → bad_period ts ≡ None → bad_work ts ≡ None → bad_offset ts ≡ None
    → IsLawful (record { processors = natural processors; horizon = natural horizon; tasks = map task_of ts })
lawful_set processors horizon ts p h m n s q w o =
    let few : length ts ≤ 256 = grind (arith, nat_tests, within_if_none (nat_le (length ts) 256) (TooManyTasks (length ts)) m) in
    let between_p = good_processors processors p in
    let between_h = good_horizon horizon h in
    record {
      some_processors = between_p.least;
      few_processors = between_p.most;
      some_horizon = between_h.least;
      horizon_fits = omega (arith, between_h.most);
      few_tasks = rw length-map few;
      each = lawful_tasks ts (good_tasks ts n q w o);
      names_differ = names_differ [] 0 ts (none-option_map (λ i. SameName i) _ s);
    }

-- in a lawful list, each task is lawful and its name is free before it
pub lawful_at : (before : List Task) (t : Task) (after : List Task) → AllByRecursion IsLawfulTask (before ++ t ∷ after) → IsLawfulTask t
lawful_at [] t after h = h.0
lawful_at (b ∷ before) t after h = lawful_at before t after h.1

not_named : (name : List ℕ) (before : List Task) (t : Task) (after : List Task) → IsFree name (before ++ t ∷ after) → t.name ≢ name
not_named name [] t after h = h.0
not_named name (b ∷ before) t after h = not_named name before t after h.1

pub free_at : (before : List Task) (t : Task) (after : List Task) → NamesDiffer (before ++ t ∷ after) → IsFree t.name before
free_at [] t after h = tt
free_at (b ∷ before) t after h = ((λ same. not_named b.name before t after h.0 (sym same)), free_at before t after h.1)

-- a list of tasks round one of them
pub tasks_around : (xs : List WrittenTask) (i : ℕ) (e : WrittenTask) → i < length xs → e ≡ get_or xs i e → map task_of xs ≡ map task_of
    (take i xs) ++ task_of e ∷ map task_of (drop (i + 1) xs)
tasks_around xs i e within is =
    let here : drop i xs ≡ e ∷ drop (i + 1) xs = drop_more xs i e within ∙ ap (λ x. x ∷ drop (i + 1) xs) (sym is) in
    sym (ap (map task_of) (take-append-drop i xs)) ∙ (map-append task_of (take i xs) (drop i xs) ∙ ap (λ r. map task_of (take i xs) ++ map task_of r) here)
