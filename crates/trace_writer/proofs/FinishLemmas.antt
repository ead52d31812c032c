-- When a period was done, while rows go by.
use Rattle.std.proofs.Common.{ℕ, zero, suc, ◌+◌, ◌-◌, ◌*◌, ◌/◌, ◌^◌, ◌<◌, ◌≤◌, ◌≡◌, ◌≢◌, inl, inr, min, max, ltb, Bool, true, false, ◌&&◌, List, []}
use Rattle.std.proofs.Common.{◌∷◌, ◌++◌, length, le_trans, get_or, set, map, cond, sym, refl, subst, ap, ◌∙◌, arith, get_or-set_same}
use Rattle.std.proofs.Common.{get_or-set_other, take, drop, append-nil}
use Rattle.std.proofs.lemmas.Bool.{cases_Bool, cases_lt, cases_order, cond-true, cond-false, lt-ltb, le-ltb, ne_eqb}
use Rattle.std.proofs.lemmas.List.{length-set, length-map, get_or_default, drop_all, take_all}
use Rattle.std.proofs.Math.Nat.{mul-le-mul_right, le-div_iff_mul-le}
use Rattle.std.specs.List.{AllByRecursion}
use Rattle.sched_base.specs.declared.rows.Leaf.{Leaf}
use Rattle.sched_base.specs.declared.rows.Leaf.TheVariants as leaves
use Rattle.sched_base.specs.declared.rows.Row.{Row}
use Rattle.sched_base.specs.declared.rows.TaskId.{TaskId}
use Rattle.sched_base.specs.declared.sets.Task.{Task}
use Rattle.sched_base.specs.Rows.{is_of_task}
use Rattle.sched_base.specs.Sets.{SetContents, IsLawful, IsLawfulTask, no_task, task_at}
use Rattle.sched_base.specs.Valid.{period_start}
use Rattle.trace_format.specs.Finishes.{ended_count, finish_between}
use Rattle.trace_writer.specs.Finishes.{HaveRoom, ends_of, IsDoneBy, AreDoneBy}

-- whether a row gives task j a tick from a up to b
abbrev pub serves : ℕ → ℕ → ℕ → Row → Bool
serves j a b r = is_of_task j r.leaf && (ltb r.start b && ltb a r.end)

-- how far a row reaches into the ticks from a up to b for task j, or a
abbrev pub reach : Row → ℕ → ℕ → ℕ → ℕ
reach r j a b = cond (serves j a b r) (min r.end b) a

pub finish_least : (rows : List Row) (j a b : ℕ) → a ≤ finish_between rows j a b
finish_least [] j a b = omega arith
finish_least (r ∷ rows) j a b =
    let rest = finish_least rows j a b in
    elim (cases_Bool (serves j a b r)) [
      | inl t ↦ (let e : finish_between (r ∷ rows) j a b ≡ max (min r.end b) (finish_between rows j a b) = cond-true _ _ _ t in omega (arith, e, rest))
      | inr f ↦ (let e : finish_between (r ∷ rows) j a b ≡ finish_between rows j a b = cond-false _ _ _ f in omega (arith, e, rest))
    ]

finish_cons : (r : Row) (rows : List Row) (j a b : ℕ) → finish_between (r ∷ rows) j a b ≡ max (reach r j a b) (finish_between rows j a b)
finish_cons r rows j a b =
    let rest = finish_least rows j a b in
    elim (cases_Bool (serves j a b r)) [
      | inl t ↦ (
          let e : finish_between (r ∷ rows) j a b ≡ max (min r.end b) (finish_between rows j a b) = cond-true _ _ _ t in
          let f : reach r j a b ≡ min r.end b = cond-true _ _ _ t in
          omega (arith, e, f))
      | inr n ↦ (
          let e : finish_between (r ∷ rows) j a b ≡ finish_between rows j a b = cond-false _ _ _ n in
          let f : reach r j a b ≡ a = cond-false _ _ _ n in
          omega (arith, e, f, rest))
    ]

finish-append : (xs ys : List Row) (j a b : ℕ) → finish_between (xs ++ ys) j a b ≡ max (finish_between xs j a b) (finish_between ys j a b)
finish-append [] ys j a b = let rest = finish_least ys j a b in omega (arith, rest)
finish-append (x ∷ xs) ys j a b =
    let one = finish_cons x (xs ++ ys) j a b in
    let two = finish_cons x xs j a b in
    let rest = finish-append xs ys j a b in
    omega (arith, one, two, rest)

-- one row more
finish_next : (r : Row) (rows : List Row) (j a b : ℕ) → finish_between (rows ++ r ∷ []) j a b ≡ max (finish_between rows j a b) (reach r j a b)
finish_next r rows j a b =
    let both = finish-append rows (r ∷ []) j a b in
    let one = finish_cons r [] j a b in
    let least = finish_least rows j a b in
    omega (arith, both, one, least)

and_false : (t : Bool) → (t && false) ≡ false
and_false true = refl
and_false false = refl

unserved : (r : Row) (rows : List Row) (j a b : ℕ) → serves j a b r ≡ false → finish_between (rows ++ r ∷ []) j a b ≡ finish_between rows j a b
unserved r rows j a b none =
    let next = finish_next r rows j a b in
    let e : reach r j a b ≡ a = cond-false _ _ _ none in
    let least = finish_least rows j a b in
    omega (arith, next, e, least)

-- a row of another task changes nothing
pub finish_other : (r : Row) (rows : List Row) (j a b : ℕ) → is_of_task j r.leaf ≡ false → finish_between (rows ++ r ∷ []) j a b ≡ finish_between rows j a b
finish_other r rows j a b other = unserved r rows j a b (ap (λ t. t && (ltb r.start b && ltb a r.end)) other)

-- nor does a row that starts after the period
pub finish_after : (r : Row) (rows : List Row) (j a b : ℕ) → b ≤ r.start → finish_between (rows ++ r ∷ []) j a b ≡ finish_between rows j a b
finish_after r rows j a b late =
    unserved r rows j a b (ap (λ t. is_of_task j r.leaf && (t && ltb a r.end)) (le-ltb r.start b late) ∙ and_false (is_of_task j r.leaf))

-- or ends before it
pub finish_before : (r : Row) (rows : List Row) (j a b : ℕ) → r.end ≤ a → finish_between (rows ++ r ∷ []) j a b ≡ finish_between rows j a b
finish_before r rows j a b early =
    unserved r rows j a b
    (ap (λ t. is_of_task j r.leaf && (ltb r.start b && t)) (le-ltb a r.end early) ∙ ap (λ t. is_of_task j r.leaf && t) (and_false (ltb r.start b))
    ∙ and_false (is_of_task j r.leaf))

-- a row of the task within the period
pub finish_within : (r : Row) (rows : List Row) (j a b : ℕ) → is_of_task j r.leaf ≡ true → r.start < b → a < r.end → finish_between (rows ++ r ∷ []) j a
    b ≡ max (finish_between rows j a b) (min r.end b)
finish_within r rows j a b own early late =
    let is : serves j a b r ≡ true =
    ap (λ t. t && (ltb r.start b && ltb a r.end)) own ∙ ap (λ t. t && ltb a r.end) (lt-ltb r.start b early) ∙ lt-ltb a r.end late in
    let next = finish_next r rows j a b in
    let e : reach r j a b ≡ min r.end b = cond-true _ _ _ is in
    omega (arith, next, e)

-- a later period begins no earlier
pub begins_later : (scale : ℕ) (t : Task) (k i : ℕ) → k ≤ i → period_start scale t k ≤ period_start scale t i
begins_later scale t k i later =
    let step : k * t.period ≤ i * t.period = mul-le-mul_right t.period later in
    mul-le-mul_right scale (omega (arith, step))

-- a period that doesn't end past the last one fits as the last one does
pub begins_within : (t : Task) (k n most : ℕ) → k ≤ n → t.offset + n * t.period < most → t.offset + k * t.period < most
begins_within t k n most within fits =
    let step : k * t.period ≤ n * t.period = mul-le-mul_right t.period within in
    omega (arith, step, fits)

-- a task's first periods fit into 33 bits, if all of them do
pub ended_fits : (s : SetContents) (t : Task) → 1 ≤ t.period → t.offset < 2 ^ 32 → s.horizon < 2 ^ 32 → t.offset + ended_count s t * t.period < 2 ^ 33
ended_fits s t some offset horizon =
    let v : ended_count s t * t.period ≤ s.horizon - t.offset = (le-div_iff_mul-le some).0 (omega arith) in
    omega (arith, v, offset, horizon)

-- a tick lies at or after the start of the period that a division gives
pub period_before : (scale tick n : ℕ) (t : Task) → 1 ≤ t.period → 1 ≤ scale → n ≡ (tick / scale - t.offset) / t.period → 1 ≤ n → period_start scale t n ≤ tick
period_before scale tick n t some whole is first =
    let v : n * t.period ≤ tick / scale - t.offset = (le-div_iff_mul-le some).0 (omega (arith, is)) in
    let w : 1 * t.period ≤ n * t.period = mul-le-mul_right t.period first in
    (le-div_iff_mul-le whole).0 (omega (arith, v, w, some))

-- the periods before one that began by a tick end by it
pub past_before : (scale : ℕ) (t : Task) (at tick : ℕ) → period_start scale t at ≤ tick → (k : ℕ) → k < at → period_start scale t (k + 1) ≤ tick
past_before scale t at tick begun k below = le_trans (begins_later scale t (k + 1) at (omega (arith, below))) begun

-- so do those before a number that isn't more
pub past_few : (scale : ℕ) (t : Task) (few at tick : ℕ) → few ≤ at → (1 ≤ at → period_start scale t at ≤ tick) → (k : ℕ) → k < few →
    period_start scale t (k + 1) ≤ tick
past_few scale t few at tick less begun k below = past_before scale t at tick (begun (omega (arith, below, less))) k (omega (arith, below, less))

-- one period more is told to be done when it begins
pub starts_next : (scale : ℕ) (t : Task) (k v : ℕ) (ends : List ℕ) → k < length ends → v ≡ period_start scale t k
    → ((i : ℕ) → i < k → get_or ends i 0 ≡ period_start scale t i) → (i : ℕ) → i < k + 1 → get_or (set ends k v) i 0 ≡ period_start scale t i
starts_next scale t k v ends within is before i below =
    elim (cases_order i k) [
      | inl same ↦ ap (λ n. get_or (set ends k v) n 0) same ∙ get_or-set_same ends k v 0 within ∙ is ∙ ap (period_start scale t) (sym same)
      | inr away ↦ elim away [
        | inl less ↦ get_or-set_other ends k i v 0 (λ e. omega (arith, e, less)) ∙ before i less
        | inr more ↦ absurd (omega (arith, more, below))
      ]
    ]

-- a list that was written back over one of the same length
pub written_whole : {A : Type 0} (new old : List A) (n : ℕ) → length new ≡ n → length old ≡ n → take n (new ++ drop (length new) old) ≡ new
written_whole new old n long was =
    let rest : drop (length new) old ≡ [] = drop_all (length new) old (omega (arith, long, was)) in
    let whole : new ++ drop (length new) old ≡ new = ap (λ xs. new ++ xs) rest ∙ append-nil new in
    ap (take n) whole ∙ take_all n new (omega (arith, long))

-- ---- one row more

-- a row of task j was noted in its first k periods, and not in the others
pub record IsNoted (scale : ℕ) (t : Task) (j : ℕ) (rows : List Row) (r : Row) (k : ℕ) (ends : List ℕ) : Type 0 where
  pub noted : (i : ℕ) → i < length ends → i < k → get_or ends i 0 ≡ finish_between (rows ++ r ∷ []) j (period_start scale t i) (period_start scale t (i + 1))
  pub left : (i : ℕ) → i < length ends → k ≤ i → get_or ends i 0 ≡ finish_between rows j (period_start scale t i) (period_start scale t (i + 1))

pub noted_first : (scale : ℕ) (t : Task) (j : ℕ) (rows : List Row) (r : Row) (k : ℕ) (ends : List ℕ)
    → ((i : ℕ) → i < k → period_start scale t (i + 1) ≤ r.start) → IsDoneBy scale t j rows ends → IsNoted scale t j rows r k ends
noted_first scale t j rows r k ends past done = record {
  noted = λ i within below. done i within ∙ sym (finish_after r rows j (period_start scale t i) (period_start scale t (i + 1)) (past i below));
  left = λ i within from. done i within;
}

pub noted_next : (scale : ℕ) (t : Task) (j : ℕ) (rows : List Row) (r : Row) (k v : ℕ) (ends : List ℕ) → is_of_task j r.leaf ≡ true → k < length ends →
    period_start scale t k < r.end
    → (r.start < period_start scale t (k + 1) → v ≡ max (get_or ends k 0) (min r.end (period_start scale t (k + 1)))) →
    (period_start scale t (k + 1) ≤ r.start → v ≡ get_or ends k 0)
    → IsNoted scale t j rows r k ends → IsNoted scale t j rows r (k + 1) (set ends k v)
noted_next scale t j rows r k v ends own within begun early late h = record {
  noted = λ i inside below. elim (cases_order i k) [
    | inl same ↦ (
        let here : get_or (set ends k v) i 0 ≡ v = ap (λ n. get_or (set ends k v) n 0) same ∙ get_or-set_same ends k v 0 within in
        let before : get_or ends k 0 ≡ finish_between rows j (period_start scale t k) (period_start scale t (k + 1)) = h.left k within (omega arith) in
        let now : v ≡ finish_between (rows ++ r ∷ []) j (period_start scale t k) (period_start scale t (k + 1)) =
        elim (cases_lt r.start (period_start scale t (k + 1))) [
          | inl starts ↦ (let e = early starts in let f = finish_within r rows j (period_start scale t k) (period_start scale t (k + 1)) own starts begun in
              omega (arith, e, f, before))
          | inr after ↦ late after ∙ before ∙ sym (finish_after r rows j (period_start scale t k) (period_start scale t (k + 1)) after)
        ] in
        here ∙ now ∙ ap (λ n. finish_between (rows ++ r ∷ []) j (period_start scale t n) (period_start scale t (n + 1))) (sym same))
    | inr other ↦ elim other [
      | inl less ↦ get_or-set_other ends k i v 0 (λ e. omega (arith, e, less)) ∙ h.noted i (omega (arith, inside, length-set ends k v)) less
      | inr more ↦ absurd (omega (arith, more, below))
    ]
  ];
  left = λ i inside from. get_or-set_other ends k i v 0 (λ e. omega (arith, e, from)) ∙ h.left i (omega (arith, inside, length-set ends k v))
      (omega (arith, from));
}

-- the other periods begin when the row has ended
pub noted_stop : (scale : ℕ) (t : Task) (j : ℕ) (rows : List Row) (r : Row) (k : ℕ) (ends : List ℕ) → r.end ≤ period_start scale t k →
    IsNoted scale t j rows r k ends → IsDoneBy scale t j (rows ++ r ∷ []) ends
noted_stop scale t j rows r k ends stopped h = λ i within.
    elim (cases_lt i k) [
      | inl below ↦ h.noted i within below
      | inr from ↦ h.left i within from ∙ sym (finish_before r rows j (period_start scale t i) (period_start scale t (i + 1)) (let later = begins_later
          scale t k i from in omega (arith, later, stopped)))
    ]

-- there are no others
pub noted_all : (scale : ℕ) (t : Task) (j : ℕ) (rows : List Row) (r : Row) (k : ℕ) (ends : List ℕ) → length ends ≤ k → IsNoted scale t j rows r k ends →
    IsDoneBy scale t j (rows ++ r ∷ []) ends
noted_all scale t j rows r k ends all h = λ i within. h.noted i within (omega (arith, within, all))

-- ---- room

pub room_long : (s : SetContents) (f : List (List ℕ)) → HaveRoom s f → length f ≡ length s.tasks
room_long s f room = sym (length-map f length) ∙ ap length room ∙ length-map s.tasks (ended_count s)

lengths_at : (g : Task → ℕ) (f : List (List ℕ)) (tasks : List Task) (j : ℕ) → map length f ≡ map g tasks → j < length tasks → length (ends_of f j) ≡ g
    (task_at tasks j)
lengths_at g [] [] j same within = absurd (omega (arith, within))
lengths_at g [] (t ∷ tasks) j same within = absurd (let e : [] ≡ g t ∷ map g tasks = same in cc)
lengths_at g (x ∷ f) [] j same within = absurd (omega (arith, within))
lengths_at g (x ∷ f) (t ∷ tasks) zero same within = let e : length x ∷ map length f ≡ g t ∷ map g tasks = same in cc
lengths_at g (x ∷ f) (t ∷ tasks) (suc j) same within =
    let e : length x ∷ map length f ≡ g t ∷ map g tasks = same in
    let rest : map length f ≡ map g tasks = cc in
    lengths_at g f tasks j rest (omega (arith, within))

-- task j has a place for each of its periods
pub room_at : (s : SetContents) (f : List (List ℕ)) (j : ℕ) → HaveRoom s f → j < length s.tasks → length (ends_of f j) ≡ ended_count s (task_at s.tasks j)
room_at s f j room within = lengths_at (ended_count s) f s.tasks j room within

same_lengths : (f : List (List ℕ)) (j : ℕ) (v : List ℕ) → length v ≡ length (ends_of f j) → map length (set f j v) ≡ map length f
same_lengths [] j v same = refl
same_lengths (x ∷ f) zero v same = ap (λ n. n ∷ map length f) same
same_lengths (x ∷ f) (suc j) v same = ap (λ ns. length x ∷ ns) (same_lengths f j v same)

-- other ticks for task j
pub room_set : (s : SetContents) (f : List (List ℕ)) (j : ℕ) (v : List ℕ) → length v ≡ length (ends_of f j) → HaveRoom s f → HaveRoom s (set f j v)
room_set s f j v same room = same_lengths f j v same ∙ room

-- what task j got is told of it, and nothing else of the others
pub ends_here : (f : List (List ℕ)) (j : ℕ) (v : List ℕ) → j < length f → ends_of (set f j v) j ≡ v
ends_here f j v within = get_or-set_same f j v [] within

pub ends_there : (f : List (List ℕ)) (j i : ℕ) (v : List ℕ) → i ≢ j → ends_of (set f j v) i ≡ ends_of f i
ends_there f j i v other = get_or-set_other f j i v [] other

-- a row of task j was noted there
pub AreDoneBy-next : (scale : ℕ) (tasks : List Task) (rows : List Row) (r : Row) (f : List (List ℕ)) (j : ℕ) (v : List ℕ) →
    ((i : ℕ) → i ≢ j → is_of_task i r.leaf ≡ false) → j < length f
    → AreDoneBy scale tasks rows f → IsDoneBy scale (task_at tasks j) j (rows ++ r ∷ []) v → AreDoneBy scale tasks (rows ++ r ∷ []) (set f j v)
AreDoneBy-next scale tasks rows r f j v none within before now = λ i inside.
    elim (cases_order i j) [
      | inl same ↦ subst (λ n. IsDoneBy scale (task_at tasks n) n (rows ++ r ∷ []) (ends_of (set f j v) n)) (sym same)
          (subst (IsDoneBy scale (task_at tasks j) j (rows ++ r ∷ [])) (sym (ends_here f j v within)) now)
      | inr away ↦ (
          let other : i ≢ j = λ e. elim away [
            | inl less ↦ omega (arith, e, less)
            | inr more ↦ omega (arith, e, more)
          ] in
          subst (IsDoneBy scale (task_at tasks i) i (rows ++ r ∷ [])) (sym (ends_there f j i v other))
          (λ k there. before i inside k there ∙ sym (finish_other r rows i (period_start scale (task_at tasks i) k) (period_start scale (task_at tasks i)
          (k + 1)) (none i other))))
    ]

-- a row of no task was noted nowhere
pub AreDoneBy-none : (scale : ℕ) (tasks : List Task) (rows : List Row) (r : Row) (f : List (List ℕ)) → ((i : ℕ) → is_of_task i r.leaf ≡ false)
    → AreDoneBy scale tasks rows f → AreDoneBy scale tasks (rows ++ r ∷ []) f
AreDoneBy-none scale tasks rows r f none before = λ i inside k there. before i inside k there
    ∙ sym (finish_other r rows i (period_start scale (task_at tasks i) k) (period_start scale (task_at tasks i) (k + 1)) (none i))

-- of a set within the limits each task is
pub lawful_at : (tasks : List Task) (j : ℕ) → j < length tasks → AllByRecursion IsLawfulTask tasks → IsLawfulTask (task_at tasks j)
lawful_at [] j within each = absurd (omega (arith, within))
lawful_at (t ∷ tasks) zero within each = each.0
lawful_at (t ∷ tasks) (suc j) within each = lawful_at tasks j (omega (arith, within)) each.1

-- the periods of task j that have a place fit into 33 bits
pub room_fits : (s : SetContents) (f : List (List ℕ)) (j : ℕ) → IsLawful s → HaveRoom s f → j < length s.tasks
    → (task_at s.tasks j).offset + length (ends_of f j) * (task_at s.tasks j).period < 2 ^ 33
room_fits s f j lawful room within =
    let t = task_at s.tasks j in
    let own = lawful_at s.tasks j within lawful.each in
    let work = own.some_work in
    let fit = own.work_fits in
    let count = room_at s f j room within in
    rw count (ended_fits s t (omega (arith, work, fit)) own.offset_fits lawful.horizon_fits)

-- so for a task that was looked up
pub item_fits : (s : SetContents) (f : List (List ℕ)) (j : ℕ) (t : Task) (d : List ℕ) → IsLawful s → HaveRoom s f → j < length s.tasks → t ≡ get_or s.tasks j t
    → t.offset + length (get_or f j d) * t.period < 2 ^ 33
item_fits s f j t d lawful room within at =
    let place : task_at s.tasks j ≡ t = get_or_default s.tasks j no_task t within ∙ sym at in
    let there : j < length f = omega (arith, within, room_long s f room) in
    let same : ends_of f j ≡ get_or f j d = get_or_default f j [] d there in
    let fits = room_fits s f j lawful room within in
    subst (λ (u : Task). u.offset + length (get_or f j d) * u.period < 2 ^ 33) place
    (subst (λ (xs : List ℕ). (task_at s.tasks j).offset + length xs * (task_at s.tasks j).period < 2 ^ 33) same fits)

pub room_put : (s : SetContents) (f : List (List ℕ)) (j : ℕ) (v d : List ℕ) → HaveRoom s f → j < length s.tasks → length v ≡ length (get_or f j d) →
    HaveRoom s (set f j v)
room_put s f j v d room within same =
    let there : j < length f = omega (arith, within, room_long s f room) in
    room_set s f j v (same ∙ ap length (get_or_default f j d [] there)) room

-- one task more has its periods told to be done when they begin
pub begun_next : (scale : ℕ) (s : SetContents) (f : List (List ℕ)) (j : ℕ) (v : List ℕ) (t : Task) → HaveRoom s f → j < length s.tasks → t ≡ get_or s.tasks j t
    → ((i : ℕ) → i < j → IsDoneBy scale (task_at s.tasks i) i [] (ends_of f i)) → IsDoneBy scale t j [] v → (i : ℕ) → i < j + 1 →
    IsDoneBy scale (task_at s.tasks i) i [] (ends_of (set f j v) i)
begun_next scale s f j v t room within at before now i below =
    let place : task_at s.tasks j ≡ t = get_or_default s.tasks j no_task t within ∙ sym at in
    let there : j < length f = omega (arith, within, room_long s f room) in
    elim (cases_order i j) [
      | inl same ↦ subst (λ n. IsDoneBy scale (task_at s.tasks n) n [] (ends_of (set f j v) n)) (sym same)
          (subst (IsDoneBy scale (task_at s.tasks j) j []) (sym (ends_here f j v there)) (subst (λ (u : Task). IsDoneBy scale u j [] v) (sym place) now))
      | inr away ↦ elim away [
        | inl less ↦ subst (IsDoneBy scale (task_at s.tasks i) i []) (sym (ends_there f j i v (λ e. omega (arith, e, less)))) (before i less)
        | inr more ↦ absurd (omega (arith, more, below))
      ]
    ]

-- a row of a task was noted for it
pub note_done : (scale : ℕ) (s : SetContents) (rows : List Row) (r : Row) (id : TaskId) (f : List (List ℕ)) (v : List ℕ) (t : Task) (d : List ℕ) →
    HaveRoom s f → id.0 < length s.tasks
    → t ≡ get_or s.tasks id.0 t → r.leaf ≡ leaves.Task id → (IsDoneBy scale t id.0 rows (get_or f id.0 d) → IsDoneBy scale t id.0 (rows ++ r ∷ []) v)
    → AreDoneBy scale s.tasks rows f → AreDoneBy scale s.tasks (rows ++ r ∷ []) (set f id.0 v)
note_done scale s rows r id f v t d room within at is noted before =
    let j = id.0 in
    let place : task_at s.tasks j ≡ t = get_or_default s.tasks j no_task t within ∙ sym at in
    let there : j < length f = omega (arith, within, room_long s f room) in
    let same : ends_of f j ≡ get_or f j d = get_or_default f j [] d there in
    let none : (i : ℕ) → i ≢ j → is_of_task i r.leaf ≡ false = λ i other. ap (is_of_task i) is ∙ ne_eqb j i (λ e. other (sym e)) in
    let own : IsDoneBy scale t j rows (get_or f j d) = subst (IsDoneBy scale t j rows) same (subst (λ (u : Task). IsDoneBy scale u j rows (ends_of f j))
    place (before j within)) in
    AreDoneBy-next scale s.tasks rows r f j v none there before (subst (λ (u : Task). IsDoneBy scale u j (rows ++ r ∷ []) v) (sym place) (noted own))

of_none : (leaf : Leaf) → ((id : TaskId) → leaf ≢ leaves.Task id) → (i : ℕ) → is_of_task i leaf ≡ false
of_none (leaves.Task id) other i = absurd (other id refl)
of_none (leaves.Wait id) other i = refl
of_none (leaves.Idle number) other i = refl
of_none leaves.Empty other i = refl

-- a row of no task needs none
pub note_none : (scale : ℕ) (s : SetContents) (rows : List Row) (r : Row) (f : List (List ℕ)) → ((id : TaskId) → r.leaf ≢ leaves.Task id)
    → AreDoneBy scale s.tasks rows f → AreDoneBy scale s.tasks (rows ++ r ∷ []) f
note_none scale s rows r f other before = AreDoneBy-none scale s.tasks rows r f (of_none r.leaf other) before
