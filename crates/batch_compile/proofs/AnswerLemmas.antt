-- A piece has one answer.
use Rattle.std.proofs.Common.{◌≡◌, ◌≢◌, ℕ, suc, zero, ◌+◌, ◌≤◌, ◌<◌, ◌^◌, List, [], ◌∷◌, take, length}
use Rattle.std.proofs.Common.{Result, Ok, Err, sym, ◌∙◌, ap, subst, refl, arith, ⊎_elim}
use Rattle.std.proofs.Math.Nat.{le_antisymm}
use Rattle.std.proofs.lemmas.Bool.{cases_lt}
use Rattle.sched_base.specs.declared.sets.Task.{Task}
use Rattle.sched_base.specs.Sets.{SetContents, IsLawful, IsLawfulTask, NamesDiffer}
use Rattle.sched_base.specs.Scale.{PeriodsDivide, IsScale, PassesAt, Fits, total_of, room_of}
use Rattle.rate_scale.proofs.ScaleLemmas.{same_scale, some_scale, IsScale-from_multiple, IsLeastMultiple-none, PassesAt-whole}
use Rattle.task_reader.proofs.Accepts.{read_accepts}
use Rattle.std.specs.List.{AllByRecursion}
use Rattle.std.proofs.lemmas.List.{take_all, length-take}
use Rattle.task_reader.specs.declared.refusals.ReadSet.{ReadSet}
use Rattle.task_reader.specs.Reading.{set_read_from}
use Rattle.run_tree.specs.Compiled.{tree_of}
use Rattle.run_compile.specs.Answers.{HasScale, IsOverload}
use Rattle.batch_compile.specs.declared.answers.Answer.{Answer}
use Rattle.batch_compile.specs.declared.answers.Answer.TheVariants.{Refused, ScaleTooLarge, Overload, Fits as ItFits}
use Rattle.batch_compile.specs.Answers.{IsAnswerOfSet, IsAnswerOfReading, IsAnswer}

divide_first : (k m : ℕ) (tasks : List Task) (n : ℕ) → k ≤ m → PeriodsDivide (take m tasks) n → PeriodsDivide (take k tasks) n
divide_first zero m tasks n h d = tt
divide_first (suc k) zero tasks n h d = absurd (omega (arith, h))
divide_first (suc k) (suc m) [] n h d = tt
divide_first (suc k) (suc m) (t ∷ tasks) n h d = (d.0, divide_first k m tasks n (omega (arith, h)) d.1)

-- the limit is passed at one task only
no_earlier : (limit : ℕ) (tasks : List Task) (a b : ℕ) → PassesAt limit tasks a → PassesAt limit tasks b → a < b → ⊥
no_earlier limit tasks a b h k lt =
    let (past, first, over) = h.after in
    let (within, second, under) = k.before in
    let more : past ≤ within = first.least within second.positive (divide_first (a + 1) b tasks within (omega (arith, lt)) second.divided) in
    omega (arith, more, over, under)

one_place : (limit : ℕ) (tasks : List Task) (a b : ℕ) → PassesAt limit tasks a → PassesAt limit tasks b → a ≡ b
one_place limit tasks a b h k = le_antisymm (not_less (no_earlier limit tasks b a k h)) (not_less (no_earlier limit tasks a b h k))
  where
    not_less : {m n : ℕ} → (m < n → ⊥) → n ≤ m
    not_less {m} {n} f = ⊎_elim (λ lt. absurd (f lt)) (λ le. le) (cases_lt m n)

module _ (s : SetContents) where
  past_and_within : (at scale : ℕ) → PassesAt (2 ^ 94) s.tasks at → HasScale s scale → ⊥
  past_and_within at scale past has =
      let over = PassesAt-whole (2 ^ 94) s.tasks at past scale has.is in
      let under = has.within in
      omega (arith, over, under)

  over_and_fits : (total room scale : ℕ) → IsOverload s total room → HasScale s scale → Fits scale s → ⊥
  over_and_fits total room scale over has fits =
      let (other, is, t, r) = over.some_scale in
      let same = same_scale s.tasks other scale is.is has.is in
      let more : room_of scale s < total_of scale s.tasks = subst (λ x. room_of x s < total_of x s.tasks) same (rw (sym t, sym r) over.over) in
      omega (arith, more, fits)

  one_overload : (total room total' room' : ℕ) → IsOverload s total room → IsOverload s total' room' → Overload total room ≡ Overload total' room'
  one_overload total room total' room' a b =
      let (one, is, t, r) = a.some_scale in
      let (other, is', t', r') = b.some_scale in
      let same = same_scale s.tasks one other is.is is'.is in
      rw (t, r, t', r', same) refl

  one_fit : (scale levels scale' levels' : ℕ) → IsAnswerOfSet s (ItFits scale levels) → IsAnswerOfSet s (ItFits scale' levels')
      → ItFits scale levels ≡ ItFits scale' levels'
  one_fit scale levels scale' levels' a b =
      let same = same_scale s.tasks scale scale' a.0.is b.0.is in
      rw (a.2, b.2, same) refl

  one_answer : (a b : Answer) → IsAnswerOfSet s a → IsAnswerOfSet s b → a ≡ b
  one_answer (Refused r) b h k = absurd h
  one_answer (ScaleTooLarge at) (Refused r) h k = absurd k
  one_answer (ScaleTooLarge at) (ScaleTooLarge at') h k = ap ScaleTooLarge (one_place (2 ^ 94) s.tasks at at' h k)
  one_answer (ScaleTooLarge at) (Overload total room) h k = absurd (past_and_within at k.some_scale.0 h k.some_scale.1)
  one_answer (ScaleTooLarge at) (ItFits scale levels) h k = absurd (past_and_within at scale h k.0)
  one_answer (Overload total room) (Refused r) h k = absurd k
  one_answer (Overload total room) (ScaleTooLarge at) h k = absurd (past_and_within at h.some_scale.0 k h.some_scale.1)
  one_answer (Overload total room) (Overload total' room') h k = one_overload total room total' room' h k
  one_answer (Overload total room) (ItFits scale levels) h k = absurd (over_and_fits total room scale h k.0 k.1)
  one_answer (ItFits scale levels) (Refused r) h k = absurd k
  one_answer (ItFits scale levels) (ScaleTooLarge at) h k = absurd (past_and_within at scale k h.0)
  one_answer (ItFits scale levels) (Overload total room) h k = absurd (over_and_fits total room scale k h.0 h.1)
  one_answer (ItFits scale levels) (ItFits scale' levels') h k = one_fit scale levels scale' levels' h k

-- a piece has no two answers
pub same_answer : (bytes : List ℕ) (a b : Answer) → IsAnswer bytes a → IsAnswer bytes b → a ≡ b
same_answer bytes a b h k = by_reading (set_read_from bytes) h k
  where
    by_reading : (reading : Result SetContents ReadSet) → IsAnswerOfReading reading a → IsAnswerOfReading reading b → a ≡ b
    by_reading (Err refusal) h k = h ∙ sym k
    by_reading (Ok s) h k = one_answer s a b h k

AllByRecursion-take : {A : Type 0} (P : A → Type 0) (k : ℕ) (xs : List A) → AllByRecursion P xs → AllByRecursion P (take k xs)
AllByRecursion-take P zero xs each = tt
AllByRecursion-take P (suc k) [] each = tt
AllByRecursion-take P (suc k) (x ∷ xs) each = (each.0, AllByRecursion-take P k xs each.1)

NamesDiffer-take : (k : ℕ) (tasks : List Task) → NamesDiffer tasks → NamesDiffer (take k tasks)
NamesDiffer-take zero tasks h = tt
NamesDiffer-take (suc k) [] h = tt
NamesDiffer-take (suc k) (t ∷ tasks) h = (AllByRecursion-take (λ u. u.name ≢ t.name) k tasks h.0, NamesDiffer-take k tasks h.1)

-- the first tasks of a lawful set are one themselves
first_tasks : (k : ℕ) (s : SetContents) → IsLawful s → IsLawful (record s { tasks = take k s.tasks })
first_tasks k s lawful =
    let short : length (take k s.tasks) ≤ length s.tasks = rw length-take (omega arith) in
    let few = lawful.few_tasks in
    record {
      some_processors = lawful.some_processors;
      few_processors = lawful.few_processors;
      some_horizon = lawful.some_horizon;
      horizon_fits = lawful.horizon_fits;
      few_tasks = omega (arith, short, few);
      each = AllByRecursion-take IsLawfulTask k s.tasks lawful.each;
      names_differ = NamesDiffer-take k s.tasks lawful.names_differ;
    }

-- the first tasks of a lawful set have a scale
first_scale : (k : ℕ) (s : SetContents) → IsLawful s → (n : ℕ) × IsScale (take k s.tasks) n
first_scale k s lawful = some_scale (record s { tasks = take k s.tasks }) (first_tasks k s lawful)

module _ (limit : ℕ) (s : SetContents) (lawful : IsLawful s) (whole : ℕ) (is : IsScale s.tasks whole) (over : limit < whole) where
  -- some task is the first that brings the scale past the limit
  passes_from : (left k scale : ℕ) → k + left ≡ length s.tasks → IsScale (take k s.tasks) scale → scale ≤ limit → (at : ℕ) × PassesAt limit s.tasks at
  passes_from zero k scale all so_far under =
      let end : take k s.tasks ≡ s.tasks = take_all k s.tasks (omega (arith, all)) in
      let same : scale ≡ whole = same_scale s.tasks scale whole (subst (λ x. IsScale x scale) end so_far) is in
      absurd (omega (arith, same, under, over))
  passes_from (suc left) k scale all so_far under =
      let next = first_scale (k + 1) s lawful in
      ⊎_elim
      (λ past. (k, record { within = omega (arith, all); before = (scale, so_far, under); after = (next.0, next.1, past) }))
      (λ fits. passes_from left (k + 1) next.0 (omega (arith, all)) next.1 fits)
      (cases_lt limit next.0)

  passes : 1 ≤ limit → (at : ℕ) × PassesAt limit s.tasks at
  passes one = passes_from (length s.tasks) 0 1 (omega arith) (IsScale-from_multiple [] 1 IsLeastMultiple-none) one

some_answer_of_set : (s : SetContents) → IsLawful s → (a : Answer) × IsAnswerOfSet s a
some_answer_of_set s lawful =
    let scale = some_scale s lawful in
    ⊎_elim
    (λ past. (let at = passes (2 ^ 94) s lawful scale.0 scale.1 past (omega arith) in (ScaleTooLarge at.0, at.1)))
    (λ within. let has : HasScale s scale.0 = record { is = scale.1; within = within } in
    ⊎_elim
    (λ more. (Overload (total_of scale.0 s.tasks) (room_of scale.0 s), record { some_scale = (scale.0, has, refl, refl); over = more }))
    (λ fits. (ItFits scale.0 (tree_of scale.0 s).levels, (has, fits, refl)))
    (cases_lt (room_of scale.0 s) (total_of scale.0 s.tasks)))
    (cases_lt (2 ^ 94) scale.0)

-- a piece has an answer
pub some_answer : (bytes : List ℕ) → (a : Answer) × IsAnswer bytes a
some_answer bytes = by_reading (set_read_from bytes) refl
  where
    by_reading : (reading : Result SetContents ReadSet) → set_read_from bytes ≡ reading → (a : Answer) × IsAnswerOfReading reading a
    by_reading (Err refusal) e = (Refused refusal, refl)
    by_reading (Ok s) e =
        let (top, tree, accepts) = read_accepts bytes s e in
        some_answer_of_set s accepts.lawful
