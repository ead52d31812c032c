-- The scale of more and more tasks.
use Rattle.std.proofs.Common.{◌≡◌, ℕ, suc, zero, ◌+◌, ◌≤◌, ◌<◌, List, [], ◌∷◌, ◌++◌, length, take, get_or, sym, ◌∙◌, ap, subst, arith}
use Rattle.std.specs.Int.{◌∣◌}
use Rattle.std.specs.List.{AllByRecursion}
use Rattle.std.proofs.lemmas.List.{take_more}
use Rattle.std.proofs.lemmas.Nat.Gcd.{dvd_trans, le_of_dvd}
use Rattle.std.proofs.Math.Nat.{one-dvd, le_antisymm}
use Rattle.sched_base.specs.declared.sets.Task.{Task}
use Rattle.sched_base.specs.Sets.{SetContents, IsLawful, IsLawfulTask}
use Rattle.sched_base.specs.Scale.{PeriodsDivide, IsScale, PassesAt}
use Rattle.rate_scale.specs.Multiples.{IsLcm}
use Rattle.rate_scale.proofs.MultipleLemmas.{some_lcm}

-- two scales of the same tasks are one
pub same_scale : (tasks : List Task) (a b : ℕ) → IsScale tasks a → IsScale tasks b → a ≡ b
same_scale tasks a b left right = le_antisymm (left.least b right.positive right.divided) (right.least a left.positive left.divided)

-- each period divides the number, and it divides every other one that the periods divide
pub record IsLeastMultiple (tasks : List Task) (multiple : ℕ) : Type 0 where
  pub positive : 1 ≤ multiple
  pub divided : PeriodsDivide tasks multiple
  pub least : (n : ℕ) → PeriodsDivide tasks n → multiple ∣ n

pub IsScale-from_multiple : (tasks : List Task) (scale : ℕ) → IsLeastMultiple tasks scale → IsScale tasks scale
IsScale-from_multiple tasks scale h = record { positive = h.positive; divided = h.divided; least = λ n some divided. le_of_dvd some (h.least n divided) }

PeriodsDivide-trans : (tasks : List Task) (m n : ℕ) → PeriodsDivide tasks m → m ∣ n → PeriodsDivide tasks n
PeriodsDivide-trans [] m n h d = tt
PeriodsDivide-trans (t ∷ tasks) m n h d = (dvd_trans t.period h.0 d, PeriodsDivide-trans tasks m n h.1 d)

PeriodsDivide-push : (tasks : List Task) (t : Task) (n : ℕ) → PeriodsDivide tasks n → t.period ∣ n → PeriodsDivide (tasks ++ t ∷ []) n
PeriodsDivide-push [] t n h d = (d, tt)
PeriodsDivide-push (s ∷ tasks) t n h d = (h.0, PeriodsDivide-push tasks t n h.1 d)

PeriodsDivide-parts : (tasks : List Task) (t : Task) (n : ℕ) → PeriodsDivide (tasks ++ t ∷ []) n → PeriodsDivide tasks n × (t.period ∣ n)
PeriodsDivide-parts [] t n h = (tt, h.0)
PeriodsDivide-parts (s ∷ tasks) t n h = let more = PeriodsDivide-parts tasks t n h.1 in ((h.0, more.0), more.1)

PeriodsDivide-take : (k : ℕ) (tasks : List Task) (n : ℕ) → PeriodsDivide tasks n → PeriodsDivide (take k tasks) n
PeriodsDivide-take zero tasks n h = tt
PeriodsDivide-take (suc k) [] n h = tt
PeriodsDivide-take (suc k) (t ∷ tasks) n h = (h.0, PeriodsDivide-take k tasks n h.1)

pub IsLeastMultiple-none : IsLeastMultiple [] 1
IsLeastMultiple-none = record { positive = omega arith; divided = tt; least = λ n h. one-dvd n }

-- one task more, at the end
IsLeastMultiple-push : (tasks : List Task) (t : Task) (before after : ℕ) → IsLeastMultiple tasks before → IsLcm before t.period after → 1 ≤ after →
    IsLeastMultiple (tasks ++ t ∷ []) after
IsLeastMultiple-push tasks t before after h lcm some = record {
  positive = some;
  divided = PeriodsDivide-push tasks t after (PeriodsDivide-trans tasks before after h.divided lcm.left) lcm.right;
  least = λ n d. let parts = PeriodsDivide-parts tasks t n d in lcm.least n (h.least n parts.0) parts.1;
}

-- one task more of a list
pub IsLeastMultiple-next : (tasks : List Task) (i : ℕ) (t : Task) (before period after : ℕ) → i < length tasks → t ≡ get_or tasks i t → period ≡ t.period →
    IsLeastMultiple (take i tasks) before → IsLcm before period after → 1 ≤ after → IsLeastMultiple (take (i + 1) tasks) after
IsLeastMultiple-next tasks i t before period after within at is h lcm some =
    let grown : take (i + 1) tasks ≡ take i tasks ++ t ∷ [] = take_more tasks i t within ∙ ap (λ x. take i tasks ++ x ∷ []) (sym at) in
    rw grown (IsLeastMultiple-push (take i tasks) t before after h (subst (λ n. IsLcm before n after) is lcm) some)

-- one task more, at the front
IsLeastMultiple-cons : (t : Task) (tasks : List Task) (rest whole : ℕ) → IsLeastMultiple tasks rest → IsLcm t.period rest whole → 1 ≤ whole →
    IsLeastMultiple (t ∷ tasks) whole
IsLeastMultiple-cons t tasks rest whole h lcm some = record {
  positive = some;
  divided = (lcm.left, PeriodsDivide-trans tasks rest whole h.divided lcm.right);
  least = λ n d. lcm.least n d.0 (h.least n d.1);
}

some_multiple : (tasks : List Task) → AllByRecursion IsLawfulTask tasks → (n : ℕ) × IsLeastMultiple tasks n
some_multiple [] each = (1, IsLeastMultiple-none)
some_multiple (t ∷ tasks) each =
    let rest = some_multiple tasks each.1 in
    let work = each.0.some_work in
    let fits = each.0.work_fits in
    let whole = some_lcm t.period rest.0 (omega (arith, work, fits)) rest.1.positive in
    (whole.0, IsLeastMultiple-cons t tasks rest.0 whole.0 rest.1 whole.1 whole.2)

-- each lawful set has a scale
pub some_scale : (set : SetContents) → IsLawful set → (scale : ℕ) × IsScale set.tasks scale
some_scale set lawful =
    let multiple = some_multiple set.tasks lawful.each in
    (multiple.0, IsScale-from_multiple set.tasks multiple.0 multiple.1)

-- the scale of all tasks is past a limit that the first ones pass
pub PassesAt-whole : (limit : ℕ) (tasks : List Task) (at : ℕ) → PassesAt limit tasks at → (scale : ℕ) → IsScale tasks scale → limit < scale
PassesAt-whole limit tasks at h scale is =
    let (part, first, past) = h.after in
    let below : part ≤ scale = first.least scale is.positive (PeriodsDivide-take (at + 1) tasks scale is.divided) in
    omega arith
