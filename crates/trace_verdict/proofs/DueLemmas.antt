-- The walk over a task's part against the periods of the task.
use Rattle.std.proofs.Common.{zero, suc, ℕ, ◌+◌, ◌*◌, ◌^◌, ◌<◌, ◌≤◌, ◌≡◌, ◌≢◌, ◌⊎◌, inl, inr, Bool, List, [], ◌∷◌, length, get_or, take, drop, cond}
use Rattle.std.proofs.Common.{eqb, ltb, leb, not, sym, refl, ap, ◌∙◌, subst, arith}
use Rattle.std.proofs.Math.Nat.{add-mul, mul_assoc, mul-le-mul_right}
use Rattle.std.specs.List.{IsDistinct}
use Rattle.std.specs.List.Sorted.{IsPermutation}
use Rattle.std.proofs.lemmas.Bool.{cases_lt, cases_eq}
use Rattle.sched_base.specs.declared.rows.Row.{Row}
use Rattle.sched_base.specs.declared.sets.Task.{Task}
use Rattle.sched_base.specs.Sets.{SetContents, IsLawful, task_at, no_task}
use Rattle.sched_base.specs.Rows.{task_ticks}
use Rattle.sched_base.specs.Valid.{period_start}
use Rattle.trace_verdict.specs.Orders.{part, task_key, entries_from}
use Rattle.trace_verdict.specs.Overlaps.{clash}
use Rattle.trace_verdict.specs.Faults.{MissesDue}
use Rattle.trace_verdict.specs.Searches.{IsAllWithin, AreFirstWithKey, periods_of}
use Rattle.trace_verdict.specs.declared.entries.Entry.{Entry}
use Rattle.trace_verdict.specs.declared.supply.Periods.{Periods}
use Rattle.trace_verdict.specs.Supply.{AreLawful, bound_at, ticks_in, Follows, IsSupplied, ended_by}
use Rattle.trace_verdict.proofs.SupplyLemmas.{before_all, ticks-split, counted_to, past_counted, supplied_none}
use Rattle.trace_verdict.proofs.OverlapLemmas.{Rising}
use Rattle.trace_verdict.proofs.PartLemmas.{lawful_task, From, from_all, split_front}
use Rattle.trace_verdict.proofs.TickLemmas.{task_part_ticks, follows_part, starts_at_base, no_part}

pub starts_at : (s : SetContents) (l : ℕ) (t : Task) (k : ℕ) → period_start l t k ≡ bound_at (periods_of s l t) k
starts_at s l t k = add-mul t.offset (k * t.period) l ∙ ap (λ w. t.offset * l + w) (mul_assoc k t.period l)

-- period k has not what it is to have
abbrev pub Lacks : Periods → List Entry → ℕ → Type 0
Lacks p es k =
    ((bound_at p (k + 1) ≤ p.stop) × (ticks_in es (bound_at p k) (bound_at p (k + 1)) ≢ p.due))
    ⊎ ((p.stop < bound_at p (k + 1)) × (p.due < ticks_in es (bound_at p k) (bound_at p (k + 1))))

abbrev pub lacks : Periods → List Entry → ℕ → Bool
lacks p es k = cond (leb (bound_at p (k + 1)) p.stop) (not (eqb (ticks_in es (bound_at p k) (bound_at p (k + 1))) p.due))
    (ltb p.due (ticks_in es (bound_at p k) (bound_at p (k + 1))))

pub none_lacks : (p : Periods) (es : List Entry) → IsSupplied p es → (k : ℕ) → Lacks p es k → ⊥
none_lacks p es s k h =
    elim h [
      | inl ended ↦ ended.1 (s.full k ended.0)
      | inr open_end ↦ (let b = s.no_more k in omega (arith, b, open_end.1))
    ]

pub lacks_or_not : (p : Periods) (es : List Entry) (k : ℕ) → Lacks p es k ⊎ ((bound_at p (k + 1) ≤ p.stop → ticks_in es (bound_at p k) (bound_at p (k + 1))
    ≡ p.due) × (ticks_in es (bound_at p k) (bound_at p (k + 1)) ≤ p.due))
lacks_or_not p es k =
    elim (cases_lt p.stop (bound_at p (k + 1))) [
      | inl late ↦ (elim (cases_lt p.due (ticks_in es (bound_at p k) (bound_at p (k + 1)))) [
        | inl more ↦ inl (inr (late, more))
        | inr le ↦ inr ((λ h. absurd (omega (arith, late, h))), le)
      ])
      | inr in_time ↦ (elim (cases_eq (ticks_in es (bound_at p k) (bound_at p (k + 1))) p.due) [
        | inl same ↦ inr ((λ h. same), omega (arith, same))
        | inr ne ↦ inl (inl (in_time, ne))
      ])
    ]

pub search_lacks : (p : Periods) (es : List Entry) (n : ℕ) → ((k : ℕ) × Lacks p es k)
    ⊎ ((k : ℕ) → k < n → (bound_at p (k + 1) ≤ p.stop → ticks_in es (bound_at p k) (bound_at p (k + 1)) ≡ p.due)
    × (ticks_in es (bound_at p k) (bound_at p (k + 1)) ≤ p.due))
search_lacks p es zero = inr (λ k h. absurd (omega arith))
search_lacks p es (suc n) =
    elim (search_lacks p es n) [
      | inl found ↦ inl found
      | inr none ↦ (elim (lacks_or_not p es n) [
        | inl here ↦ inl (n, here)
        | inr fine ↦ inr (λ k h. elim (cases_lt k n) [
          | inl below ↦ none k below
          | inr there ↦ (let e : n ≡ k = omega (arith, h, there) in
              subst (λ w. (bound_at p (w + 1) ≤ p.stop → ticks_in es (bound_at p w) (bound_at p (w + 1)) ≡ p.due)
              × (ticks_in es (bound_at p w) (bound_at p (w + 1)) ≤ p.due)) e fine)
        ])
      ])
    ]

-- past the end of the schedule there are no ticks
pub none_past : (p : Periods) (es : List Entry) (k : ℕ) → Follows p.stop p.base es → p.stop < bound_at p k → ticks_in es (bound_at p k) (bound_at p (k + 1)) ≡ 0
none_past p es k f h =
    let split = ticks-split p.stop p.base es (bound_at p k) (bound_at p (k + 1)) (omega arith) f in
    let low = before_all p.stop p.base es (bound_at p k) f (omega (arith, h)) in
    let high = before_all p.stop p.base es (bound_at p (k + 1)) f (omega (arith, h)) in
    omega (arith, split, low, high)

pub some_lacks : (p : Periods) (es : List Entry) → AreLawful p → p.base ≤ p.stop → Follows p.stop p.base es → (IsSupplied p es → ⊥) → (k : ℕ) × Lacks p es k
some_lacks p es l b f no_supply =
    elim (search_lacks p es (ended_by p p.stop + 1)) [
      | inl found ↦ found
      | inr none ↦ absurd (no_supply (record {
        full = λ k h. (
            let u = counted_to p p.stop (k + 1) l.some_period b h in
            (none k (omega (arith, u))).0 h);
        no_more = λ k. (elim (cases_lt k (ended_by p p.stop + 1)) [
          | inl below ↦ (none k below).1
          | inr far ↦ (
              let past = past_counted p p.stop k l.some_period b (omega (arith, far)) in
              let e = none_past p es k f past in
              omega (arith, e))
        ]);
      }))
    ]

-- ---- for the part of a task

pub misses_from : (s : SetContents) (l : ℕ) (rs : List Row) (es : List Entry) (j k : ℕ) → IsPermutation (entries_from task_key 0 rs) es
    → Lacks (periods_of s l (task_at s.tasks j)) (part j es) k → MissesDue s l rs j k
misses_from s l rs es j k perm h =
    let p : Periods = periods_of s l (task_at s.tasks j) in
    let low : period_start l (task_at s.tasks j) k ≡ bound_at p k = starts_at s l (task_at s.tasks j) k in
    let high : period_start l (task_at s.tasks j) (k + 1) ≡ bound_at p (k + 1) = starts_at s l (task_at s.tasks j) (k + 1) in
    let same : ticks_in (part j es) (bound_at p k) (bound_at p (k + 1)) ≡ task_ticks rs j (period_start l (task_at s.tasks j) k)
    (period_start l (task_at s.tasks j) (k + 1))
    = task_part_ticks j (bound_at p k) (bound_at p (k + 1)) rs es perm ∙ sym (ap (λ a. task_ticks rs j a (period_start l (task_at s.tasks j) (k + 1))) low
    ∙ ap (λ b. task_ticks rs j (bound_at p k) b) high) in
    elim h [
      | inl ended ↦ inl (omega (arith, high, ended.0), (λ e. ended.1 (same ∙ e)))
      | inr open_end ↦ inr (omega (arith, high, open_end.0), omega (arith, same, open_end.1))
    ]

pub lacks_from : (s : SetContents) (l : ℕ) (rs : List Row) (es : List Entry) (j k : ℕ) → IsPermutation (entries_from task_key 0 rs) es
    → MissesDue s l rs j k → Lacks (periods_of s l (task_at s.tasks j)) (part j es) k
lacks_from s l rs es j k perm h =
    let p : Periods = periods_of s l (task_at s.tasks j) in
    let low : period_start l (task_at s.tasks j) k ≡ bound_at p k = starts_at s l (task_at s.tasks j) k in
    let high : period_start l (task_at s.tasks j) (k + 1) ≡ bound_at p (k + 1) = starts_at s l (task_at s.tasks j) (k + 1) in
    let same : ticks_in (part j es) (bound_at p k) (bound_at p (k + 1)) ≡ task_ticks rs j (period_start l (task_at s.tasks j) k)
    (period_start l (task_at s.tasks j) (k + 1))
    = task_part_ticks j (bound_at p k) (bound_at p (k + 1)) rs es perm ∙ sym (ap (λ a. task_ticks rs j a (period_start l (task_at s.tasks j) (k + 1))) low
    ∙ ap (λ b. task_ticks rs j (bound_at p k) b) high) in
    elim h [
      | inl ended ↦ inl (omega (arith, high, ended.0), (λ e. ended.1 (sym same ∙ e)))
      | inr open_end ↦ inr (omega (arith, high, open_end.0), omega (arith, same, open_end.1))
    ]

pub part_stands : (s : SetContents) (l n : ℕ) (es : List Entry) (j : ℕ) → IsAllWithin s l n es → Rising es → IsDistinct (clash n) es
    → ((periods_of s l (task_at s.tasks j)).base ≤ (periods_of s l (task_at s.tasks j)).stop → Follows (periods_of s l (task_at s.tasks j)).stop
    (periods_of s l (task_at s.tasks j)).base (part j es))
    × ((periods_of s l (task_at s.tasks j)).stop < (periods_of s l (task_at s.tasks j)).base → part j es ≡ [])
part_stands s l n es j w r d = (
  (λ b. follows_part n (s.horizon * l) (λ i. (task_at s.tasks i).offset * l) j ((task_at s.tasks j).offset * l) es b w r d (starts_at_base n (s.horizon * l)
      (λ i. (task_at s.tasks i).offset * l) j es w)),
  (λ b. no_part n (s.horizon * l) (λ i. (task_at s.tasks i).offset * l) j es w b),
)

pub get_same : {X : Type 0} (xs : List X) (i : ℕ) (d e : X) → i < length xs → get_or xs i d ≡ get_or xs i e
get_same [] i d e h = absurd (omega arith)
get_same (x ∷ xs) zero d e h = refl
get_same (x ∷ xs) (suc i) d e h = get_same xs i d e (omega arith)

pub task_is : (s : SetContents) (xs : List Task) (j : ℕ) (t : Task) → xs ≡ s.tasks → j < length xs → t ≡ get_or xs j t → task_at s.tasks j ≡ t
task_is s xs j t e h i = ap (λ w. get_or w j no_task) (sym e) ∙ (get_same xs j no_task t h ∙ sym i)

units_fit : (units l : ℕ) → units < 2 ^ 32 → l ≤ 2 ^ 94 → units * l < 2 ^ 127
units_fit units l few small =
    let e : units * l ≤ 2 ^ 32 * l = mul-le-mul_right l (omega (arith, few)) in
    omega (arith, e, small)

pub lawful_periods : (s : SetContents) (l j : ℕ) → IsLawful s → 0 < l → l ≤ 2 ^ 94 → j < length s.tasks → AreLawful (periods_of s l (task_at s.tasks j))
lawful_periods s l j law some small h =
    let t = lawful_task s j law h in
    record {
      some_period = (let e : 1 * l ≤ (task_at s.tasks j).period * l = mul-le-mul_right l (omega (arith, t.some_work, t.work_fits)) in omega (arith, e, some));
      some_due = (let e : 1 * l ≤ (task_at s.tasks j).work * l = mul-le-mul_right l t.some_work in omega (arith, e, some));
      within = mul-le-mul_right l t.work_fits;
      fits = units_fit s.horizon l law.horizon_fits small;
      period_fits = units_fit (task_at s.tasks j).period l t.period_fits small;
    }

pub not_supplied : (s : SetContents) (l n : ℕ) (rs : List Row) (es : List Entry) (j : ℕ) → IsLawful s → 0 < l → l ≤ 2 ^ 94 → j < length s.tasks →
    IsPermutation (entries_from task_key 0 rs) es
    → IsAllWithin s l n es → Rising es → IsDistinct (clash n) es → (IsSupplied (periods_of s l (task_at s.tasks j)) (part j es) → ⊥) → (k : ℕ)
    × MissesDue s l rs j k
not_supplied s l n rs es j law some small h perm w r d no_supply =
    let stands = part_stands s l n es j w r d in
    let p : Periods = periods_of s l (task_at s.tasks j) in
    elim (cases_lt p.stop p.base) [
      | inl late ↦ absurd (no_supply (supplied_none p (part j es) late (stands.1 late)))
      | inr in_time ↦ (
          let k : (k : ℕ) × Lacks p (part j es) k = some_lacks p (part j es) (lawful_periods s l j law some small h) in_time (stands.0 in_time) no_supply in
          (k.0, misses_from s l rs es j k.0 perm k.1))
    ]

pub supplied_misses_none : (s : SetContents) (l : ℕ) (rs : List Row) (es : List Entry) (j k : ℕ) → IsPermutation (entries_from task_key 0 rs) es
    → IsSupplied (periods_of s l (task_at s.tasks j)) (part j es) → MissesDue s l rs j k → ⊥
supplied_misses_none s l rs es j k perm sup m = none_lacks (periods_of s l (task_at s.tasks j)) (part j es) sup k (lacks_from s l rs es j k perm m)

-- ---- one task is done: what a call of `is_supplied` asks and says, moved along the equations that name its arguments

pub record Stands (p : Periods) (es : List Entry) : Type 0 where
  pub apart : p.base ≤ p.stop → Follows p.stop p.base es
  pub none : p.stop < p.base → es ≡ []

pub stands_as : (s : SetContents) (l n : ℕ) (es mine : List Entry) (j : ℕ) (p : Periods) → IsAllWithin s l n es → Rising es → IsDistinct (clash n) es
    → p ≡ periods_of s l (task_at s.tasks j) → mine ≡ part j es → Stands p mine
stands_as s l n es mine j p w r d e g =
    let h = part_stands s l n es j w r d in
    let here : Stands (periods_of s l (task_at s.tasks j)) (part j es) = record { apart = h.0; none = h.1 } in
    subst (λ q. Stands q mine) (sym e) (subst (Stands (periods_of s l (task_at s.tasks j))) (sym g) here)

pub supplied_as : (s : SetContents) (l : ℕ) (es mine : List Entry) (j : ℕ) (p : Periods) → p ≡ periods_of s l (task_at s.tasks j) → mine ≡ part j es
    → IsSupplied p mine → IsSupplied (periods_of s l (task_at s.tasks j)) (part j es)
supplied_as s l es mine j p e g h = subst (λ q. IsSupplied q (part j es)) e (subst (IsSupplied p) g h)

pub supplied_for : (s : SetContents) (l : ℕ) (es mine : List Entry) (j : ℕ) (p : Periods) → p ≡ periods_of s l (task_at s.tasks j) → mine ≡ part j es
    → IsSupplied (periods_of s l (task_at s.tasks j)) (part j es) → IsSupplied p mine
supplied_for s l es mine j p e g h = subst (λ q. IsSupplied q mine) (sym e) (subst (IsSupplied (periods_of s l (task_at s.tasks j))) (sym g) h)

-- the entries of the first j tasks are gone through, and none of these tasks misses a due; the rest are those of the others
pub record Reaches (s : SetContents) (l : ℕ) (rs : List Row) (es : List Entry) (j : ℕ) (rest : List Entry) : Type 0 where
  pub rising : Rising rest
  pub from : From j rest
  pub same : (i : ℕ) → j ≤ i → part i rest ≡ part i es
  pub met : (i k : ℕ) → i < j → MissesDue s l rs i k → ⊥

pub reaches_first : (s : SetContents) (l : ℕ) (rs : List Row) (es : List Entry) → Rising es → Reaches s l rs es 0 es
reaches_first s l rs es r = record { rising = r; from = from_all es; same = λ i h. refl; met = λ i k h m. omega (arith, h) }

-- what stands at the front is the part of the next task
pub reaches_mine : (s : SetContents) (l : ℕ) (rs : List Row) (es : List Entry) (j n : ℕ) (rest mine : List Entry) → Reaches s l rs es j rest →
    AreFirstWithKey j rest n → mine ≡ take n rest → mine ≡ part j es
reaches_mine s l rs es j n rest mine r f e = e ∙ ((split_front j rest n f r.rising r.from).front ∙ r.same j (omega arith))

pub reaches_next : (s : SetContents) (l : ℕ) (rs : List Row) (es : List Entry) (j n : ℕ) (rest mine later : List Entry) (p : Periods) →
    Reaches s l rs es j rest → AreFirstWithKey j rest n
    → IsPermutation (entries_from task_key 0 rs) es → mine ≡ take n rest → later ≡ drop n rest → p ≡ periods_of s l (task_at s.tasks j) →
    IsSupplied p mine → Reaches s l rs es (j + 1) later
reaches_next s l rs es j n rest mine later p r f perm front back e supplied =
    let split = split_front j rest n f r.rising r.from in
    let due = supplied_as s l es mine j p e (reaches_mine s l rs es j n rest mine r f front) supplied in
    subst (Reaches s l rs es (j + 1)) (sym back) (record {
      rising = split.rising;
      from = split.rest;
      same = λ i h. split.others i (omega (arith, h)) ∙ r.same i (omega (arith, h));
      met = λ i k h m. (elim (cases_lt i j) [
        | inl below ↦ r.met i k below m
        | inr le ↦ (let q : i ≡ j = omega (arith, h, le) in supplied_misses_none s l rs es j k perm due (subst (λ w. MissesDue s l rs w k) q m))
      ]);
    })
