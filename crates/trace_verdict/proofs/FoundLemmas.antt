-- What the rows of tasks tell, found by their entries where no row is at fault.
use Rattle.std.proofs.Common.{ℕ, ◌+◌, ◌*◌, ◌^◌, ◌<◌, ◌≤◌, ◌≡◌, inl, inr, List, [], ◌∷◌, ◌++◌, take, drop, length, get_or, eqb, sym, refl, ap, ◌∙◌}
use Rattle.std.proofs.Common.{subst, arith, length-append}
use Rattle.std.specs.List.{AllByRecursion}
use Rattle.std.proofs.lemmas.Bool.{cases_Bool, cases_lt, cond-true, cond-false, eqb-true}
use Rattle.std.proofs.lemmas.List.{get_or_append_left}
use Rattle.std.proofs.lemmas.List.Sorted.{length_permutation}
use Rattle.sched_base.specs.declared.rows.Row.{Row}
use Rattle.sched_base.specs.Sets.{SetContents, task_at}
use Rattle.trace_verdict.specs.declared.entries.Entry.{Entry}
use Rattle.trace_verdict.specs.declared.faults.FaultKind.TheVariants.{Early}
use Rattle.trace_verdict.specs.declared.faults.Verdict.TheVariants.{Valid}
use Rattle.trace_verdict.specs.declared.findings.Findings.{Findings}
use Rattle.trace_verdict.specs.Faults.{row_at, line_of_row, IsTraceRow, IsTrace, IsVerdict}
use Rattle.trace_verdict.specs.Findings.{AreInPeriods, IsToldOfTask, AreTold, found_at}
use Rattle.trace_verdict.specs.Orders.{task_key, part, places, IsOrder}
use Rattle.trace_verdict.specs.Searches.{periods_of, AreFirstWithKey}
use Rattle.trace_verdict.proofs.HitLemmas.{task_of_key}
use Rattle.trace_verdict.proofs.IndexLemmas.{all_at}
use Rattle.trace_verdict.proofs.OverlapLemmas.{Rising}
use Rattle.trace_verdict.proofs.PartLemmas.{From, from_all, split_front, all_get, order_has, length-entries_from}
use Rattle.trace_verdict.proofs.ToldLemmas.{last_found}

all_part : (P : Entry → Type 0) (j : ℕ) (es : List Entry) → AllByRecursion (λ e. e.key ≡ j → P e) es → AllByRecursion P (part j es)
all_part P j [] a = tt
all_part P j (e ∷ es) a =
    elim (cases_Bool (eqb e.key j)) [
      | inl t ↦ subst (AllByRecursion P) (sym (cond-true (eqb e.key j) (e ∷ part j es) (part j es) t)) (a.0 (eqb-true _ _ t), all_part P j es a.1)
      | inr f ↦ subst (AllByRecursion P) (sym (cond-false (eqb e.key j) (e ∷ part j es) (part j es) f)) (all_part P j es a.1)
    ]

all_places : (P : ℕ → Type 0) (es : List Entry) → AllByRecursion (λ e. P e.place) es → AllByRecursion P (places es)
all_places P [] a = tt
all_places P (e ∷ es) a = (a.0, all_places P es a.1)

length-part : (j : ℕ) (es : List Entry) → length (places (part j es)) ≤ length es
length-part j [] = omega arith
length-part j (e ∷ es) =
    let rest = length-part j es in
    elim (cases_Bool (eqb e.key j)) [
      | inl t ↦ (let one = ap (λ l. length (places l)) (cond-true (eqb e.key j) (e ∷ part j es) (part j es) t) in omega (arith, one, rest))
      | inr f ↦ (let one = ap (λ l. length (places l)) (cond-false (eqb e.key j) (e ∷ part j es) (part j es) f) in omega (arith, one, rest))
    ]

-- the rows of a task lie in its periods, since none is at fault, and there are few of them
pub in_periods : (s : SetContents) (l : ℕ) (rows : List Row) (es : List Entry) (j : ℕ) → IsTrace s l rows → IsVerdict s l rows Valid → IsOrder task_key rows es
    → AreInPeriods (periods_of s l (task_at s.tasks j)) rows (places (part j es)) × (length (places (part j es)) < 2 ^ 32)
in_periods s l rows es j t v order =
    let base : ℕ → ℕ = λ c. (task_at s.tasks c).offset * l in
    let P : ℕ → Type 0 = λ i. (i < length rows) × (base j ≤ (row_at rows i).start) × ((row_at rows i).start < (row_at rows i).end) in
    let Q : Entry → Type 0 = λ e. e.key ≡ j → P e.place in
    let all : AllByRecursion Q es = order_has task_key Q rows es order (λ i c h e.
    let row = all_at (IsTraceRow s) rows t.each i h in
    let own = task_of_key (row_at rows i).leaf c e in
    let begun : base c ≤ (row_at rows i).start = elim (cases_lt (row_at rows i).start (base c)) [
      | inr le ↦ le
      | inl early ↦ absurd (v Early (line_of_row s i) (i, h, refl, (c, own, early)))
    ] in
    let here : i ≡ 0 + i = omega arith in
    λ same. subst P here (h, subst (λ k. base k ≤ (row_at rows i).start) same begun, row.long)) in
    let each : AllByRecursion P (places (part j es)) = all_places P (part j es) (all_part (λ e. P e.place) j es all) in
    let at : (i : ℕ) → i < length (places (part j es)) → P (get_or (places (part j es)) i 0) = λ i h. all_get P (places (part j es)) i 0 each h in
    let short = length-part j es in
    let long = length_permutation _ _ order.same in
    let entries = length-entries_from task_key 0 rows in
    let few = t.few in (
      record { within = λ i h. (at i h).0; begun = λ i h. (at i h).1; long = λ i h. (at i h).2 },
      omega (arith, short, long, entries, few),
    )

-- the entries of the first j tasks are gone through, and there is what their rows tell; the rest are those of the others
pub record FoundTo (s : SetContents) (l : ℕ) (rows : List Row) (es : List Entry) (j : ℕ) (rest : List Entry) (found : List Findings) : Type 0 where
  pub rising : Rising rest
  pub from : From j rest
  pub same : (i : ℕ) → j ≤ i → part i rest ≡ part i es
  pub count : length found ≡ j
  pub told : AreTold s l rows found

pub found_none : (s : SetContents) (l : ℕ) (rows : List Row) (es : List Entry) → Rising es → FoundTo s l rows es 0 es []
found_none s l rows es r = record { rising = r; from = from_all es; same = λ i h. refl; count = refl; told = λ i h. absurd (omega (arith, h)) }

-- what stands at the front is the part of the next task
pub found_mine : (s : SetContents) (l : ℕ) (rows : List Row) (es : List Entry) (j n : ℕ) (rest mine : List Entry) (found : List Findings) →
    FoundTo s l rows es j rest found → AreFirstWithKey j rest n → mine ≡ take n rest
    → mine ≡ part j es
found_mine s l rows es j n rest mine found r f e = e ∙ ((split_front j rest n f r.rising r.from).front ∙ r.same j (omega arith))

told_next : (s : SetContents) (l : ℕ) (rows : List Row) (j : ℕ) (found : List Findings) (f : Findings) → length found ≡ j → AreTold s l rows found →
    IsToldOfTask s l rows j f → AreTold s l rows (found ++ f ∷ [])
told_next s l rows j found f size told one = λ i h.
    let all = length-append found (f ∷ []) in
    elim (cases_lt i (length found)) [
      | inl below ↦ subst (IsToldOfTask s l rows i) (sym (get_or_append_left found (f ∷ []) _ i below)) (told i below)
      | inr there ↦ (
          let here : j ≡ i = omega (arith, h, there, size, all) in
          subst (λ k. IsToldOfTask s l rows k (found_at (found ++ f ∷ []) k)) here (subst (IsToldOfTask s l rows j) (sym (last_found found f j size)) one))
    ]

pub found_next : (s : SetContents) (l : ℕ) (rows : List Row) (es : List Entry) (j n : ℕ) (rest later : List Entry) (found : List Findings) (f : Findings) →
    FoundTo s l rows es j rest found → AreFirstWithKey j rest n
    → later ≡ drop n rest → IsToldOfTask s l rows j f → FoundTo s l rows es (j + 1) later (found ++ f ∷ [])
found_next s l rows es j n rest later found f r front back one =
    let split = split_front j rest n front r.rising r.from in
    let size = length-append found (f ∷ []) in
    let had = r.count in
    subst (λ w. FoundTo s l rows es (j + 1) w (found ++ f ∷ [])) (sym back) (record {
      rising = split.rising;
      from = split.rest;
      same = λ i h. split.others i (omega (arith, h)) ∙ r.same i (omega (arith, h));
      count = omega (arith, size, had);
      told = told_next s l rows j found f had r.told one;
    })
