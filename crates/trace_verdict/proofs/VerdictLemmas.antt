-- The first of the faults.
use Rattle.std.proofs.Common.{ℕ, ◌*◌, ◌<◌, ◌≤◌, ◌≡◌, ◌⊎◌, inl, inr, Bool, true, false, List, length, Option, ◌&&◌, not, eqb, ltb, leb, sym, refl, subst, arith}
use Rattle.std.specs.List.{AllByRecursion}
use Rattle.std.proofs.lemmas.Bool.{cases_lt, both_ways, and_parts, and_from, eqb-true, eqb-false, ltb-true, ltb-false, leb-true, leb-false, not-true}
use Rattle.std.proofs.lemmas.Bool.{not-false, not_from_false, true_from_ne_false}
use Rattle.sched_base.specs.declared.rows.Row.{Row}
use Rattle.sched_base.specs.Sets.{SetContents, task_at}
use Rattle.trace_verdict.specs.Orders.{processor_key, task_key, IsOrder}
use Rattle.trace_verdict.specs.Faults.{row_at, HasFault, IsVerdict, IsTraceRow, IsTrace, rank, line_of_row}
use Rattle.trace_verdict.specs.Searches.{IsWithin, IsAllWithin, hits, IsFirstHit, IsFirstUnfit, IsFirstUnsupplied, is_fit, is_early, kind_of}
use Rattle.trace_verdict.specs.declared.entries.Entry.{Entry}
use Rattle.trace_verdict.specs.declared.faults.FaultKind.{FaultKind}
use Rattle.trace_verdict.specs.declared.faults.FaultKind.TheVariants.{Processor, End, ProcessorOverlap, TaskOverlap, Early, Supply}
use Rattle.trace_verdict.specs.declared.faults.Verdict.{Verdict}
use Rattle.trace_verdict.specs.declared.faults.Verdict.TheVariants.{Valid, Fault}
use Rattle.sched_base.specs.Valid.{IsValid}
use Rattle.trace_verdict.proofs.IndexLemmas.{all_at}
use Rattle.trace_verdict.proofs.HitLemmas.{Hits, task_of_key, early_of, of_early, early_test, processor_hit, hit_of_processor, task_hit, hit_of_task}
use Rattle.trace_verdict.proofs.ValidLemmas.{valid_from, fault_free}
use Rattle.trace_verdict.proofs.PartLemmas.{order_has}
use Rattle.trace_verdict.proofs.Parts.{line_of_total}

pub record Fit (s : SetContents) (l : ℕ) (r : Row) : Type 0 where
  pub processor : r.processor < s.processors
  pub ends : r.end ≤ s.horizon * l
  pub begins : is_early s l r ≡ false

pub fit_parts : (s : SetContents) (l : ℕ) (r : Row) → is_fit s l r ≡ true → Fit s l r
fit_parts s l r h =
    let p = and_parts (ltb r.processor s.processors && leb r.end (s.horizon * l)) (not (is_early s l r)) h in
    let q = and_parts (ltb r.processor s.processors) (leb r.end (s.horizon * l)) p.0 in
    record { processor = ltb-true _ _ q.0; ends = leb-true _ _ q.1; begins = not-true _ p.1 }

-- where the tests before fail, the kind is the first whose test holds
pub kind_has : (p e c t : Bool) (P : FaultKind → Type 0) → (p ≡ true → P Processor) → (p ≡ false → e ≡ true → P End)
    → (p ≡ false → e ≡ false → c ≡ true → P ProcessorOverlap) → (p ≡ false → e ≡ false → c ≡ false → t ≡ true → P TaskOverlap)
    → (p ≡ false → e ≡ false → c ≡ false → t ≡ false → P Early) → P (kind_of p e c t)
kind_has true e c t P f g h i j = f refl
kind_has false true c t P f g h i j = g refl refl
kind_has false false true t P f g h i j = h refl refl refl
kind_has false false false true P f g h i j = i refl refl refl refl
kind_has false false false false P f g h i j = j refl refl refl refl

-- no fault of the rows stands before row i
pub no_fault_before : (s : SetContents) (l : ℕ) (rs : List Row) (u c t i : ℕ) → IsFirstUnfit s l rs u → IsFirstHit processor_key rs c →
    IsFirstHit task_key rs t → i ≤ u → i ≤ c → i ≤ t → i ≤ length rs
    → (kind : FaultKind) (line : ℕ) → HasFault s l rs kind line → line_of_row s i ≤ line
no_fault_before s l rs u c t i fu fc ft a b d w Processor line f =
    elim (cases_lt f.0 i) [
      | inr le ↦ omega (arith, le, f.2)
      | inl lower ↦ (let p = fit_parts s l _ (fu.before f.0 (omega (arith, lower, a))) in let g = f.3 in absurd (omega (arith, p.processor, g)))
    ]
no_fault_before s l rs u c t i fu fc ft a b d w End line f =
    elim (cases_lt f.0 i) [
      | inr le ↦ omega (arith, le, f.2)
      | inl lower ↦ (let p = fit_parts s l _ (fu.before f.0 (omega (arith, lower, a))) in let g = f.3 in absurd (omega (arith, p.ends, g)))
    ]
no_fault_before s l rs u c t i fu fc ft a b d w ProcessorOverlap line f =
    elim (cases_lt f.0 i) [
      | inr le ↦ omega (arith, le, f.2)
      | inl lower ↦ (let k = hit_of_processor rs f.0 f.3 in absurd (both_ways _ (fc.before k.0 f.0 k.1 (omega (arith, lower, b))) k.2))
    ]
no_fault_before s l rs u c t i fu fc ft a b d w TaskOverlap line f =
    elim (cases_lt f.0 i) [
      | inr le ↦ omega (arith, le, f.2)
      | inl lower ↦ (let k = hit_of_task rs f.0 f.3 in absurd (both_ways _ (ft.before k.0 f.0 k.1 (omega (arith, lower, d))) k.2))
    ]
no_fault_before s l rs u c t i fu fc ft a b d w Early line f =
    elim (cases_lt f.0 i) [
      | inr le ↦ omega (arith, le, f.2)
      | inl lower ↦ (let p = fit_parts s l _ (fu.before f.0 (omega (arith, lower, a))) in absurd (both_ways _ p.begins (early_test s l (row_at rs f.0) f.3)))
    ]
no_fault_before s l rs u c t i fu fc ft a b d w Supply line f = omega (arith, f.2, w)

-- the kinds that a row has not
pub record Lacking (s : SetContents) (l : ℕ) (rs : List Row) (i : ℕ) (kind : FaultKind) : Type 0 where
  pub none : HasFault s l rs kind (line_of_row s i) → ⊥

pub no_processor : (s : SetContents) (l : ℕ) (rs : List Row) (i : ℕ) → ltb (row_at rs i).processor s.processors ≡ true → HasFault s l rs Processor
    (line_of_row s i) → ⊥
no_processor s l rs i h f =
    let e : f.0 ≡ i = omega (arith, f.2) in
    let g = subst (λ w. s.processors ≤ (row_at rs w).processor) e f.3 in
    let a = ltb-true _ _ h in
    omega (arith, a, g)

pub no_end : (s : SetContents) (l : ℕ) (rs : List Row) (i : ℕ) → leb (row_at rs i).end (s.horizon * l) ≡ true → HasFault s l rs End (line_of_row s i) → ⊥
no_end s l rs i h f =
    let e : f.0 ≡ i = omega (arith, f.2) in
    let g = subst (λ w. s.horizon * l < (row_at rs w).end) e f.3 in
    let a = leb-true _ _ h in
    omega (arith, a, g)

pub no_hit : (key : Row → Option ℕ) (s : SetContents) (rs : List Row) (c i : ℕ) → IsFirstHit key rs c → i < c → (f : ℕ) → f ≡ i → (k : ℕ) × (k < f)
    × (hits key rs f k ≡ true) → ⊥
no_hit key s rs c i fc h f e k = both_ways _ (fc.before k.0 f k.1 (omega (arith, e, h))) k.2

pub rank_least : (s : SetContents) (l : ℕ) (rs : List Row) (i : ℕ) (kind other : FaultKind)
    → (1 ≤ rank kind → HasFault s l rs Processor (line_of_row s i) → ⊥) → (2 ≤ rank kind → HasFault s l rs End (line_of_row s i) → ⊥)
    → (3 ≤ rank kind → HasFault s l rs ProcessorOverlap (line_of_row s i) → ⊥) → (4 ≤ rank kind → HasFault s l rs TaskOverlap (line_of_row s i) → ⊥)
    → rank kind ≤ 4 → HasFault s l rs other (line_of_row s i) → rank kind ≤ rank other
rank_least s l rs i kind Processor a b c d m f = elim (cases_lt (rank kind) 1) [ inl lt ↦ omega (arith, lt) | inr ge ↦ absurd (a ge f) ]
rank_least s l rs i kind End a b c d m f = elim (cases_lt (rank kind) 2) [ inl lt ↦ omega (arith, lt) | inr ge ↦ absurd (b ge f) ]
rank_least s l rs i kind ProcessorOverlap a b c d m f = elim (cases_lt (rank kind) 3) [ inl lt ↦ omega (arith, lt) | inr ge ↦ absurd (c ge f) ]
rank_least s l rs i kind TaskOverlap a b c d m f = elim (cases_lt (rank kind) 4) [ inl lt ↦ omega (arith, lt) | inr ge ↦ absurd (d ge f) ]
rank_least s l rs i kind Early a b c d m f = m
rank_least s l rs i kind Supply a b c d m f = omega (arith, m)

pub row_verdict : (s : SetContents) (l : ℕ) (rs : List Row) (u c t i line : ℕ) (kind : FaultKind) → IsFirstUnfit s l rs u → IsFirstHit processor_key rs c →
    IsFirstHit task_key rs t
    → i ≤ u → i ≤ c → i ≤ t → i < length rs → line ≡ line_of_row s i → ((i ≡ u) ⊎ ((i ≡ c) ⊎ (i ≡ t)))
    → kind ≡ kind_of (not (ltb (row_at rs i).processor s.processors)) (not (leb (row_at rs i).end (s.horizon * l))) (eqb c i) (eqb t i)
    → IsVerdict s l rs (Fault line kind)
row_verdict s l rs u c t i line kind fu fc ft a b d w e which g =
    let P : FaultKind → Type 0 = λ k. IsVerdict s l rs (Fault (line_of_row s i) k) in
    let rest : (k : FaultKind) → HasFault s l rs k (line_of_row s i)
    → (1 ≤ rank k → HasFault s l rs Processor (line_of_row s i) → ⊥) → (2 ≤ rank k → HasFault s l rs End (line_of_row s i) → ⊥)
    → (3 ≤ rank k → HasFault s l rs ProcessorOverlap (line_of_row s i) → ⊥) → (4 ≤ rank k → HasFault s l rs TaskOverlap (line_of_row s i) → ⊥)
    → rank k ≤ 4 → P k
    = λ k has one two three four most. (
      has,
      λ other at f.
          let low = no_fault_before s l rs u c t i fu fc ft a b d (omega (arith, w)) other at f in
          elim (cases_lt (line_of_row s i) at) [
            | inl less ↦ inl less
            | inr le ↦ (let same : line_of_row s i ≡ at = omega (arith, low, le) in
                inr (same, rank_least s l rs i k other one two three four most (subst (HasFault s l rs other) (sym same) f)))
          ],
    ) in
    let processor_ok : not (ltb (row_at rs i).processor s.processors) ≡ false → HasFault s l rs Processor (line_of_row s i) → ⊥ = λ h. no_processor s l rs i
    (not-false _ h) in
    let end_ok : not (leb (row_at rs i).end (s.horizon * l)) ≡ false → HasFault s l rs End (line_of_row s i) → ⊥ = λ h. no_end s l rs i (not-false _ h) in
    let hit_ok : eqb c i ≡ false → HasFault s l rs ProcessorOverlap (line_of_row s i) → ⊥ = λ h f. (let ne = eqb-false c i h in no_hit processor_key s rs c
    i fc (omega (arith, b, ne)) f.0 (omega (arith, f.2)) (hit_of_processor rs f.0 f.3)) in
    let task_ok : eqb t i ≡ false → HasFault s l rs TaskOverlap (line_of_row s i) → ⊥ = λ h f. (let ne = eqb-false t i h in no_hit task_key s rs t i ft
    (omega (arith, d, ne)) f.0 (omega (arith, f.2)) (hit_of_task rs f.0 f.3)) in
    let found : P (kind_of (not (ltb (row_at rs i).processor s.processors)) (not (leb (row_at rs i).end (s.horizon * l))) (eqb c i) (eqb t i)) =
    kind_has (not (ltb (row_at rs i).processor s.processors)) (not (leb (row_at rs i).end (s.horizon * l))) (eqb c i) (eqb t i) P
    (λ p. rest Processor (i, w, refl, ltb-false _ _ (not-true _ p)) (λ h. absurd (omega (arith, h))) (λ h. absurd (omega (arith, h)))
    (λ h. absurd (omega (arith, h))) (λ h. absurd (omega (arith, h))) (omega arith))
    (λ p q. rest End (i, w, refl, leb-false _ _ (not-true _ q)) (λ h. processor_ok p) (λ h. absurd (omega (arith, h))) (λ h. absurd (omega (arith, h)))
    (λ h. absurd (omega (arith, h))) (omega arith))
    (λ p q r. (let same : c ≡ i = eqb-true _ _ r in
    let k = fc.at (omega (arith, same, w)) in
    let hit : Hits processor_key rs i = subst (Hits processor_key rs) same k in
    rest ProcessorOverlap (i, w, refl, processor_hit rs i hit) (λ h. processor_ok p) (λ h. end_ok q) (λ h. absurd (omega (arith, h)))
    (λ h. absurd (omega (arith, h))) (omega arith)))
    (λ p q r v. (let same : t ≡ i = eqb-true _ _ v in
    let k = ft.at (omega (arith, same, w)) in
    let hit : Hits task_key rs i = subst (Hits task_key rs) same k in
    rest TaskOverlap (i, w, refl, task_hit rs i hit) (λ h. processor_ok p) (λ h. end_ok q) (λ h. hit_ok r) (λ h. absurd (omega (arith, h))) (omega arith)))
    (λ p q r v. (
    let not_hit = eqb-false c i r in
    let not_task = eqb-false t i v in
    let same : u ≡ i = elim which [ inl x ↦ sym x | inr y ↦ (elim y [ inl z ↦ absurd (not_hit (sym z)) | inr z ↦ absurd (not_task (sym z)) ]) ] in
    let unfit : is_fit s l (row_at rs i) ≡ false = subst (λ x. is_fit s l (row_at rs x) ≡ false) same (fu.at (omega (arith, same, w))) in
    let early : is_early s l (row_at rs i) ≡ true = true_from_ne_false _ (λ no_early. both_ways _ unfit
    (and_from _ _ (and_from _ _ (not-false _ p) (not-false _ q)) (not_from_false _ no_early))) in
    rest Early (i, w, refl, of_early s l (row_at rs i).start (row_at rs i).leaf early) (λ h. processor_ok p) (λ h. end_ok q) (λ h. hit_ok r)
    (λ h. task_ok v) (omega arith))) in
    subst (λ x. IsVerdict s l rs (Fault x kind)) (sym e) (subst P (sym g) found)

-- ---- no fault of the rows

pub order_within : (s : SetContents) (l : ℕ) (rs : List Row) (es : List Entry) → IsTrace s l rs → IsOrder task_key rs es → ((i : ℕ) → i < length rs →
    Fit s l (row_at rs i)) → IsAllWithin s l (length rs) es
order_within s l rs es t o fit =
    order_has task_key (IsWithin (length rs) (s.horizon * l) (λ j. (task_at s.tasks j).offset * l)) rs es o (λ i c h e.
    let row = all_at (IsTraceRow s) rs t.each i h in
    let f = fit i h in
    record {
      place = omega (arith, h);
      long = row.long;
      begins = (elim (cases_lt (row_at rs i).start ((task_at s.tasks c).offset * l)) [
        | inr le ↦ le
        | inl early ↦ absurd (both_ways _ f.begins (early_of s l (row_at rs i).start (row_at rs i).leaf c (task_of_key (row_at rs i).leaf c e) early))
      ]);
      ends = f.ends;
    })

pub total_verdict : (s : SetContents) (l : ℕ) (rs : List Row) (u c t j line : ℕ) → IsFirstUnfit s l rs u → IsFirstHit processor_key rs c →
    IsFirstHit task_key rs t
    → length rs ≤ u → length rs ≤ c → length rs ≤ t → IsFirstUnsupplied s l rs j → j < length s.tasks → line ≡ line_of_total s rs j →
    IsVerdict s l rs (Fault line Supply)
total_verdict s l rs u c t j line fu fc ft a b d fj h e =
    let P : FaultKind → ℕ → Type 0 = λ other at. HasFault s l rs other at → (line < at) ⊎ ((line ≡ at) × (5 ≤ rank other)) in
    ((j, h, e, fj.at h), λ other at. go other at)
  where
    go : (other : FaultKind) (at : ℕ) → HasFault s l rs other at → (line < at) ⊎ ((line ≡ at) × (5 ≤ rank other))
    go Processor at f = (let p = fit_parts s l _ (fu.before f.0 (omega (arith, f.1, a))) in let g = f.3 in absurd (omega (arith, p.processor, g)))
    go End at f = (let p = fit_parts s l _ (fu.before f.0 (omega (arith, f.1, a))) in let g = f.3 in absurd (omega (arith, p.ends, g)))
    go ProcessorOverlap at f = (let k = hit_of_processor rs f.0 f.3 in absurd (both_ways _ (fc.before k.0 f.0 k.1 (omega (arith, f.1, b))) k.2))
    go TaskOverlap at f = (let k = hit_of_task rs f.0 f.3 in absurd (both_ways _ (ft.before k.0 f.0 k.1 (omega (arith, f.1, d))) k.2))
    go Early at f = (let p = fit_parts s l _ (fu.before f.0 (omega (arith, f.1, a))) in absurd (both_ways _ p.begins (early_test s l (row_at rs f.0) f.3)))
    go Supply at f = elim (cases_lt f.0 j) [
      | inl lower ↦ absurd (fj.before f.0 f.3.0 lower f.3.1)
      | inr le ↦ (elim (cases_lt j f.0) [
        | inl less ↦ inl (omega (arith, e, f.2, less))
        | inr ge ↦ inr (omega (arith, e, f.2, le, ge), omega arith)
      ])
    ]

pub no_verdict : (s : SetContents) (l : ℕ) (rs : List Row) (u c t j : ℕ) → IsFirstUnfit s l rs u → IsFirstHit processor_key rs c → IsFirstHit task_key rs t
    → length rs ≤ u → length rs ≤ c → length rs ≤ t → IsFirstUnsupplied s l rs j → length s.tasks ≤ j → IsVerdict s l rs Valid
no_verdict s l rs u c t j fu fc ft a b d fj h Processor at f = (let p = fit_parts s l _ (fu.before f.0 (omega (arith, f.1, a))) in let g = f.3 in
    omega (arith, p.processor, g))
no_verdict s l rs u c t j fu fc ft a b d fj h End at f = (let p = fit_parts s l _ (fu.before f.0 (omega (arith, f.1, a))) in let g = f.3 in
    omega (arith, p.ends, g))
no_verdict s l rs u c t j fu fc ft a b d fj h ProcessorOverlap at f = (let k = hit_of_processor rs f.0 f.3 in
    both_ways _ (fc.before k.0 f.0 k.1 (omega (arith, f.1, b))) k.2)
no_verdict s l rs u c t j fu fc ft a b d fj h TaskOverlap at f = (let k = hit_of_task rs f.0 f.3 in
    both_ways _ (ft.before k.0 f.0 k.1 (omega (arith, f.1, d))) k.2)
no_verdict s l rs u c t j fu fc ft a b d fj h Early at f = (let p = fit_parts s l _ (fu.before f.0 (omega (arith, f.1, a))) in
    both_ways _ p.begins (early_test s l (row_at rs f.0) f.3))
no_verdict s l rs u c t j fu fc ft a b d fj h Supply at f = fj.before f.0 f.3.0 (omega (arith, f.1, h)) f.3.1

-- the verdict is Valid exactly where the rows are
pub verdict_valid : (s : SetContents) (l : ℕ) (rs : List Row) (v : Verdict) → AllByRecursion (IsTraceRow s) rs → IsVerdict s l rs v
    → (v ≡ Valid → IsValid s l (s.horizon * l) (s.horizon * l) rs) × (IsValid s l (s.horizon * l) (s.horizon * l) rs → v ≡ Valid)
verdict_valid s l rs Valid t h = ((λ e. valid_from s l rs h), (λ v. refl))
verdict_valid s l rs (Fault line kind) t h = ((λ e. cc), (λ v. absurd (fault_free s l rs t v kind line h.0)))
