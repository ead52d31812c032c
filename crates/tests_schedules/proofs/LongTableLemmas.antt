-- What a long table holds.
use Rattle.std.proofs.Common.{ℕ, zero, suc, ◌+◌, ◌<◌, ◌≡◌, List, [], ◌∷◌, ◌++◌, length, refl, sym, ap, ◌∙◌, arith, length-append, append-nil, subst}
use Rattle.std.proofs.Common.{◌^◌, Some, None}
use Rattle.std.specs.Prelude.{slice_get}
use Rattle.sched_base.specs.declared.rows.Leaf.TheVariants.{Task}
use Rattle.sched_base.specs.declared.rows.Row.{Row}
use Rattle.sched_base.specs.Tables.{IsRound, end_after, row_ticks, ticks_in}
use Rattle.sched_base.proofs.SetLemmas.{AllByRecursion-push}
use Rattle.row_totals.specs.Sums.{IsAmong, NamesAmong, totals_of}
use Rattle.tests_schedules.specs.LongTables.{steady_row, steady_rows}

pub length-steady : (n : ℕ) → length (steady_rows n) ≡ n
unfolding steady_rows
length-steady zero = refl
length-steady (suc n) = let rest = length-steady n in omega (arith, rest, length-append (steady_rows n) ((steady_row n) ∷ []))

end_after-push : (before : ℕ) (rows : List Row) (r : Row) → end_after before (rows ++ r ∷ []) ≡ r.end
end_after-push before [] r = refl
end_after-push before (q ∷ rows) r = end_after-push q.end rows r

pub end_after-steady : (n : ℕ) → end_after 0 (steady_rows n) ≡ n
unfolding steady_rows
end_after-steady zero = refl
end_after-steady (suc n) = end_after-push 0 (steady_rows n) (steady_row n) ∙ omega arith

ticks_in-push : (j : ℕ) (rows : List Row) (r : Row) → ticks_in j (rows ++ r ∷ []) ≡ ticks_in j rows + row_ticks j r
ticks_in-push j [] r = omega arith
ticks_in-push j (q ∷ rows) r = let rest = ticks_in-push j rows r in omega (arith, rest)

pub ticks_in-steady : (n : ℕ) → ticks_in 0 (steady_rows n) ≡ n
unfolding steady_rows
ticks_in-steady zero = refl
ticks_in-steady (suc n) = let rest = ticks_in-steady n in omega (arith, rest, ticks_in-push 0 (steady_rows n) (steady_row n))

pub names-steady : (n : ℕ) → NamesAmong 1 (steady_rows n)
unfolding steady_rows
names-steady zero = tt
names-steady (suc n) = AllByRecursion-push (λ r. IsAmong 1 r.leaf) (steady_rows n) (steady_row n) (names-steady n) (omega arith)

pub totals-steady : (n : ℕ) → n ∷ [] ≡ totals_of 1 (steady_rows n ∷ [])
totals-steady n = ap (λ k. k ∷ []) (sym (ap (ticks_in 0) (append-nil (steady_rows n)) ∙ ticks_in-steady n))

-- the one row of a round
at_one : (r q : Row) (p : ℕ) → slice_get (r ∷ []) p ≡ Some q → (p ≡ 0) × (q ≡ r)
at_one r q zero at = (refl, cc)
at_one r q (suc p) at = absurd (let e : None ≡ Some q = at in cc)

-- one row is a round of one processor
pub IsRound-one : (start : ℕ) (r : Row) → r.processor ≡ 0 → r.start ≡ start → r.start < r.end → r.end < 2 ^ 127 → IsRound start (r ∷ [])
IsRound-one start r own starts forward fits = record {
  own = λ p q at. let one = at_one r q p at in ap (λ (s : Row). s.processor) one.1 ∙ own ∙ sym one.0;
  starts = λ p q at. ap (λ (s : Row). s.start) (at_one r q p at).1 ∙ starts;
  forward = λ p q at. subst (λ (s : Row). (s.start < s.end) × (s.end < 2 ^ 127)) (sym (at_one r q p at).1) (forward, fits);
  ends = λ p p' q q' at there. ap (λ (s : Row). s.end) ((at_one r q p at).1 ∙ sym (at_one r q' p' there).1);
  once = λ p p' q q' task at there is is'. (at_one r q p at).0 ∙ sym (at_one r q' p' there).0;
}

-- a row of these parts is the one of its tick
pub row_is : (r : Row) (k start end : ℕ) → r ≡ record { processor = 0; start = start; end = end; leaf = Task (record { 0 = 0 }) } → start ≡ k →
    end ≡ k + 1 → r ≡ steady_row k
row_is r k start end is first last =
    is ∙ ap (λ n. record { processor = 0; start = n; end = end; leaf = Task (record { 0 = 0 }) }) first
    ∙ ap (λ n. record { processor = 0; start = k; end = n; leaf = Task (record { 0 = 0 }) }) last
