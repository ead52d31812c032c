-- The lines of a task's periods.
use Rattle.std.proofs.Common.{ℕ, suc, ◌+◌, ◌<◌, ◌≡◌, List, [], ◌∷◌, ◌++◌, length, get_or, refl, sym, ap, ◌∙◌, subst, arith}
use Rattle.std.specs.List.{flat_map, enumerate_from, range_with_len}
use Rattle.std.proofs.lemmas.List.{get_or_default}
use Rattle.std.proofs.lemmas.List.FromFn.{get_or-enumerate_from}
use Rattle.sched_base.specs.declared.rows.Row.{Row}
use Rattle.sched_base.specs.declared.sets.Task.{Task}
use Rattle.sched_base.specs.Sets.{SetContents, no_task, task_at}
use Rattle.sched_base.specs.Valid.{period_start}
use Rattle.trace_format.specs.Finishes.{ended_count, finish, finish_between}
use Rattle.trace_format.specs.Text.{mets_of_task}
use Rattle.trace_writer.specs.Finishes.{HaveRoom, ends_of, IsDoneBy, AreDoneBy}
use Rattle.trace_writer.specs.Parts.{text_of, line_of_met}
use Rattle.trace_writer.proofs.FinishLemmas.{room_at}
use Rattle.trace_writer.proofs.TextLemmas.{met_of, mets_are}

-- when the rows of task j had done period k of this task
abbrev pub finish_of : ℕ → List Row → ℕ → Task → ℕ → ℕ
finish_of scale rows j u k = finish_between rows j (period_start scale u k) (period_start scale u (k + 1))

-- what is written of numbered ticks, by what is to be written of each number
numbered_from : (f : ℕ × ℕ → List ℕ) (g : ℕ → List ℕ) (a : ℕ) (ends : List ℕ) → ((k : ℕ) → k < length ends → f (a + k, get_or ends k 0) ≡ g (a + k))
    → flat_map f (enumerate_from a ends) ≡ flat_map g (range_with_len a (length ends))
numbered_from f g a [] same = refl
numbered_from f g a (e ∷ ends) same =
    let at : a + 0 ≡ a = omega arith in
    let here : f (a, e) ≡ g a = subst (λ (n : ℕ). f (n, e) ≡ g n) at (same 0 (omega arith)) in
    let rest = numbered_from f g (a + 1) ends (λ k within. (let next : a + suc k ≡ a + 1 + k = omega arith in subst (λ (n : ℕ). f (n, get_or ends k 0) ≡ g
    n) next (same (suc k) (omega (arith, within))))) in
    ap (λ text. text ++ flat_map f (enumerate_from (a + 1) ends)) here ∙ ap (λ text. g a ++ text) rest

-- ticks that tell when periods were done make these lines
pub mets_by : (scale : ℕ) (s : SetContents) (rows : List Row) (j : ℕ) (t : Task) (ends : List ℕ) → task_at s.tasks j ≡ t → length ends ≡ ended_count s t →
    IsDoneBy scale t j rows ends
    → flat_map (line_of_met t.name) (enumerate_from 0 ends) ≡ text_of (mets_of_task scale s rows (j, t))
mets_by scale s rows j t ends place count done =
    let told : (k : ℕ) → k < length ends → line_of_met t.name (0 + k, get_or ends k 0) ≡ met_of scale s rows j t.name (0 + k) =
    λ k within. (
    let at : k ≡ 0 + k = omega arith in
    let own : get_or ends k 0 ≡ finish scale s rows j k = subst (λ (u : Task). get_or ends k 0 ≡ finish_of scale rows j u k) (sym place) (done k within) in
    subst (λ (n : ℕ). line_of_met t.name (n, get_or ends k 0) ≡ met_of scale s rows j t.name n) at (ap (λ (n : ℕ). line_of_met t.name (k, n)) own)) in
    numbered_from (line_of_met t.name) (met_of scale s rows j t.name) 0 ends told
    ∙ ap (λ n. flat_map (met_of scale s rows j t.name) (range_with_len 0 n)) count
    ∙ sym (mets_are scale s rows j t)

-- the tick of period k, numbered
pub numbered_end : (ends : List ℕ) (k : ℕ) → k < length ends → (k, get_or ends k 0) ≡ get_or (enumerate_from 0 ends) k (k, get_or ends k 0)
numbered_end ends k within =
    let e = get_or ends k 0 in
    let zero_more : 0 + k ≡ k = omega arith in
    sym (get_or-enumerate_from 0 ends k (k, e) within ∙ ap (λ n. (n, get_or ends k e)) zero_more ∙ ap (λ u. (k, u)) (sym (get_or_default ends k 0 e within)))

-- the lines of task j, by its place
pub mets_told : (scale : ℕ) (s : SetContents) (rows : List Row) (f : List (List ℕ)) (j : ℕ) (t : Task) → HaveRoom s f → j < length s.tasks →
    t ≡ get_or s.tasks j t → AreDoneBy scale s.tasks rows f
    → flat_map (line_of_met t.name) (enumerate_from 0 (ends_of f j)) ≡ text_of (mets_of_task scale s rows (j, t))
mets_told scale s rows f j t room within at done =
    let place : task_at s.tasks j ≡ t = get_or_default s.tasks j no_task t within ∙ sym at in
    let count : length (ends_of f j) ≡ ended_count s t = room_at s f j room within ∙ ap (ended_count s) place in
    mets_by scale s rows j t (ends_of f j) place count (subst (λ (u : Task). IsDoneBy scale u j rows (ends_of f j)) place (done j within))
