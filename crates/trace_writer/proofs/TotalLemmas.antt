-- Totals, one for each task, and their lines.
use Rattle.std.proofs.Common.{ℕ, suc, ◌+◌, ◌<◌, ◌≡◌, List, [], ◌∷◌, length, map, get_or, codes, refl, sym, ap, subst, ◌∙◌, arith}
use Rattle.std.specs.List.{flat_map, enumerate_from}
use Rattle.std.proofs.lemmas.List.FromFn.{get_or-enumerate_from, get_or-map-range_with_len, length-map-range_with_len}
use Rattle.std.proofs.lemmas.List.Folds.{flat_map-map}
use Rattle.sched_base.specs.declared.rows.Row.{Row}
use Rattle.sched_base.specs.declared.sets.Task.{Task}
use Rattle.sched_base.specs.Sets.{SetContents}
use Rattle.sched_base.specs.Tables.{IsTable, all_rows, ticks_in}
use Rattle.sched_edges.specs.Lines.{named_line}
use Rattle.row_totals.specs.Sums.{totals_of}
use Rattle.merged_rows.specs.Merging.{merged_lanes}
use Rattle.trace_format.specs.Text.{total_lines}
use Rattle.trace_writer.specs.Parts.{text_of, lines_of_totals}
use Rattle.merged_rows.proofs.MergeLemmas.{forward_lanes, ticks_merged_lanes}

-- the line of one task's total
abbrev pub total_line : List ℕ → ℕ × Task → List ℕ
total_line totals p = named_line (codes "total") p.1.name (get_or totals p.0 0)

pub total_lines_are : (tasks : List Task) (totals : List ℕ) → text_of (lines_of_totals tasks totals) ≡ flat_map (total_line totals) (enumerate_from 0 tasks)
total_lines_are tasks totals = flat_map-map (λ line. line) (total_line totals) (enumerate_from 0 tasks)

told_from : (a : ℕ) (tasks : List Task) (totals : List ℕ) (rows : List Row) → ((i : ℕ) → i < length tasks → get_or totals (a + i) 0 ≡ ticks_in (a + i) rows)
    → map (total_line totals) (enumerate_from a tasks) ≡ map (λ (p : ℕ × Task). named_line (codes "total") p.1.name (ticks_in p.0 rows))
    (enumerate_from a tasks)
told_from a [] totals rows same = refl
told_from a (t ∷ tasks) totals rows same =
    let e : a + 0 ≡ a = omega arith in
    let here : get_or totals a 0 ≡ ticks_in a rows = subst (λ (n : ℕ). get_or totals n 0 ≡ ticks_in n rows) e (same 0 (omega arith)) in
    let rest = told_from (a + 1) tasks totals rows (λ i within. (let f : a + suc i ≡ a + 1 + i = omega arith in
    subst (λ (n : ℕ). get_or totals n 0 ≡ ticks_in n rows) f (same (suc i) (omega (arith, within))))) in
    ap (λ n. named_line (codes "total") t.name n ∷ map (total_line totals) (enumerate_from (a + 1) tasks)) here
    ∙ ap (λ lines. named_line (codes "total") t.name (ticks_in a rows) ∷ lines) rest

-- the lines of totals that are the ticks of rows
pub told_are : (s : SetContents) (totals : List ℕ) (rows : List Row) → ((i : ℕ) → i < length s.tasks → get_or totals i 0 ≡ ticks_in i rows) →
    lines_of_totals s.tasks totals ≡ total_lines s rows
told_are s totals rows same = told_from 0 s.tasks totals rows (λ i within. (let e : i ≡ 0 + i = omega arith in
    subst (λ (n : ℕ). get_or totals n 0 ≡ ticks_in n rows) e (same i within)))

-- totals of merged rows
pub merged_told : (s : SetContents) (totals : List ℕ) (lanes : List (List Row)) → totals ≡ totals_of (length s.tasks) lanes → lines_of_totals s.tasks
    totals ≡ total_lines s (all_rows lanes)
merged_told s totals lanes is =
    told_are s totals (all_rows lanes)
    (λ i within. ap (λ ts. get_or ts i 0) is ∙ get_or-map-range_with_len (λ j. ticks_in j (all_rows lanes)) 0 (length s.tasks) i i 0 within (omega arith))

pub length-totals_of : (n : ℕ) (lanes : List (List Row)) → length (totals_of n lanes) ≡ n
length-totals_of n lanes = length-map-range_with_len (λ j. ticks_in j (all_rows lanes)) 0 n

-- a task with its number
pub numbered : (tasks : List Task) (i : ℕ) (t : Task) → i < length tasks → t ≡ get_or tasks i t → (i, t) ≡ get_or (enumerate_from 0 tasks) i (i, t)
numbered tasks i t within at =
    let zero_more : 0 + i ≡ i = omega arith in
    sym (get_or-enumerate_from 0 tasks i (i, t) within ∙ ap (λ n. (n, get_or tasks i t)) zero_more ∙ ap (λ u. (i, u)) (sym at))

pub total_at : (n : ℕ) (lanes : List (List Row)) (i : ℕ) → IsTable lanes → i < n → get_or (totals_of n lanes) i 0 ≡ ticks_in i (merged_lanes lanes)
total_at n lanes i table within =
    get_or-map-range_with_len (λ j. ticks_in j (all_rows lanes)) 0 n i i 0 within (omega arith) ∙ sym (ticks_merged_lanes i lanes (forward_lanes lanes table))

-- totals of a table
pub table_told : (s : SetContents) (totals : List ℕ) (lanes : List (List Row)) → IsTable lanes → totals ≡ totals_of (length s.tasks) lanes
    → lines_of_totals s.tasks totals ≡ total_lines s (merged_lanes lanes)
table_told s totals lanes table is = told_are s totals (merged_lanes lanes) (λ i within. ap (λ ts. get_or ts i 0) is ∙ total_at (length s.tasks) lanes i
    table within)
