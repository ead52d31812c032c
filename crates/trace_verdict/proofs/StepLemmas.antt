-- What a task's walk keeps to as a row more goes by.
use Rattle.std.proofs.Common.{ℕ, ◌+◌, ◌<◌, ◌≤◌, ◌≡◌, ◌^◌, true, false, Bool, Fits, w64, List, length, map, get_or, ap, sym, subst, arith}
use Rattle.std.proofs.lemmas.List.{length-map}
use Rattle.sched_base.specs.Counting.{bit}
use Rattle.sched_base.specs.declared.rows.Row.{Row}
use Rattle.sched_base.specs.Sets.{SetContents}
use Rattle.trace_verdict.specs.declared.short_walks.ShortWalk.{ShortWalk}
use Rattle.trace_verdict.specs.declared.task_walks.TaskWalk.{TaskWalk}
use Rattle.trace_verdict.specs.ShortWalks.{wide_of}
use Rattle.trace_verdict.specs.Supplied.{StandsAt}
use Rattle.trace_verdict.specs.Timed.{walk_of, IsPaced, HasGone, AreGoing}
use Rattle.trace_verdict.proofs.NearLemmas.{in_time, gone_few}

-- it stands where it may go on
pub step_stands : (rows : List Row) (j : ℕ) (t : TaskWalk) → HasGone rows j t → t.count < t.limit → StandsAt t.periods (walk_of t)
step_stands rows j t g room = g.ready.stands (in_time rows j t g room)

-- the period that is kept is that of the last row
pub step_paced : (rows : List Row) (j : ℕ) (t : TaskWalk) → HasGone rows j t → 0 < t.count → IsPaced t
step_paced rows j t g some = (let had = g.count in g.paced (omega (arith, had, some)))

-- no more ticks are done than there were
pub step_small : (rows : List Row) (j : ℕ) (t : TaskWalk) (start : ℕ) → HasGone rows j t → t.count < t.limit → t.tick ≤ start → t.done ≤ start
step_small rows j t start g room apart = (let s = step_stands rows j t g room in let small = s.small in omega (arith, small, apart))

-- no row that ends in time is past the numbers of 127 bits
pub step_fits : (rows : List Row) (j : ℕ) (t : TaskWalk) (end : ℕ) → HasGone rows j t → end ≤ t.periods.stop → end < 2 ^ 127
step_fits rows j t end g ends = (let fits = g.ready.lawful.fits in omega (arith, fits, ends))

-- few preemptions were counted
pub step_preempted : (rows : List Row) (j : ℕ) (t : TaskWalk) → HasGone rows j t → 0 < t.count → t.count < 2 ^ 32 → t.found.preemptions < 2 ^ 63
step_preempted rows j t g some few = (let most = (gone_few rows j t g (omega (arith, some))).0 in omega (arith, most, few))

-- few migrations were counted
pub step_moved : (rows : List Row) (j : ℕ) (t : TaskWalk) → HasGone rows j t → 0 < t.count → t.count < 2 ^ 32 → t.found.migrations < 2 ^ 63
step_moved rows j t g some few = (let most = (gone_few rows j t g (omega (arith, some))).1 in omega (arith, most, few))

-- some rows went by
pub some_gone : (n : ℕ) → (n ≡ 0 → ⊥) → 0 < n
some_gone n some = omega (arith, some)

-- a row that begins no sooner than the last one ends begins in the schedule
pub step_begun : (rows : List Row) (j : ℕ) (t : TaskWalk) (start : ℕ) → HasGone rows j t → t.count < t.limit → t.tick ≤ start → t.periods.base ≤ start
step_begun rows j t start g room apart = (let s = step_stands rows j t g room in let begun = s.begun in omega (arith, begun, apart))

-- rows went by of each task
pub going_each : (s : SetContents) (scale : ℕ) (rows : List Row) (walks items : List TaskWalk) → walks ≡ items → AreGoing s scale rows 0 items
    → (i : ℕ) (none : TaskWalk) → i < length walks → HasGone rows i (get_or walks i none)
going_each s scale rows walks items is g i none within =
    let size : length walks ≡ length items = ap length is in
    subst (λ ws. HasGone rows i (get_or ws i none)) (sym is) (g.each i none (omega arith) (omega (arith, size, within)))

-- and of each task whose walk is in numbers of 64 bits
pub short_each : (s : SetContents) (scale : ℕ) (rows : List Row) (walks items : List ShortWalk) → walks ≡ items → AreGoing s scale rows 0 (map wide_of items)
    → (i : ℕ) (none : TaskWalk) → i < length walks → HasGone rows i (get_or (map wide_of walks) i none)
short_each s scale rows walks items is g i none within =
    let size : length walks ≡ length items = ap length is in
    let wide = length-map items wide_of in
    subst (λ ws. HasGone rows i (get_or (map wide_of ws) i none)) (sym is) (g.each i none (omega arith) (omega (arith, size, wide, within)))

-- a row that ends by the end of the schedule begins before it
pub begins_early : (start end stop : ℕ) → start < end → end ≤ stop → start < stop
begins_early start end stop long ends = omega arith

-- a row begins no later than it ends
pub no_later : (start end : ℕ) → start < end → start ≤ end
no_later start end long = omega arith

-- a period that begins by a row's begin begins by its end
pub begins_by : (begin start end : ℕ) → begin ≤ start → start < end → begin ≤ end
begins_by begin start end begun long = omega arith

-- one more is counted, or none
pub counted_fits : (n m : ℕ) (b : Bool) → m ≡ bit b → n < 2 ^ 63 → Fits w64 (n + m)
counted_fits n m true is few = omega (arith, is)
counted_fits n m false is few = omega (arith, is)
