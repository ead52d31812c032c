-- The stretch of time that a picture shows, and where its ticks lie. Lengths are tenths of a pixel.
use Rattle.std.specs.Prelude.{ℕ, zero, suc, ◌+◌, ◌-◌, ◌*◌, ◌/◌, ◌^◌, ◌<◌, ◌≤◌, nat_le, nat_lt, min, max}
use Rattle.std.specs.Prelude.{Bool, ◌&&◌, if◌then◌else◌, Option, Some, None, List, filter, length}
use Rattle.sched_base.specs.declared.rows.Row.{Row}
use Rattle.sched_base.specs.Sets.{SetContents}
use Rattle.trace_check.specs.Traces.{Trace}
use Rattle.trace_draw.specs.declared.shown_units.ShownUnits.{ShownUnits}
use Rattle.command_words.specs.declared.asking.Asked.{Asked}

-- where the plot begins
abbrev pub plot_left : ℕ
plot_left = 1900

-- how wide it is
abbrev pub plot_width : ℕ
plot_width = 9700

-- the first tick of the window
abbrev pub first_tick : ShownUnits → ℕ
first_tick w = w.from * w.scale

-- the tick at which it ends
abbrev pub end_tick : ShownUnits → ℕ
end_tick w = (w.from + w.units) * w.scale

-- whether the row has a tick in it
abbrev pub reaches : ShownUnits → Row → Bool
reaches w r = nat_lt r.start (end_tick w) && nat_lt (first_tick w) r.end

-- how far from the left a tick lies; one outside of the window lies at its nearer edge
abbrev pub place : ShownUnits → ℕ → ℕ
place w tick = plot_left + (min (max tick (first_tick w)) (end_tick w) - first_tick w) * plot_width / (w.units * w.scale)

-- the width of what goes from tick a to tick b: narrow things can still be seen
abbrev pub span : ShownUnits → ℕ → ℕ → ℕ
span w a b = max (place w b - place w a) 6

-- some units of at least one tick, which fit
pub record AreShownUnits (w : ShownUnits) : Type 0 where
  pub some_scale : 0 < w.scale
  pub scale_fits : w.scale ≤ 2 ^ 94
  pub some : 1 ≤ w.units
  pub fits : w.from + w.units < 2 ^ 32

-- the first unit: the last one of the schedule, where the asked one isn't in it
abbrev pub first_unit : SetContents → Asked → ℕ
first_unit s a = min a.from (s.horizon - 1)

-- the most units, of those left up to the horizon
abbrev pub most_units : ℕ → Option ℕ → ℕ
most_units left None = left
most_units left (Some asked) = min asked left

-- the most rows that are drawn
abbrev pub most_drawn : ℕ
most_drawn = 20_000

-- the most rows that reach into a window of some units
abbrev pub most_rows : Option ℕ → ℕ
most_rows None = 200
most_rows (Some asked) = most_drawn

-- how many rows reach into it
abbrev pub count_reaching : ShownUnits → List Row → ℕ
count_reaching w rows = length (filter (reaches w) rows)

-- the window of so many units
abbrev pub window_of_units : Trace → Asked → ℕ → ShownUnits
window_of_units t a n = record { scale = t.scale; from = first_unit t.set a; units = n }

-- whether no more rows than that reach into it
abbrev pub has_few : Trace → Asked → ℕ → Bool
has_few t a n = nat_le (count_reaching (window_of_units t a n) t.rows) (most_rows a.units)

-- the greatest positive number up to n that passes the test, and 1 where none does
abbrev pub greatest_passing : (ℕ → Bool) → ℕ → ℕ
greatest_passing test zero = 1
greatest_passing test (suc n) = if test (suc n) then suc n else greatest_passing test n

-- the window that is shown
unfoldable pub shown_window : Trace → Asked → ShownUnits
shown_window t a = window_of_units t a (greatest_passing (has_few t a) (most_units (t.set.horizon - first_unit t.set a) a.units))
