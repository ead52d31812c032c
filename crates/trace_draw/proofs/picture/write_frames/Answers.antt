use Rattle.std.proofs.Common.{ℕ, ◌*◌, ◌^◌, ◌≡◌, ◌<◌, ◌≤◌, ◌∙◌, true, Fits, w64, List, length, subst, sym, le_refl, arith}
use Rattle.sched_base.specs.declared.rows.Row.{Row}
use Rattle.trace_verdict.specs.Faults.{row_at}
use Rattle.trace_draw.specs.ShownUnits.{reaches}
use Rattle.trace_draw.proofs.PictureLemmas.{framed_past, framed_apart, framed_shown}
use Rattle.trace_draw.proofs.WriteLemmas.{wrote_none}
use Rattle.trace_draw.proofs.picture.write_frames.Goals as goal

offset_fits : (i rows : ℕ) → i < rows → rows < 2 ^ 32 → Fits w64 (i * 48)
offset_fits i rows a b = omega arith

pub returns-then-i-rows-clause-wrote : goal.returns-then-i-rows-clause-wrote
returns-then-i-rows-clause-wrote g c =
    let past = subst (λ rows. length rows ≤ c.args.i) c.rows-rows.ensures.value c.if-i-rows.true in
    rw (framed_past c.args.scene.now.trace.now c.args.scene.now.window.now c.args.i past) (wrote_none _ _)

pub returns-then-i-rows-clause-cause : goal.returns-then-i-rows-clause-cause
returns-then-i-rows-clause-cause g c = record { later = le_refl _; failed = tt }

pub returns-then-not-reaches-clause-cause : goal.returns-then-not-reaches-clause-cause
returns-then-not-reaches-clause-cause g c = record { later = le_refl _; failed = tt }

pub returns-clause-cause : goal.returns-clause-cause
returns-clause-cause g c = c.write_lines.ensures.cause

pub reaches-requires : goal.reaches-requires
reaches-requires g c = c.requires.window

pub place-x-requires : goal.place-x-requires
place-x-requires g c = c.requires.window

pub span-width-requires : goal.span-width-requires
span-width-requires g c = c.requires.window

pub offset_bounds-rows-i : goal.offset_bounds-rows-i
offset_bounds-rows-i g c =
    offset_fits c.args.i (length c.args.scene.now.trace.now.rows) (subst (λ (rows : List Row). c.args.i < length rows) c.rows-rows.ensures.value
    c.if-i-rows.false) c.rows-rows.ensures.lawful.few

pub bounds-rows-i : goal.bounds-rows-i
bounds-rows-i g c = c.if-i-rows.false

pub returns-then-not-reaches-clause-wrote : goal.returns-then-not-reaches-clause-wrote
returns-then-not-reaches-clause-wrote g c =
    rw (framed_apart c.args.scene.now.trace.now c.args.scene.now.window.now c.rows-rows.result.now c.args.i c.reaches.result c.rows-rows.ensures.value
    c.reaches.ensures c.if-not-reaches.true) (wrote_none _ _)

pub returns-clause-wrote : goal.returns-clause-wrote
returns-clause-wrote g c =
    let t = c.args.scene.now.trace.now in
    let w = c.args.scene.now.window.now in
    let i = c.args.i in
    let value = c.rows-rows.ensures.value in
    let within = subst (λ (rows : List Row). i < length rows) value c.if-i-rows.false in
    let is = subst (λ (rows : List Row). reaches w (row_at rows i) ≡ true) value (sym c.reaches.ensures ∙ c.if-not-reaches.false) in
    let wrote = rw (c.frame_lines.ensures, c.place-x.ensures.value, c.span-width.ensures.value, c.set.ensures, value) at c.write_lines.ensures.wrote in
    rw (framed_shown t w i within is) wrote
