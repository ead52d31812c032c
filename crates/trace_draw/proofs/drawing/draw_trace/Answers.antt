use Rattle.std.proofs.Common.{refl}
use Rattle.trace_draw.specs.ShownUnits.{shown_window}
use Rattle.trace_draw.specs.Picture.{picture}
use Rattle.trace_draw.proofs.drawing.draw_trace.Goals as goal

pub returns-clause-wrote : goal.returns-clause-wrote
returns-clause-wrote g c =
    let t = c.args.trace.now in
    let v = c.check_trace.result in (
      picture t (shown_window t c.args.asked.now) v,
      (v, c.check_trace.ensures.verdict, refl),
      rw c.shown_window-window.ensures.value at
          c.write_picture.ensures.wrote,
    )
