use Rattle.std.proofs.Common.{refl, length-append}
use Rattle.trace_draw.specs.Head.{units_text}
use Rattle.trace_draw.proofs.head.caption_lines.Goals as goal

pub returns : goal.returns
returns c =
    rw (
      c.paper_line.ensures,
      c.label_line.ensures,
      c.sized_line.ensures,
      c.sized_line-2.ensures,
      c.label_line-2.ensures,
      c.grown-size.ensures.look,
      c.as_slice.ensures.bytes,
      c.as_slice-2.ensures.bytes,
      c.as_slice-3.ensures.bytes,
      c.as_slice-4.ensures.bytes,
      c.as_slice-5.ensures.bytes,
      c.as_slice-6.ensures.bytes,
      c.size_text.ensures.text,
      c.shown_text-shown.ensures.text,
      c.scale_text-scale.ensures.text,
      c.verdict_look.ensures.look,
      c.verdict_text.ensures.text,
      length-append (units_text c.args.set.now c.args.window.now) c.args.hint.now,
    ) refl

pub shown_text-shown-requires-clause-window : goal.shown_text-shown-requires-clause-window
shown_text-shown-requires-clause-window c = c.requires.window
