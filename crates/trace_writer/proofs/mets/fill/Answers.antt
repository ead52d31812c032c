use Rattle.std.proofs.Common.{◌≡◌, ◌-◌, ◌<◌, inl, inr, length, get_or, arith, eq-zero-or-pos}
use Rattle.std.specs.List.{enumerate_from}
use Rattle.std.proofs.lemmas.List.FromFn.{length-enumerate_from}
use Rattle.trace_writer.specs.Parts.{line_of_met}
use Rattle.trace_writer.proofs.MetLemmas.{numbered_end}
use Rattle.trace_writer.proofs.PageLemmas.{page_more, page_none}
use Rattle.trace_writer.proofs.mets.fill.Goals as goal

pub returns-then-len-gt-FULL-clause-later : goal.returns-then-len-gt-FULL-clause-later
returns-then-len-gt-FULL-clause-later c =
    let (so_far, begun) = c.loop-k.invariant in
    let many = c.len.ensures in
    let long = c.if-len-gt-FULL.true in
    elim (eq-zero-or-pos (c.loop-k.k - c.args.first)) [
      | inl z ↦ (
          let same : c.loop-k.k ≡ c.args.first = omega (arith, z, begun) in
          let none = page_none (line_of_met c.args.name.now) (enumerate_from 0 c.args.ends.now) c.args.first c.loop-k.k c.loop-k.page so_far same in
          absurd (omega (arith, none, many, long))
          )
      | inr g ↦ omega (arith, g)
    ]

pub loop-k-preserved : goal.loop-k-preserved
loop-k-preserved c =
    let ends = c.args.ends.now in
    let k = c.loop-k.k in
    let (so_far, begun) = c.loop-k.invariant in
    let within : k < length ends = omega (arith, c.loop-k-test.true) in
    let among : k < length (enumerate_from 0 ends) = omega (arith, within, length-enumerate_from 0 ends) in
    let more = page_more (line_of_met c.args.name.now) (enumerate_from 0 ends) k (k, get_or ends k 0) _ c.loop-k.page among (numbered_end ends k within)
    so_far in
    (rw c.add_met.ensures more, omega (arith, begun))
