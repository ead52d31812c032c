use Rattle.trace_verdict.proofs.SupplyLemmas.{seek_is}
use Rattle.std.proofs.Common.{◌∙◌}
use Rattle.trace_verdict.proofs.walks.Walk.ends.Goals as goal

pub gap_holds-requires-clause-lawful : goal.gap_holds-requires-clause-lawful
gap_holds-requires-clause-lawful c = c.requires.lawful

pub gap_holds-requires-clause-counted : goal.gap_holds-requires-clause-counted
gap_holds-requires-clause-counted c =
    let s = c.requires.stands in
    record {
      begun = s.begun;
      ordered = s.ends;
      fits = c.requires.lawful.fits;
      before = c.number-ended.ensures ∙ s.number;
      after = seek_is c.args.periods.now c.args.self.now.clock.base c.args.self.now.clock.span c.args.periods.now.stop c.seek-last.result s.base s.span
          c.seek-last.ensures.number;
    }
