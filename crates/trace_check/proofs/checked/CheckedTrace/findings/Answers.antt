use Rattle.trace_check.specs.Traces.{Trace}
use Rattle.trace_check.proofs.CheckedLemmas.{found_in_trace, told_of_trace}
use Rattle.trace_check.proofs.checked.CheckedTrace.findings.Goals as goal

pub index-requires : goal.index-requires
index-requires c =
    let i = c.self.inside in
    let t : Trace = record { set = i.set; scale = i.scale; rows = i.rows } in
    found_in_trace t c.args.self.now i.judged.found.items i.judged.verdict c.args.task i.judged.found.len c.self.view_is c.self.invariant c.requires.task
    c.requires.valid i.judged.found.ok.0

pub returns-clause-told : goal.returns-clause-told
returns-clause-told c =
    let i = c.self.inside in
    let t : Trace = record { set = i.set; scale = i.scale; rows = i.rows } in
    told_of_trace t c.args.self.now i.judged.found.items i.judged.verdict c.args.task c.index.result.now c.self.view_is c.self.invariant c.requires.task
    c.requires.valid c.index.ensures
