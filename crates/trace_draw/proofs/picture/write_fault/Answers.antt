use Rattle.std.proofs.Common.{◌+◌, length, ap, ◌∙◌, le_refl}
use Rattle.trace_draw.proofs.PictureLemmas.{fault_framed, fault_before}
use Rattle.trace_draw.proofs.WriteLemmas.{wrote_none}
use Rattle.trace_draw.proofs.picture.write_fault.Goals as goal

pub returns-in-Valid-clause-wrote : goal.returns-in-Valid-clause-wrote
returns-in-Valid-clause-wrote g c = rw c.in-Valid.is (wrote_none _ _)

pub returns-in-Some-clause-wrote : goal.returns-in-Some-clause-wrote
returns-in-Some-clause-wrote g c =
    let first = ap (λ n. 6 + n) (c.from-first.ensures ∙ c.count.ensures.value ∙ ap (λ s. length s.tasks) c.set.ensures) in
    let framed = fault_framed c.args.scene.now.trace.now c.args.scene.now.window.now c.in-Fault.line c.in-Fault.kind (6 + c.from-first.result) c.in-Some.i
    first c.in-Some.ensures.0 c.in-Some.ensures.1 in
    rw (c.in-Fault.is, framed) c.write_frames.ensures.wrote

pub returns-in-None-clause-wrote : goal.returns-in-None-clause-wrote
returns-in-None-clause-wrote g c =
    let first = ap (λ n. 6 + n) (c.from-first.ensures ∙ c.count.ensures.value ∙ ap (λ s. length s.tasks) c.set.ensures) in
    let none = fault_before c.args.scene.now.trace.now c.args.scene.now.window.now c.in-Fault.line c.in-Fault.kind (6 + c.from-first.result) first
    c.in-None.ensures in
    rw (c.in-Fault.is, none) (wrote_none _ _)

pub returns-in-Valid-clause-cause : goal.returns-in-Valid-clause-cause
returns-in-Valid-clause-cause g c = record { later = le_refl _; failed = tt }

pub returns-in-Some-clause-cause : goal.returns-in-Some-clause-cause
returns-in-Some-clause-cause g c = c.write_frames.ensures.cause

pub returns-in-None-clause-cause : goal.returns-in-None-clause-cause
returns-in-None-clause-cause g c = record { later = le_refl _; failed = tt }

pub write_frames-requires : goal.write_frames-requires
write_frames-requires g c = record { window = c.requires.window }
