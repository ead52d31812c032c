use Rattle.std.proofs.Common.{ap, not, sym, ◌∙◌}
use Rattle.std.proofs.lemmas.Bool.{not-true}
use Rattle.cpu_assign.proofs.PutLemmas.{put_note_noted, put_note_others, put_note_own}
use Rattle.cpu_assign.proofs.changes.put_and_note.Goals as goal

pub returns-clause-put : goal.returns-clause-put
returns-clause-put c = λ off. c.put_if-next.ensures.put (ap not (c.holds-waits.ensures ∙ off))

pub returns-clause-skip : goal.returns-clause-skip
returns-clause-skip c = λ on. c.put_if-next.ensures.skip (ap not (c.holds-waits.ensures ∙ on))

pub returns-clause-noted : goal.returns-clause-noted
returns-clause-noted c =
    put_note_noted c.args.onto.now c.args.last.now c.put_if-next.new.onto c.note_put.new.last c.args.i c.put_if-next.result (not c.holds-waits.result)
    c.requires.noted c.requires.pack
    (λ on. sym c.holds-waits.ensures ∙ not-true c.holds-waits.result on) c.put_if-next.ensures.put c.put_if-next.ensures.skip c.put_if-next.auto.onto
    c.note_put.auto.last
    c.put_if-next.ensures.below c.put_if-next.ensures.rest c.put_if-next.ensures.within c.note_put.ensures.noted c.note_put.ensures.same

pub returns-clause-others : goal.returns-clause-others
returns-clause-others c =
    put_note_others c.args.onto.now c.args.last.now c.put_if-next.new.onto c.note_put.new.last c.args.i c.put_if-next.result (not c.holds-waits.result)
    c.requires.noted c.requires.pack
    (λ on. sym c.holds-waits.ensures ∙ not-true c.holds-waits.result on) c.put_if-next.ensures.put c.put_if-next.ensures.skip c.put_if-next.auto.onto
    c.note_put.auto.last
    c.put_if-next.ensures.below c.put_if-next.ensures.rest c.put_if-next.ensures.within c.note_put.ensures.noted c.note_put.ensures.same

pub returns-clause-own : goal.returns-clause-own
returns-clause-own c =
    put_note_own c.args.onto.now c.args.last.now c.put_if-next.new.onto c.note_put.new.last c.args.i c.put_if-next.result (not c.holds-waits.result)
    c.requires.noted c.requires.pack
    (λ on. sym c.holds-waits.ensures ∙ not-true c.holds-waits.result on) c.put_if-next.ensures.put c.put_if-next.ensures.skip c.put_if-next.auto.onto
    c.note_put.auto.last
    c.put_if-next.ensures.below c.put_if-next.ensures.rest c.put_if-next.ensures.within c.note_put.ensures.noted c.note_put.ensures.same
