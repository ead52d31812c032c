use Rattle.std.proofs.Common.{◌∙◌, ◌*◌, ap, length, sym}
use Rattle.std.proofs.lemmas.Result.{IfOk-from_err}
use Rattle.part_rounds.proofs.SourceLemmas.{up_to}
use Rattle.part_rounds.proofs.sources.part_rounds.Goals as goal

pub returns-in_err-shows-clause-belongs : goal.returns-in_err-shows-clause-belongs
returns-in_err-shows-clause-belongs c = IfOk-from_err _ _ c.from_residual.ensures.0

pub returns-in_err-shows-clause-part : goal.returns-in_err-shows-clause-part
returns-in_err-shows-clause-part c = IfOk-from_err _ _ c.from_residual.ensures.0

pub returns-in_err-shows-clause-first : goal.returns-in_err-shows-clause-first
returns-in_err-shows-clause-first c = IfOk-from_err _ _ c.from_residual.ensures.0

pub returns-in_err-core-clause-belongs : goal.returns-in_err-core-clause-belongs
returns-in_err-core-clause-belongs c = IfOk-from_err _ _ c.from_residual-in_err-core.ensures.0

pub returns-in_err-core-clause-part : goal.returns-in_err-core-clause-part
returns-in_err-core-clause-part c = IfOk-from_err _ _ c.from_residual-in_err-core.ensures.0

pub returns-in_err-core-clause-first : goal.returns-in_err-core-clause-first
returns-in_err-core-clause-first c = IfOk-from_err _ _ c.from_residual-in_err-core.ensures.0

pub keep_rounds-requires-clause-part : goal.keep_rounds-requires-clause-part
keep_rounds-requires-clause-part c = c.requires.part

pub returns-in_err-kept-clause-belongs : goal.returns-in_err-kept-clause-belongs
returns-in_err-kept-clause-belongs c = IfOk-from_err _ _ c.from_residual-in_err-kept.ensures.0

pub returns-in_err-kept-clause-part : goal.returns-in_err-kept-clause-part
returns-in_err-kept-clause-part c = IfOk-from_err _ _ c.from_residual-in_err-kept.ensures.0

pub returns-in_err-kept-clause-first : goal.returns-in_err-kept-clause-first
returns-in_err-kept-clause-first c = IfOk-from_err _ _ c.from_residual-in_err-kept.ensures.0

pub coming_again-requires-clause-part : goal.coming_again-requires-clause-part
coming_again-requires-clause-part c = c.requires.part

pub coming_again-requires-clause-can : goal.coming_again-requires-clause-can
coming_again-requires-clause-can c = c.in-Some.ensures.can

pub coming_again-requires-clause-turns : goal.coming_again-requires-clause-turns
coming_again-requires-clause-turns c = c.in-Some.ensures.turns

pub coming_again-requires-clause-within : goal.coming_again-requires-clause-within
coming_again-requires-clause-within c = c.in-Some.ensures.within

pub coming_again-requires-clause-kept : goal.coming_again-requires-clause-kept
coming_again-requires-clause-kept c = c.in_ok-kept.ensures.kept

pub coming_again-requires-clause-end : goal.coming_again-requires-clause-end
coming_again-requires-clause-end c =
    c.in_ok-kept.ensures.end ∙ ap (λ n. n * c.args.part.factor) (sym c.now.ensures.value ∙ c.if-now-turn.true)

pub returns-then-now-turn-clause-belongs : goal.returns-then-now-turn-clause-belongs
returns-then-now-turn-clause-belongs c = c.coming_again.ensures.belongs

pub returns-then-now-turn-clause-part : goal.returns-then-now-turn-clause-part
returns-then-now-turn-clause-part c = c.coming_again.ensures.part

pub returns-then-now-turn-clause-first : goal.returns-then-now-turn-clause-first
returns-then-now-turn-clause-first c = c.coming_again.ensures.first

pub returns-in_err-core-2-clause-belongs : goal.returns-in_err-core-2-clause-belongs
returns-in_err-core-2-clause-belongs c = IfOk-from_err _ _ c.from_residual-in_err-core-2.ensures.0

pub returns-in_err-core-2-clause-part : goal.returns-in_err-core-2-clause-part
returns-in_err-core-2-clause-part c = IfOk-from_err _ _ c.from_residual-in_err-core-2.ensures.0

pub returns-in_err-core-2-clause-first : goal.returns-in_err-core-2-clause-first
returns-in_err-core-2-clause-first c = IfOk-from_err _ _ c.from_residual-in_err-core-2.ensures.0

pub computed-requires-clause-part : goal.computed-requires-clause-part
computed-requires-clause-part c = c.requires.part

pub returns-clause-belongs : goal.returns-clause-belongs
returns-clause-belongs c = c.computed.ensures.belongs

pub returns-clause-part : goal.returns-clause-part
returns-clause-part c = c.computed.ensures.part

pub returns-clause-first : goal.returns-clause-first
returns-clause-first c = c.computed.ensures.first

pub keep_rounds-requires-clause-belongs : goal.keep_rounds-requires-clause-belongs
keep_rounds-requires-clause-belongs c = c.in_ok-core.ensures.1

pub keep_rounds-requires-clause-first : goal.keep_rounds-requires-clause-first
keep_rounds-requires-clause-first c = c.in_ok-core.ensures.0

pub keep_rounds-requires-clause-until : goal.keep_rounds-requires-clause-until
keep_rounds-requires-clause-until c = up_to c.in-Some.turn _ c.in-Some.ensures.within

pub keep_rounds-requires-clause-long : goal.keep_rounds-requires-clause-long
keep_rounds-requires-clause-long c = ap length c.deref_mut.ensures.value ∙ c.in_ok-shows.ensures

pub computed-requires-clause-belongs : goal.computed-requires-clause-belongs
computed-requires-clause-belongs c = c.in_ok-core-2.ensures.1

pub computed-requires-clause-first : goal.computed-requires-clause-first
computed-requires-clause-first c = c.in_ok-core-2.ensures.0
