use Rattle.merged_rounds.proofs.sources.Source.go_telling.Goals as goal

pub go_telling-end-requires-clause-belongs : goal.go_telling-end-requires-clause-belongs
go_telling-end-requires-clause-belongs c = c.requires.belongs.again c.if-self.true

pub go_telling-end-requires-clause-early : goal.go_telling-end-requires-clause-early
go_telling-end-requires-clause-early c = c.requires.early

pub go_telling-end-requires-clause-room : goal.go_telling-end-requires-clause-room
go_telling-end-requires-clause-room c = c.requires.room

pub go_telling-count-requires-clause-belongs : goal.go_telling-count-requires-clause-belongs
go_telling-count-requires-clause-belongs c = (c.requires.belongs.computed c.if-self.false).belongs

pub go_telling-count-requires-clause-room : goal.go_telling-count-requires-clause-room
go_telling-count-requires-clause-room c = c.requires.room

pub returns-then-self-clause-round : goal.returns-then-self-clause-round
returns-then-self-clause-round c = c.go_telling-end.ensures.round

pub returns-then-self-clause-within : goal.returns-then-self-clause-within
returns-then-self-clause-within c = c.go_telling-end.ensures.within

pub returns-then-self-clause-processors : goal.returns-then-self-clause-processors
returns-then-self-clause-processors c = c.go_telling-end.ensures.processors

pub returns-then-self-clause-others : goal.returns-then-self-clause-others
returns-then-self-clause-others c = λ q start none l away _ round. c.go_telling-end.ensures.others q start none l away round

pub returns-else-self-clause-within : goal.returns-else-self-clause-within
returns-else-self-clause-within c = c.go_telling-count.ensures.within

pub returns-else-self-clause-processors : goal.returns-else-self-clause-processors
returns-else-self-clause-processors c = c.go_telling-count.ensures.processors
