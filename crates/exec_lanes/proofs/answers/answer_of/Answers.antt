use Rattle.std.proofs.Common.{Ok, Err, refl, sym, ap, subst}
use Rattle.exec_lanes.specs.Rooms.{IsAnswerOf}
use Rattle.exec_lanes.proofs.answers.answer_of.Goals as goal

pub returns-in-Some : goal.returns-in-Some
returns-in-Some g c =
    subst (λ o. IsAnswerOf g.J.Job.used c.args.n c.args.jobs.now.places c.args.table c.args.posts o (Err c.with_posts.result)) (sym c.in-Some.is)
    (ap (λ f. Err f) c.with_posts.ensures)

pub push_totals-requires-clause-none : goal.push_totals-requires-clause-none
push_totals-requires-clause-none g c = c.requires.none

pub push_totals-requires-clause-room : goal.push_totals-requires-clause-room
push_totals-requires-clause-room g c = c.requires.room

pub push_totals-requires-clause-there : goal.push_totals-requires-clause-there
push_totals-requires-clause-there g c = c.requires.there

pub returns-in-None : goal.returns-in-None
returns-in-None g c =
    subst (λ o. IsAnswerOf g.J.Job.used c.args.n c.args.jobs.now.places c.args.table c.args.posts o
    (Ok (record { table = c.args.table; totals = c.push_totals.new.totals; posts = c.args.posts }))) (sym c.in-None.is)
    (refl, refl, c.push_totals.ensures.count, c.push_totals.ensures.ticks)
