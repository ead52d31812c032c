use Rattle.std.proofs.Common.{◌∷◌, ◌++◌, [], Some, ap, ◌∙◌, arith}
use Rattle.sched_edges.specs.Jobs.{JobPlaces}
use Rattle.sched_edges.proofs.job_list.JobList.add.Goals as goal

pub push_reserved-requires : goal.push_reserved-requires
push_reserved-requires g c =
    let room = ap (λ (s : JobPlaces g.row.J.Denot). s.room) c.self.view_is in
    omega (arith, room, c.requires, c.self.invariant.1)

pub overflow_sub-self : goal.overflow_sub-self
overflow_sub-self g c =
    let room = ap (λ (s : JobPlaces g.row.J.Denot). s.room) c.self.view_is in
    omega (arith, room, c.requires)

pub invariant_of-self : goal.invariant_of-self
invariant_of-self g c =
    let room = ap (λ (s : JobPlaces g.row.J.Denot). s.room) c.self.view_is in
    let one = c.push_reserved.ensures.len in
    (omega (arith, room, one, c.requires, c.self.invariant.0), omega (arith, room, one, c.requires, c.push_reserved.ensures.capacity, c.self.invariant.1))

pub returns-clause-places : goal.returns-clause-places
returns-clause-places g c = c.push_reserved.ensures.items ∙ ap (λ (s : JobPlaces g.row.J.Denot). s.places ++ Some c.args.job ∷ []) c.self.view_is

pub returns-clause-room : goal.returns-clause-room
returns-clause-room g c =
    let room = ap (λ (s : JobPlaces g.row.J.Denot). s.room) c.self.view_is in
    omega (arith, room, c.requires)
