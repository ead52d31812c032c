use Rattle.std.proofs.Common.{◌≡◌, ◌∙◌, ap, arith, true, false}
use Rattle.book_machine.specs.Machine.{least_posted}
use Rattle.book_machine.proofs.Lanes.{least_le}
use Rattle.book_machine.proofs.machine.MachineState.is_due.Goals as goal

pub overflow_sub-round : goal.overflow_sub-round
overflow_sub-round c =
    let least : c.self.inside.least ≡ least_posted c.args.self.now = c.self.invariant.least_is ∙ ap least_posted c.self.view_is in
    let low = least_le c.args.self.now.lanes c.args.p c.requires.lane in
    omega (arith, c.posted-round.ensures, least, low)

pub returns-then-round-self : goal.returns-then-round-self
returns-then-round-self c =
    let least : c.self.inside.least ≡ least_posted c.args.self.now = c.self.invariant.least_is ∙ ap least_posted c.self.view_is in
    let low = least_le c.args.self.now.lanes c.args.p c.requires.lane in
    let far = c.if-round-self.true in (
      λ never. absurd (let e : false ≡ true = never in cc),
      λ due. absurd (let near = due.in_window in omega (arith, c.posted-round.ensures, least, low, far, near)),
    )
