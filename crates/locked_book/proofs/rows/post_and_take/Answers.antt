use Rattle.std.proofs.Common.{◌≡◌, true, ap, sym, ◌∙◌, subst}
use Rattle.book_machine.specs.Machine.{posted_at}
use Rattle.exec_book.specs.Books.{BookContents}
use Rattle.locked_book.specs.Found.{StandsAt}
use Rattle.locked_book.proofs.FoundLemmas.{no_side}
use Rattle.locked_book.proofs.LookLemmas.{IsPosted, busy_job, gives_after_post, posted}
use Rattle.locked_book.proofs.rows.post_and_take.Goals as goal
use Rattle.locked_book.proofs.rows.post_and_take.Goals.{After-deref_mut-held, After-post}

found : (g : _) (c : After-deref_mut-held g) → StandsAt c.args.work.now.plan.now c.deref_mut-held.result.now c.args.seat.now true
found g c = subst (λ b. StandsAt c.args.work.now.plan.now b c.args.seat.now true) (sym c.deref_mut-held.ensures.value) c.lock_at-guard.ensures

-- the row is posted
is_posted : (g : _) (c : After-post g) → IsPosted c.deref_mut-held.result.now.state c.post.new.self.state c.lane-lane.result
is_posted g c = posted c.deref_mut-held.result.now.state c.post.new.self.state c.lane-lane.result c.post.ensures.book.out.0
    (ap (λ (b : BookContents g.row.J.Denot). b.state) c.post.ensures.book.book)

pub lock_at-guard-requires : goal.lock_at-guard-requires
lock_at-guard-requires g c = record { agreed = c.requires.agreed }

pub post-requires-clause-out : goal.post-requires-clause-out
post-requires-clause-out g c = rw c.lane-lane.ensures (found g (goal.at.post-requires-clause-out g c).After-deref_mut-held).out_is

pub post-requires-clause-seat : goal.post-requires-clause-seat
post-requires-clause-seat g c =
    let state = c.deref_mut-held.result.now.state in
    let own = c.lane-lane.ensures in
    let count : c.args.seat.now.posted ≡ posted_at state c.lane-lane.result =
    sym (found g (goal.at.post-requires-clause-seat g c).After-deref_mut-held).count ∙ ap (λ n. posted_at state n) (sym own) in
    λ i. record { lane = sym own i; posted = count i }

pub post-requires-clause-job : goal.post-requires-clause-job
post-requires-clause-job g c =
    busy_job g.J.Job.id g.J.Job.used g.J.Job.made g.Q.PostLedger.made c.args.work.now.plan.now _ c.args.seat.now c.requires.worked.0 c.args.job
    c.lane-lane.result
    (found g (goal.at.post-requires-clause-job g c).After-deref_mut-held) c.requires.worked.1 c.lane-lane.ensures

pub take_next-next-requires-clause-open : goal.take_next-next-requires-clause-open
take_next-next-requires-clause-open g c none =
    (found g (goal.at.take_next-next-requires-clause-open g c).After-deref_mut-held).undismissed
    (no_side _ (sym (ap (λ (b : BookContents g.row.J.Denot). b.side) (c.woken-woken.ensures ∙ c.post.ensures.book.book)) ∙ none))

pub take_next-next-requires-clause-free : goal.take_next-next-requires-clause-free
take_next-next-requires-clause-free g c = rw c.woken-woken.ensures (is_posted g (goal.at.take_next-next-requires-clause-free g c).After-post).free

pub take_next-next-requires-clause-lane : goal.take_next-next-requires-clause-lane
take_next-next-requires-clause-lane g c = rw c.woken-woken.ensures (is_posted g (goal.at.take_next-next-requires-clause-lane g c).After-post).within

pub returns-clause-seat : goal.returns-clause-seat
returns-clause-seat g c = c.post.ensures.seat

pub returns-clause-gives : goal.returns-clause-gives
returns-clause-gives g c =
    let held = c.deref_mut-held.result.now in
    let at = found g (goal.at.returns-clause-gives g c).After-deref_mut-held in
    gives_after_post g.J.Job.id g.J.Job.used g.J.Job.made g.Q.PostLedger.made c.args.work.now.plan.now c.args.seat.now c.post.new.seat c.lane-lane.result
    held.state c.post.new.self c.take_next-next.new.self c.take_next-next.result
    (ap (λ (b : BookContents g.row.J.Denot). b.plan) c.post.ensures.book.book ∙ at.plan) c.lane-lane.ensures at.count c.post.ensures.seat
    (is_posted g (goal.at.returns-clause-gives g c).After-post) (rw (← c.woken-woken.ensures) c.take_next-next.ensures.says)
