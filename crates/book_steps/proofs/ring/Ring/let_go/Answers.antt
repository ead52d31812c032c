use Rattle.std.proofs.Common.{◌≡◌, ◌∙◌, drop, refl, ap, arith, add-one}
use Rattle.circular_buffer.specs.Buffer.{Buffer, buffer}
use Rattle.book_steps.proofs.HeldRounds.{drop_more}
use Rattle.book_steps.proofs.ring.Ring.let_go.Goals as goal

pub loop-row-init : goal.loop-row-init
loop-row-init c = refl

pub loop-row-preserved : goal.loop-row-preserved
loop-row-preserved c =
    let old = c.self.inside.rows in
    rw add-one (c.pop_front-first.ensures.items ∙ ap (λ (b : Buffer _). buffer (drop 1 b.items) b.capacity) c.loop-row.invariant
    ∙ ap (λ items. buffer items old.capacity) (drop_more c.loop-row._row old.items))

pub returns : goal.returns
returns c =
    let old = c.self.inside.rows in
    let end : c.loop-row._row ≡ c.args.count = let most = c.loop-row.auto._row-end in let past = c.loop-row-test.false in omega (arith, most, past) in
    rw (← c.self.view_is) (c.loop-row.invariant ∙ ap (λ n. buffer (drop n old.items) old.capacity) end)
