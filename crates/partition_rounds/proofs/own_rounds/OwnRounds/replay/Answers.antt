use Rattle.std.proofs.Common.{◌≡◌, ◌+◌, ◌∙◌, ap, arith, get_or, length, min}
use Rattle.sched_base.specs.declared.rows.Leaf.TheVariants.{Empty}
use Rattle.partition_rounds.proofs.OwnRoundLemmas.{again_first, again_next, again_round, end_fits, shift_fits, was_read}
use Rattle.partition_rounds.proofs.own_rounds.OwnRounds.replay.Goals as goal

pub overflow_add-index : goal.overflow_add-index
overflow_add-index c =
    let r = c.args.self.now in
    let b = c.requires.belongs in
    let fits = end_fits c.args.plan.now c.args.q r b c.requires.again c.requires.early c.know_lawful-2.ensures.lawful c.know_lawful.ensures.lawful in
    let e = was_read r.kept.ends.items r.next 0 c.index-2.result.now (b.again c.requires.again).next c.index-2.ensures in
    omega (arith, fits, e)

pub overflow_add-self-else-i-len : goal.overflow_add-self-else-i-len
overflow_add-self-else-i-len c =
    let r = c.args.self.now in
    let long : c.len.result ≡ length r.kept.ends.items = c.len.ensures ∙ r.kept.ends.ok.0 in
    let last = c.if-i-len.false in
    let fits = shift_fits c.args.plan.now c.args.q r c.requires.belongs c.requires.again c.requires.early c.know_lawful-2.ensures.lawful
    c.know_lawful.ensures.lawful
    (λ more. absurd (omega (arith, long, last, more))) in
    omega (arith, fits)

pub returns-then-i-len-clause-belongs : goal.returns-then-i-len-clause-belongs
returns-then-i-len-clause-belongs c =
    let r = c.args.self.now in
    let b = c.requires.belongs in
    let long : c.len.result ≡ length r.kept.ends.items = c.len.ensures ∙ r.kept.ends.ok.0 in
    let more = c.if-i-len.true in
    let e = was_read r.kept.ends.items r.next 0 c.index-2.result.now (b.again c.requires.again).next c.index-2.ensures in
    let at : c.min-self.result ≡ min (get_or r.kept.ends.items r.next 0 + r.shift) r.stop = c.min-self.ensures ∙ ap (λ n. min (n + r.shift) r.stop) e in
    again_next c.args.plan.now c.args.q r b c.requires.again c.requires.early c.know_lawful-2.ensures.lawful c.min-self.result c.index.result.now at
    (omega (arith, long, more))

pub returns-then-i-len-clause-round : goal.returns-then-i-len-clause-round
returns-then-i-len-clause-round c =
    let r = c.args.self.now in
    let b = c.requires.belongs in
    let a = b.again c.requires.again in
    let long = a.kept.long in
    let next = a.next in
    let e = was_read r.kept.ends.items r.next 0 c.index-2.result.now next c.index-2.ensures in
    let at : c.min-self.result ≡ min (get_or r.kept.ends.items r.next 0 + r.shift) r.stop = c.min-self.ensures ∙ ap (λ n. min (n + r.shift) r.stop) e in
    again_round c.args.plan.now c.args.q r b c.requires.again c.requires.early c.know_lawful-2.ensures.lawful c.min-self.result c.index.result.now at
    (was_read r.kept.shows.items r.next Empty c.index.result.now (omega (arith, long, next)) c.index.ensures)

pub returns-else-i-len-clause-belongs : goal.returns-else-i-len-clause-belongs
returns-else-i-len-clause-belongs c =
    let r = c.args.self.now in
    let b = c.requires.belongs in
    let long : c.len.result ≡ length r.kept.ends.items = c.len.ensures ∙ r.kept.ends.ok.0 in
    let last = c.if-i-len.false in
    let e = was_read r.kept.ends.items r.next 0 c.index-2.result.now (b.again c.requires.again).next c.index-2.ensures in
    let at : c.min-self.result ≡ min (get_or r.kept.ends.items r.next 0 + r.shift) r.stop = c.min-self.ensures ∙ ap (λ n. min (n + r.shift) r.stop) e in
    again_first c.args.plan.now c.args.q r b c.requires.again c.requires.early c.know_lawful-2.ensures.lawful c.min-self.result c.index.result.now at
    (λ more. absurd (omega (arith, long, last, more)))

pub returns-else-i-len-clause-round : goal.returns-else-i-len-clause-round
returns-else-i-len-clause-round c =
    let r = c.args.self.now in
    let b = c.requires.belongs in
    let a = b.again c.requires.again in
    let long = a.kept.long in
    let next = a.next in
    let e = was_read r.kept.ends.items r.next 0 c.index-2.result.now next c.index-2.ensures in
    let at : c.min-self.result ≡ min (get_or r.kept.ends.items r.next 0 + r.shift) r.stop = c.min-self.ensures ∙ ap (λ n. min (n + r.shift) r.stop) e in
    again_round c.args.plan.now c.args.q r b c.requires.again c.requires.early c.know_lawful-2.ensures.lawful c.min-self.result c.index.result.now at
    (was_read r.kept.shows.items r.next Empty c.index.result.now (omega (arith, long, next)) c.index.ensures)
