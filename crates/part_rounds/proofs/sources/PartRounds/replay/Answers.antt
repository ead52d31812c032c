use Rattle.std.proofs.Common.{◌≡◌, ◌+◌, ◌*◌, ◌∙◌, List, Option, ap, arith, get_or, length, min}
use Rattle.sched_base.specs.declared.rows.Leaf.{Leaf}
use Rattle.merged_rounds.specs.Replays.{packs_of}
use Rattle.part_rounds.proofs.SourceLemmas.{again_first, again_next, end_fits, shift_fits, shows_within, was_read, written_round, written_vec_long}
use Rattle.part_rounds.proofs.sources.PartRounds.replay.Goals as goal

pub tell_kept-requires : goal.tell_kept-requires
tell_kept-requires c =
    let r = c.args.self.now in
    let b = c.requires.belongs in
    let within = shows_within c.args.plan.now r b c.requires.again c.requires.early c.know_lawful-2.ensures.lawful in
    let count : c.len-count.result ≡ packs_of r.part.plan = c.len-count.ensures ∙ r.shows.ok.0 ∙ b.long in
    let base = ap (λ n. r.next * n) count in
    let shows = ap (λ (xs : List (Option Leaf)). length xs) c.deref_mut.ensures.value ∙ b.long in
    let kept = ap (λ (xs : List (Option Leaf)). length xs) c.deref.ensures.value in
    omega (arith, within, base, shows, kept)

pub overflow_add-index : goal.overflow_add-index
overflow_add-index c =
    let r = c.args.self.now in
    let b = c.requires.belongs in
    let fits = end_fits c.args.plan.now r b c.requires.again c.requires.early c.know_lawful-2.ensures.lawful c.know_lawful.ensures.lawful in
    let e = was_read r.kept.ends.items r.next 0 c.index.result.now (b.again c.requires.again).next c.index.ensures in
    omega (arith, fits, e)

pub overflow_add-self-else-i-len : goal.overflow_add-self-else-i-len
overflow_add-self-else-i-len c =
    let r = c.args.self.now in
    let long : c.len.result ≡ length r.kept.ends.items = c.len.ensures ∙ r.kept.ends.ok.0 in
    let last = c.if-i-len.false in
    let fits = shift_fits c.args.plan.now r c.requires.belongs c.requires.again c.requires.early c.know_lawful-2.ensures.lawful c.know_lawful.ensures.lawful
    (λ more. absurd (omega (arith, long, last, more))) in
    omega (arith, fits)

pub returns-then-i-len-clause-belongs : goal.returns-then-i-len-clause-belongs
returns-then-i-len-clause-belongs c =
    let r = c.args.self.now in
    let b = c.requires.belongs in
    let h = c.know_lawful-2.ensures.lawful in
    let count : c.len-count.result ≡ packs_of r.part.plan = c.len-count.ensures ∙ r.shows.ok.0 ∙ b.long in
    let e = was_read r.kept.ends.items r.next 0 c.index.result.now (b.again c.requires.again).next c.index.ensures in
    let at : c.min-self.result ≡ min (get_or r.kept.ends.items r.next 0 + r.shift) r.stop = c.min-self.ensures ∙ ap (λ n. min (n + r.shift) r.stop) e in
    let long : c.len.result ≡ length r.kept.ends.items = c.len.ensures ∙ r.kept.ends.ok.0 in
    let more = c.if-i-len.true in
    let written = written_vec_long c.args.plan.now r b c.requires.again c.requires.early h c.min-self.result at c.len-count.result count
    c.deref.result.now c.deref_mut.result.now c.tell_kept.new.shows c.deref.ensures.value c.deref_mut.ensures.value c.tell_kept.ensures.long
    c.tell_kept.ensures.each in
    again_next c.args.plan.now r b c.requires.again c.requires.early h c.min-self.result _ written at
    (omega (arith, long, more))

pub returns-then-i-len-clause-round : goal.returns-then-i-len-clause-round
returns-then-i-len-clause-round c =
    let r = c.args.self.now in
    let b = c.requires.belongs in
    let h = c.know_lawful-2.ensures.lawful in
    let count : c.len-count.result ≡ packs_of r.part.plan = c.len-count.ensures ∙ r.shows.ok.0 ∙ b.long in
    let e = was_read r.kept.ends.items r.next 0 c.index.result.now (b.again c.requires.again).next c.index.ensures in
    let at : c.min-self.result ≡ min (get_or r.kept.ends.items r.next 0 + r.shift) r.stop = c.min-self.ensures ∙ ap (λ n. min (n + r.shift) r.stop) e in
    written_round c.args.plan.now r b c.requires.again c.requires.early h c.min-self.result at c.len-count.result count
    c.deref.result.now c.deref_mut.result.now c.tell_kept.new.shows c.deref.ensures.value c.deref_mut.ensures.value c.tell_kept.ensures.long
    c.tell_kept.ensures.each

pub returns-else-i-len-clause-belongs : goal.returns-else-i-len-clause-belongs
returns-else-i-len-clause-belongs c =
    let r = c.args.self.now in
    let b = c.requires.belongs in
    let h = c.know_lawful-2.ensures.lawful in
    let count : c.len-count.result ≡ packs_of r.part.plan = c.len-count.ensures ∙ r.shows.ok.0 ∙ b.long in
    let e = was_read r.kept.ends.items r.next 0 c.index.result.now (b.again c.requires.again).next c.index.ensures in
    let at : c.min-self.result ≡ min (get_or r.kept.ends.items r.next 0 + r.shift) r.stop = c.min-self.ensures ∙ ap (λ n. min (n + r.shift) r.stop) e in
    let long : c.len.result ≡ length r.kept.ends.items = c.len.ensures ∙ r.kept.ends.ok.0 in
    let last = c.if-i-len.false in
    let written = written_vec_long c.args.plan.now r b c.requires.again c.requires.early h c.min-self.result at c.len-count.result count
    c.deref.result.now c.deref_mut.result.now c.tell_kept.new.shows c.deref.ensures.value c.deref_mut.ensures.value c.tell_kept.ensures.long
    c.tell_kept.ensures.each in
    again_first c.args.plan.now r b c.requires.again c.requires.early h c.min-self.result _ written at
    (λ more. absurd (omega (arith, long, last, more)))

pub returns-else-i-len-clause-round : goal.returns-else-i-len-clause-round
returns-else-i-len-clause-round c =
    let r = c.args.self.now in
    let b = c.requires.belongs in
    let h = c.know_lawful-2.ensures.lawful in
    let count : c.len-count.result ≡ packs_of r.part.plan = c.len-count.ensures ∙ r.shows.ok.0 ∙ b.long in
    let e = was_read r.kept.ends.items r.next 0 c.index.result.now (b.again c.requires.again).next c.index.ensures in
    let at : c.min-self.result ≡ min (get_or r.kept.ends.items r.next 0 + r.shift) r.stop = c.min-self.ensures ∙ ap (λ n. min (n + r.shift) r.stop) e in
    written_round c.args.plan.now r b c.requires.again c.requires.early h c.min-self.result at c.len-count.result count
    c.deref.result.now c.deref_mut.result.now c.tell_kept.new.shows c.deref.ensures.value c.deref_mut.ensures.value c.tell_kept.ensures.long
    c.tell_kept.ensures.each
