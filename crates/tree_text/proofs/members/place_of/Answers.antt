use Rattle.std.proofs.Common.{◌≡◌, ◌<◌, ◌∙◌, length, sym, arith}
use Rattle.std.proofs.lemmas.Bool.{eqb-true}
use Rattle.run_tree.specs.Schedule.{packs_at}
use Rattle.tree_text.proofs.SearchLemmas.{place_found, place_absent}
use Rattle.tree_text.proofs.members.place_of.Goals as goal

pub returns-then-eq : goal.returns-then-eq
returns-then-eq c =
    let count = c.packs-packs.ensures in
    let within : c.loop-i.i < length (packs_at c.args.tree.now c.level_of-level.result) = omega (arith, count, c.loop-i-test.true) in
    let here = sym c.pack.ensures ∙ eqb-true c.pack.result.0 c.args.pack.0 (sym c.eq.ensures ∙ c.if-eq.true) in
    sym (place_found c.args.tree.now c.args.pack.0 c.level_of-level.result c.loop-i.i c.level_of-level.ensures.value within c.loop-i.invariant here)

pub returns : goal.returns
returns c =
    let end : c.packs-packs.result ≡ c.loop-i.i = omega (arith, c.loop-i-test.false, c.loop-i.auto.i-end) in
    end ∙ sym (place_absent c.args.tree.now c.args.pack.0 c.level_of-level.result c.loop-i.i c.level_of-level.ensures.value (sym end
    ∙ c.packs-packs.ensures) c.loop-i.invariant)
