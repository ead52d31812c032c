use Rattle.std.proofs.Common.{◌≡◌, ◌<◌, false, None, arith, sym, subst, inl, inr}
use Rattle.std.proofs.lemmas.Bool.{both_ways, cases_lt}
use Rattle.trace_verdict.specs.Overlaps.{walk}
use Rattle.trace_verdict.proofs.OverlapLemmas.{Rising-from_sorted, walk_to, walk_none, first_found}
use Rattle.trace_verdict.proofs.entries.first_clash.Goals as goal

pub returns-then-is_apart_below : goal.returns-then-is_apart_below
returns-then-is_apart_below c = walk_to _ _ (Rising-from_sorted _ c.requires.sorted) (sym c.if-is_apart_below.ensures)

pub loop-high-init : goal.loop-high-init
loop-high-init c =
    let some : 0 < c.args.count = elim (cases_lt 0 c.args.count) [
      | inl l ↦ l
      | inr none ↦ (let e : c.args.count ≡ 0 = omega (arith, none) in
          absurd (both_ways _ (subst (λ n. walk n None c.args.entries.now ≡ false) e (sym c.if-is_apart_below.ensures)) (walk_none c.args.entries.now)))
    ] in
    (some, omega arith, walk_none c.args.entries.now, sym c.if-is_apart_below.ensures)

pub returns : goal.returns
returns c = (
  omega arith,
  walk_to _ _ (Rising-from_sorted _ c.requires.sorted) c.loop-high.invariant.2,
  first_found _ _ _ c.requires.sorted c.requires.long (omega arith) c.loop-high.invariant.3,
)
