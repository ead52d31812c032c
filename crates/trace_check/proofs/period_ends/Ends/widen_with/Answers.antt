use Rattle.std.proofs.Common.{◌≡◌, ◌<◌, ◌∙◌, ◌++◌, ◌∷◌, [], length, get_or, set, sym, ap, arith}
use Rattle.std.proofs.lemmas.List.{length-set, get_or-set_same, get_or-set_other}
use Rattle.trace_check.proofs.EndsLemmas.{numbers_step}
use Rattle.trace_check.proofs.period_ends.Ends.widen_with.Goals as goal
use Rattle.trace_check.proofs.period_ends.Ends.widen_with.Goals.{then-k-i, else-k-i}

pub loop-k-preserved : goal.loop-k-preserved
loop-k-preserved c =
    let xs = c.args.self.now in
    let i = c.args.i in
    let k = c.loop-k.k in
    let new = set xs i c.args.end in
    let within : k < length xs = omega (arith, c.loop-k-test.true, c.len-k-end.ensures) in
    let size : length new ≡ length xs = length-set xs i c.args.end in
    let number : c.if-k-i.number ≡ get_or new k 0 = (elim c.if-k-i.branch [
      | then-k-i w ↦ (let here : k ≡ i = w.if-k-i.true in w.number-is ∙ sym (ap (λ n. get_or new n 0) here ∙ get_or-set_same xs i c.args.end 0 c.requires))
      | else-k-i w ↦ w.number-is ∙ w.get-number.ensures ∙ sym (get_or-set_other xs i k c.args.end 0 (let there : k ≡ i → ⊥ = w.if-k-i.false in there))
    ]) in
    c.in_ok-push.ensures.items ∙ ap (λ l. l ++ c.if-k-i.number ∷ []) c.loop-k.invariant ∙ sym (numbers_step new k c.if-k-i.number (omega (
      arith,
      within,
      size,
    )) number)
