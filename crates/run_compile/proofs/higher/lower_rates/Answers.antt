use Rattle.std.proofs.Common.{◌++◌, ◌∷◌, [], ap, arith, ◌∙◌, sym}
use Rattle.run_tree.specs.Making.{last_rates}
use Rattle.run_compile.proofs.HigherLemmas.{below-next, below-skip, below-all, rate_there, last_long}
use Rattle.run_compile.proofs.higher.lower_rates.Goals as goal

pub loop-i-preserved : goal.loop-i-preserved
loop-i-preserved c =
    let m = c.args.maker.now in
    let there = rate_there m c.loop-i.i c.pack_rate-rate.result (omega arith) c.pack_rate-rate.ensures in
    let long = last_long m c.loop-i.i (omega arith) in
    elim c.if-rate-scale.branch [
      | goal.then-rate-scale+in_ok-push w ↦
          (let next = below-next c.args.scale c.loop-i.i c.pack_rate-rate.result (last_rates m) long there (omega arith) in
          ap (λ v. v.items) w.rates-is ∙ w.in_ok-push.ensures.items ∙ ap (λ xs. xs ++ c.pack_rate-rate.result ∷ []) c.loop-i.invariant ∙ sym next)
      | goal.else-rate-scale w ↦
          (let skip = below-skip c.args.scale c.loop-i.i c.pack_rate-rate.result (last_rates m) long there (omega arith) in
          ap (λ v. v.items) w.rates-is ∙ c.loop-i.invariant ∙ sym skip)
    ]

pub returns : goal.returns
returns c = c.loop-i.invariant ∙ below-all c.args.maker.now c.args.scale c.loop-i.i c.requires (omega arith)
