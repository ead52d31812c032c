use Rattle.std.proofs.Common.{All, ◌≡◌, ap, arith, length, map, sym, take, ◌++◌, ◌-◌, ◌<◌, ◌≤◌, ◌∷◌, [], List, ℕ, ◌∙◌, get_or, subst}
use Rattle.std.proofs.Math.Seq.{take-length}
use Rattle.std.proofs.lemmas.List.{length-map, length-take-le, map_more}
use Rattle.std.proofs.lemmas.List.Elements.{All-get_or}
use Rattle.std.proofs.lemmas.Result.{IfOk-from_err}
use Rattle.dual_step.proofs.duals.Goals as goal

pub returns-in_err-rates : goal.returns-in_err-rates
returns-in_err-rates c = IfOk-from_err c.from_residual.result _ c.from_residual.ensures.0

pub overflow_sub-scale : goal.overflow_sub-scale
overflow_sub-scale c =
    let within = (All-get_or (λ rate. (0 < rate) × (rate < c.args.scale)) c.args.servers.now c.loop-rate.rate-index 0 c.loop-rate-test.true c.requires).1 in
    omega (arith, within)

pub push_reserved-requires : goal.push_reserved-requires
push_reserved-requires c =
    let servers = c.args.servers.now in
    let on = c.loop-rate-test.true in
    let long = ap (λ (xs : List ℕ). length xs) c.loop-rate.invariant.so_far ∙ length-map (take c.loop-rate.rate-index servers) (λ rate. c.args.scale - rate)
    ∙ length-take-le c.loop-rate.rate-index servers (omega (arith, on)) in
    let ok = c.loop-rate.rates.ok.0 in
    let room = c.loop-rate.invariant.room in
    omega (arith, long, on, ok, room)

pub loop-rate-preserved : goal.loop-rate-preserved
loop-rate-preserved c = record {
  so_far = c.push_reserved.ensures.items ∙ ap (λ xs. xs ++ (c.args.scale - get_or c.args.servers.now c.loop-rate.rate-index 0) ∷ [])
      c.loop-rate.invariant.so_far
      ∙ sym (map_more (λ rate. c.args.scale - rate) c.args.servers.now c.loop-rate.rate-index 0 c.loop-rate-test.true);
  room = subst (λ n. length c.args.servers.now ≤ n) (sym c.push_reserved.ensures.capacity) c.loop-rate.invariant.room;
}

pub returns : goal.returns
returns c =
    let end = c.loop-rate.auto.rate-index-end in
    let off = c.loop-rate-test.false in
    let servers = c.args.servers.now in
    let all : c.loop-rate.rate-index ≡ length servers = omega (arith, end, off) in
    c.loop-rate.invariant.so_far ∙ ap (λ n. map (λ rate. c.args.scale - rate) (take n servers)) all ∙ ap (map (λ rate. c.args.scale - rate))
    (take-length servers)
