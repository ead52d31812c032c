use Rattle.std.proofs.Common.{arith, mul-le-mul_right}
use Rattle.std.proofs.lemmas.List.Sums.{sum_by_more, sum_by_more_le}
use Rattle.server_pack.specs.Servers.{no_server}
use Rattle.idle_fill.proofs.FillLemmas.{rate_of, rate_sum-le}
use Rattle.idle_fill.proofs.total.Goals as goal

pub overflow_add-sum : goal.overflow_add-sum
overflow_add-sum c =
    let p = c.args.packing.now in
    let kept = c.servers-s-end.ensures.kept in
    let part = sum_by_more_le rate_of p.servers c.loop-s.s no_server (omega arith) in
    let all = rate_sum-le p.scale p.servers kept.within in
    let few = kept.few in
    let most = mul-le-mul_right p.scale few in
    let fits = kept.scale_fits in
    let so_far = c.loop-s.invariant in
    omega (arith, part, all, most, fits, so_far)

pub loop-s-preserved : goal.loop-s-preserved
loop-s-preserved c =
    let more = sum_by_more rate_of c.args.packing.now.servers c.loop-s.s no_server (omega arith) in
    let so_far = c.loop-s.invariant in
    omega (arith, more, so_far)
