use Rattle.std.proofs.Common.{◌≡◌, ◌+◌, ◌-◌, ◌*◌, ◌/◌, ◌⊎◌, ◌++◌, ◌∙◌, arith, ap, sym, length, map, replicate, inl, inr}
use Rattle.sched_base.specs.FirstFit.{idles}
use Rattle.server_pack.specs.Servers.{rates_of, rate_sum, idle_alone, with_idles}
use Rattle.idle_fill.proofs.FillLemmas.{left_is_whole}
use Rattle.idle_fill.proofs.fill.Goals as goal

-- what the packing has once servers were added
ended : (c : goal.After-add_servers) →
    (c.add_servers.new.packing.servers ≡ with_idles (idles c.args.scale (c.args.processors * c.args.scale - rate_sum c.args.packing.now.servers)
    (rates_of c.args.packing.now.servers)) c.args.packing.now.servers)
    × (rate_sum c.add_servers.new.packing.servers ≡ c.args.processors * c.args.scale)
ended c =
    let t = c.top_up-left.ensures in
    let reserved = c.reserve.ensures.servers in
    let scale = c.reserve.ensures.scale ∙ c.requires.made in
    let slack : c.from.result * c.args.scale - c.total.result ≡ c.args.processors * c.args.scale - rate_sum c.args.packing.now.servers =
    (let a = ap (λ n. n * c.args.scale) c.from.ensures in let b = c.total.ensures in omega (arith, a, b)) in
    let filled : c.top_up-left.new.packing.servers ++ map idle_alone (replicate (c.top_up-left.result / c.args.scale) c.args.scale)
    ≡ with_idles (idles c.args.scale (c.args.processors * c.args.scale - rate_sum c.args.packing.now.servers) (rates_of c.args.packing.now.servers))
    c.args.packing.now.servers =
    rw (scale, reserved, slack) at t.filled in
    let sum : rate_sum c.top_up-left.new.packing.servers + c.top_up-left.result ≡ c.args.processors * c.args.scale =
    (let s = rw (reserved, slack) at t.sum in let fits = c.requires.fits in omega (arith, s, fits)) in
    let full : (c.top_up-left.result ≡ 0) ⊎ (rate_sum c.top_up-left.new.packing.servers ≡ length c.top_up-left.new.packing.servers * c.args.scale) =
    rw scale at t.full in
    let long : length c.top_up-left.new.packing.servers ≡ c.servers-servers.result = t.long ∙ ap length reserved ∙ sym c.servers-servers.ensures.value in
    let added : c.add_servers.new.packing.servers ≡ c.top_up-left.new.packing.servers ++ replicate (c.args.processors - c.servers-servers.result)
    (idle_alone c.args.scale) =
    rw (t.scale ∙ scale) at c.add_servers.ensures.servers in
    elim full [
      | inl none ↦ absurd (let some = c.if-left-gt0.true in omega (arith, some, none))
      | inr each ↦
          (let whole = left_is_whole c.args.scale c.args.processors c.servers-servers.result c.top_up-left.result c.top_up-left.new.packing.servers
          c.add_servers.new.packing.servers
          (each ∙ ap (λ n. n * c.args.scale) long) c.if-left-gt0.true sum added in
          (whole.0 ∙ filled, whole.1))
    ]

pub returns-then-left-gt0-clause-filled : goal.returns-then-left-gt0-clause-filled
returns-then-left-gt0-clause-filled c = (ended c).0

pub returns-then-left-gt0-clause-sum : goal.returns-then-left-gt0-clause-sum
returns-then-left-gt0-clause-sum c = (ended c).1
