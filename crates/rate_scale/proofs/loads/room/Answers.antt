use Rattle.std.proofs.Common.{ap, arith, ◌*◌, ◌^◌, ◌<◌, ◌≤◌, ◌≡◌, ◌∙◌, ℕ}
use Rattle.std.proofs.Math.Nat.{mul-le-mul_right}
use Rattle.sched_base.specs.Limits.{processor_limit}
use Rattle.rate_scale.proofs.loads.room.Goals as goal

-- the room of a set is small
room_small : (width processors scale : ℕ) → width ≡ processors → processors ≤ processor_limit → scale ≤ 2 ^ 94 → width * scale < 2 ^ 100
room_small width processors scale is few fits =
    let times : width * scale ≤ 32 * scale = mul-le-mul_right scale (omega (arith, is, few)) in
    omega (arith, times, fits)

pub overflow_mul-result : goal.overflow_mul-result
overflow_mul-result c =
    let few = c.processors.ensures.lawful.few_processors in
    let small = room_small c.from.result c.args.set.now.processors c.args.scale (c.from.ensures ∙ c.processors.ensures.value) few c.requires in
    omega (arith, small)

pub returns-clause-value : goal.returns-clause-value
returns-clause-value c = ap (λ n. n * c.args.scale) (c.from.ensures ∙ c.processors.ensures.value)

pub returns-clause-within : goal.returns-clause-within
returns-clause-within c =
    room_small c.from.result c.args.set.now.processors c.args.scale (c.from.ensures ∙ c.processors.ensures.value) c.processors.ensures.lawful.few_processors
    c.requires
