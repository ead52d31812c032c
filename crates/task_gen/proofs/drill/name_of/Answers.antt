use Rattle.std.proofs.Common.{◌≡◌, ◌∙◌, length, ap, arith}
use Rattle.std.specs.Prelude.{decimal}
use Rattle.task_gen.proofs.NameLemmas.{name_then, name_lawful}
use Rattle.task_gen.proofs.drill.name_of.Goals as goal

pub new-requires : goal.new-requires
new-requires c =
    let digits : c.copy_from_slice.new.self ≡ decimal c.args.k = c.copy_from_slice.ensures.after ∙ c.as_bytes-digits.ensures.value ∙ c.format.ensures.text in
    let long : length c.copy_from_slice.new.self ≡ length c.as_bytes-digits.result.now = ap length c.copy_from_slice.ensures.after in
    rw (name_then c.copy_from_slice.new.self _ c.args.k (length c.as_bytes-digits.result.now) digits long) (name_lawful c.args.k (omega arith))
