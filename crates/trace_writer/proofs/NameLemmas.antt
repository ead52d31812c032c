-- A name has room in a line.
use Rattle.std.proofs.Common.{ℕ, ◌≤◌, ◌≡◌, ◌&&◌, leb, true, List, [], ◌∷◌, length, arith}
use Rattle.std.specs.List.{list_all}
use Rattle.std.proofs.lemmas.Bool.{and_parts, leb-true}
use Rattle.sched_base.specs.Names.{starts_name, continues_name, is_lawful_name}

pub short_name : (name : List ℕ) → is_lawful_name name ≡ true → length name ≤ 32
short_name [] h = omega arith
short_name (b ∷ bs) h =
    let p = and_parts (starts_name b && leb (length bs) 31) (list_all continues_name bs) h in
    let q = and_parts (starts_name b) (leb (length bs) 31) p.0 in
    let few = leb-true _ _ q.1 in
    omega (arith, few)
