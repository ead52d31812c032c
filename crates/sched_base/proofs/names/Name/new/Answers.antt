use Rattle.std.proofs.Common.{◌≡◌, ◌≤◌, ◌++◌, ◌∙◌, ℕ, List, [], ◌∷◌, true, ap, arith, length, take}
use Rattle.std.proofs.Math.Seq.{take-append_seam}
use Rattle.std.proofs.lemmas.Bool.{and_parts, leb-true}
use Rattle.std.specs.List.{list_all}
use Rattle.sched_base.specs.Names.{continues_name, is_lawful_name, starts_name}
use Rattle.sched_base.proofs.names.Name.new.Goals as goal

short : (name : List ℕ) → is_lawful_name name ≡ true → length name ≤ 32
short [] lawful = omega arith
short (b ∷ bs) lawful =
    let few = leb-true (length bs) 31 (and_parts (starts_name b) _ (and_parts _ (list_all continues_name bs) lawful).0).1 in
    omega (arith, few)

kept : (name new rest : List ℕ) → new ≡ name → take (length name) (new ++ rest) ≡ name
kept name new rest same = ap (λ (xs : List ℕ). take (length name) (xs ++ rest)) same ∙ take-append_seam name rest

pub slice_bounds-bytes-end : goal.slice_bounds-bytes-end
slice_bounds-bytes-end c = short c.args.name.now c.requires

pub invariant_of-result : goal.invariant_of-result
invariant_of-result c = (
  short c.args.name.now c.requires,
  ap is_lawful_name (kept c.args.name.now c.copy_from_slice.new.self _
      c.copy_from_slice.ensures.after) ∙ c.requires,
)

pub returns : goal.returns
returns c = kept c.args.name.now c.copy_from_slice.new.self _ c.copy_from_slice.ensures.after
