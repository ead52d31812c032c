-- All rows, lane by lane.
use Rattle.std.proofs.Common.{ℕ, zero, suc, ◌+◌, ◌<◌, ◌≤◌, ◌≡◌, List, [], ◌∷◌, ◌++◌, length, take, refl, ap, ◌∙◌, arith, length-append, add-one}
use Rattle.std.specs.List.{flat_map}
use Rattle.std.proofs.lemmas.List.Concat.{flat_map-append}
use Rattle.sched_base.specs.declared.rows.Row.{Row}
use Rattle.sched_base.specs.Tables.{all_rows, lane_of}

-- the text of all rows is that of each lane's
pub all_text : (f : Row → List ℕ) (lanes : List (List Row)) → flat_map f (all_rows lanes) ≡ flat_map (flat_map f) lanes
all_text f [] = refl
all_text f (lane ∷ lanes) = flat_map-append f lane (all_rows lanes) ∙ ap (λ text. flat_map f lane ++ text) (all_text f lanes)

more_rows : (lanes : List (List Row)) (p : ℕ) → p < length lanes → length (all_rows (take (suc p) lanes)) ≡ length (all_rows (take p lanes)) + length
    (lane_of lanes p)
more_rows [] p within = absurd (omega (arith, within))
more_rows (lane ∷ lanes) zero within = let one = length-append lane [] in omega (arith, one)
more_rows (lane ∷ lanes) (suc p) within =
    let more = length-append lane (all_rows (take (suc p) lanes)) in
    let less = length-append lane (all_rows (take p lanes)) in
    let rest = more_rows lanes p (omega (arith, within)) in
    omega (arith, more, less, rest)

-- one lane more
pub all_more : (lanes : List (List Row)) (p : ℕ) → p < length lanes → length (all_rows (take (p + 1) lanes)) ≡ length (all_rows (take p lanes)) + length
    (lane_of lanes p)
all_more lanes p within = rw add-one (more_rows lanes p within)

-- the first lanes have no more rows than all
pub all_le : (lanes : List (List Row)) (p : ℕ) → length (all_rows (take p lanes)) ≤ length (all_rows lanes)
all_le [] zero = omega arith
all_le [] (suc p) = omega arith
all_le (lane ∷ lanes) zero = omega arith
all_le (lane ∷ lanes) (suc p) =
    let less = length-append lane (all_rows (take p lanes)) in
    let all = length-append lane (all_rows lanes) in
    let rest = all_le lanes p in
    omega (arith, less, all, rest)
