-- Kits and lanes, one after another.
use Rattle.std.proofs.Common.{◌≡◌, ℕ, ◌<◌, List, ◌∷◌, ◌++◌, Option, Some, length, sym, ap, ◌∙◌, arith, length-append}
use Rattle.std.specs.Prelude.{slice_get}
use Rattle.std.proofs.Math.Seq.{get_or-append_seam}
use Rattle.sched_edges.specs.Jobs.{JobAt}
use Rattle.unit_ledger.specs.Seats.{Seat}
use Rattle.exec_lanes.specs.declared.kits.Kit.{Kit}
use Rattle.exec_lanes.specs.Lanes.{LaneContents, lane_in, no_lane}
use Rattle.exec_lanes.specs.Kits.{KitAt}

pub same_some : {X : Type 0} (x y : X) → Some x ≡ Some y → x ≡ y
same_some x y same = cc

-- a kit holds one gate
pub same_gate : {G : Type 0} (kits : List (Kit G)) (p : ℕ) (a b : G) → KitAt kits p a → KitAt kits p b → a ≡ b
same_gate {G} kits p a b here there =
    let kit : record { gate = Some a } ≡ record { gate = Some b } = same_some {X = Kit G} (record { gate = Some a }) (record { gate = Some b }) (sym here
    ∙ there) in
    same_some a b (ap (λ (k : Kit G). k.gate) kit)

-- one thing is in a place
pub same_in_place : {X : Type 0} (o : Option X) (x y : X) → o ≡ Some x → o ≡ Some y → x ≡ y
same_in_place o x y here there = same_some x y (sym here ∙ there)

-- one job is in a place of a list of jobs
pub same_job : {J : Type 0} (places : List (Option J)) (t : ℕ) (a b : J) → JobAt places t a → JobAt places t b → a ≡ b
same_job {J} places t a b here there = same_some a b (same_some {X = Option J} (Some a) (Some b) (sym here ∙ there))

-- one seat is in a place
pub same_seat : (seats : List (Option Seat)) (p : ℕ) (a b : Seat) → slice_get seats p ≡ Some (Some a) → slice_get seats p ≡ Some (Some b) → a ≡ b
same_seat seats p a b here there = same_some a b (same_some {X = Option Seat} (Some a) (Some b) (sym here ∙ there))

-- the next lane after those that were given
pub next_lane : (lanes given rest : List LaneContents) (lane : LaneContents) → lanes ≡ given ++ (lane ∷ rest) → (length given < length lanes)
    × (lane_in lanes (length given) ≡ lane)
next_lane lanes given rest lane whole =
    let long = ap length whole in
    (omega (arith, long, length-append given (lane ∷ rest)), ap (λ xs. lane_in xs (length given)) whole ∙ get_or-append_seam given lane rest no_lane)
