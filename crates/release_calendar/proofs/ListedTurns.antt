-- Windows that turn one by one, and the list of their nodes.
use Rattle.std.proofs.Common.{◌≡◌, ℕ, ◌+◌, ◌<◌, ◌≤◌, ◌++◌, Bool, true, false, List, [], ◌∷◌, length, replicate, take, get_or, refl, ap, arith, inl}
use Rattle.std.proofs.Common.{inr, sym, ◌∙◌}
use Rattle.std.proofs.Math.ListN.{set}
use Rattle.std.proofs.lemmas.Bool.{cases_Bool, cases_lt, both_ways}
use Rattle.std.proofs.lemmas.List.{get_or-replicate, length-replicate, length-set, get_or_past, take_more, length-take-le, length-map, map-append}
use Rattle.std.proofs.lemmas.List.{get_or-map, get_or-take}
use Rattle.sched_base.specs.declared.rows.NodeId.{NodeId}
use Rattle.run_tree.specs.Tree.{numbers, IsMember}
use Rattle.run_tree.specs.Windows.{window_end}
use Rattle.run_tree.specs.Plans.{PlanContents, IsPlan, boundary_of}
use Rattle.release_calendar.specs.Calendars.{AreDue, AreListed, AreReady, AreTurning, EndElsewhere, PacksNeverEnd}
use Rattle.release_calendar.proofs.TurnLemmas.{mark_is}
use Rattle.release_calendar.proofs.OrderLemmas.{all_turned, turning_first, turning_step}
use Rattle.release_calendar.proofs.BegunLemmas.{listed_step}

none_marked : (n x : ℕ) → get_or (replicate n false) x false ≡ false
none_marked n x = elim (cases_lt x n) [
  | inl l ↦ get_or-replicate n x false false l
  | inr m ↦ (let long = length-replicate n false in get_or_past (replicate n false) x false (omega (arith, m, long)))
]

-- at first none turned
pub turning_none : (p : PlanContents) → IsPlan p → (begins ends : List ℕ) (u : ℕ) → AreReady p begins ends u → PacksNeverEnd p.tree ends →
    ((x : ℕ) → IsMember p.tree x → get_or begins x 0 < u) → AreTurning p begins ends [] u
turning_none p h begins ends u ready packs earlier =
    let n = length p.tree.nodes in
    record {
      due = replicate n false;
      long = length-replicate n false;
      turning = turning_first p h begins ends (replicate n false) u ready packs earlier (λ x l. none_marked n x);
      listed = record {
        all = λ x on. absurd (both_ways (get_or (replicate n false) x false) (none_marked n x) on);
        marked = λ k l. absurd (omega (arith, l));
      };
    }

-- one more turns
pub turning_more : (p : PlanContents) → IsPlan p → (begins ends begins' ends' begun begun' : List ℕ) (u x : ℕ) → u ≤ p.set.horizon → length begins ≡ length
    p.tree.nodes → length ends ≡ length p.tree.nodes → x < length p.tree.nodes → get_or ends x 0 ≡ u →
    begins' ≡ set begins x u → ends' ≡ set ends x (window_end (boundary_of p x) u) → begun' ≡ begun ++ x ∷ [] → AreTurning p begins ends begun u →
    AreTurning p begins' ends' begun' u
turning_more p h begins ends begins' ends' begun begun' u x early lb le l at ib ie ig t =
    let long = t.long in
    record {
      due = set t.due x true;
      long = length-set t.due x true ∙ t.long;
      turning = turning_step p h begins ends begins' ends' t.due (set t.due x true) u x early lb le t.long l at ib ie refl t.turning;
      listed = listed_step t.due (set t.due x true) begun begun' x (omega (arith, l, long)) refl ig t.listed;
    }

-- once none ends at the unit, the list has those that have a boundary there
pub due_listed : (p : PlanContents) → IsPlan p → (begins ends begun : List ℕ) (u : ℕ) → length ends ≡ length p.tree.nodes → AreTurning p begins ends begun u
    → EndElsewhere ends u (length ends) → AreDue p u begun
due_listed p h begins ends begun u long t away = record {
  due = t.due;
  long = t.long;
  marked = λ x l. mark_is p h begins ends u x (get_or t.due x false) l (all_turned p h begins ends t.due u long t.turning away) (t.turning.marked x l);
  listed = t.listed;
}

-- what is listed is a node
pub listed_within : (p : PlanContents) (u : ℕ) (begun : List ℕ) → AreDue p u begun → (k : ℕ) → k < length begun → get_or begun k 0 < length p.tree.nodes
listed_within p u begun d k l = elim (cases_lt (get_or begun k 0) (length p.tree.nodes)) [
  | inl b ↦ b
  | inr past ↦ (let long = d.long in absurd (both_ways (get_or d.due (get_or begun k 0) false) (get_or_past d.due (get_or begun k 0) false
      (omega (arith, past, long))) (d.listed.marked k l)))
]

-- marks of the same list are the same
pub listed_same : (due due' : List Bool) (begun : List ℕ) → AreListed due begun → AreListed due' begun → (x : ℕ) → get_or due x false ≡ get_or due' x false
listed_same due due' begun a b x = elim (cases_Bool (get_or due x false)) [
  | inl on ↦ (let at = a.all x on in on ∙ sym (ap (λ y. get_or due' y false) (sym at.2) ∙ b.marked at.0 at.1))
  | inr off ↦ elim (cases_Bool (get_or due' x false)) [
    | inr off' ↦ off ∙ sym off'
    | inl on' ↦ (let at = b.all x on' in absurd (both_ways (get_or due x false) off (ap (λ y. get_or due y false) (sym at.2) ∙ a.marked at.0 at.1)))
  ]
]

-- stands where a list has no such node
abbrev pub no_node : NodeId
no_node = record { 0 = 0 }

-- one more of the first ones of a list
pub first_more : (begun : List NodeId) (k : ℕ) (none : NodeId) → k < length begun → numbers (take (k + 1) begun) ≡ numbers (take k begun) ++ (get_or begun k
    none).0 ∷ []
first_more begun k none l = ap numbers (take_more begun k none l) ∙ map-append (λ (n : NodeId). n.0) (take k begun) (get_or begun k none ∷ [])

-- it is among the first ones
pub first_among : (begun : List NodeId) (count k : ℕ) (none : NodeId) → count ≤ length begun → k < count → (k < length (numbers (take count begun)))
    × (get_or (numbers (take count begun)) k 0 ≡ (get_or begun k none).0)
first_among begun count k none c b =
    let long = length-map (take count begun) (λ (n : NodeId). n.0) in
    let all = length-take-le count begun c in (
      omega (arith, b, long, all),
      get_or-map (λ (n : NodeId). n.0) (take count begun) k none 0 (omega (arith, b, all)) ∙ ap (λ (n : NodeId). n.0) (get_or-take count begun k none b),
    )
