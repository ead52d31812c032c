-- What one leaf more on each lane leaves true.
use Rattle.std.proofs.Common.{◌≡◌, ℕ, zero, suc, ◌+◌, ◌-◌, ◌<◌, ◌≤◌, List, [], ◌∷◌, ◌++◌, Some, length, take, drop, set, get_or, refl, sym, ap, ◌∙◌}
use Rattle.std.proofs.Common.{subst, arith, add-one}
use Rattle.std.proofs.lemmas.List.{take_at}
use Rattle.sched_base.specs.declared.rows.Row.{Row}
use Rattle.sched_base.specs.Tables.{LaneHeld, HaveRoom}
use Rattle.sched_base.specs.Columns.{with_leaf, with_leaves}

pub with_leaves-none : (lanes : List LaneHeld) → with_leaves lanes [] ≡ lanes
with_leaves-none [] = refl
with_leaves-none (lane ∷ lanes) = refl

-- lanes from p on are as before
pub get_or-with_leaves : (lanes : List LaneHeld) (rows : List Row) (p : ℕ) (lane : LaneHeld) → p < length lanes → get_or (with_leaves lanes (take p rows)) p
    lane ≡ get_or lanes p lane
get_or-with_leaves [] rows p lane within = absurd (omega arith)
get_or-with_leaves (l ∷ lanes) rows zero lane within = refl
get_or-with_leaves (l ∷ lanes) [] (suc p) lane within = refl
get_or-with_leaves (l ∷ lanes) (r ∷ rows) (suc p) lane within = get_or-with_leaves lanes rows p lane (omega arith)

with_leaves-next : (lanes : List LaneHeld) (rows : List Row) (p : ℕ) (lane : LaneHeld) (r : Row) → p < length lanes → p < length rows
    → set (with_leaves lanes (take p rows)) p (with_leaf (get_or lanes p lane) (get_or rows p r).leaf) ≡ with_leaves lanes (take (suc p) rows)
with_leaves-next [] rows p lane r a b = absurd (omega arith)
with_leaves-next (l ∷ lanes) [] p lane r a b = absurd (omega arith)
with_leaves-next (l ∷ lanes) (s ∷ rows) zero lane r a b = ap (λ ls. with_leaf l s.leaf ∷ ls) (sym (with_leaves-none lanes))
with_leaves-next (l ∷ lanes) (s ∷ rows) (suc p) lane r a b = ap (λ ls. with_leaf l s.leaf ∷ ls) (with_leaves-next lanes rows p lane r (omega arith)
    (omega arith))

-- a step of the loop over the lanes
pub with_leaves-more : (lanes : List LaneHeld) (rows : List Row) (p : ℕ) (lane : LaneHeld) (r : Row) → p < length lanes → p < length rows
    → set (with_leaves lanes (take p rows)) p (with_leaf (get_or lanes p lane) (get_or rows p r).leaf) ≡ with_leaves lanes (take (p + 1) rows)
with_leaves-more lanes rows p lane r a b = rw add-one (with_leaves-next lanes rows p lane r a b)

pub HaveRoom-tail : (n : ℕ) (lane : LaneHeld) (lanes : List LaneHeld) → HaveRoom n (lane ∷ lanes) → HaveRoom n lanes
HaveRoom-tail n lane lanes h p = h (suc p)

-- each lane has room for one row less
pub HaveRoom-with_leaves : (n : ℕ) (lanes : List LaneHeld) (rows : List Row) → HaveRoom n lanes → HaveRoom (n - 1) (with_leaves lanes rows)
HaveRoom-with_leaves n [] rows h p lane at = cc
HaveRoom-with_leaves n (l ∷ lanes) [] h p lane at = let a = h p lane at in omega (arith, a)
HaveRoom-with_leaves n (l ∷ lanes) (r ∷ rows) h zero lane at =
    let e : Some (with_leaf l r.leaf) ≡ Some lane = at in
    let e' : with_leaf l r.leaf ≡ lane = cc in
    let a = h zero l refl in
    let b : l.room - 1 ≡ lane.room = ap (λ (x : LaneHeld). x.room) e' in
    omega (arith, a, b)
HaveRoom-with_leaves n (l ∷ lanes) (r ∷ rows) h (suc p) lane at = HaveRoom-with_leaves n lanes rows (HaveRoom-tail n l lanes h) p lane at

-- a lane at the end
pub HaveRoom-push : (n : ℕ) (lanes : List LaneHeld) (lane : LaneHeld) → HaveRoom n lanes → n ≤ lane.room → HaveRoom n (lanes ++ lane ∷ [])
HaveRoom-push n [] lane h room zero l at = let e : Some lane ≡ Some l = at in let e' : lane ≡ l = cc in subst (λ (x : LaneHeld). n ≤ x.room) e' room
HaveRoom-push n [] lane h room (suc p) l at = cc
HaveRoom-push n (k ∷ lanes) lane h room zero l at = h zero l at
HaveRoom-push n (k ∷ lanes) lane h room (suc p) l at = HaveRoom-push n lanes lane (HaveRoom-tail n k lanes h) room p l at

-- what a loan of all lanes leaves once each has its row more
pub written_back : (lanes seen new : List LaneHeld) (rows : List Row) (n : ℕ) → seen ≡ lanes → length seen ≡ n → length new ≡ length seen →
    new ≡ with_leaves seen rows
    → take n (new ++ drop (length new) lanes) ≡ with_leaves lanes rows
written_back lanes seen new rows n same many as_many is = take_at new (drop (length new) lanes) n (as_many ∙ many) ∙ is ∙ ap (λ ls. with_leaves ls rows) same

pub length-with_leaves : (lanes : List LaneHeld) (rows : List Row) → length (with_leaves lanes rows) ≡ length lanes
length-with_leaves [] rows = refl
length-with_leaves (lane ∷ lanes) [] = refl
length-with_leaves (lane ∷ lanes) (r ∷ rows) = ap suc (length-with_leaves lanes rows)
