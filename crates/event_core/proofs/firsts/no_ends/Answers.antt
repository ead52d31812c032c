use Rattle.std.proofs.Common.{subst, ◌+◌, ◌<◌, ◌≡◌, ◌++◌, ◌∷◌, ◌∙◌, ℕ, zero, suc, List, [], length, length-append, get_or, replicate, refl, sym, ap}
use Rattle.std.proofs.Common.{arith, below_more}
use Rattle.std.proofs.lemmas.Result.{IfOk-from_err}
use Rattle.knockout.specs.Knockouts.{never}
use Rattle.event_core.proofs.firsts.no_ends.Goals as goal

-- what stood in a list before an item was put at its end
earlier : (xs : List (List ℕ)) (y : List ℕ) (k : ℕ) → k < length xs → get_or (xs ++ y ∷ []) k [] ≡ get_or xs k []
earlier [] y k below = absurd (omega (arith, below))
earlier (x ∷ xs) y zero below = refl
earlier (x ∷ xs) y (suc k) below = earlier xs y k (omega (arith, below))

-- the item at its end
last : (xs : List (List ℕ)) (y : List ℕ) → get_or (xs ++ y ∷ []) (length xs) [] ≡ y
last [] y = refl
last (x ∷ xs) y = last xs y

-- a list of so many items, and one more
module _ (ks xs : List (List ℕ)) (y : List ℕ) (n : ℕ) (is : ks ≡ xs ++ y ∷ []) (long : length xs ≡ n) where
  one_more : length ks ≡ n + 1
  one_more = let now = ap (λ (zs : List (List ℕ)). length zs) is in let more = length-append xs (y ∷ []) in omega (arith, now, more, long)

  still : (k : ℕ) → k < n → get_or ks k [] ≡ get_or xs k []
  still k below = ap (λ (zs : List (List ℕ)). get_or zs k []) is ∙ earlier xs y k (omega (arith, below, long))

  at_end : get_or ks n [] ≡ y
  at_end = ap (λ (zs : List (List ℕ)). get_or zs n []) is ∙ ap (λ k. get_or (xs ++ y ∷ []) k []) (sym long) ∙ last xs y

pub overflow_cast-node_count : goal.overflow_cast-node_count
overflow_cast-node_count c = let fits = c.node_count.type_inv in omega (arith, fits)

pub new-requires-clause-some : goal.new-requires-clause-some
new-requires-clause-some c = c.room_of.ensures.some

pub new-requires-clause-few : goal.new-requires-clause-few
new-requires-clause-few c = c.room_of.ensures.few

pub room_of-requires-clause-plan : goal.room_of-requires-clause-plan
room_of-requires-clause-plan c = c.requires.plan

pub room_of-requires-clause-node : goal.room_of-requires-clause-node
room_of-requires-clause-node c = subst (λ n. c.loop-x.x < n) c.node_count-x-end.ensures c.loop-x-test.true

pub loop-x-init : goal.loop-x-init
loop-x-init c = (
  ap (λ (xs : List (List ℕ)). length xs) c.in_ok-ready.ensures.items,
  (let room = c.in_ok-ready.ensures.capacity in let n = c.node_count.ensures in omega (arith, room, n)),
  λ p below. absurd (omega (arith, below)),
)

pub loop-x-preserved : goal.loop-x-preserved
loop-x-preserved c =
    let is = c.push_reserved.ensures.items in
    let long = c.loop-x.invariant.0 in (
      one_more _ _ _ _ is long,
      (let room = c.loop-x.invariant.1 in let same = c.push_reserved.ensures.capacity in omega (arith, room, same)),
      below_more _ _
          (λ p below pack. still _ _ _ _ is long p below ∙ c.loop-x.invariant.2 p below pack)
          (λ pack. at_end _ _ _ _ is long ∙ c.in_ok-new.ensures ∙ ap (λ n. replicate n never) (c.room_of.ensures.pack pack.1)),
    )

pub returns-in_err-ready-clause-long : goal.returns-in_err-ready-clause-long
returns-in_err-ready-clause-long c = IfOk-from_err c.from_residual.result _ c.from_residual.ensures.0

pub returns-in_err-ready-clause-packs : goal.returns-in_err-ready-clause-packs
returns-in_err-ready-clause-packs c = IfOk-from_err c.from_residual.result _ c.from_residual.ensures.0

pub returns-in_err-new-clause-long : goal.returns-in_err-new-clause-long
returns-in_err-new-clause-long c = IfOk-from_err c.from_residual-in_err-new.result _ c.from_residual-in_err-new.ensures.0

pub returns-in_err-new-clause-packs : goal.returns-in_err-new-clause-packs
returns-in_err-new-clause-packs c = IfOk-from_err c.from_residual-in_err-new.result _ c.from_residual-in_err-new.ensures.0
