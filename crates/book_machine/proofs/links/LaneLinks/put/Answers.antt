use Rattle.std.proofs.Common.{◌≡◌, ◌⊎◌, Bool, true, false, cond, [], ◌∷◌, ◌++◌, length, take, ap, arith, inl, inr}
use Rattle.book_machine.proofs.LinkLemmas.{keeps_link}
use Rattle.book_machine.proofs.links.LaneLinks.put.Goals as goal

either : {X : Type 0} (ok : Bool) (x a b : X) → x ≡ cond ok a b → (x ≡ a) ⊎ (x ≡ b)
either true x a b is = inl is
either false x a b is = inr is

pub returns-then-len-round : goal.returns-then-len-round
returns-then-len-round c =
    let codes = c.self.inside.links.items in
    let cut = c.truncate.ensures.items in
    let full : length (take c.args.round codes) ≡ c.args.round =
    let items = ap length cut in
    let long = c.truncate.new.self.ok.0 in
    let counted = c.len.ensures in
    let next = c.if-len-round.true in
    omega (arith, items, long, counted, next) in
    let short = c.truncate.new.self.items in
    let grown : (c.push.new.self.items ≡ short ++ c.code_of.result ∷ []) ⊎ (c.push.new.self.items ≡ short) = either _ _ _ _ c.push.ensures.items in
    rw (← c.self.view_is) (keeps_link codes c.push.new.self.items c.args.round c.code_of.result c.args.link c.code_of.ensures full (rw cut at grown))
