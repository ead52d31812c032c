use Rattle.std.proofs.Common.{arith, ap, ap₂, ◌∙◌, ◌+◌, ◌*◌, ℕ, ◌≡◌, subst, sym}
use Rattle.tree_select.specs.Masks.{stands_at}
use Rattle.tree_select.proofs.MaskLemmas.{AreBitsBelow, bits_none, bits_put, bits_skip, bits_all}
use Rattle.tree_select.proofs.masks.mask_of.Goals as goal
use Rattle.tree_select.proofs.masks.mask_of.Goals.{then-stands_at, else-stands_at}

pub loop-k-init : goal.loop-k-init
loop-k-init c = bits_none c.args.tree.now c.args.level c.args.word

pub loop-k-preserved : goal.loop-k-preserved
loop-k-preserved c =
    let t = c.args.tree.now in
    let on = c.loop-k-test.true in
    let at : c.from.result * c.from-in-loop-k.result + c.from-in-loop-k-2.result ≡ c.args.word * 64 + c.loop-k.k =
    ap₂ (λ (a b : ℕ). a + b) (ap₂ (λ (a b : ℕ). a * b) c.from.ensures c.from-in-loop-k.ensures) c.from-in-loop-k-2.ensures in
    let stands = c.stands_at.ensures ∙ ap (stands_at t c.args.level) at in
    elim c.if-stands_at.branch [
      | then-stands_at w ↦
          subst (λ (m : ℕ). AreBitsBelow t c.args.level c.args.word (c.loop-k.k + 1) m) (sym w.mask-is)
          (bits_put t c.args.level c.args.word c.loop-k.k c.loop-k.mask on (sym stands ∙ w.if-stands_at.true) c.loop-k.invariant)
      | else-stands_at w ↦
          subst (λ (m : ℕ). AreBitsBelow t c.args.level c.args.word (c.loop-k.k + 1) m) (sym w.mask-is)
          (bits_skip t c.args.level c.args.word c.loop-k.k c.loop-k.mask on (sym stands ∙ w.if-stands_at.false) c.loop-k.invariant)
    ]

pub returns : goal.returns
returns c = let off = c.loop-k-test.false in let most = c.loop-k.auto.k-end in let all : c.loop-k.k ≡ 64 = omega (arith, off, most) in
    bits_all c.args.tree.now c.args.level c.args.word c.loop-k.mask (subst (λ (k : ℕ). AreBitsBelow c.args.tree.now c.args.level c.args.word k
    c.loop-k.mask) all c.loop-k.invariant)
