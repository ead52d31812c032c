use Rattle.std.proofs.Common.{ap, arith, subst, sym, Global, List, Vec, ◌+◌, ◌∙◌}
use Rattle.tree_select.specs.declared.masks.Group.{Group}
use Rattle.tree_select.specs.Masks.{IsGroupOf}
use Rattle.tree_select.proofs.MaskLemmas.{AreGrown, grown_all, grown_more, grown_none, grown_skip}
use Rattle.tree_select.proofs.masks.add_level.Goals as goal
use Rattle.tree_select.proofs.masks.add_level.Goals.{then-mask-ne0+in_ok-push, else-mask-ne0}

pub loop-word-init : goal.loop-word-init
loop-word-init c = grown_none c.args.tree.now c.args.groups.now.items c.args.level

pub loop-word-preserved : goal.loop-word-preserved
loop-word-preserved c =
    let t = c.args.tree.now in
    let before = c.args.groups.now.items in
    let l = c.args.level in
    let word = c.loop-word.word in
    let mask = c.mask_of-mask.result in
    elim c.if-mask-ne0.branch [
      | then-mask-ne0+in_ok-push w ↦
          (let many = c.nodes.ensures.value in
          let on = c.loop-word-test.true in
          let group : IsGroupOf t l (record { word = word; mask = mask }) = record { near = omega (arith, many, on); bits = c.mask_of-mask.ensures } in
          subst (λ (gs : List Group). AreGrown t before gs l (word + 1)) (sym w.in_ok-push.ensures.items ∙ ap (λ (v : Vec Group Global). v.items)
          (sym w.groups-is))
          (grown_more t before c.loop-word.groups.items l (record { word = word; mask = mask }) group c.loop-word.invariant))
      | else-mask-ne0 w ↦
          (let none = w.if-mask-ne0.false in
          subst (λ (gs : List Group). AreGrown t before gs l (word + 1)) (ap (λ (v : Vec Group Global). v.items) (sym w.groups-is))
          (grown_skip t before c.loop-word.groups.items l word mask (omega (arith, none)) c.mask_of-mask.ensures c.loop-word.invariant))
    ]

pub returns-clause-span : goal.returns-clause-span
returns-clause-span c =
    let many = c.nodes.ensures.value in
    let off = c.loop-word-test.false in
    grown_all c.args.tree.now c.args.groups.now.items c.loop-word.groups.items c.args.level c.loop-word.word _ (omega (arith, many, off))
    (let from = c.len-from.ensures in let ok = c.args.groups.now.ok.0 in omega (arith, from, ok)) (let to = c.len.ensures in
    let ok = c.loop-word.groups.ok.0 in omega (arith, to, ok)) c.loop-word.invariant

pub returns-clause-kept : goal.returns-clause-kept
returns-clause-kept c = c.loop-word.invariant.kept
