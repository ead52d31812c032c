use Rattle.std.proofs.Common.{◌≡◌, ◌+◌, ◌<◌, ◌≤◌, ℕ, List, length, get_or, ap, sym, subst, ◌∙◌, arith}
use Rattle.std.proofs.lemmas.List.{get_or_default, take_all}
use Rattle.tree_check.specs.Written.{Pack, level_at, pack_at, no_pack, pack_line}
use Rattle.tree_check.specs.Scans.{AreMarks, IsLeast, fault_of, names_of, with_fault}
use Rattle.tree_check.proofs.PackScans.{IsFirstBelow}
use Rattle.tree_check.proofs.ScanSteps.{IsScanStep, least_none, pack_within, marks_step, least_step, first_step, lines_room}
use Rattle.tree_check.proofs.levels.scan.Goals as goal

pub overflow_add-line : goal.overflow_add-line
overflow_add-line c = omega (arith, c.requires.line, lines_room c.args.tree.now c.args.l c.scale-scale.ensures.lawful c.requires.level)

pub overflow_add-line-in-loop-i : goal.overflow_add-line-in-loop-i
overflow_add-line-in-loop-i c =
    omega (
      arith,
      c.requires.line,
      c.loop-i-test.true,
      ap length c.packs-pack-items.ensures,
      lines_room c.args.tree.now c.args.l
          c.scale-scale.ensures.lawful c.requires.level,
    )

pub loop-i-preserved : goal.loop-i-preserved
loop-i-preserved c =
    let w = c.args.tree.now in
    let l = c.args.l in
    let i = c.loop-i.i in
    let iw = c.scale-scale.ensures.lawful in
    let low : i < length (level_at w l) = omega (arith, c.loop-i-test.true, ap length c.packs-pack-items.ensures) in
    let pack : c.pack-item.result ≡ pack_at (level_at w l) i =
    c.pack-item.is ∙ get_or_default c.packs-pack-items.result.now i c.pack-item.result no_pack c.loop-i-test.true ∙ ap (λ ps. get_or ps i no_pack)
    c.packs-pack-items.ensures in
    let rate = c.rate-rate.ensures ∙ ap (λ (p : Pack). p.rate) pack in
    let members = c.members.ensures ∙ ap (λ (p : Pack). p.members) pack in
    let step : IsScanStep w l i c.args.rates.now c.place-sum.new.marks c.members.result.now c.rate-rate.result c.place-sum.result = record {
      level = c.requires.level;
      pack = low;
      rates = c.requires.rates;
      members = members;
      rate = rate;
      marks = c.place-sum.ensures.marks _ c.loop-i.invariant.0;
      placed = c.place-sum.ensures.result _ c.loop-i.invariant.0;
    } in
    let scale = c.scale-scale.ensures.value in
    let line : c.args.line + 1 + i ≡ pack_line w l i = omega (arith, c.requires.line) in
    let least = subst (λ (s : ℕ). IsLeast s (level_at w l) i c.loop-i.least) scale c.loop-i.invariant.1 in
    let first = first_step w l i _ _ _ _ _ step iw c.loop-i.least (c.args.line + 1 + i) c.loop-i.first least line c.loop-i.invariant.2 in
    let kind : c.pack_fault-kind.result ≡ fault_of c.place-sum.result c.rate-rate.result c.loop-i.least w.scale = c.pack_fault-kind.ensures
    ∙ ap (fault_of c.place-sum.result c.rate-rate.result c.loop-i.least) scale in
    let found = c.with_fault-first.ensures ∙ ap (λ k. with_fault c.loop-i.first k (c.args.line + 1 + i)) kind in (
      marks_step w l i _ _ _ _ _ step,
      subst (IsLeast c.scale-scale.result (level_at w l) (i + 1)) (sym c.min-least.ensures) (least_step w l i _ _ _ _ _ step c.scale-scale.result
          c.loop-i.least c.loop-i.invariant.1),
      subst (IsFirstBelow w l (i + 1)) (sym found) first,
    )

pub returns-clause-first : goal.returns-clause-first
returns-clause-first c =
    let e : c.loop-i.i ≡ length (level_at c.args.tree.now c.args.l) = omega (
      arith,
      c.loop-i-test.false,
      c.loop-i.auto.i-end,
      ap length c.packs-pack-items.ensures,
    ) in
    let P : ℕ → Type 0 = λ n. IsFirstBelow c.args.tree.now c.args.l n c.loop-i.first in
    subst P e c.loop-i.invariant.2

pub packs-pack-items-requires : goal.packs-pack-items-requires
packs-pack-items-requires c = c.requires.level

pub loop-i-init : goal.loop-i-init
loop-i-init c =
    let value = c.scale-scale.ensures.value in
    let fits = c.scale-scale.ensures.lawful.scale_fits in (
      c.requires.marks,
      least_none c.scale-scale.result (level_at c.args.tree.now c.args.l) (omega (arith, value, fits)),
      λ kind line has. let low = has.1 in
          absurd (omega (arith, low)),
    )

pub place-sum-requires : goal.place-sum-requires
place-sum-requires c = c.loop-i.invariant.0.long

pub pack_fault-kind-requires : goal.pack_fault-kind-requires
pack_fault-kind-requires c =
    let w = c.args.tree.now in
    let i = c.loop-i.i in
    let low : i < length (level_at w c.args.l) = omega (arith, c.loop-i-test.true, ap length c.packs-pack-items.ensures) in
    let pack : c.pack-item.result ≡ pack_at (level_at w c.args.l) i =
    c.pack-item.is ∙ get_or_default c.packs-pack-items.result.now i c.pack-item.result no_pack c.loop-i-test.true ∙ ap (λ ps. get_or ps i no_pack)
    c.packs-pack-items.ensures in
    let rate = c.rate-rate.ensures ∙ ap (λ (p : Pack). p.rate) pack in
    let value = c.scale-scale.ensures.value in
    let within = pack_within w c.args.l i c.scale-scale.ensures.lawful c.requires.level low in
    omega (arith, rate, value, within)

pub returns-clause-marks : goal.returns-clause-marks
returns-clause-marks c =
    let w = c.args.tree.now in
    let l = c.args.l in
    let done : length (level_at w l) ≤ c.loop-i.i = omega (arith, c.loop-i-test.false, ap length c.packs-pack-items.ensures) in
    subst (λ (ps : List Pack). AreMarks c.args.rates.now (names_of w l ps) c.loop-i.marks) (take_all c.loop-i.i (level_at w l) done) c.loop-i.invariant.0
