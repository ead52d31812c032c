use Rattle.std.proofs.lemmas.Result.{IfOk-from_err, err_from_is_err_and}
use Rattle.std.proofs.Common.{◌≡◌, ◌+◌, ◌-◌, ◌∷◌, ◌++◌, [], List, Option, length, length-append, Err, sym, ap, subst, ◌∙◌, arith}
use Rattle.std.specs.Prelude.{IfSome}
use Rattle.std.specs.List.{AllByRecursion}
use Rattle.std.proofs.lemmas.Bool.{eqb-true}
use Rattle.text_words.specs.Words.{lines_of}
use Rattle.trace_check.proofs.TaskLemmas.{no_lines}
use Rattle.tree_check.specs.Written.{Pack, IsWrittenPack}
use Rattle.tree_reader.specs.Reading.{packs_from}
use Rattle.tree_reader.proofs.ReadingLemmas.{packs_more, packs_stop, packs_end, all_push, scale_small}
use Rattle.tree_reader.proofs.levels.read_packs.Goals as goal

pub returns-then-is_empty-clause-fault : goal.returns-then-is_empty-clause-fault
returns-then-is_empty-clause-fault c =
    c.loop-i.invariant.0
    ∙ packs_end c.args.scale c.args.level c.args.first (c.args.count - c.loop-i.i) c.loop-i.packs.items (lines_of c.loop-i.rest.now) (omega arith)
    (no_lines c.loop-i.rest.now (eqb-true _ _ (sym c.if-is_empty.ensures)))
    ∙ ap Err (omega (arith, c.loop-i.invariant.1, c.from.ensures))

pub returns-in-None-clause-fault : goal.returns-in-None-clause-fault
returns-in-None-clause-fault c =
    c.loop-i.invariant.0
    ∙ packs_stop c.args.scale c.args.level c.args.first (c.args.count - c.loop-i.i) c.loop-i.packs.items (lines_of c.loop-i.rest.now)
    (lines_of c.first_line.result.1.now) c.first_line.result.0.now
    (omega arith) c.first_line.ensures.line (sym c.in_ok-pack.ensures.value ∙ c.in-None.is)
    ∙ ap Err (omega (arith, c.loop-i.invariant.1, c.from.ensures))

pub loop-i-preserved : goal.loop-i-preserved
loop-i-preserved c =
    let scale = c.args.scale in
    let level = c.args.level in
    let first = c.args.first in
    let later = lines_of c.first_line.result.1.now in
    let pack = c.in-Some.pack in
    let items = c.loop-i.packs.items in
    let less : c.args.count - c.loop-i.i - 1 ≡ c.args.count - (c.loop-i.i + 1) = omega arith in
    let pushed : c.push.new.self.items ≡ items ++ pack ∷ [] = c.in_ok-push.ensures.items in (
      c.loop-i.invariant.0
          ∙ packs_more scale level first (c.args.count - c.loop-i.i) items (lines_of c.loop-i.rest.now) later c.first_line.result.0.now pack (omega arith)
          c.first_line.ensures.line (sym c.in_ok-pack.ensures.value ∙ c.in-Some.is)
          ∙ ap (λ n. packs_from scale level first n (items ++ pack ∷ []) later) less
          ∙ ap (λ ps. packs_from scale level first (c.args.count - (c.loop-i.i + 1)) ps later) (sym pushed),
      (let e = length-append items (pack ∷ []) in let g = ap length pushed in omega (arith, e, g, c.loop-i.invariant.1)),
      omega (arith, c.loop-i.invariant.2, c.first_line.ensures.less),
      subst (λ (ps : List Pack). AllByRecursion (IsWrittenPack scale level) ps) (sym pushed) (all_push (IsWrittenPack scale level) items pack
          c.loop-i.invariant.3 (subst (λ (o : Option Pack). IfSome o (IsWrittenPack scale level)) c.in-Some.is c.in_ok-pack.ensures.lawful)),
    )

pub returns-in_err-pack-clause-read : goal.returns-in_err-pack-clause-read
returns-in_err-pack-clause-read c = IfOk-from_err _ _ c.from_residual.ensures.0

pub returns-in_err-pack-clause-count : goal.returns-in_err-pack-clause-count
returns-in_err-pack-clause-count c = IfOk-from_err _ _ c.from_residual.ensures.0

pub returns-in_err-pack-clause-less : goal.returns-in_err-pack-clause-less
returns-in_err-pack-clause-less c = IfOk-from_err _ _ c.from_residual.ensures.0

pub returns-in_err-pack-clause-each : goal.returns-in_err-pack-clause-each
returns-in_err-pack-clause-each c = IfOk-from_err _ _ c.from_residual.ensures.0

pub returns-in_err-pack-clause-fault : goal.returns-in_err-pack-clause-fault
returns-in_err-pack-clause-fault c = let why = err_from_is_err_and c.from_residual.result c.from_residual.ensures.1 in rw (why.1, why.2) tt

pub returns-in_err-push-clause-read : goal.returns-in_err-push-clause-read
returns-in_err-push-clause-read c = IfOk-from_err _ _ c.from_residual-in_err-push.ensures.0

pub returns-in_err-push-clause-count : goal.returns-in_err-push-clause-count
returns-in_err-push-clause-count c = IfOk-from_err _ _ c.from_residual-in_err-push.ensures.0

pub returns-in_err-push-clause-less : goal.returns-in_err-push-clause-less
returns-in_err-push-clause-less c = IfOk-from_err _ _ c.from_residual-in_err-push.ensures.0

pub returns-in_err-push-clause-each : goal.returns-in_err-push-clause-each
returns-in_err-push-clause-each c = IfOk-from_err _ _ c.from_residual-in_err-push.ensures.0

pub returns-in_err-push-clause-fault : goal.returns-in_err-push-clause-fault
returns-in_err-push-clause-fault c = let why = err_from_is_err_and c.from_residual-in_err-push.result c.from_residual-in_err-push.ensures.1 in
    rw (why.1, why.2) tt

pub returns-clause-each : goal.returns-clause-each
returns-clause-each c = c.loop-i.invariant.3

pub read_pack-requires : goal.read_pack-requires
read_pack-requires c = scale_small _ c.requires.scale
