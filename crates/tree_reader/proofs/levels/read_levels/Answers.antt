use Rattle.std.proofs.lemmas.Result.{IfOk-from_err, err_from_is_err_and}
use Rattle.std.proofs.Common.{◌≡◌, ◌+◌, ◌∷◌, ◌++◌, ◌<◌, [], ℕ, suc, List, length, get_or, Ok, sym, ap, subst, ◌∙◌, arith}
use Rattle.std.proofs.lemmas.List.Sums.{sum_by_push}
use Rattle.text_words.specs.Words.{lines_of}
use Rattle.tree_check.specs.Written.{Pack, IsWrittenLevel}
use Rattle.trace_check.specs.Faults.{NamesBadLine}
use Rattle.tree_reader.specs.Reading.{level_from, levels_from, lines_so_far}
use Rattle.tree_reader.proofs.ReadingLemmas.{levels_more, levels_stop, stops_same, lawful_more, line_fits, later_fits, rest_smaller}
use Rattle.tree_reader.proofs.levels.read_levels.Goals as goal

pub loop-rest-preserved : goal.loop-rest-preserved
loop-rest-preserved c =
    let scale = c.args.scale in
    let at = c.loop-rest.at in
    let items = c.loop-rest.levels.items in
    let read = c.in-Ok-read_level.read in
    let lines = lines_of c.loop-rest.rest.now in
    let off = sym c.if-begins_end.ensures in
    let packs = read.0.items in
    let after = lines_of read.1.now in
    let count : c.len.result ≡ length items = omega (arith, c.len.ensures, c.loop-rest.levels.ok.0) in
    let level = subst (λ (k : ℕ). level_from scale k at c.first_line.result.0.now (lines_of c.first_line.result.1.now) ≡ Ok (packs, after)) count
    c.in-Ok-read_level.ensures.read in
    let lawful = subst (λ (k : ℕ). IsWrittenLevel scale k packs) count c.in-Ok-read_level.ensures.lawful in
    let pushed : c.push.new.self.items ≡ items ++ packs ∷ [] = c.in_ok-push.ensures.items ∙ ap (λ x. items ++ x ∷ []) c.new.ensures in
    let lines_more = sum_by_push (λ (ps : List Pack). suc (length ps)) items packs in
    let told = ap lines_so_far pushed in
    let size : length packs ≡ c.len-in-loop-rest.result = omega (arith, c.len-in-loop-rest.ensures, read.0.ok.0) in (
      c.loop-rest.invariant.0
          ∙ levels_more scale at items lines (lines_of c.first_line.result.1.now) after c.first_line.result.0.now packs c.first_line.ensures.line off level
          ∙ ap (λ ls. levels_from scale (at + (1 + length packs)) 0 ls after) (sym pushed)
          ∙ ap (λ k. levels_from scale (at + (1 + k)) 0 c.push.new.self.items after) size,
      omega (arith, lines_more, told, size, c.loop-rest.invariant.1),
      omega (arith, size, c.loop-rest.invariant.2, c.first_line.ensures.less, c.in-Ok-read_level.ensures.less),
      (let Each : List (List Pack) → Type 0 = λ ls. (k : ℕ) → k < length ls → IsWrittenLevel scale k (get_or ls k []) in
          subst Each (sym pushed) (lawful_more scale items packs c.loop-rest.invariant.3 lawful)),
    )

pub returns-in-Err-read_level-clause-fault : goal.returns-in-Err-read_level-clause-fault
returns-in-Err-read_level-clause-fault c =
    let items = c.loop-rest.levels.items in
    let lines = lines_of c.loop-rest.rest.now in
    let count : c.len.result ≡ length items = omega (arith, c.len.ensures, c.loop-rest.levels.ok.0) in
    let level = subst (λ (k : ℕ). NamesBadLine (level_from c.args.scale k c.loop-rest.at c.first_line.result.0.now (lines_of c.first_line.result.1.now))
    c.in-Err-read_level.fault) count c.in-Err-read_level.ensures.fault in
    stops_same (levels_from c.args.scale c.args.first 0 [] (lines_of c.args.text.now)) (levels_from c.args.scale c.loop-rest.at 0 items lines)
    c.in-Err-read_level.fault c.loop-rest.invariant.0
    (levels_stop c.args.scale c.loop-rest.at items lines (lines_of c.first_line.result.1.now) c.first_line.result.0.now c.in-Err-read_level.fault
    c.first_line.ensures.line (sym c.if-begins_end.ensures) level)

pub returns-in_err-push-clause-read : goal.returns-in_err-push-clause-read
returns-in_err-push-clause-read c = IfOk-from_err _ _ c.from_residual.ensures.0

pub returns-in_err-push-clause-some : goal.returns-in_err-push-clause-some
returns-in_err-push-clause-some c = IfOk-from_err _ _ c.from_residual.ensures.0

pub returns-in_err-push-clause-lawful : goal.returns-in_err-push-clause-lawful
returns-in_err-push-clause-lawful c = IfOk-from_err _ _ c.from_residual.ensures.0

pub returns-in_err-push-clause-lines : goal.returns-in_err-push-clause-lines
returns-in_err-push-clause-lines c = IfOk-from_err _ _ c.from_residual.ensures.0

pub returns-in_err-push-clause-fault : goal.returns-in_err-push-clause-fault
returns-in_err-push-clause-fault c = let why = err_from_is_err_and c.from_residual.result c.from_residual.ensures.1 in rw (why.1, why.2) tt

pub read_level-requires-clause-scale : goal.read_level-requires-clause-scale
read_level-requires-clause-scale c = c.requires.scale

pub end_of-requires : goal.end_of-requires
end_of-requires c = line_fits c.loop-rest.at (length c.loop-rest.rest.now) c.args.first (length c.args.text.now) c.loop-rest.invariant.2 c.requires.first

pub returns-in-Ok-clause-some : goal.returns-in-Ok-clause-some
returns-in-Ok-clause-some c = subst (λ (ls : List (List Pack)). 0 < length ls) c.deref.ensures.value c.in-Ok.ensures.some

pub returns-in-Ok-clause-lawful : goal.returns-in-Ok-clause-lawful
returns-in-Ok-clause-lawful c = c.loop-rest.invariant.3

pub read_level-requires-clause-at : goal.read_level-requires-clause-at
read_level-requires-clause-at c =
    later_fits c.loop-rest.at (length c.first_line.result.1.now) (length c.loop-rest.rest.now) c.args.first (length c.args.text.now)
    c.first_line.ensures.less c.loop-rest.invariant.2 c.requires.first

pub loop-rest-smaller : goal.loop-rest-smaller
loop-rest-smaller c = rest_smaller _ _ _ _ c.in-Ok-read_level.ensures.less c.first_line.ensures.less
