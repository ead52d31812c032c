use Rattle.std.proofs.Common.{◌≡◌, ◌+◌, ◌-◌, ◌∷◌, ◌++◌, ◌≤◌, [], ℕ, List, length, length-append, sym, ap, subst, ◌∙◌, arith}
use Rattle.std.proofs.lemmas.Result.{err_from_is_err_and, IfOk-from_err}
use Rattle.std.specs.List.{AllByRecursion}
use Rattle.text_words.specs.Words.{lines_of}
use Rattle.tree_reader.specs.Reading.{idles_from}
use Rattle.tree_reader.proofs.ReadingLemmas.{idles_more, idles_stop, all_push, scale_small}
use Rattle.tree_reader.proofs.idles.read_idles.Goals as goal

pub returns-in_err-rate-clause-fault : goal.returns-in_err-rate-clause-fault
returns-in_err-rate-clause-fault c =
    let why = err_from_is_err_and c.from_residual.result c.from_residual.ensures.1 in
    rw (why.1, why.2) (c.loop-k.invariant.0
    ∙ idles_stop c.args.first c.args.scale (c.args.count - c.loop-k.k) (c.args.first + c.from.result) c.from-number.result c.loop-k.idles.items
    (lines_of c.loop-k.rest.now) c.in_err-rate.field-0.0.line (omega arith) (omega arith) (omega arith) c.in_err-rate.ensures.fault)

pub loop-k-preserved : goal.loop-k-preserved
loop-k-preserved c =
    let first = c.args.first in
    let scale = c.args.scale in
    let less : c.args.count - c.loop-k.k - 1 ≡ c.args.count - (c.loop-k.k + 1) = omega arith in
    let pushed : c.push.new.self.items ≡ c.loop-k.idles.items ++ c.in_ok-rate.rate ∷ [] = c.in_ok-push.ensures.items in (
      c.loop-k.invariant.0
          ∙ idles_more first scale (c.args.count - c.loop-k.k) (c.args.first + c.from.result) c.from-number.result c.loop-k.idles.items
          (lines_of c.loop-k.rest.now) (lines_of c.in_ok-rate.later.now) c.in_ok-rate.rate (omega arith) (omega arith) (omega arith)
          c.in_ok-rate.ensures.read
          ∙ ap (λ n. idles_from first scale n (c.loop-k.idles.items ++ c.in_ok-rate.rate ∷ []) (lines_of c.in_ok-rate.later.now)) less
          ∙ ap (λ xs. idles_from first scale (c.args.count - (c.loop-k.k + 1)) xs (lines_of c.in_ok-rate.later.now)) (sym pushed),
      (let e = length-append c.loop-k.idles.items (c.in_ok-rate.rate ∷ []) in let g = ap length pushed in omega (arith, e, g, c.loop-k.invariant.1)),
      (let P : ℕ → Type 0 = λ r. (1 ≤ r) × (r ≤ scale) in subst (λ (xs : List ℕ). AllByRecursion P xs) (sym pushed) (all_push P c.loop-k.idles.items
          c.in_ok-rate.rate c.loop-k.invariant.2 c.in_ok-rate.ensures.limits)),
    )

pub returns-in_err-rate-clause-read : goal.returns-in_err-rate-clause-read
returns-in_err-rate-clause-read c = IfOk-from_err _ _ c.from_residual.ensures.0

pub returns-in_err-rate-clause-count : goal.returns-in_err-rate-clause-count
returns-in_err-rate-clause-count c = IfOk-from_err _ _ c.from_residual.ensures.0

pub returns-in_err-rate-clause-each : goal.returns-in_err-rate-clause-each
returns-in_err-rate-clause-each c = IfOk-from_err _ _ c.from_residual.ensures.0

pub returns-in_err-push-clause-read : goal.returns-in_err-push-clause-read
returns-in_err-push-clause-read c = IfOk-from_err _ _ c.from_residual-in_err-push.ensures.0

pub returns-in_err-push-clause-count : goal.returns-in_err-push-clause-count
returns-in_err-push-clause-count c = IfOk-from_err _ _ c.from_residual-in_err-push.ensures.0

pub returns-in_err-push-clause-each : goal.returns-in_err-push-clause-each
returns-in_err-push-clause-each c = IfOk-from_err _ _ c.from_residual-in_err-push.ensures.0

pub returns-in_err-push-clause-fault : goal.returns-in_err-push-clause-fault
returns-in_err-push-clause-fault c = let why = err_from_is_err_and c.from_residual-in_err-push.result c.from_residual-in_err-push.ensures.1 in
    rw (why.1, why.2) tt

pub returns-clause-each : goal.returns-clause-each
returns-clause-each c = c.loop-k.invariant.2

pub next_second-requires-clause-second : goal.next_second-requires-clause-second
next_second-requires-clause-second c = scale_small _ c.requires.scale
