use Rattle.std.proofs.Common.{◌≡◌, ◌∙◌, ℕ, List, None, Some, option_map, codes, refl, sym}
use Rattle.sched_base.specs.declared.rows.Row.{Row}
use Rattle.sched_base.specs.declared.sets.Task.{Task}
use Rattle.text_words.specs.Words.{after_word, number_of, cut_space}
use Rattle.trace_check.specs.RowLines.{row_of}
use Rattle.trace_check.proofs.TaskLemmas.{cap, none_capped, none_then}
use Rattle.trace_check.proofs.RowLemmas.{row_of_is}
use Rattle.trace_check.proofs.row_lines.row_of.Goals as goal

-- a line that has too few words is no row's
no_word : (tasks : List Task) (done : List Row) (line : List ℕ) → None ≡ after_word (codes "row") line → None ≡ row_of tasks done line
no_word tasks done line a = rw (sym a) refl

no_first : (tasks : List Task) (done : List Row) (line rest : List ℕ) → Some rest ≡ after_word (codes "row") line → None ≡ cut_space rest →
    None ≡ row_of tasks done line
no_first tasks done line rest a b = rw (sym a, sym b) refl

no_second : (tasks : List Task) (done : List Row) (line rest processor r : List ℕ) → Some rest ≡ after_word (codes "row") line →
    Some (processor, r) ≡ cut_space rest → None ≡ cut_space r → None ≡ row_of tasks done line
no_second tasks done line rest processor r a b c = rw (sym a, sym b, sym c) refl

no_third : (tasks : List Task) (done : List Row) (line rest processor r start q : List ℕ) → Some rest ≡ after_word (codes "row") line →
    Some (processor, r) ≡ cut_space rest → Some (start, q) ≡ cut_space r
    → None ≡ cut_space q → None ≡ row_of tasks done line
no_third tasks done line rest processor r start q a b c d = rw (sym a, sym b, sym c, sym d) refl

-- nor is one of which a word is no number
no_processor : (tasks : List Task) (done : List Row) (line rest processor r start q end name : List ℕ) → Some rest ≡ after_word (codes "row") line →
    Some (processor, r) ≡ cut_space rest
    → Some (start, q) ≡ cut_space r → Some (end, name) ≡ cut_space q → None ≡ option_map cap (number_of processor) → None ≡ row_of tasks done line
no_processor tasks done line rest processor r start q end name a b c d x = rw (sym a, sym b, sym c, sym d, none_capped (number_of processor) x) refl

no_start : (tasks : List Task) (done : List Row) (line rest processor r start q end name : List ℕ) → Some rest ≡ after_word (codes "row") line →
    Some (processor, r) ≡ cut_space rest
    → Some (start, q) ≡ cut_space r → Some (end, name) ≡ cut_space q → None ≡ option_map cap (number_of start) → None ≡ row_of tasks done line
no_start tasks done line rest processor r start q end name a b c d x = rw (sym a, sym b, sym c, sym d, none_capped (number_of start) x)
    (sym (none_then {B = Row} (number_of processor)))

no_end : (tasks : List Task) (done : List Row) (line rest processor r start q end name : List ℕ) → Some rest ≡ after_word (codes "row") line →
    Some (processor, r) ≡ cut_space rest
    → Some (start, q) ≡ cut_space r → Some (end, name) ≡ cut_space q → None ≡ option_map cap (number_of end) → None ≡ row_of tasks done line
no_end tasks done line rest processor r start q end name a b c d x =
    rw (sym a, sym b, sym c, sym d, none_capped (number_of end) x, none_then {B = Row} (number_of start)) (sym (none_then {B = Row} (number_of processor)))

pub returns-clause-row : goal.returns-clause-row
returns-clause-row c =
    c.row_from.ensures.row
    ∙ row_of_is c.args.set.now.tasks c.args.rows.now c.args.line.now c.in_ok-rest.rest.now c.in_ok-processor.processor.now c.in_ok-processor.rest.now
    c.in_ok-start.start.now c.in_ok-start.rest.now
    c.in_ok-end.end.now c.in_ok-end.name.now c.in_ok-processor-2.processor c.in_ok-start-2.start c.in_ok-end-2.end
    c.in_ok-rest.ensures c.in_ok-processor.ensures c.in_ok-start.ensures c.in_ok-end.ensures c.in_ok-processor-2.ensures c.in_ok-start-2.ensures
    c.in_ok-end-2.ensures

pub returns-in_err-rest-clause-read : goal.returns-in_err-rest-clause-read
returns-in_err-rest-clause-read c = rw c.from_residual.ensures tt

pub returns-in_err-processor-clause-read : goal.returns-in_err-processor-clause-read
returns-in_err-processor-clause-read c = rw c.from_residual-in_err-processor.ensures tt

pub returns-in_err-start-clause-read : goal.returns-in_err-start-clause-read
returns-in_err-start-clause-read c = rw c.from_residual-in_err-start.ensures tt

pub returns-in_err-end-clause-read : goal.returns-in_err-end-clause-read
returns-in_err-end-clause-read c = rw c.from_residual-in_err-end.ensures tt

pub returns-in_err-processor-2-clause-read : goal.returns-in_err-processor-2-clause-read
returns-in_err-processor-2-clause-read c = rw c.from_residual-in_err-processor-2.ensures tt

pub returns-in_err-start-2-clause-read : goal.returns-in_err-start-2-clause-read
returns-in_err-start-2-clause-read c = rw c.from_residual-in_err-start-2.ensures tt

pub returns-in_err-end-2-clause-read : goal.returns-in_err-end-2-clause-read
returns-in_err-end-2-clause-read c = rw c.from_residual-in_err-end-2.ensures tt

pub returns-in_err-rest-clause-row : goal.returns-in_err-rest-clause-row
returns-in_err-rest-clause-row c = c.from_residual.ensures ∙ no_word c.args.set.now.tasks c.args.rows.now c.args.line.now c.in_err-rest.ensures

pub returns-in_err-processor-clause-row : goal.returns-in_err-processor-clause-row
returns-in_err-processor-clause-row c = c.from_residual-in_err-processor.ensures ∙ no_first c.args.set.now.tasks c.args.rows.now c.args.line.now
    c.in_ok-rest.rest.now c.in_ok-rest.ensures c.in_err-processor.ensures

pub returns-in_err-start-clause-row : goal.returns-in_err-start-clause-row
returns-in_err-start-clause-row c = c.from_residual-in_err-start.ensures ∙ no_second c.args.set.now.tasks c.args.rows.now c.args.line.now
    c.in_ok-rest.rest.now c.in_ok-processor.processor.now c.in_ok-processor.rest.now c.in_ok-rest.ensures c.in_ok-processor.ensures c.in_err-start.ensures

pub returns-in_err-end-clause-row : goal.returns-in_err-end-clause-row
returns-in_err-end-clause-row c = c.from_residual-in_err-end.ensures ∙ no_third c.args.set.now.tasks c.args.rows.now c.args.line.now c.in_ok-rest.rest.now
    c.in_ok-processor.processor.now c.in_ok-processor.rest.now c.in_ok-start.start.now c.in_ok-start.rest.now c.in_ok-rest.ensures c.in_ok-processor.ensures
    c.in_ok-start.ensures c.in_err-end.ensures

pub returns-in_err-processor-2-clause-row : goal.returns-in_err-processor-2-clause-row
returns-in_err-processor-2-clause-row c = c.from_residual-in_err-processor-2.ensures ∙ no_processor c.args.set.now.tasks c.args.rows.now c.args.line.now
    c.in_ok-rest.rest.now c.in_ok-processor.processor.now c.in_ok-processor.rest.now c.in_ok-start.start.now c.in_ok-start.rest.now c.in_ok-end.end.now
    c.in_ok-end.name.now c.in_ok-rest.ensures c.in_ok-processor.ensures c.in_ok-start.ensures c.in_ok-end.ensures c.in_err-processor-2.ensures

pub returns-in_err-start-2-clause-row : goal.returns-in_err-start-2-clause-row
returns-in_err-start-2-clause-row c = c.from_residual-in_err-start-2.ensures ∙ no_start c.args.set.now.tasks c.args.rows.now c.args.line.now
    c.in_ok-rest.rest.now c.in_ok-processor.processor.now c.in_ok-processor.rest.now c.in_ok-start.start.now c.in_ok-start.rest.now c.in_ok-end.end.now
    c.in_ok-end.name.now c.in_ok-rest.ensures c.in_ok-processor.ensures c.in_ok-start.ensures c.in_ok-end.ensures c.in_err-start-2.ensures

pub returns-in_err-end-2-clause-row : goal.returns-in_err-end-2-clause-row
returns-in_err-end-2-clause-row c = c.from_residual-in_err-end-2.ensures ∙ no_end c.args.set.now.tasks c.args.rows.now c.args.line.now c.in_ok-rest.rest.now
    c.in_ok-processor.processor.now c.in_ok-processor.rest.now c.in_ok-start.start.now c.in_ok-start.rest.now c.in_ok-end.end.now c.in_ok-end.name.now
    c.in_ok-rest.ensures c.in_ok-processor.ensures c.in_ok-start.ensures c.in_ok-end.ensures c.in_err-end-2.ensures

pub returns-clause-read : goal.returns-clause-read
returns-clause-read c = c.row_from.ensures.read

pub row_from-requires-clause-totals : goal.row_from-requires-clause-totals
row_from-requires-clause-totals c = c.requires.totals

pub row_from-requires-clause-count : goal.row_from-requires-clause-count
row_from-requires-clause-count c = c.requires.count
