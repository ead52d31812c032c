use Rattle.tree_reader.specs.Packs.{number_behind, second_number}
use Rattle.text_words.specs.Words.{after_word, cut_space}
use Rattle.std.proofs.Common.{◌∙◌, ◌≡◌, ℕ, List, Some, None, refl, sym}
use Rattle.tree_reader.proofs.packs.second_number.Goals as goal

no_word : (word : List ℕ) (k low high : ℕ) (line : List ℕ) → None ≡ after_word word line → None ≡ second_number word k low high line
no_word word k low high line a = rw (sym a) refl

one_word : (word : List ℕ) (k low high : ℕ) (line rest : List ℕ) → Some rest ≡ after_word word line → None ≡ cut_space rest → None ≡ second_number word k
    low high line
one_word word k low high line rest a b = rw (sym a, sym b) refl

two_words : (word : List ℕ) (k low high : ℕ) (line rest first second : List ℕ) → Some rest ≡ after_word word line → Some (first, second) ≡ cut_space rest
    → number_behind k low high (first, second) ≡ second_number word k low high line
two_words word k low high line rest first second a b = rw (sym a, sym b) refl

pub returns-in_err-after_word-clause-value : goal.returns-in_err-after_word-clause-value
returns-in_err-after_word-clause-value c = c.from_residual.ensures ∙ no_word c.args.word.now c.args.k c.args.low c.args.high c.args.line.now
    c.in_err-after_word.ensures

pub returns-in_err-after_word-clause-limits : goal.returns-in_err-after_word-clause-limits
returns-in_err-after_word-clause-limits c = rw c.from_residual.ensures tt

pub returns-in_err-first-clause-value : goal.returns-in_err-first-clause-value
returns-in_err-first-clause-value c = c.from_residual-in_err-first.ensures ∙ one_word c.args.word.now c.args.k c.args.low c.args.high c.args.line.now
    c.in_ok-after_word.field-0.now c.in_ok-after_word.ensures c.in_err-first.ensures

pub returns-in_err-first-clause-limits : goal.returns-in_err-first-clause-limits
returns-in_err-first-clause-limits c = rw c.from_residual-in_err-first.ensures tt

pub number_behind-requires-clause-first : goal.number_behind-requires-clause-first
number_behind-requires-clause-first c = c.requires.first

pub number_behind-requires-clause-second : goal.number_behind-requires-clause-second
number_behind-requires-clause-second c = c.requires.second

pub returns-clause-value : goal.returns-clause-value
returns-clause-value c =
    c.number_behind.ensures.value
    ∙ two_words c.args.word.now c.args.k c.args.low c.args.high c.args.line.now c.in_ok-after_word.field-0.now c.in_ok-first.first.now
    c.in_ok-first.second.now c.in_ok-after_word.ensures c.in_ok-first.ensures

pub returns-clause-limits : goal.returns-clause-limits
returns-clause-limits c = c.number_behind.ensures.limits
