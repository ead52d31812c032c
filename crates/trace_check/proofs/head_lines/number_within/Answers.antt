use Rattle.trace_check.proofs.TaskLemmas.{cap, none_capped}
use Rattle.trace_check.specs.Steps.{within, number_after}
use Rattle.std.proofs.Common.{ℕ, ◌≡◌, ◌∙◌, Option, None, option_map, option_and_then, refl}
use Rattle.trace_check.proofs.head_lines.number_within.Goals as goal

no_number : (low high : ℕ) (found : Option ℕ) → None ≡ option_map cap found → None ≡ option_and_then (within low high) found
no_number low high found e = rw (none_capped found e) refl

pub returns-in_err-number-clause-value : goal.returns-in_err-number-clause-value
returns-in_err-number-clause-value c = c.from_residual.ensures ∙ no_number c.args.low c.args.high (number_after c.args.word.now c.args.line.now)
    c.in_err-number.ensures

pub returns-in_err-number-clause-limits : goal.returns-in_err-number-clause-limits
returns-in_err-number-clause-limits c = rw c.from_residual.ensures tt
