use Rattle.std.proofs.Common.{map, IfOk, ap, ◌∙◌}
use Rattle.std.proofs.lemmas.Result.{IfOk-weaker, MatchResult-weaker}
use Rattle.task_reader.specs.Pieces.{bytes_in}
use Rattle.batch_compile.specs.Answers.{IsAnswer}
use Rattle.rayon.proofs.ToStd.{slice-AllZip}
use Rattle.batch_compile.proofs.BatchLemmas.{all_answered, shown_length}
use Rattle.batch_compile.proofs.batch.answer_each.Goals as goal

pub returns-clause-each : goal.returns-clause-each
returns-clause-each g c =
    let given = c.in_ok-collect.ensures in
    let chain = rw c.map.ensures.f at given.1 in
    let list =
    chain.1
    ∙ ap (λ it. it.base.slice.now) c.map.ensures.base
    ∙ ap (λ it. it.slice.now) c.with_min_len.ensures.base
    ∙ c.par_iter.ensures
    ∙ c.as_slice.ensures.all in
    let calls = slice-AllZip chain.0 c.args.pieces.now list (λ p r. IfOk r (IsAnswer (bytes_in c.args.bytes.now p))) given.0 chain.2 in
    MatchResult-weaker c.in_ok-collect.field-0 given.2
    (λ answers made. rw made.2 (all_answered _ (bytes_in c.args.bytes.now) IsAnswer c.args.pieces.now made.0 (rw made.1 at calls))) (λ fault met. tt)

pub returns-clause-few : goal.returns-clause-few
returns-clause-few g c =
    IfOk-weaker c.in_ok-collect.field-0 _ _
    (λ answers all. rw (shown_length (bytes_in c.args.bytes.now) IsAnswer c.args.pieces.now answers.items all)
    (rw c.as_slice.ensures.all at c.as_slice.ensures.few)) (returns-clause-each g c)
