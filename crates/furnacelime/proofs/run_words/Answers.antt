use Rattle.std.proofs.Common.{◌≡◌, ◌∙◌, true, false, map, string_bytes, refl, subst, sym}
use Rattle.command_words.specs.Words.{asks_to_execute}
use Rattle.pure_commands.specs.Ends.{streams_of, error_of}
use Rattle.pure_commands.specs.Refuse.{IsRefused}
use Rattle.pure_commands.specs.declared.refusal.Refusal.TheVariants as why
use Rattle.pure_commands.proofs.EndLemmas.{keeps_same}
use Rattle.run_tool.specs.Alone.{EndsAlone}
use Rattle.run_tool.proofs.AloneLemmas.{alone_still, alone_unmade}
use Rattle.run_tool.proofs.RunLemmas.{unread_same}
use Rattle.furnacelime.proofs.run_words.Goals as goal

pub returns-then-not-asks_to_execute-clause-ends : goal.returns-then-not-asks_to_execute-clause-ends
returns-then-not-asks_to_execute-clause-ends g c =
    let old = streams_of g.R.Source g.W.Sink c.args.source.now c.args.out.now in
    let new = streams_of g.R.Source g.W.Sink c.run_without_crew.new.source c.run_without_crew.new.out in
    let told = error_of g.E.Sink c.args.err.now in
    let tells = error_of g.E.Sink c.run_without_crew.new.err in
    let did = c.run_without_crew.ensures in
    let executes : asks_to_execute (map string_bytes c.behind_name-words.result.now) ≡ false = sym c.asks_to_execute.ensures ∙ c.if-not-asks_to_execute.true in
    subst (λ words. EndsAlone (map string_bytes words) old new told tells c.run_without_crew.result) c.behind_name-words.ensures
    (alone_still _ old new told tells _ did.usage did.invalid executes did.done did.ends)

pub returns-in-Err-clause-ends : goal.returns-in-Err-clause-ends
returns-in-Err-clause-ends g c =
    let same = c.in-Err.ensures.same in
    let old = streams_of g.R.Source g.W.Sink c.args.source.now c.args.out.now in
    let told = error_of g.E.Sink c.args.err.now in
    let tells = error_of g.E.Sink c.refuse.new.err in
    let executes : asks_to_execute (map string_bytes c.behind_name-words.result.now) ≡ true = sym c.asks_to_execute.ensures ∙ c.if-not-asks_to_execute.false in
    let refused : IsRefused why.NoMemory told tells c.refuse.result =
    subst (λ err. IsRefused why.NoMemory (error_of g.E.Sink err) tells c.refuse.result) same.2 c.refuse.ensures in
    rw (same.0, same.1)
    (subst (λ words. EndsAlone (map string_bytes words) old old told tells c.refuse.result) c.behind_name-words.ensures
    (alone_unmade _ old old told tells _ executes (unread_same _ _ _ _ _ _) (keeps_same _) refl refused))
