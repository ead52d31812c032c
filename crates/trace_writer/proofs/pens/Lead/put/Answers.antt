use Rattle.std.proofs.Common.{◌∙◌, [], ◌∷◌, ◌++◌, ap, codes, decimal, take, take-take}
use Rattle.trace_writer.proofs.pens.Lead.put.Goals as goal

pub returns-clause-text : goal.returns-clause-text
returns-clause-text c =
    let held = c.self.invariant in
    let cut = take-take c.self.inside.len 16 c.self.inside.bytes held.0 in
    c.put_block.ensures.text ∙ ap (λ ds. take c.args.at c.args.bytes.now ++ ds) (cut ∙ held.1 ∙ ap (λ n. codes "row " ++ (decimal n ++ 32 ∷ [])) c.self.view_is)
