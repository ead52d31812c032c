use Rattle.std.proofs.Common.{ap, set}
use Rattle.merged_rounds.proofs.TurnLemmas.{kept_step}
use Rattle.merged_rounds.proofs.turns.Turn.keep_pack.Goals as goal

pub returns-clause-kept : goal.returns-clause-kept
returns-clause-kept c = λ p start before a level on.
    let e = c.in_ok-keep.ensures in
    kept_step p start before c.args.self.now c.args.k a c.args.leaf on _ level c.requires.pack e.ends e.parts e.packs e.shown
    (ap (λ (v : _). set v.items c.args.k c.args.leaf) e.last)
