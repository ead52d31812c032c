use Rattle.std.proofs.Common.{sym, subst}
use Rattle.tree_check.specs.Written.{IsWrittenPack}
use Rattle.tree_reader.proofs.WordLemmas.{pack_is}
use Rattle.tree_reader.proofs.packs.read_pack.Goals as goal

pub returns-in-Some-2-clause-lawful : goal.returns-in-Some-2-clause-lawful
returns-in-Some-2-clause-lawful c =
    subst (IsWrittenPack c.args.scale c.args.level) (sym c.new.ensures)
    (pack_is c.args.scale c.args.level (record { rate = c.in-Some-word_within.rate; members = c.in-Some-2.members.items }) c.in-Some-cut_space.parts.1.now
    c.in-Some-word_within.ensures.limits.1 (sym (rw c.in-Some-2.is at c.in_ok-members.ensures)))
