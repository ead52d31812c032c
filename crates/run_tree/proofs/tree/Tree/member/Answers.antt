use Rattle.std.proofs.Common.{◌<◌, subst, sym}
use Rattle.run_tree.proofs.NodeReads.{length-members, member_at}
use Rattle.run_tree.proofs.tree.Tree.member.Goals as goal

pub bounds-members-k : goal.bounds-members-k
bounds-members-k c = subst (λ n. c.args.k < n) (sym (length-members c.args.self.now c.args.n.0 c.members.result.now c.members.ensures)) c.requires.member

pub returns : goal.returns
returns c = member_at c.args.self.now c.args.n.0 c.args.k c.members.result.now c.members.ensures
