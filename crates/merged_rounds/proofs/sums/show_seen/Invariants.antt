use Rattle.std.proofs.Common.{◌≡◌}
use Rattle.merged_rows.specs.Columns.{AreGoingOn}
use Rattle.merged_rounds.specs.Changes.{leaves_in}
use Rattle.merged_rounds.proofs.sums.show_seen.Given as goal

abbrev pub invariant-loop-k : goal.invariant-loop-k
invariant-loop-k l = record {
  going : AreGoingOn l.initial.rows.begun l.initial.rows.end l.changed (leaves_in l.plan l.start l.source.tick) l.rows.begun l.k;
  end : l.rows.end ≡ l.initial.rows.end;
}
