-- The entries of one row more, that was taken out of a list of rows.
use Rattle.std.proofs.Common.{ℕ, ◌+◌, ◌<◌, ◌≡◌, List, ◌++◌, length, take, get_or, Option, subst}
use Rattle.sched_base.specs.declared.rows.Row.{Row}
use Rattle.trace_verdict.specs.declared.entries.Entry.{Entry}
use Rattle.trace_verdict.specs.Orders.{entry_of, entries_from}
use Rattle.trace_verdict.proofs.EntryLemmas.{entries_push}

pub entries_push_row : (key : Row → Option ℕ) (rs : List Row) (i : ℕ) (r d : Row) (es new : List Entry) (k : Option ℕ) → i < length rs → r ≡ get_or rs i d →
    es ≡ entries_from key 0 (take i rs)
    → new ≡ es ++ entry_of k r i → k ≡ key r → new ≡ entries_from key 0 (take (i + 1) rs)
entries_push_row key rs i r d es new k h is e f g =
    entries_push key rs i d es new k h e (subst (λ w. new ≡ es ++ entry_of k w i) is f) (subst (λ w. k ≡ key w) is g)
