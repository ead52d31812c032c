use Rattle.tree_select.proofs.refreshed.reselect.Goals as goal

pub refresh_all-requires-clause-remains : goal.refresh_all-requires-clause-remains
refresh_all-requires-clause-remains c = c.requires.remains

pub refresh_all-requires-clause-ends : goal.refresh_all-requires-clause-ends
refresh_all-requires-clause-ends c = c.requires.ends

pub refresh_all-requires-clause-stale : goal.refresh_all-requires-clause-stale
refresh_all-requires-clause-stale c = c.requires.stale

pub refresh_all-requires-clause-runs : goal.refresh_all-requires-clause-runs
refresh_all-requires-clause-runs c = c.requires.runs

pub refresh_all-requires-clause-led : goal.refresh_all-requires-clause-led
refresh_all-requires-clause-led c = c.requires.led

pub refresh_all-requires-clause-served : goal.refresh_all-requires-clause-served
refresh_all-requires-clause-served c = c.requires.served

pub returns-clause-selected : goal.returns-clause-selected
returns-clause-selected c = c.refresh_all.ensures.selected

pub returns-clause-led : goal.returns-clause-led
returns-clause-led c = c.refresh_all.ensures.led

pub returns-clause-served : goal.returns-clause-served
returns-clause-served c = c.refresh_all.ensures.served _
