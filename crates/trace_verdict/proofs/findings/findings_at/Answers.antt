use Rattle.std.proofs.Common.{◌≡◌, ◌∷◌, [], length, map, subst, sym, arith}
use Rattle.trace_verdict.specs.Faults.{row_at}
use Rattle.trace_verdict.specs.Findings.{AreInPeriods, IsTold}
use Rattle.trace_verdict.proofs.TallyLemmas.{in_back, no_places}
use Rattle.trace_verdict.proofs.findings.findings_at.Goals as goal

pub findings_from-requires-clause-rows : goal.findings_from-requires-clause-rows
findings_from-requires-clause-rows c =
    let all : c.args.places.now ≡ c.in-Some.first.now ∷ c.in-Some.later.now = grind arith in
    in_back c.args.periods.now c.args.rows.now (c.in-Some.first.now ∷ []) c.in-Some.later.now (subst (AreInPeriods c.args.periods.now c.args.rows.now) all
    c.requires.rows)

pub returns-in-None : goal.returns-in-None
returns-in-None c =
    let size : length c.args.places.now ≡ 0 = grind arith in
    let none : c.args.places.now ≡ [] = no_places c.args.places.now size in
    subst (λ places. IsTold c.args.periods.now (map (row_at c.args.rows.now) places) c.none.result) (sym none) (c.none.ensures c.args.periods.now)

pub findings_from-requires-clause-some : goal.findings_from-requires-clause-some
findings_from-requires-clause-some c = c.requires.some
