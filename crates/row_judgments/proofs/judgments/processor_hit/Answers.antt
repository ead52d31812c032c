use Rattle.std.proofs.Common.{◌≡◌, ◌-◌, None, true, length, arith, sym, subst}
use Rattle.std.proofs.lemmas.List.{take_all}
use Rattle.trace_verdict.specs.Orders.{processor_key}
use Rattle.trace_verdict.specs.Searches.{IsFirstHit}
use Rattle.trace_verdict.specs.Standing.{stand}
use Rattle.trace_verdict.proofs.StandingLemmas.{hit_standing, hit_after}
use Rattle.row_judgments.proofs.judgments.processor_hit.Goals as goal

pub returns-then-front-len : goal.returns-then-front-len
returns-then-front-len c =
    let rows = c.args.rows.now in
    let all : c.standing_len-front.result ≡ length rows = omega (arith, c.if-front-len.true, c.len.ensures) in
    let stands : stand None rows ≡ true = subst (λ rs. stand None rs ≡ true) (take_all c.standing_len-front.result rows (omega (arith, all)))
    c.standing_len-front.ensures.stands in
    record { hit = subst (IsFirstHit processor_key rows) (sym all) (hit_standing c.args.set.now rows c.requires.trace.each stands) }

pub returns-then-hits_last : goal.returns-then-hits_last
returns-then-hits_last c =
    let front = c.standing_len-front.result in
    let some = c.hits_last.ensures.some c.if-hits_last.true in
    record {
      hit = hit_after c.args.set.now c.args.rows.now front (front - 1) c.requires.trace.each (omega (
        arith,
        c.if-front-len.false,
        c.len.ensures,
        c.standing_len-front.ensures.within,
      )) c.standing_len-front.ensures.stands
          (omega (arith, some)) (c.hits_last.ensures.hits c.if-hits_last.true);
    }
