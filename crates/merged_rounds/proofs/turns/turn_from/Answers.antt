use Rattle.std.proofs.Common.{◌∙◌, ℕ, List, Option, None, ap, arith, get_or, length, subst, sym}
use Rattle.sched_base.specs.Places.{Placing}
use Rattle.run_tree.specs.Boundaries.{set_boundary}
use Rattle.run_tree.proofs.ScheduleLemmas.{length-places}
use Rattle.merged_rounds.specs.Replays.{AreHolding}
use Rattle.merged_rounds.proofs.ChangeLemmas.{leaves_later}
use Rattle.std.proofs.lemmas.Result.{IfOk-from_err}
use Rattle.merged_rounds.proofs.turns.turn_from.Goals as goal

pub turn_on-requires-clause-leaves : goal.turn_on-requires-clause-leaves
turn_on-requires-clause-leaves c = leaves_later c.args.plan.now 0 c.begin_turn.new.source.tick c.args.leaves.now (omega arith) c.requires.leaves

pub turn_on-requires-clause-holds : goal.turn_on-requires-clause-holds
turn_on-requires-clause-holds c =
    subst (λ (xs : List (Option ℕ)). AreHolding c.args.plan.now c.begin_turn.new.source.tick xs) (sym c.deref_mut.ensures.value) (record {
      long = ap (λ (xs : List (Option ℕ)). length xs) c.in_ok-holds.ensures ∙ ap (λ (w : Placing). length w.onto) c.places.ensures
          ∙ length-places (set_boundary c.args.plan.now.set.tasks) c.args.plan.now.tree c.begin_turn.new.source.tick;
      each = λ q l. ap (λ (xs : List (Option ℕ)). get_or xs q None) c.in_ok-holds.ensures ∙ ap (λ (w : Placing). get_or w.onto q None) c.places.ensures;
    })

pub begin_turn-requires-clause-can : goal.begin_turn-requires-clause-can
begin_turn-requires-clause-can c = c.requires.can

pub begin_turn-requires-clause-belongs : goal.begin_turn-requires-clause-belongs
begin_turn-requires-clause-belongs c = c.requires.belongs

pub begin_turn-requires-clause-first : goal.begin_turn-requires-clause-first
begin_turn-requires-clause-first c = c.requires.first

pub begin_turn-requires-clause-early : goal.begin_turn-requires-clause-early
begin_turn-requires-clause-early c = c.requires.early

pub begin_turn-requires-clause-sum : goal.begin_turn-requires-clause-sum
begin_turn-requires-clause-sum c = c.requires.sum

pub begin_turn-requires-clause-told : goal.begin_turn-requires-clause-told
begin_turn-requires-clause-told c = c.requires.told

pub begin_turn-requires-clause-marks : goal.begin_turn-requires-clause-marks
begin_turn-requires-clause-marks c = c.requires.marks

pub begin_turn-requires-clause-few : goal.begin_turn-requires-clause-few
begin_turn-requires-clause-few c = c.requires.few

pub returns-in_err-turn-clause-going : goal.returns-in_err-turn-clause-going
returns-in_err-turn-clause-going c = IfOk-from_err _ _ c.from_residual.ensures.0

pub places-requires : goal.places-requires
places-requires c = c.in_ok-turn.ensures.going.showing.belongs

pub returns-in_err-holds-clause-going : goal.returns-in_err-holds-clause-going
returns-in_err-holds-clause-going c = IfOk-from_err _ _ c.from_residual-in_err-holds.ensures.0

pub turn_on-requires-clause-can : goal.turn_on-requires-clause-can
turn_on-requires-clause-can c = c.requires.can

pub turn_on-requires-clause-going : goal.turn_on-requires-clause-going
turn_on-requires-clause-going c = c.in_ok-turn.ensures.going

pub turn_on-requires-clause-until : goal.turn_on-requires-clause-until
turn_on-requires-clause-until c = c.requires.until

pub turn_on-requires-clause-told : goal.turn_on-requires-clause-told
turn_on-requires-clause-told c = c.requires.changed

pub turn_on-requires-clause-marks : goal.turn_on-requires-clause-marks
turn_on-requires-clause-marks c = c.requires.marks

pub turn_on-requires-clause-few : goal.turn_on-requires-clause-few
turn_on-requires-clause-few c = c.requires.few

pub returns-in_err-turn_on-clause-going : goal.returns-in_err-turn_on-clause-going
returns-in_err-turn_on-clause-going c = IfOk-from_err _ _ c.from_residual-in_err-turn_on.ensures.0

pub returns-clause-going : goal.returns-clause-going
returns-clause-going c = c.in_ok-turn_on.ensures.going
