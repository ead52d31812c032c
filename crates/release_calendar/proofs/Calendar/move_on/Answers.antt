use Rattle.std.proofs.Common.{arith, ap, sym, take, ◌∙◌, ◌<◌, ◌≤◌, get_or, ℕ, List, subst, subst₂, length}
use Rattle.std.specs.Prelude.{◌≡◌, IfSome}
use Rattle.run_tree.specs.Tree.{IsMember, numbers}
use Rattle.std.proofs.lemmas.List.{with_items_is}
use Rattle.sched_base.specs.declared.rows.NodeId.{NodeId}
use Rattle.release_calendar.specs.Calendars.{CalendarContents, AreDue, AreReady, AreSteps, EndsFit, PacksNeverEnd}
use Rattle.release_calendar.proofs.TurnLemmas.{belongs_written, kept_written, ready_next}
use Rattle.release_calendar.proofs.OrderLemmas.{begins_earlier}
use Rattle.release_calendar.proofs.Calendar.move_on.Goals as goal

pub returns-clause-belongs : goal.returns-clause-belongs
returns-clause-belongs c =
    let early = c.requires.early in
    let next = ap (λ (s : CalendarContents). s.next) c.self.view_is in
    let b = ap (λ (s : CalendarContents). length s.begins) c.self.view_is in
    let e = ap (λ (s : CalendarContents). length s.ends) c.self.view_is in
    let long = c.requires.belongs.begins_long in
    let long' = c.requires.belongs.ends_long in
    let v = ap (λ (xs : List ℕ). length xs) c.deref_mut.ensures.value in
    let v' = ap (λ (xs : List ℕ). length xs) c.deref_mut-2.ensures.value in
    let kept = c.turn_listed-next.auto.begins in
    let kept' = c.turn_listed-next.auto.ends in
    belongs_written c.args.plan.now c.know_lawful.ensures.lawful c.self.inside.begins c.self.inside.ends c.turn_listed-next.new.begins
    c.turn_listed-next.new.ends _ c.self.inside.steps.items c.self.inside.next c.turn_listed-next.result.0 (omega (arith, early, next))
    (omega (arith, b, long, v, kept)) (omega (arith, e, long', v', kept')) (omega (arith, v, kept)) (omega (arith, v', kept'))
    c.turn_listed-next.ensures.windows c.turn_listed-next.ensures.packs c.turn_listed-next.ensures.next
    (subst (λ (s : CalendarContents). AreSteps c.args.plan.now s.steps) (sym c.self.view_is) c.requires.belongs.steps)

pub turn_listed-next-requires-clause-ready : goal.turn_listed-next-requires-clause-ready
turn_listed-next-requires-clause-ready c =
    let P : CalendarContents → Type 0 = λ s. AreReady c.args.plan.now s.begins s.ends s.next in
    let Q : List ℕ → List ℕ → Type 0 = λ b e. AreReady c.args.plan.now b e c.self.inside.next in
    subst₂ Q (sym c.deref_mut.ensures.value) (sym c.deref_mut-2.ensures.value) (subst P (sym c.self.view_is) (ready_next c.args.plan.now
    c.know_lawful.ensures.lawful c.args.self.now c.requires.belongs))

pub turn_listed-next-requires-clause-earlier : goal.turn_listed-next-requires-clause-earlier
turn_listed-next-requires-clause-earlier c =
    let P : CalendarContents → Type 0 = λ s. (x : ℕ) → IsMember c.args.plan.now.tree x → get_or s.begins x 0 < s.next in
    let Q : List ℕ → Type 0 = λ b. (x : ℕ) → IsMember c.args.plan.now.tree x → get_or b x 0 < c.self.inside.next in
    subst Q (sym c.deref_mut.ensures.value) (subst P (sym c.self.view_is) (begins_earlier c.args.plan.now c.know_lawful.ensures.lawful c.args.self.now
    c.requires.belongs))

pub returns-clause-begun : goal.returns-clause-begun
returns-clause-begun c =
    let v = ap (λ (xs : List NodeId). length xs) c.deref_mut-3.ensures.value in
    let kept = c.turn_listed-next.auto.begun in
    subst (λ (xs : List NodeId). AreDue c.args.plan.now c.args.self.now.next (numbers (take c.turn_listed-next.result.1 xs)))
    (sym (with_items_is c.self.inside.begun c.turn_listed-next.new.begun (let ok = c.self.inside.begun.ok.0 in omega (arith, v, kept, ok))))
    (subst (λ (u : ℕ). AreDue c.args.plan.now u (numbers (take c.turn_listed-next.result.1 c.turn_listed-next.new.begun)))
    (ap (λ (s : CalendarContents). s.next) c.self.view_is) c.turn_listed-next.ensures.due)

pub returns-clause-unit : goal.returns-clause-unit
returns-clause-unit c = ap (λ (s : CalendarContents). s.next) c.self.view_is

pub turn_listed-next-requires-clause-plan : goal.turn_listed-next-requires-clause-plan
turn_listed-next-requires-clause-plan c = c.know_lawful.ensures.lawful

pub turn_listed-next-requires-clause-at : goal.turn_listed-next-requires-clause-at
turn_listed-next-requires-clause-at c = subst (λ (u : ℕ). u ≤ c.args.plan.now.set.horizon) (sym (ap (λ (s : CalendarContents). s.next) c.self.view_is))
    c.requires.early

pub turn_listed-next-requires-clause-begins : goal.turn_listed-next-requires-clause-begins
turn_listed-next-requires-clause-begins c =
    ap (λ (xs : List ℕ). length xs) c.deref_mut.ensures.value ∙ ap (λ (s : CalendarContents). length s.begins) c.self.view_is ∙ c.requires.belongs.begins_long

pub turn_listed-next-requires-clause-ends : goal.turn_listed-next-requires-clause-ends
turn_listed-next-requires-clause-ends c =
    ap (λ (xs : List ℕ). length xs) c.deref_mut-2.ensures.value ∙ ap (λ (s : CalendarContents). length s.ends) c.self.view_is ∙ c.requires.belongs.ends_long

pub turn_listed-next-requires-clause-order : goal.turn_listed-next-requires-clause-order
turn_listed-next-requires-clause-order c = subst (λ (xs : List ℕ). IfSome c.self.inside.order (λ o. o ≡ xs)) (sym c.deref_mut-2.ensures.value)
    c.self.invariant.2

pub turn_listed-next-requires-clause-fit : goal.turn_listed-next-requires-clause-fit
turn_listed-next-requires-clause-fit c = subst (λ (xs : List ℕ). EndsFit xs) (sym c.deref_mut-2.ensures.value) c.self.invariant.1

pub turn_listed-next-requires-clause-packs : goal.turn_listed-next-requires-clause-packs
turn_listed-next-requires-clause-packs c =
    subst (λ (xs : List ℕ). PacksNeverEnd c.args.plan.now.tree xs) (sym (c.deref_mut-2.ensures.value ∙ ap (λ (s : CalendarContents). s.ends)
    c.self.view_is)) c.requires.belongs.packs

pub turn_listed-next-requires-clause-begun : goal.turn_listed-next-requires-clause-begun
turn_listed-next-requires-clause-begun c =
    ap (λ (xs : List NodeId). length xs) c.deref_mut-3.ensures.value ∙ c.self.invariant.3 ∙ ap (λ (s : CalendarContents). length s.begins) c.self.view_is
    ∙ c.requires.belongs.begins_long

pub invariant_of-self : goal.invariant_of-self
invariant_of-self c =
    let b = c.turn_listed-next.auto.begins ∙ ap (λ (xs : List ℕ). length xs) c.deref_mut.ensures.value in
    let e = c.turn_listed-next.auto.ends ∙ ap (λ (xs : List ℕ). length xs) c.deref_mut-2.ensures.value in
    let g = c.turn_listed-next.auto.begun ∙ ap (λ (xs : List NodeId). length xs) c.deref_mut-3.ensures.value in
    let whole = with_items_is c.self.inside.begun c.turn_listed-next.new.begun (let ok = c.self.inside.begun.ok.0 in omega (arith, g, ok)) in
    let long = ap (λ (xs : List NodeId). length xs) whole in
    kept_written c.self.inside.begins c.self.inside.ends c.turn_listed-next.new.begins c.turn_listed-next.new.ends _ (length c.self.inside.begins.items) _
    c.turn_listed-next.result.1 c.turn_listed-next.result.0 (sym b) (sym e)
    b (e ∙ c.self.invariant.0) (long ∙ g ∙ c.self.invariant.3) (subst (λ (n : ℕ). c.turn_listed-next.result.1 ≤ n) (sym long) c.turn_listed-next.ensures.count)
    c.turn_listed-next.ensures.fit c.turn_listed-next.ensures.order c.turn_listed-next.ensures.next.below

pub turn_listed-next-requires-clause-steps : goal.turn_listed-next-requires-clause-steps
turn_listed-next-requires-clause-steps c = subst (λ (xs : List ℕ). AreSteps c.args.plan.now xs)
    (sym (c.deref.ensures.value ∙ ap (λ (s : CalendarContents). s.steps) c.self.view_is)) c.requires.belongs.steps
