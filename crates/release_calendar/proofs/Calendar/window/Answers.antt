use Rattle.std.proofs.Common.{◌<◌, ℕ, ap, length, subst, sym, ◌∙◌, arith}
use Rattle.release_calendar.specs.Calendars.{CalendarContents}
use Rattle.release_calendar.proofs.TurnLemmas.{read_shown}
use Rattle.std.proofs.lemmas.List.{get_or_read}
use Rattle.release_calendar.proofs.Calendar.window.Goals as goal

pub returns-clause-begin : goal.returns-clause-begin
returns-clause-begin c =
    let within = subst (λ (k : ℕ). c.args.n.0 < k) (sym (ap (λ (s : CalendarContents). length s.begins) c.self.view_is)) c.requires in
    read_shown _ _ c.args.n.0 _ (ap (λ (s : CalendarContents). s.begins) c.self.view_is) within c.index.ensures

pub returns-clause-end : goal.returns-clause-end
returns-clause-end c =
    let within = subst (λ (k : ℕ). c.args.n.0 < k) (sym (c.self.invariant.0 ∙ ap (λ (s : CalendarContents). length s.begins) c.self.view_is)) c.requires in
    read_shown _ _ c.args.n.0 _ (ap (λ (s : CalendarContents). s.ends) c.self.view_is) within c.index-2.ensures

pub index-requires : goal.index-requires
index-requires c = let within = subst (λ (k : ℕ). c.args.n.0 < k) (sym (ap (λ (s : CalendarContents). length s.begins) c.self.view_is)) c.requires in
    let long = c.self.inside.begins.ok.0 in omega (arith, within, long)

pub index-requires-2 : goal.index-requires-2
index-requires-2 c = let within = subst (λ (k : ℕ). c.args.n.0 < k) (sym (c.self.invariant.0 ∙ ap (λ (s : CalendarContents). length s.begins)
    c.self.view_is)) c.requires in let long = c.self.inside.ends.ok.0 in omega (arith, within, long)

pub overflow_cast-result : goal.overflow_cast-result
overflow_cast-result c = let within = subst (λ (k : ℕ). c.args.n.0 < k) (sym (c.self.invariant.0 ∙ ap (λ (s : CalendarContents). length s.begins)
    c.self.view_is)) c.requires in let at = get_or_read c.self.inside.ends.items c.args.n.0 _ within c.index-2.ensures 0 in let fit = c.self.invariant.1
    c.args.n.0 in omega (arith, at, fit)
