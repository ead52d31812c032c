use Rattle.std.proofs.Common.{ℕ, ◌≡◌, ◌<◌, ◌≤◌, List, [], Option, refl, ap, ◌∙◌, sym, subst, arith}
use Rattle.std.proofs.lemmas.Result.{IfOk-from_err, err_from_is_err_and, IfErr-weaker}
use Rattle.text_window.specs.Windows.{WindowHeld, Fills}
use Rattle.trace_check.specs.Fronts.{IsTextFront}
use Rattle.trace_check.proofs.SourceLemmas.{front_gone, gave_whole, rest_stops, unread_stops, held_stops, filled_rest, ok_then}
use Rattle.text_window.proofs.WindowLemmas.{filled_stops}
use Rattle.trace_check.proofs.source_reading.read_source.Goals as goal

-- a window that was filled and gone past some of stands within its limit
filled_within : (a b : Option (List ℕ)) (w v u : WindowHeld) → Fills a b w v → u.count ≡ v.count → u.limit ≡ v.limit → u.count ≤ u.limit
filled_within a b w v u f count same = (let within = f.within in omega (arith, within, count, same))

-- and its limit is the one that it was made with
filled_small : (a b : Option (List ℕ)) (w v u : WindowHeld) (limit most : ℕ) → Fills a b w v → u.limit ≡ v.limit → w.limit ≡ limit → limit < most →
    u.limit < most
filled_small a b w v u limit most f same top small = subst (λ n. n < most) (sym (same ∙ f.limit ∙ top)) small

pub fill-requires-clause-within : goal.fill-requires-clause-within
fill-requires-clause-within g c = (let zero = ap (λ (w : WindowHeld). w.count) c.new-window.ensures in omega (arith, zero))

pub fill-requires-clause-small : goal.fill-requires-clause-small
fill-requires-clause-small g c = subst (λ n. n < 9223372036854775808) (sym (ap (λ (w : WindowHeld). w.limit) c.new-window.ensures)) c.requires

pub returns-in_err-fill-clause-read : goal.returns-in_err-fill-clause-read
returns-in_err-fill-clause-read g c = IfOk-from_err _ _ c.from_residual.ensures.0

pub returns-in_err-fill-clause-lawful : goal.returns-in_err-fill-clause-lawful
returns-in_err-fill-clause-lawful g c = IfOk-from_err _ _ c.from_residual.ensures.0

pub returns-in_err-fill-clause-stops : goal.returns-in_err-fill-clause-stops
returns-in_err-fill-clause-stops g c =
    let zero = ap (λ (w : WindowHeld). w.count) c.new-window.ensures in
    let top = ap (λ (w : WindowHeld). w.limit) c.new-window.ensures in
    let (fault, is, same) = err_from_is_err_and c.from_residual.result c.from_residual.ensures.1 in
    rw (is, same) (unread_stops _ _ _ _ c.new-window.result c.args.limit _ zero top c.in_err-fill.ensures.stops)

pub pass-requires : goal.pass-requires
pass-requires g c =
    let front = subst (λ t. IsTextFront t c.in-Some.field-0) c.ahead.ensures c.in-Some.ensures in
    front.within

pub read_rest-requires-clause-within : goal.read_rest-requires-clause-within
read_rest-requires-clause-within g c = filled_within _ _ c.new-window.result c.fill.new.self c.pass.new.self c.in_ok-fill.ensures.fills c.pass.ensures.count
    c.pass.ensures.limit

pub read_rest-requires-clause-small : goal.read_rest-requires-clause-small
read_rest-requires-clause-small g c =
    let top = ap (λ (w : WindowHeld). w.limit) c.new-window.ensures in
    filled_small _ _ c.new-window.result c.fill.new.self c.pass.new.self c.args.limit _ c.in_ok-fill.ensures.fills c.pass.ensures.limit top c.requires

pub read_rest-requires-clause-set : goal.read_rest-requires-clause-set
read_rest-requires-clause-set g c = c.in-Some.ensures.set

pub read_rest-requires-clause-scale : goal.read_rest-requires-clause-scale
read_rest-requires-clause-scale g c = c.in-Some.ensures.scale

pub returns-in-Some-clause-lawful : goal.returns-in-Some-clause-lawful
returns-in-Some-clause-lawful g c = c.read_rest.ensures.lawful

pub fill_all-requires-clause-within : goal.fill_all-requires-clause-within
fill_all-requires-clause-within g c = c.in_ok-fill.ensures.fills.within

pub fill_all-requires-clause-small : goal.fill_all-requires-clause-small
fill_all-requires-clause-small g c =
    let top = ap (λ (w : WindowHeld). w.limit) c.new-window.ensures in
    filled_small _ _ c.new-window.result c.fill.new.self c.fill.new.self c.args.limit _ c.in_ok-fill.ensures.fills refl top c.requires

pub returns-in_err-fill_all-in-None-clause-read : goal.returns-in_err-fill_all-in-None-clause-read
returns-in_err-fill_all-in-None-clause-read g c = IfOk-from_err _ _ c.from_residual-in_err-fill_all-in-None.ensures.0

pub returns-in_err-fill_all-in-None-clause-lawful : goal.returns-in_err-fill_all-in-None-clause-lawful
returns-in_err-fill_all-in-None-clause-lawful g c = IfOk-from_err _ _ c.from_residual-in_err-fill_all-in-None.ensures.0

pub returns-in_err-read_parts-in-None-clause-read : goal.returns-in_err-read_parts-in-None-clause-read
returns-in_err-read_parts-in-None-clause-read g c = IfOk-from_err _ _ c.from_residual-in_err-read_parts-in-None.ensures.0

pub returns-in_err-read_parts-in-None-clause-lawful : goal.returns-in_err-read_parts-in-None-clause-lawful
returns-in_err-read_parts-in-None-clause-lawful g c = IfOk-from_err _ _ c.from_residual-in_err-read_parts-in-None.ensures.0

pub returns-clause-read : goal.returns-clause-read
returns-clause-read g c =
    let none = ap (λ (w : WindowHeld). w.ahead) c.new-window.ensures in
    let zero = ap (λ (w : WindowHeld). w.count) c.new-window.ensures in
    let top = ap (λ (w : WindowHeld). w.limit) c.new-window.ensures in
    let all = filled_rest _ _ _ c.new-window.result c.fill.new.self c.fill_all.new.self c.args.limit none zero top c.in_ok-fill.ensures.fills
    c.in_ok-fill_all-in-None.ensures.fills c.in_ok-fill_all-in-None.ensures.end in
    (_, all, rw c.ahead-in-None.ensures at c.in_ok-read_parts-in-None.ensures.trace)

pub returns-clause-lawful : goal.returns-clause-lawful
returns-clause-lawful g c = c.in_ok-read_parts-in-None.ensures.lawful

pub returns-in-Some-clause-read : goal.returns-in-Some-clause-read
returns-in-Some-clause-read g c =
    let none = ap (λ (w : WindowHeld). w.ahead) c.new-window.ensures in
    let zero = ap (λ (w : WindowHeld). w.count) c.new-window.ensures in
    let top = ap (λ (w : WindowHeld). w.limit) c.new-window.ensures in
    let front = subst (λ t. IsTextFront t c.in-Some.field-0) c.ahead.ensures c.in-Some.ensures in
    ok_then c.read_rest.result _ _ (λ p told. (
      _,
      gave_whole _ _ _ c.new-window.result c.fill.new.self c.pass.new.self c.args.limit told.0 none zero top c.in_ok-fill.ensures.fills c.pass.ensures.count
          c.pass.ensures.limit told.1,
      front_gone c.fill.new.self.ahead [] c.pass.new.self.ahead told.0 _ c.in-Some.field-0 front refl c.pass.ensures.ahead ∙ told.2,
    )) c.read_rest.ensures.read

pub returns-in-Some-clause-stops : goal.returns-in-Some-clause-stops
returns-in-Some-clause-stops g c =
    let none = ap (λ (w : WindowHeld). w.ahead) c.new-window.ensures in
    let zero = ap (λ (w : WindowHeld). w.count) c.new-window.ensures in
    let top = ap (λ (w : WindowHeld). w.limit) c.new-window.ensures in
    let front = subst (λ t. IsTextFront t c.in-Some.field-0) c.ahead.ensures c.in-Some.ensures in
    IfErr-weaker c.read_rest.result _ _ (λ fault why.
    rest_stops _ _ _ _ _ _ c.new-window.result c.fill.new.self c.pass.new.self c.args.limit c.in-Some.field-0.head c.in-Some.field-0.set.tasks fault none
    zero top c.in_ok-fill.ensures.fills c.pass.ensures.count
    c.pass.ensures.limit c.in_ok-fill.ensures.later (λ more. front_gone c.fill.new.self.ahead [] c.pass.new.self.ahead more _ c.in-Some.field-0 front refl
    c.pass.ensures.ahead) why) c.read_rest.ensures.stops

pub returns-in_err-fill_all-in-None-clause-stops : goal.returns-in_err-fill_all-in-None-clause-stops
returns-in_err-fill_all-in-None-clause-stops g c =
    let zero = ap (λ (w : WindowHeld). w.count) c.new-window.ensures in
    let top = ap (λ (w : WindowHeld). w.limit) c.new-window.ensures in
    let (fault, is, same) = err_from_is_err_and c.from_residual-in_err-fill_all-in-None.result c.from_residual-in_err-fill_all-in-None.ensures.1 in
    rw (is, same) (unread_stops _ _ _ _ c.new-window.result c.args.limit _ zero top
    (filled_stops _ _ _ _ _ _ _ _ _ c.in_ok-fill.ensures.fills c.in_ok-fill.ensures.later c.in_err-fill_all-in-None.ensures.stops))

pub returns-in_err-read_parts-in-None-clause-stops : goal.returns-in_err-read_parts-in-None-clause-stops
returns-in_err-read_parts-in-None-clause-stops g c =
    let none = ap (λ (w : WindowHeld). w.ahead) c.new-window.ensures in
    let zero = ap (λ (w : WindowHeld). w.count) c.new-window.ensures in
    let top = ap (λ (w : WindowHeld). w.limit) c.new-window.ensures in
    let (fault, is, same) = err_from_is_err_and c.from_residual-in_err-read_parts-in-None.result c.from_residual-in_err-read_parts-in-None.ensures.1 in
    let all = filled_rest _ _ _ c.new-window.result c.fill.new.self c.fill_all.new.self c.args.limit none zero top c.in_ok-fill.ensures.fills
    c.in_ok-fill_all-in-None.ensures.fills c.in_ok-fill_all-in-None.ensures.end in
    rw (is, same) (held_stops _ _ _ _ c.args.limit _ _ all (rw c.ahead-in-None.ensures at c.in_err-read_parts-in-None.ensures.fault))
