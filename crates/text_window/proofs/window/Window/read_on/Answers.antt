use Rattle.std.proofs.Common.{ap, arith, length-take, ℕ}
use Rattle.text_window.specs.Windows.{WindowHeld}
use Rattle.text_window.proofs.window.Window.read_on.Goals as goal

pub overflow_add-self : goal.overflow_add-self
overflow_add-self g c =
    let within = c.requires.within in
    let small = c.requires.small in
    let count = ap (λ (w : WindowHeld). w.count) c.self.view_is in
    let limit = ap (λ (w : WindowHeld). w.limit) c.self.view_is in
    let is = c.in_ok-count.ensures.count in
    let least = c.min-want.ensures in
    omega (arith, length-take {A = ℕ}, within, small, count, limit, is, least)
