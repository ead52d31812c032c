-- The events of a book, a byte each.
use Rattle.std.specs.Prelude.{ℕ, ◌-◌, nat_lt, if◌then◌else◌, List}
use Rattle.book_machine.specs.declared.events.Event.{Event}
use Rattle.book_machine.specs.declared.events.Event.TheVariants.{Take, Post, Halt}
use Rattle.plan_rounds.specs.Parts.{processor}

-- the event of a byte: the lane of a take, from 64 on that of a post, from 128 on that of a halt
abbrev pub event_of : ℕ → Event
event_of byte =
    if nat_lt byte 64 then Take (processor byte)
    else if nat_lt byte 128 then Post (processor (byte - 64))
    else Halt (processor (byte - 128))

-- the lane of an event
abbrev pub lane_in : Event → ℕ
lane_in (Take p) = p.0
lane_in (Post p) = p.0
lane_in (Halt p) = p.0

-- the events so far, and the room for them
pub record LogContents : Type 0 where
  pub events : List Event
  -- for how many events there is room in all
  pub room : ℕ
