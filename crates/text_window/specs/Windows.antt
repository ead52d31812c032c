-- What a window holds, and what reading does to it.
use Rattle.std.specs.Prelude.{ℕ, ◌≡◌, ◌≤◌, ◌+◌, ◌-◌, List, ◌++◌, length}
use Rattle.std.specs.declared.option.Option.{Option}
use Rattle.std.specs.Io.KnownBytes.{Consumes, IsAtEnd}
use Rattle.sched_edges.specs.Causes.{Rose}
use Rattle.sched_edges.specs.Streams.{GaveAtMost, GaveCount}
use Rattle.sched_edges.specs.declared.read.TakeFault.{TakeFault}
use Rattle.sched_edges.specs.declared.read.TakeFault.TheVariants.{Read, TooLong, NoMemory}

-- what contracts see of a window
pub record WindowHeld : Type 0 where
  -- the bytes that were read and not yet gone past
  pub ahead : List ℕ
  -- how many bytes were read in all
  pub count : ℕ
  -- how many may be
  pub limit : ℕ

-- the source gave bytes that stand behind those that were ahead, within the limit
pub record Fills (left left' : Option (List ℕ)) (old new : WindowHeld) : Type 0 where
  pub more : List ℕ
  pub gave : Consumes left left' more
  pub ahead : new.ahead ≡ old.ahead ++ more
  pub count : new.count ≡ old.count + length more
  pub limit : new.limit ≡ old.limit
  pub within : new.count ≤ new.limit

-- the source gave these bytes, which were all it had left, within the limit
pub record GaveRest (left left' : Option (List ℕ)) (old : WindowHeld) (more : List ℕ) : Type 0 where
  pub gave : Consumes left left' more
  pub ended : IsAtEnd left'
  pub within : old.count + length more ≤ old.limit

-- why a window wasn't filled: the source failed, or gave one byte more than the limit
abbrev pub StopsFilling : Option (List ℕ) → Option (List ℕ) → ℕ → ℕ → WindowHeld → TakeFault → Type 0
StopsFilling left left' faults faults' old Read = Rose faults faults' × GaveAtMost left left' (old.limit - old.count)
StopsFilling left left' faults faults' old (TooLong count) = (count ≡ old.limit + 1) × GaveCount left left' (count - old.count)
StopsFilling left left' faults faults' old NoMemory = Unit {0}
