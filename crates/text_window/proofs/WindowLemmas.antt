-- What filling a window gives.
use Rattle.std.proofs.Common.{ℕ, ◌+◌, ◌-◌, ◌<◌, ◌≤◌, ◌≡◌, List, [], ◌++◌, length, Option, sym, refl, ap, ◌∙◌, arith, append_assoc, append-nil, length-append}
use Rattle.std.proofs.KnownBytes.{Consumes-nil, Consumes-trans}
use Rattle.std.specs.Io.KnownBytes.{Consumes, IsAtEnd}
use Rattle.sched_edges.specs.Streams.{GaveAtMost, GaveCount}
use Rattle.sched_edges.proofs.Pieces.{gave_at_most, rose_later}
use Rattle.sched_edges.specs.declared.read.TakeFault.{TakeFault}
use Rattle.sched_edges.specs.declared.read.TakeFault.TheVariants.{Read, TooLong, NoMemory}
use Rattle.text_window.specs.Windows.{WindowHeld, Fills, GaveRest, StopsFilling}

pub fills_none : (left : Option (List ℕ)) (w : WindowHeld) → w.count ≤ w.limit → Fills left left w w
fills_none left w within = record { more = []; gave = Consumes-nil left; ahead = sym (append-nil w.ahead); count = omega arith; limit = refl; within = within }

pub fills_more : (a b c : Option (List ℕ)) (w v u : WindowHeld) (more : List ℕ) → Fills a b w v → Consumes b c more → u.ahead ≡ v.ahead ++ more →
    u.count ≡ v.count + length more
    → u.limit ≡ v.limit → u.count ≤ u.limit → Fills a c w u
fills_more a b c w v u more f gave ahead count limit within =
    let n = f.count in
    record {
      more = f.more ++ more;
      gave = Consumes-trans a b c f.more more f.gave gave;
      ahead = ahead ∙ ap (λ t. t ++ more) f.ahead ∙ append_assoc w.ahead f.more more;
      count = omega (arith, count, n, length-append f.more more);
      limit = limit ∙ f.limit;
      within = within;
    }

pub filled_failed : (a b c : Option (List ℕ)) (w v : WindowHeld) → Fills a b w v → GaveAtMost b c 0 → GaveAtMost a c (w.limit - w.count)
filled_failed a b c w v f none =
    let n = f.count in
    let l = f.limit in
    let within = f.within in
    gave_at_most a b c f.more 0 (w.limit - w.count) f.gave none (omega (arith, n, l, within))

pub filled_past : (a b c : Option (List ℕ)) (w v : WindowHeld) (more : List ℕ) (want count : ℕ) → Fills a b w v → Consumes b c more → length more ≤ want →
    want ≤ v.limit - v.count + 1
    → count ≡ v.count + length more → v.limit < count → (count ≡ w.limit + 1) × GaveCount a c (count - w.count)
filled_past a b c w v more want count f gave room most is past =
    let n = f.count in
    let l = f.limit in
    let within = f.within in
    let long = length-append f.more more in (
      omega (arith, n, l, within, room, most, is, past),
      record { gave = (f.more ++ more, omega (arith, n, l, within, room, most, is, past, long), Consumes-trans a b c f.more more f.gave gave) },
    )

-- reading that stops after other reading
pub stops_after : (a b c : Option (List ℕ)) (fa fb fc : ℕ) (w u : WindowHeld) (more : List ℕ) (fault : TakeFault) → Consumes a b more →
    u.count ≡ w.count + length more → u.limit ≡ w.limit
    → u.count ≤ u.limit → fa ≤ fb → StopsFilling b c fb fc u fault → StopsFilling a c fa fc w fault
stops_after a b c fa fb fc w u more Read gave n l within later s =
    (rose_later fa fb fc later s.0, gave_at_most a b c more (u.limit - u.count) (w.limit - w.count) gave s.1 (omega (arith, n, l, within)))
stops_after a b c fa fb fc w u more (TooLong count) gave n l within later s =
    let (rest, long, on) = s.1.gave in
    let is = s.0 in (
      omega (arith, is, l),
      record
          { gave = (more ++ rest, omega (arith, n, l, within, is, long, length-append more rest), Consumes-trans a b c more rest gave on) },
    )
stops_after a b c fa fb fc w u more NoMemory gave n l within later s = tt

-- and of a window that was filled
pub filled_stops : (a b c : Option (List ℕ)) (fa fb fc : ℕ) (w v : WindowHeld) (fault : TakeFault) → Fills a b w v → fa ≤ fb → StopsFilling b c fb fc v
    fault → StopsFilling a c fa fc w fault
filled_stops a b c fa fb fc w v fault f later s = stops_after a b c fa fb fc w v f.more fault f.gave f.count f.limit f.within later s

-- ---- bytes that are gone past as they come

-- the source gave bytes within the limit, wherever they are now
pub record Skips (left left' : Option (List ℕ)) (faults faults' : ℕ) (old new : WindowHeld) : Type 0 where
  pub more : List ℕ
  pub gave : Consumes left left' more
  pub count : new.count ≡ old.count + length more
  pub limit : new.limit ≡ old.limit
  pub within : new.count ≤ new.limit
  pub later : faults ≤ faults'

pub skips_none : (left : Option (List ℕ)) (faults : ℕ) (w : WindowHeld) → w.count ≤ w.limit → Skips left left faults faults w w
skips_none left faults w within = record { more = []; gave = Consumes-nil left; count = omega arith; limit = refl; within = within; later = omega arith }

-- the window `v` was emptied, and then filled
pub skips_more : (a b c : Option (List ℕ)) (fa fb fc : ℕ) (w v e u : WindowHeld) → Skips a b fa fb w v → e.count ≡ v.count → e.limit ≡ v.limit →
    Fills b c e u → fb ≤ fc → Skips a c fa fc w u
skips_more a b c fa fb fc w v e u s count limit f on =
    let n = s.count in
    let m = f.count in
    let later = s.later in
    record {
      more = s.more ++ f.more;
      gave = Consumes-trans a b c s.more f.more s.gave f.gave;
      count = omega (arith, n, m, count, length-append s.more f.more);
      limit = f.limit ∙ limit ∙ s.limit;
      within = f.within;
      later = omega (arith, later, on);
    }

pub skips_rest : (a b : Option (List ℕ)) (fa fb : ℕ) (w v : WindowHeld) → Skips a b fa fb w v → IsAtEnd b → (more : List ℕ) × GaveRest a b w more
    × (v.count ≡ w.count + length more)
skips_rest a b fa fb w v s end =
    let n = s.count in
    let l = s.limit in
    let within = s.within in
    (s.more, record { gave = s.gave; ended = end; within = omega (arith, n, l, within) }, n)

pub skips_stop : (a b c : Option (List ℕ)) (fa fb fc : ℕ) (w v e : WindowHeld) (fault : TakeFault) → Skips a b fa fb w v → e.count ≡ v.count →
    e.limit ≡ v.limit → StopsFilling b c fb fc e fault
    → StopsFilling a c fa fc w fault
skips_stop a b c fa fb fc w v e fault s count limit stops =
    let within = s.within in
    stops_after a b c fa fb fc w e s.more fault s.gave (count ∙ s.count) (limit ∙ s.limit) (omega (arith, within, count, limit)) s.later stops
