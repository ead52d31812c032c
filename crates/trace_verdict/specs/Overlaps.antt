-- Rows of one key that overlap, found in the order of key and start.
use Rattle.std.specs.Prelude.{ℕ, ◌<◌, nat_eq, nat_lt, nat_le, not, Bool, true, ◌&&◌, ◌||◌, if◌then◌else◌, List, [], ◌∷◌}
use Rattle.std.specs.Prelude.{Option, Some, None}
use Rattle.trace_verdict.specs.declared.entries.Entry.{Entry}

-- the row has some tick
abbrev pub IsLong : Entry → Type 0
IsLong e = e.start < e.end

-- two rows of one key at places below the limit overlap
abbrev pub clash : ℕ → Entry → Entry → Bool
clash limit e f = (nat_lt e.place limit && nat_lt f.place limit) && (nat_eq e.key f.key && (nat_lt e.start f.end && nat_lt f.start e.end))

-- the entry has another key than the last one, or begins when that has ended
abbrev pub is_apart_from : Option Entry → Entry → Bool
is_apart_from None e = true
is_apart_from (Some last) e = not (nat_eq last.key e.key) || nat_le last.end e.start

-- each entry at a place below the limit is apart from the last such one before it
abbrev pub walk : ℕ → Option Entry → List Entry → Bool
walk limit last [] = true
walk limit last (e ∷ es) = if nat_lt e.place limit then (is_apart_from last e && walk limit (Some e) es) else walk limit last es
