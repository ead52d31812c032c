-- The numbers that calls give besides the statuses of the program.
use Rattle.std.specs.Prelude.{ℕ, ◌≡◌, ◌⊎◌}

-- the call can't be made, or not now
abbrev pub wrong_call : ℕ
wrong_call = 64

-- all rounds were told, or all rows of the processor are posted
abbrev pub over : ℕ
over = 65

-- an earlier row must be posted first
abbrev pub wait : ℕ
wait = 66

-- a row failed before
abbrev pub halted : ℕ
halted = 67

-- how a call ends that tells a round
abbrev pub IsRoundsEnd : ℕ → Type 0
IsRoundsEnd code = (code ≡ 0) ⊎ ((code ≡ wrong_call) ⊎ (code ≡ over))

-- how a call ends that takes a row
abbrev pub IsTakesEnd : ℕ → Type 0
IsTakesEnd code = (code ≡ 0) ⊎ ((code ≡ wrong_call) ⊎ ((code ≡ over) ⊎ ((code ≡ wait) ⊎ (code ≡ halted))))
