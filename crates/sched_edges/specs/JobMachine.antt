-- The machine that runs a job's program: a program counter and eight registers, all of 64 bits.
use Rattle.std.specs.Prelude.{ℕ, zero, suc, ◌+◌, ◌-◌, ◌*◌, ◌/◌, ◌%◌, ◌^◌, ◌==◌, nat_lt, ◌&&◌, if◌then◌else◌}
use Rattle.std.specs.Prelude.{List, ◌∷◌, replicate, slice_get, slice_index, slice_set, Some, None}

-- a state of the machine: the program counter, and the registers 0 to 7
pub record JobMachine : Type 0 where
  pub counter : ℕ
  pub registers : List ℕ

-- the state before the first step
abbrev pub started : JobMachine
started = record { counter = 0; registers = replicate 8 0 }

-- register a takes this number modulo 2^64, and the counter grows by 1
abbrev pub put : ℕ → ℕ → JobMachine → JobMachine
put a n m = record { counter = m.counter + 1; registers = slice_set m.registers a (n % 2 ^ 64) }

-- the counter becomes b
abbrev pub jump : ℕ → JobMachine → JobMachine
jump b m = record m { counter = b }

-- what an instruction does, by its operation, its register a and its number b: 0 `set`, 1 `add`, 2 `sub`, 3 `mul`, 4 `jz`,
-- 5 `jump`; 6, `halt`, does nothing, and so does what is no instruction
unfoldable pub obeyed : ℕ → ℕ → ℕ → JobMachine → JobMachine
obeyed operation a b m =
    let x = slice_index m.registers a in
    let y = slice_index m.registers b in
    let of_two = nat_lt a 8 && nat_lt b 8 in
    if operation == 0 && nat_lt a 8 then put a b m
    else if operation == 1 && of_two then put a (x + y) m
    else if operation == 2 && of_two then put a (x + (2 ^ 64 - y)) m
    else if operation == 3 && of_two then put a (x * y) m
    else if operation == 4 && nat_lt a 8 then (if x == 0 then jump b m else jump (m.counter + 1) m)
    else if operation == 5 && a == 0 then jump b m
    else m

-- one step of a program: the word at the counter is operation·2^40 + a·2^32 + b; where there is no word, nothing changes
unfoldable pub step : List ℕ → JobMachine → JobMachine
step code m = elim (slice_get code m.counter) [ Some word ↦ obeyed (word / 2 ^ 40) (word / 2 ^ 32 % 2 ^ 8) (word % 2 ^ 32) m | None ↦ m ]

-- the state after so many steps of the program alone
unfoldable pub alone : List ℕ → ℕ → JobMachine
alone code zero = started
alone code (suc steps) = step code (alone code steps)

-- the nine numbers of a state: the counter, and the registers
abbrev pub numbers : JobMachine → List ℕ
numbers m = m.counter ∷ m.registers
