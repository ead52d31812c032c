-- What each instruction does, by its operation.
use Rattle.std.proofs.Common.{ℕ, ◌+◌, ◌-◌, ◌*◌, ◌%◌, ◌^◌, ◌<◌, ◌≤◌, ◌≡◌, ◌≢◌, Bool, true, false, eqb, ltb, ◌&&◌, refl, ap, ◌∙◌, sym, arith}
use Rattle.std.specs.Prelude.{slice_index, slice_set}
use Rattle.std.proofs.lemmas.Bool.{cond-true, cond-false, eq-eqb, ne_eqb, le-ltb, lt-ltb}
use Rattle.std.proofs.Math.Nat.{mod-eq_of_lt}
use Rattle.sched_edges.specs.JobMachine.{JobMachine, put, jump, obeyed}

and_off : (x y : Bool) → y ≡ false → (x && y) ≡ false
and_off true y off = off
and_off false y off = refl

off_and : (x y : Bool) → x ≡ false → (x && y) ≡ false
off_and true y off = cc
off_and false y off = refl

and_on : (x y : Bool) → x ≡ true → y ≡ true → (x && y) ≡ true
and_on true y on both = both
and_on false y on both = cc

-- no instruction where each of the tests fails
none_is : (operation a b : ℕ) (m : JobMachine) → (eqb operation 0 && ltb a 8) ≡ false → (eqb operation 1 && (ltb a 8 && ltb b 8)) ≡ false →
    (eqb operation 2 && (ltb a 8 && ltb b 8)) ≡ false
    → (eqb operation 3 && (ltb a 8 && ltb b 8)) ≡ false → (eqb operation 4 && ltb a 8) ≡ false → (eqb operation 5 && eqb a 0) ≡ false →
    m ≡ obeyed operation a b m
unfolding obeyed
none_is operation a b m e0 e1 e2 e3 e4 e5 =
    sym (cond-false _ _ _ e0 ∙ (cond-false _ _ _ e1 ∙ (cond-false _ _ _ e2 ∙ (cond-false _ _ _ e3 ∙ (cond-false _ _ _ e4 ∙ cond-false _ _ _ e5)))))

-- a register that there isn't
pub no_register : (operation a b : ℕ) (m : JobMachine) → 8 ≤ a → m ≡ obeyed operation a b m
no_register operation a b m h =
    let none : ltb a 8 ≡ false = le-ltb a 8 h in
    let not_two : (ltb a 8 && ltb b 8) ≡ false = off_and (ltb a 8) (ltb b 8) none in
    let some : eqb a 0 ≡ false = ne_eqb a 0 (λ e. absurd (omega (arith, h, e))) in
    none_is operation a b m (and_off (eqb operation 0) (ltb a 8) none) (and_off (eqb operation 1) (ltb a 8 && ltb b 8) not_two)
    (and_off (eqb operation 2) (ltb a 8 && ltb b 8) not_two) (and_off (eqb operation 3) (ltb a 8 && ltb b 8) not_two)
    (and_off (eqb operation 4) (ltb a 8) none) (and_off (eqb operation 5) (eqb a 0) some)

-- a second register that there isn't
pub no_second : (operation a b : ℕ) (m : JobMachine) → 1 ≤ operation → operation ≤ 3 → 8 ≤ b → m ≡ obeyed operation a b m
no_second operation a b m low high h =
    let none : ltb b 8 ≡ false = le-ltb b 8 h in
    let not_two : (ltb a 8 && ltb b 8) ≡ false = and_off (ltb a 8) (ltb b 8) none in
    let not_set : eqb operation 0 ≡ false = ne_eqb operation 0 (λ e. absurd (omega (arith, low, e))) in
    let not_jz : eqb operation 4 ≡ false = ne_eqb operation 4 (λ e. absurd (omega (arith, high, e))) in
    let not_jump : eqb operation 5 ≡ false = ne_eqb operation 5 (λ e. absurd (omega (arith, high, e))) in
    none_is operation a b m (off_and (eqb operation 0) (ltb a 8) not_set) (and_off (eqb operation 1) (ltb a 8 && ltb b 8) not_two)
    (and_off (eqb operation 2) (ltb a 8 && ltb b 8) not_two) (and_off (eqb operation 3) (ltb a 8 && ltb b 8) not_two)
    (off_and (eqb operation 4) (ltb a 8) not_jz) (off_and (eqb operation 5) (eqb a 0) not_jump)

-- an operation that there isn't, or `halt`
pub no_operation : (operation a b : ℕ) (m : JobMachine) → operation ≢ 0 → operation ≢ 1 → operation ≢ 2 → operation ≢ 3 → operation ≢ 4 → operation ≢ 5 →
    m ≡ obeyed operation a b m
no_operation operation a b m n0 n1 n2 n3 n4 n5 =
    none_is operation a b m (off_and (eqb operation 0) (ltb a 8) (ne_eqb operation 0 n0)) (off_and (eqb operation 1) (ltb a 8 && ltb b 8)
    (ne_eqb operation 1 n1))
    (off_and (eqb operation 2) (ltb a 8 && ltb b 8) (ne_eqb operation 2 n2)) (off_and (eqb operation 3) (ltb a 8 && ltb b 8) (ne_eqb operation 3 n3))
    (off_and (eqb operation 4) (ltb a 8) (ne_eqb operation 4 n4)) (off_and (eqb operation 5) (eqb a 0) (ne_eqb operation 5 n5))

-- the state with this number in register a, and the counter at the next instruction
abbrev pub written : ℕ → ℕ → JobMachine → JobMachine
written a n m = record { counter = m.counter + 1; registers = slice_set m.registers a n }

set_0 : (a b : ℕ) (m : JobMachine) → a < 8 → b < 2 ^ 32 → written a b m ≡ obeyed 0 a b m
unfolding obeyed
set_0 a b m h l =
    let kept : b % 2 ^ 64 ≡ b = mod-eq_of_lt (omega (arith, l)) in
    sym (cond-true _ _ _ (lt-ltb a 8 h) ∙ ap (λ n. written a n m) kept)

two_on : (a b : ℕ) → a < 8 → b < 8 → (ltb a 8 && ltb b 8) ≡ true
two_on a b h l = and_on (ltb a 8) (ltb b 8) (lt-ltb a 8 h) (lt-ltb b 8 l)

add_1 : (a b : ℕ) (m : JobMachine) → (ltb a 8 && ltb b 8) ≡ true → put a (slice_index m.registers a + slice_index m.registers b) m ≡ obeyed 1 a b m
unfolding obeyed
add_1 a b m two = sym (cond-true _ _ _ two)

sub_2 : (a b : ℕ) (m : JobMachine) → (ltb a 8 && ltb b 8) ≡ true → put a (slice_index m.registers a + (2 ^ 64 - slice_index m.registers b)) m ≡ obeyed 2 a b m
unfolding obeyed
sub_2 a b m two = sym (cond-true _ _ _ two)

mul_3 : (a b : ℕ) (m : JobMachine) → (ltb a 8 && ltb b 8) ≡ true → put a (slice_index m.registers a * slice_index m.registers b) m ≡ obeyed 3 a b m
unfolding obeyed
mul_3 a b m two = sym (cond-true _ _ _ two)

zero_4 : (a b : ℕ) (m : JobMachine) → a < 8 → slice_index m.registers a ≡ 0 → jump b m ≡ obeyed 4 a b m
unfolding obeyed
zero_4 a b m h e = sym (cond-true _ _ _ (lt-ltb a 8 h) ∙ cond-true _ _ _ (eq-eqb (slice_index m.registers a) 0 e))

not_zero_4 : (a b : ℕ) (m : JobMachine) → a < 8 → slice_index m.registers a ≢ 0 → jump (m.counter + 1) m ≡ obeyed 4 a b m
unfolding obeyed
not_zero_4 a b m h e = sym (cond-true _ _ _ (lt-ltb a 8 h) ∙ cond-false _ _ _ (ne_eqb (slice_index m.registers a) 0 e))

jump_5 : (a b : ℕ) (m : JobMachine) → a ≡ 0 → jump b m ≡ obeyed 5 a b m
unfolding obeyed
jump_5 a b m e = sym (cond-true _ _ _ (eq-eqb a 0 e))

no_jump_5 : (a b : ℕ) (m : JobMachine) → a ≢ 0 → m ≡ obeyed 5 a b m
unfolding obeyed
no_jump_5 a b m e = sym (cond-false _ _ _ (ne_eqb a 0 e))

by : (n operation a b : ℕ) (m : JobMachine) → operation ≡ n → obeyed n a b m ≡ obeyed operation a b m
by n operation a b m o = ap (λ p. obeyed p a b m) (sym o)

pub set_is : (operation a b : ℕ) (m : JobMachine) → operation ≡ 0 → a < 8 → b < 2 ^ 32 → written a b m ≡ obeyed operation a b m
set_is operation a b m o h l = set_0 a b m h l ∙ by 0 operation a b m o

pub add_is : (operation a b : ℕ) (m : JobMachine) → operation ≡ 1 → a < 8 → b < 8 → put a (slice_index m.registers a + slice_index m.registers b) m ≡ obeyed
    operation a b m
add_is operation a b m o h l = add_1 a b m (two_on a b h l) ∙ by 1 operation a b m o

pub sub_is : (operation a b : ℕ) (m : JobMachine) → operation ≡ 2 → a < 8 → b < 8 → put a (slice_index m.registers a + (2 ^ 64 - slice_index m.registers b))
    m ≡ obeyed operation a b m
sub_is operation a b m o h l = sub_2 a b m (two_on a b h l) ∙ by 2 operation a b m o

pub mul_is : (operation a b : ℕ) (m : JobMachine) → operation ≡ 3 → a < 8 → b < 8 → put a (slice_index m.registers a * slice_index m.registers b) m ≡ obeyed
    operation a b m
mul_is operation a b m o h l = mul_3 a b m (two_on a b h l) ∙ by 3 operation a b m o

pub zero_is : (operation a b : ℕ) (m : JobMachine) → operation ≡ 4 → a < 8 → slice_index m.registers a ≡ 0 → jump b m ≡ obeyed operation a b m
zero_is operation a b m o h e = zero_4 a b m h e ∙ by 4 operation a b m o

pub not_zero_is : (operation a b : ℕ) (m : JobMachine) → operation ≡ 4 → a < 8 → slice_index m.registers a ≢ 0 → jump (m.counter + 1) m ≡ obeyed operation a b m
not_zero_is operation a b m o h e = not_zero_4 a b m h e ∙ by 4 operation a b m o

pub jump_is : (operation a b : ℕ) (m : JobMachine) → operation ≡ 5 → a ≡ 0 → jump b m ≡ obeyed operation a b m
jump_is operation a b m o e = jump_5 a b m e ∙ by 5 operation a b m o

pub no_jump : (operation a b : ℕ) (m : JobMachine) → operation ≡ 5 → a ≢ 0 → m ≡ obeyed operation a b m
no_jump operation a b m o e = no_jump_5 a b m e ∙ by 5 operation a b m o
