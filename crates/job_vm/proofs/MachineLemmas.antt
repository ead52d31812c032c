-- A step that changes nothing is followed by more of the same.
use Rattle.std.proofs.Common.{ℕ, zero, suc, ◌+◌, ◌-◌, ◌*◌, ◌/◌, ◌%◌, ◌^◌, ◌≤◌, ◌<◌, ◌≡◌, Bool, true, false, cond, eqb, ltb, ◌&&◌, List, [], ◌∷◌}
use Rattle.std.proofs.Common.{length, get_or, Option, None, Some, refl, sym, ap, ◌∙◌, arith, add-zero, add-one, add-suc}
use Rattle.std.specs.Prelude.{slice_get, slice_index}
use Rattle.std.proofs.Math.Nat.{zero-div}
use Rattle.std.proofs.lemmas.Option.{slice_get-get_or, slice_get_past}
use Rattle.sched_edges.specs.JobMachine.{JobMachine, started, put, jump, obeyed, step, alone}

-- where the counter of this state is that of the other, both are the same
abbrev pub Rests : JobMachine → JobMachine → Type 0
Rests n m = n.counter ≡ m.counter → n ≡ m

rests_cond : (b : Bool) (x y m : JobMachine) → Rests x m → Rests y m → Rests (cond b x y) m
rests_cond true x y m p q e = p e
rests_cond false x y m p q e = q e

put_rests : (a n : ℕ) (m : JobMachine) → Rests (put a n m) m
put_rests a n m e = absurd (omega (arith, e))

jump_rests : (b : ℕ) (m : JobMachine) → Rests (jump b m) m
jump_rests b m e = ap (λ c. record m { counter = c }) e

-- whatever an instruction changes, it moves the counter
pub obeyed_rests : (operation a b : ℕ) (m : JobMachine) → Rests (obeyed operation a b m) m
unfolding obeyed
obeyed_rests operation a b m =
    let x = slice_index m.registers a in
    let y = slice_index m.registers b in
    let two = ltb a 8 && ltb b 8 in
    let m5 = cond (eqb operation 5 && eqb a 0) (jump b m) m in
    let to = cond (eqb x 0) (jump b m) (jump (m.counter + 1) m) in
    let m4 = cond (eqb operation 4 && ltb a 8) to m5 in
    let m3 = cond (eqb operation 3 && two) (put a (x * y) m) m4 in
    let m2 = cond (eqb operation 2 && two) (put a (x + (2 ^ 64 - y)) m) m3 in
    let m1 = cond (eqb operation 1 && two) (put a (x + y) m) m2 in
    let r5 : Rests m5 m = rests_cond (eqb operation 5 && eqb a 0) (jump b m) m m (jump_rests b m) (λ e. refl) in
    let rt : Rests to m = rests_cond (eqb x 0) (jump b m) (jump (m.counter + 1) m) m (jump_rests b m) (jump_rests (m.counter + 1) m) in
    let r4 : Rests m4 m = rests_cond (eqb operation 4 && ltb a 8) to m5 m rt r5 in
    let r3 : Rests m3 m = rests_cond (eqb operation 3 && two) (put a (x * y) m) m4 m (put_rests a (x * y) m) r4 in
    let r2 : Rests m2 m = rests_cond (eqb operation 2 && two) (put a (x + (2 ^ 64 - y)) m) m3 m (put_rests a (x + (2 ^ 64 - y)) m) r3 in
    let r1 : Rests m1 m = rests_cond (eqb operation 1 && two) (put a (x + y) m) m2 m (put_rests a (x + y) m) r2 in
    rests_cond (eqb operation 0 && ltb a 8) (put a b m) m1 m (put_rests a b m) r1

-- the state after the word that was found
abbrev pub taken : Option ℕ → JobMachine → JobMachine
taken None m = m
taken (Some word) m = obeyed (word / 2 ^ 40) (word / 2 ^ 32 % 2 ^ 8) (word % 2 ^ 32) m

taken_rests : (found : Option ℕ) (m : JobMachine) → Rests (taken found m) m
taken_rests None m e = refl
taken_rests (Some word) m e = obeyed_rests (word / 2 ^ 40) (word / 2 ^ 32 % 2 ^ 8) (word % 2 ^ 32) m e

step_taken : (code : List ℕ) (m : JobMachine) (found : Option ℕ) → slice_get code m.counter ≡ found → step code m ≡ taken found m
unfolding step
step_taken code m None e = ap (λ o. elim o [ Some word ↦ obeyed (word / 2 ^ 40) (word / 2 ^ 32 % 2 ^ 8) (word % 2 ^ 32) m | None ↦ m ]) e
step_taken code m (Some w) e = ap (λ o. elim o [ Some word ↦ obeyed (word / 2 ^ 40) (word / 2 ^ 32 % 2 ^ 8) (word % 2 ^ 32) m | None ↦ m ]) e

-- a step does what the word at the counter says
pub step_within : (code : List ℕ) (m : JobMachine) (at : ℕ) → at ≡ m.counter → at < length code
    → step code m ≡ obeyed (get_or code at 0 / 2 ^ 40) (get_or code at 0 / 2 ^ 32 % 2 ^ 8) (get_or code at 0 % 2 ^ 32) m
step_within code m at e within = step_taken code m (Some (get_or code at 0)) (ap (slice_get code) (sym e) ∙ slice_get-get_or code at 0 within)

-- and nothing behind the program
pub step_past : (code : List ℕ) (m : JobMachine) (at : ℕ) → at ≡ m.counter → length code ≤ at → step code m ≡ m
step_past code m at e past = step_taken code m None (ap (slice_get code) (sym e) ∙ slice_get_past code at past)

-- a step that leaves the counter leaves all
pub step_rests : (code : List ℕ) (m : JobMachine) → Rests (step code m) m
step_rests code m e =
    let found = slice_get code m.counter in
    let is : step code m ≡ taken found m = step_taken code m found refl in
    is ∙ taken_rests found m (sym (ap (λ n. n.counter) is) ∙ e)

-- a program that stands still does so from then on
pub alone_rests : (code : List ℕ) (n more : ℕ) → step code (alone code n) ≡ alone code n → alone code (n + more) ≡ alone code n
unfolding alone
alone_rests code n zero still = ap (alone code) (add-zero n)
alone_rests code n (suc more) still = ap (alone code) (add-suc n more) ∙ (ap (step code) (alone_rests code n more still) ∙ still)

-- the state after one step more
pub alone_more : (code : List ℕ) (n : ℕ) → alone code (n + 1) ≡ step code (alone code n)
unfolding alone
alone_more code n = ap (alone code) (add-one n)

-- the state behind a step that left the counter is the last one
pub alone_last : (code : List ℕ) (n to : ℕ) (m : JobMachine) → m ≡ alone code n → n ≤ to → (step code m).counter ≡ m.counter → step code m ≡ alone code to
alone_last code n to m is on same =
    let still : step code m ≡ m = step_rests code m same in
    let at : step code (alone code n) ≡ alone code n = ap (step code) (sym is) ∙ (still ∙ is) in
    let sum : n + (to - n) ≡ to = omega (arith, on) in
    still ∙ (is ∙ (sym (alone_rests code n (to - n) at) ∙ ap (alone code) sum))

-- a program that hasn't worked a tick is at the start
pub alone_start : (code : List ℕ) (scale : ℕ) → started ≡ alone code (0 / scale)
unfolding alone
alone_start code scale = sym (ap (alone code) (zero-div scale))

-- the empty program stands still
none_moves : (n : ℕ) → alone [] n ≡ alone [] 0
none_moves n =
    let start = alone [] 0 in
    let still = step_past [] start start.counter refl (omega arith) in
    let from : n ≡ 0 + n = omega arith in
    ap (alone []) from ∙ alone_rests [] 0 n still

pub alone_none : (code : List ℕ) (n m : ℕ) → length code ≡ 0 → alone code n ≡ alone code m
alone_none [] n m none = none_moves n ∙ sym (none_moves m)
alone_none (word ∷ code) n m none = absurd (omega (arith, none))
