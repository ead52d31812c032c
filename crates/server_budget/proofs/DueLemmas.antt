-- Marks and what is left by them.
use Rattle.std.proofs.Common.{◌≡◌, ◌≢◌, ℕ, zero, suc, ◌+◌, ◌-◌, ◌*◌, ◌^◌, ◌<◌, ◌≤◌, Bool, true, false, List, [], ◌∷◌, length, replicate, subst, refl}
use Rattle.std.proofs.Common.{ap, ap₂, arith, sym, ◌∙◌, get_or, inl, inr, get_or-set_same, get_or-set_other}
use Rattle.std.proofs.lemmas.Bool.{both_ways, cases_eq}
use Rattle.std.proofs.lemmas.List.{set-get_or, length-set, length-replicate}
use Rattle.std.proofs.Math.ListN.{set}
use Rattle.sched_base.specs.Counting.{bit}
use Rattle.server_budget.specs.Dues.{DueContents, left_by, remains_by, AreAhead}

-- what is left by one mark of them
pub remain_by : (tick : ℕ) (runs : List Bool) (marks : List ℕ) (x : ℕ) → length runs ≡ length marks → get_or (remains_by tick runs marks) x 0 ≡ left_by tick
    (get_or runs x false) (get_or marks x 0)
remain_by tick [] [] x l = refl
remain_by tick [] (m ∷ ms) x l = absurd (omega (arith, l))
remain_by tick (r ∷ rs) [] x l = absurd (omega (arith, l))
remain_by tick (r ∷ rs) (m ∷ ms) zero l = refl
remain_by tick (r ∷ rs) (m ∷ ms) (suc x) l = remain_by tick rs ms x (omega (arith, l))

pub remains_long : (tick : ℕ) (runs : List Bool) (marks : List ℕ) → length runs ≡ length marks → length (remains_by tick runs marks) ≡ length marks
remains_long tick [] [] l = refl
remains_long tick [] (m ∷ ms) l = absurd (omega (arith, l))
remains_long tick (r ∷ rs) [] l = absurd (omega (arith, l))
remains_long tick (r ∷ rs) (m ∷ ms) l = (let e = remains_long tick rs ms (omega (arith, l)) in omega (arith, e))

-- one mark changes, with what it means
pub remains_set : (tick : ℕ) (runs : List Bool) (marks : List ℕ) (x : ℕ) (run : Bool) (mark : ℕ) → length runs ≡ length marks →
    remains_by tick (set runs x run) (set marks x mark) ≡ set (remains_by tick runs marks) x (left_by tick run mark)
remains_set tick [] [] x run mark l = refl
remains_set tick [] (m ∷ ms) x run mark l = absurd (omega (arith, l))
remains_set tick (r ∷ rs) [] x run mark l = absurd (omega (arith, l))
remains_set tick (r ∷ rs) (m ∷ ms) zero run mark l = refl
remains_set tick (r ∷ rs) (m ∷ ms) (suc x) run mark l = ap (λ (xs : List ℕ). left_by tick r m ∷ xs) (remains_set tick rs ms x run mark (omega (arith, l)))

-- a change that leaves what is left
pub remains_same : (tick : ℕ) (runs : List Bool) (marks : List ℕ) (x : ℕ) (run : Bool) (mark : ℕ) → length runs ≡ length marks →
    left_by tick run mark ≡ left_by tick (get_or runs x false) (get_or marks x 0) →
    remains_by tick (set runs x run) (set marks x mark) ≡ remains_by tick runs marks
remains_same tick runs marks x run mark l e =
    remains_set tick runs marks x run mark l
    ∙ ap (set (remains_by tick runs marks) x) (e ∙ sym (remain_by tick runs marks x l))
    ∙ set-get_or (remains_by tick runs marks) x 0

-- a due is given
pub remains_given : (tick : ℕ) (runs : List Bool) (marks : List ℕ) (x mark due : ℕ) → length runs ≡ length marks → left_by tick (get_or runs x false)
    mark ≡ due → remains_by tick runs (set marks x mark) ≡ set (remains_by tick runs marks) x due
remains_given tick runs marks x mark due l e =
    ap (λ (rs : List Bool). remains_by tick rs (set marks x mark)) (sym (set-get_or runs x false))
    ∙ remains_set tick runs marks x (get_or runs x false) mark l
    ∙ ap (set (remains_by tick runs marks) x) e

-- and no node runs past its mark then
pub given_ahead : (tick : ℕ) (runs : List Bool) (marks : List ℕ) (x mark : ℕ) → AreAhead tick runs marks → x < length marks → (get_or runs x false ≡ true →
    tick ≤ mark) → AreAhead tick runs (set marks x mark)
given_ahead tick runs marks x mark h l own = record {
  long = h.long ∙ sym (length-set marks x mark);
  ahead = λ y on. elim (cases_eq y x) [
    | inl same ↦ (let P : ℕ → Type 0 = λ z. get_or runs z false ≡ true → tick ≤ get_or (set marks x mark) z 0 in subst P (sym same) (λ f. let e = here in
        let a = own f in omega (arith, e, a)) on)
    | inr ne ↦ (let e = there y ne in let a = h.ahead y on in omega (arith, e, a))
  ];
}
  where
    here : get_or (set marks x mark) x 0 ≡ mark
    here = rw get_or-set_same

    there : (y : ℕ) → y ≢ x → get_or (set marks x mark) y 0 ≡ get_or marks y 0
    there y ne = rw get_or-set_other refl

-- starting: nothing is lost
pub started : (tick : ℕ) (runs : List Bool) (marks : List ℕ) (x : ℕ) → length runs ≡ length marks → get_or runs x false ≡ false →
    remains_by tick (set runs x true) (set marks x (get_or marks x 0 + tick)) ≡ remains_by tick runs marks
started tick runs marks x l e =
    remains_same tick runs marks x true (get_or marks x 0 + tick) l
    (let by : left_by tick true (get_or marks x 0 + tick) ≡ left_by tick false (get_or marks x 0) = omega arith in
    by ∙ ap (λ (b : Bool). left_by tick b (get_or marks x 0)) (sym e))

-- stopping: nothing either
pub stopped : (tick : ℕ) (runs : List Bool) (marks : List ℕ) (x : ℕ) → length runs ≡ length marks → get_or runs x false ≡ true →
    remains_by tick (set runs x false) (set marks x (get_or marks x 0 - tick)) ≡ remains_by tick runs marks
stopped tick runs marks x l e = remains_same tick runs marks x false (get_or marks x 0 - tick) l (ap (λ (b : Bool). left_by tick b (get_or marks x 0)) (sym e))

-- ticks pass: they are taken off what runs
pub passed : (tick ticks : ℕ) (run : Bool) (mark : ℕ) → left_by (tick + ticks) run mark ≡ left_by tick run mark - bit run * ticks
passed tick ticks true mark = omega arith
passed tick ticks false mark = omega arith

pub all_passed : (tick ticks : ℕ) (runs : List Bool) (marks : List ℕ) (x : ℕ) → length runs ≡ length marks → get_or (remains_by (tick + ticks) runs marks) x
    0 ≡ get_or (remains_by tick runs marks) x 0 - bit (get_or runs x false) * ticks
all_passed tick ticks runs marks x l =
    remain_by (tick + ticks) runs marks x l ∙ passed tick ticks (get_or runs x false) (get_or marks x 0)
    ∙ ap (λ (n : ℕ). n - bit (get_or runs x false) * ticks) (sym (remain_by tick runs marks x l))

-- at what runs
pub left_running : (tick : ℕ) (runs : List Bool) (marks : List ℕ) (x : ℕ) → length runs ≡ length marks → get_or runs x false ≡ true →
    get_or (remains_by tick runs marks) x 0 ≡ get_or marks x 0 - tick
left_running tick runs marks x l e = remain_by tick runs marks x l ∙ ap (λ (b : Bool). left_by tick b (get_or marks x 0)) e

pub left_resting : (tick : ℕ) (runs : List Bool) (marks : List ℕ) (x : ℕ) → length runs ≡ length marks → get_or runs x false ≡ false →
    get_or (remains_by tick runs marks) x 0 ≡ get_or marks x 0
left_resting tick runs marks x l e = remain_by tick runs marks x l ∙ ap (λ (b : Bool). left_by tick b (get_or marks x 0)) e

-- ---- the same, of what callers see

module _ (tick : ℕ) (runs : List Bool) (marks : List ℕ) where
  abbrev Sees : DueContents → Type 0
  Sees d = (let seen : DueContents = record { tick = tick; remains = remains_by tick runs marks; runs = runs } in seen) ≡ d

-- nothing is left, and none runs
pub none_left : (count : ℕ) (runs : List Bool) (marks : List ℕ) → runs ≡ replicate count false → marks ≡ replicate count 0 →
    remains_by 0 runs marks ≡ replicate count 0
none_left count runs marks e f = ap₂ (λ (rs : List Bool) (ms : List ℕ). remains_by 0 rs ms) e f ∙ go count
  where
    go : (n : ℕ) → remains_by 0 (replicate n false) (replicate n 0) ≡ replicate n 0
    go zero = refl
    go (suc n) = ap (λ (xs : List ℕ). 0 ∷ xs) (go n)

-- and none is past its mark
pub none_ahead : (count : ℕ) (runs : List Bool) (marks : List ℕ) → runs ≡ replicate count false → marks ≡ replicate count 0 → AreAhead 0 runs marks
none_ahead count runs marks e f = record {
  long = ap (λ (xs : List Bool). length xs) e ∙ length-replicate count false ∙ sym (ap (λ (xs : List ℕ). length xs) f ∙ length-replicate count 0);
  ahead = λ x on. first_tick (get_or marks x 0);
}
  where
    first_tick : (mark : ℕ) → 0 ≤ mark
    first_tick mark = omega arith

pub passed_of : (tick ticks : ℕ) (runs : List Bool) (marks : List ℕ) (x : ℕ) → length runs ≡ length marks → (d : DueContents) → Sees tick runs marks d →
    get_or (remains_by (tick + ticks) runs marks) x 0 ≡ get_or d.remains x 0 - bit (get_or d.runs x false) * ticks
passed_of tick ticks runs marks x l d e =
    all_passed tick ticks runs marks x l ∙ ap (λ (d : DueContents). get_or d.remains x 0 - bit (get_or d.runs x false) * ticks) e

pub still_ahead : (tick ticks : ℕ) (runs : List Bool) (marks : List ℕ) → AreAhead tick runs marks → (d : DueContents) → Sees tick runs marks d →
    ((x : ℕ) → get_or d.runs x false ≡ true → ticks ≤ get_or d.remains x 0) → AreAhead (tick + ticks) runs marks
still_ahead tick ticks runs marks h d e enough = record {
  long = h.long;
  ahead = λ x on. (let left = left_running tick runs marks x h.long on in
      let seen = ap (λ (d : DueContents). get_or d.remains x 0) e in
      let n = enough x (ap (λ (d : DueContents). get_or d.runs x false) (sym e) ∙ on) in
      let a = h.ahead x on in
      omega (arith, left, seen, n, a));
}

pub dry_is : (tick : ℕ) (runs : List Bool) (marks : List ℕ) (x : ℕ) → AreAhead tick runs marks → get_or runs x false ≡ true →
    get_or marks x 0 ≡ tick + get_or (remains_by tick runs marks) x 0
dry_is tick runs marks x h on =
    let left = left_running tick runs marks x h.long on in
    let a = h.ahead x on in
    omega (arith, left, a)

pub start_fits : (tick : ℕ) (runs : List Bool) (marks : List ℕ) (x : ℕ) → length runs ≡ length marks → get_or runs x false ≡ false →
    tick + get_or (remains_by tick runs marks) x 0 < 2 ^ 128 → tick + get_or marks x 0 < 2 ^ 128
start_fits tick runs marks x l off fits =
    let P : ℕ → Type 0 = λ n. tick + n < 2 ^ 128 in
    subst P (left_resting tick runs marks x l off) fits

-- what rests still does once another node has stopped
pub still_rests : (runs : List Bool) (before after : ℕ) → get_or runs before false ≡ true → get_or runs after false ≡ false → get_or (set runs before false)
    after false ≡ false
still_rests runs before after on off =
    let ne : after ≢ before = (λ e. both_ways (get_or runs before false) (ap (λ x. get_or runs x false) (sym e) ∙ off) on) in
    let other : get_or (set runs before false) after false ≡ get_or runs after false = rw get_or-set_other refl in
    other ∙ off
