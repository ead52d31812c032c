-- Looking for the first item of a kind, from place to place.
use Rattle.std.proofs.Common.{ℕ, zero, suc, ◌<◌, ◌≤◌, ◌≡◌, Bool, true, false, List, [], ◌∷◌, length, get_or, drop, Some, None, sym, refl, ap, ◌∙◌, arith}
use Rattle.std.specs.List.{find, list_any}
use Rattle.std.specs.Str.{bytes_eq}
use Rattle.std.proofs.lemmas.Bool.{cond-true, cond-false}
use Rattle.std.specs.Prelude.{not, option_map}
use Rattle.sched_base.specs.declared.sets.Task.{Task}
use Rattle.job_vm.specs.Programs.{Program}
use Rattle.job_vm.specs.Strays.{first_stray}

-- it is at this place
pub find_here : {X : Type 0} (p : X → Bool) (xs : List X) (i : ℕ) (x : X) → i < length xs → x ≡ get_or xs i x → p x ≡ true → find p (drop i xs) ≡ Some x
find_here p [] i x within at passes = absurd (omega arith)
find_here p (y ∷ xs) zero x within at passes = cond-true (p y) (Some y) (find p xs) (ap p (sym at) ∙ passes) ∙ ap Some (sym at)
find_here p (y ∷ xs) (suc i) x within at passes = find_here p xs i x (omega arith) at passes

-- it isn't at this place
pub find_on : {X : Type 0} (p : X → Bool) (xs : List X) (i : ℕ) (x : X) → i < length xs → x ≡ get_or xs i x → p x ≡ false → find p (drop i xs) ≡ find p
    (drop (suc i) xs)
find_on p [] i x within at fails = absurd (omega arith)
find_on p (y ∷ xs) zero x within at fails = cond-false (p y) (Some y) (find p xs) (ap p (sym at) ∙ fails)
find_on p (y ∷ xs) (suc i) x within at fails = find_on p xs i x (omega arith) at fails

-- it is nowhere
pub find_none : {X : Type 0} (p : X → Bool) (xs : List X) (i : ℕ) → length xs ≤ i → find p (drop i xs) ≡ None
find_none p [] zero past = refl
find_none p [] (suc i) past = refl
find_none p (y ∷ xs) zero past = absurd (omega (arith, past))
find_none p (y ∷ xs) (suc i) past = find_none p xs i (omega arith)

-- a program of no task
abbrev pub is_stray : List Task → Program → Bool
is_stray tasks p = not (list_any (λ t. bytes_eq t.name p.name) tasks)

pub stray_here : (tasks : List Task) (programs : List Program) (i line : ℕ) (p : Program) → find (is_stray tasks) programs ≡ find (is_stray tasks)
    (drop i programs)
    → i < length programs → p ≡ get_or programs i p → list_any (λ t. bytes_eq t.name p.name) tasks ≡ false → line ≡ p.line → Some line ≡ first_stray tasks
    programs
unfolding first_stray
stray_here tasks programs i line p before within at fails is =
    ap Some is ∙ sym (ap (option_map (λ (q : Program). q.line)) (before ∙ find_here (is_stray tasks) programs i p within at (ap not fails)))

pub stray_none : (tasks : List Task) (programs : List Program) (i : ℕ) → find (is_stray tasks) programs ≡ find (is_stray tasks) (drop i programs)
    → length programs ≤ i → None ≡ first_stray tasks programs
unfolding first_stray
stray_none tasks programs i before past = sym (ap (option_map (λ (q : Program). q.line)) (before ∙ find_none (is_stray tasks) programs i past))
