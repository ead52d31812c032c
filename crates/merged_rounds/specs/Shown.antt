-- What a pack shows, by a number and what it is the number of.
use Rattle.std.specs.Prelude.{ℕ, ◌≡◌, Bool, true, false, List, map, Option, None, Some, refl}
use Rattle.std.proofs.Common.{ap, sym}
use Rattle.sched_base.specs.declared.rows.Leaf.{Leaf}
use Rattle.sched_base.specs.declared.rows.Leaf.TheVariants.{Empty, Idle, Task, Wait}
use Rattle.merged_rounds.specs.declared.shown.Kind.{Kind}
use Rattle.merged_rounds.specs.declared.shown.Kind.TheVariants as kind
use Rattle.merged_rounds.specs.declared.shown.Shown.TheInside.{Inside}

-- whether something is shown
abbrev pub is_some : Option Leaf → Bool
is_some None = false
is_some (Some l) = true

-- what a number of this kind stands for
abbrev pub shown_as : Kind → ℕ → Option Leaf
shown_as kind.Off n = None
shown_as kind.Task n = Some (Task (record { 0 = n }))
shown_as kind.Idle n = Some (Idle n)
shown_as kind.Wait n = Some (Wait (record { 0 = n }))
shown_as kind.Empty n = Some Empty

-- a number of nothing is 0
abbrev pub IsPlain : Kind → ℕ → Type 0
IsPlain kind.Off n = n ≡ 0
IsPlain kind.Task n = Unit {0}
IsPlain kind.Idle n = Unit {0}
IsPlain kind.Wait n = Unit {0}
IsPlain kind.Empty n = n ≡ 0

-- the kind of the number that stands for this, and the number
abbrev pub kind_of : Option Leaf → Kind
kind_of None = kind.Off
kind_of (Some (Task t)) = kind.Task
kind_of (Some (Idle n)) = kind.Idle
kind_of (Some (Wait t)) = kind.Wait
kind_of (Some Empty) = kind.Empty

-- the number beside the kind; 0 where the kind says all
abbrev pub number_of : Option Leaf → ℕ
number_of None = 0
number_of (Some (Task t)) = t.0
number_of (Some (Idle n)) = n
number_of (Some (Wait t)) = t.0
number_of (Some Empty) = 0

-- a kind and a number as they are kept
abbrev inside : Kind → ℕ → Inside
inside k n = record { number = n; kind = k }

-- it is the only one that does
pub kind_and_number : (k : Kind) (n : ℕ) → IsPlain k n → inside (kind_of (shown_as k n)) (number_of (shown_as k n)) ≡ inside k n
kind_and_number kind.Off n zero = ap (inside kind.Off) (sym zero)
kind_and_number kind.Task n h = refl
kind_and_number kind.Idle n h = refl
kind_and_number kind.Wait n h = refl
kind_and_number kind.Empty n zero = ap (inside kind.Empty) (sym zero)

-- a pack, and what it shows
pub record PackShows : Type 0 where
  pub pack : ℕ
  pub shown : Option Leaf

-- of such, the packs, and what each shows
abbrev pub packs_in : List PackShows → List ℕ
packs_in = map (λ e. e.pack)

-- what each of these packs shows
abbrev pub shown_in : List PackShows → List (Option Leaf)
shown_in = map (λ e. e.shown)
