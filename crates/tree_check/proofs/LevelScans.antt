-- The first fault of a level from that of its packs, and that of the text from those of its levels.
use Rattle.std.proofs.Common.{◌≡◌, ℕ, zero, suc, ◌+◌, ◌<◌, ◌≤◌, ◌⊎◌, Bool, false, List, [], ◌∷◌, ◌++◌, Option, Some, None, length, get_or}
use Rattle.std.proofs.Common.{MatchOption, refl, ap, arith, inl, inr, sym, subst, ◌∙◌}
use Rattle.std.specs.List.{range_with_len, sum_by}
use Rattle.std.proofs.lemmas.Bool.{cases_eq, cases_lt, cases_Bool, both_ways}
use Rattle.std.proofs.lemmas.List.Sums.{sum_by_push}
use Rattle.tree_check.specs.declared.check.Fault.{Fault}
use Rattle.tree_check.specs.declared.faults.TreeKind.{TreeKind}
use Rattle.tree_check.specs.declared.faults.TreeKind.TheVariants.{Total, Unplaced, Member, Rate, Pair, Unfinished}
use Rattle.tree_check.specs.Written.{Written, level_at, level_line, end_line}
use Rattle.tree_check.specs.Faults.{to_place, rank, LeavesOut, IsUnfinished, HasFault, HasNone, IsFirstOf, HasNoFault, IsFirstFault}
use Rattle.tree_check.specs.Scans.{names_of, AreMarks, HasUnmarked, HasFaultBelow, HasFaultIn, IsLineFault}
use Rattle.tree_check.proofs.PackScans.{IsFirstBelow, length_names}

-- ---- what the marks leave out

pub out_marks : (w : Written) (l : ℕ) (marks : List Bool) → AreMarks (to_place w l) (names_of w l (level_at w l)) marks → HasUnmarked (to_place w l) marks →
    LeavesOut w l
out_marks w l marks a u = (
  u.0,
  u.1,
  λ k lk e. both_ways (get_or marks u.0 false) u.2 (a.marked u.0 u.1 (
    k,
    (let n = length_names w l (level_at w l) in
        omega (arith, n, lk)),
    e,
  )),
)

pub in_marks : (w : Written) (l : ℕ) (marks : List Bool) → AreMarks (to_place w l) (names_of w l (level_at w l)) marks → LeavesOut w l →
    HasUnmarked (to_place w l) marks
in_marks w l marks a out = elim (cases_Bool (get_or marks out.0 false)) [
  | inr off ↦ (out.0, out.1, off)
  | inl on ↦ absurd (let s = a.named out.0 out.1 on in out.2 s.0 (let n = length_names w l (level_at w l) in let lk = s.1 in omega (arith, n, lk)) s.2)
]

-- ---- a level

pub line_first : (w : Written) (l : ℕ) (kind : TreeKind) → IsLineFault w l (Some kind) → IsFirstOf (HasFaultIn w l) (level_line w l) kind
line_first w l Total unfilled = ((refl, unfilled), others)
  where
    others : (other : TreeKind) (at : ℕ) → HasFaultIn w l other at → (level_line w l < at) ⊎ ((level_line w l ≡ at) × (rank Total ≤ rank other))
    others Total at f = inr (sym f.0, omega arith)
    others Unplaced at f = inr (sym f.0, omega arith)
    others Member at f = inl (let e = f.2 in omega (arith, e))
    others Rate at f = inl (let e = f.2 in omega (arith, e))
    others Pair at f = inl (let e = f.2 in omega (arith, e))
    others Unfinished at f = absurd f
line_first w l Unplaced (filled, out) = ((refl, out), others)
  where
    others : (other : TreeKind) (at : ℕ) → HasFaultIn w l other at → (level_line w l < at) ⊎ ((level_line w l ≡ at) × (rank Unplaced ≤ rank other))
    others Total at f = absurd (filled f.1)
    others Unplaced at f = inr (sym f.0, omega arith)
    others Member at f = inl (let e = f.2 in omega (arith, e))
    others Rate at f = inl (let e = f.2 in omega (arith, e))
    others Pair at f = inl (let e = f.2 in omega (arith, e))
    others Unfinished at f = absurd f
line_first w l Member f = absurd f
line_first w l Rate f = absurd f
line_first w l Pair f = absurd f
line_first w l Unfinished f = absurd f

-- the first fault of a level
abbrev pub IsLevelFirst : Written → ℕ → Option Fault → Type 0
IsLevelFirst w l o = MatchOption o (HasNone (HasFaultIn w l)) (λ f. IsFirstOf (HasFaultIn w l) f.line f.kind)

pub from_below : (w : Written) (l : ℕ) (kind : TreeKind) (line : ℕ) → HasFaultBelow w l (length (level_at w l)) kind line → HasFaultIn w l kind line
from_below w l Total line f = absurd f.3
from_below w l Unplaced line f = absurd f.3
from_below w l Member line f = f
from_below w l Rate line f = f
from_below w l Pair line f = f
from_below w l Unfinished line f = absurd f.3

pub to_below : (w : Written) (l : ℕ) → IsLineFault w l None → (kind : TreeKind) (line : ℕ) → HasFaultIn w l kind line →
    HasFaultBelow w l (length (level_at w l)) kind line
to_below w l fine Total line f = absurd (fine.0 f.1)
to_below w l fine Unplaced line f = absurd (fine.1 f.1)
to_below w l fine Member line f = f
to_below w l fine Rate line f = f
to_below w l fine Pair line f = f
to_below w l fine Unfinished line f = absurd f

pub level_first : (w : Written) (l : ℕ) (o : Option Fault) → IsLineFault w l None → IsFirstBelow w l (length (level_at w l)) o → IsLevelFirst w l o
level_first w l None fine a = λ kind line f. a kind line (to_below w l fine kind line f)
level_first w l (Some fault) fine a = (from_below w l fault.kind fault.line a.0, λ other at f. a.1 other at (to_below w l fine other at f))

-- ---- lines

pub range_push : (a n : ℕ) → range_with_len a (suc n) ≡ range_with_len a n ++ (a + n) ∷ []
range_push a zero = (let e : a ≡ a + 0 = omega arith in ap (λ x. x ∷ []) e)
range_push a (suc n) = ap (λ xs. a ∷ xs) (range_push (a + 1) n ∙ (let e : a + 1 + n ≡ a + suc n = omega arith in
    ap (λ x. range_with_len (a + 1) n ++ x ∷ []) e))

-- the line of a level is that of the level below, and as many more as it has lines
pub line_more : (w : Written) (l : ℕ) → level_line w (suc l) ≡ suc (level_line w l + length (level_at w l))
line_more w l =
    let e = ap (sum_by (λ k. suc (length (level_at w k)))) (range_push 0 l) ∙ sum_by_push (λ k. suc (length (level_at w k))) (range_with_len 0 l) (0 + l) in
    let z : 0 + l ≡ l = omega arith in
    let f = ap (λ k. suc (length (level_at w k))) z in
    omega (arith, e, f)

pub lines_grow : (w : Written) (a b : ℕ) → a ≤ b → level_line w a ≤ level_line w b
lines_grow w a zero l = (let e : a ≡ 0 = omega arith in let f = ap (level_line w) e in omega (arith, f))
lines_grow w a (suc b) l = elim (cases_eq a (suc b)) [
  | inl e ↦ (let f = ap (level_line w) e in omega (arith, f))
  | inr ne ↦ (let ih = lines_grow w a b (omega (arith, l, ne)) in let m = line_more w b in omega (arith, ih, m))
]

-- a fault of a level stands between its line and the next level's
pub line_within : (w : Written) (l : ℕ) (kind : TreeKind) (line : ℕ) → HasFaultIn w l kind line → (level_line w l ≤ line) × (line < level_line w (suc l))
line_within w l Total line f = let m = line_more w l in let e = f.0 in (omega (arith, e), omega (arith, e, m))
line_within w l Unplaced line f = let m = line_more w l in let e = f.0 in (omega (arith, e), omega (arith, e, m))
line_within w l Member line f = let m = line_more w l in let e = f.2 in let z = f.1 in (omega (arith, e), omega (arith, e, m, z))
line_within w l Rate line f = let m = line_more w l in let e = f.2 in let z = f.1 in (omega (arith, e), omega (arith, e, m, z))
line_within w l Pair line f = let m = line_more w l in let e = f.2 in let z = f.1 in (omega (arith, e), omega (arith, e, m, z))
line_within w l Unfinished line f = absurd f

-- ---- the text

-- each fault is one of a level, or the last line's
pub fault_where : (w : Written) → 0 < length w.levels → (kind : TreeKind) (line : ℕ) → HasFault w kind line →
    ((l : ℕ) × (l < length w.levels) × HasFaultIn w l kind line) ⊎ ((kind ≡ Unfinished) × (line ≡ end_line w) × IsUnfinished w)
fault_where w some Total line f = inl (0, some, (f.0, (refl, f.1)))
fault_where w some Unplaced line f = inl (f.0, f.1, (f.2, f.3))
fault_where w some Member line f = inl (f.0, f.2, (f.1, f.3, f.4, f.5))
fault_where w some Rate line f = inl (f.0, f.2, (f.1, f.3, f.4, f.5))
fault_where w some Pair line f = inl (f.0, f.2, (f.1, f.3, f.4, f.5))
fault_where w some Unfinished line f = inr (refl, f.0, f.1)

pub fault_there : (w : Written) (l : ℕ) → l < length w.levels → (kind : TreeKind) (line : ℕ) → HasFaultIn w l kind line → HasFault w kind line
fault_there w l low Total line f = (f.0 ∙ ap (level_line w) f.1.0, f.1.1)
fault_there w l low Unplaced line f = (l, low, f.0, f.1)
fault_there w l low Member line f = (l, f.0, low, f.1, f.2, f.3)
fault_there w l low Rate line f = (l, f.0, low, f.1, f.2, f.3)
fault_there w l low Pair line f = (l, f.0, low, f.1, f.2, f.3)
fault_there w l low Unfinished line f = absurd f

-- no level below l is at fault
abbrev pub IsFineBelow : Written → ℕ → Type 0
IsFineBelow w l = (k : ℕ) → k < l → HasNone (HasFaultIn w k)

pub fine_more : (w : Written) (l : ℕ) → IsFineBelow w l → HasNone (HasFaultIn w l) → IsFineBelow w (l + 1)
fine_more w l fine none k lk = elim (cases_lt k l) [
  | inl low ↦ fine k low
  | inr ge ↦ (let e : l ≡ k = omega (arith, lk, ge) in let P : ℕ → Type 0 = λ n. HasNone (HasFaultIn w n) in subst P e none)
]

pub first_in_level : (w : Written) (l line : ℕ) (kind : TreeKind) → l < length w.levels → IsFineBelow w l → IsFirstOf (HasFaultIn w l) line kind →
    IsFirstFault w line kind
first_in_level w l line kind low fine first = (
  fault_there w l low kind line first.0,
  λ other at f. elim (fault_where w (omega (arith, low)) other at f) [
    | inl (k, lk, g) ↦ elim (cases_lt k l) [
      | inl less ↦ absurd (fine k less other at g)
      | inr ge ↦ elim (cases_eq k l) [
        | inl e ↦ (let P : ℕ → Type 0 = λ n. HasFaultIn w n other at in first.1 other at (subst P e g))
        | inr ne ↦ inl (let a = line_within w l kind line first.0 in let b = line_within w k other at g in let m = lines_grow w (suc l) k
            (omega (arith, ge, ne)) in let x = a.1 in let y = b.0 in omega (arith, x, y, m))
      ]
    ]
    | inr (e, at_end, z) ↦ inl (let a = line_within w l kind line first.0 in let m = lines_grow w (suc l) (length w.levels) (omega (arith, low)) in
        let x = a.1 in omega (arith, x, m, at_end))
  ],
)

pub first_at_end : (w : Written) → 0 < length w.levels → IsFineBelow w (length w.levels) → IsUnfinished w → IsFirstFault w (end_line w) Unfinished
first_at_end w some fine un = (
  (refl, un),
  λ other at f. elim (fault_where w some other at f) [
    | inl (k, lk, g) ↦ absurd (fine k lk other at g)
    | inr (e, at_end, z) ↦ inr (sym at_end, (let x = ap rank e in omega (arith, x)))
  ],
)

pub no_fault : (w : Written) → 0 < length w.levels → IsFineBelow w (length w.levels) → ¬ IsUnfinished w → HasNoFault w
no_fault w some fine done kind line f = elim (fault_where w some kind line f) [
  | inl (k, lk, g) ↦ fine k lk kind line g
  | inr (e, at_end, z) ↦ done z
]
