-- What the scan of a level has once one pack more was seen, and the numbers of its lines.
use Rattle.std.proofs.Common.{◌≡◌, ℕ, suc, ◌+◌, ◌-◌, ◌*◌, ◌^◌, ◌<◌, ◌≤◌, ◌≢◌, List, ◌++◌, Bool, Option, Some, None, map, min, length, take, ap, ap₂}
use Rattle.std.proofs.Common.{arith, sym, subst, ◌∙◌}
use Rattle.std.specs.Prelude.{sum}
use Rattle.std.proofs.Math.Nat.{mul-le-mul_left}
use Rattle.tree_check.specs.declared.check.Fault.{Fault}
use Rattle.tree_check.specs.declared.written.Member.{Member}
use Rattle.tree_check.specs.Written.{Pack, Written, IsWritten, IsWrittenPack, level_at, pack_at, no_pack, level_line, pack_line}
use Rattle.tree_check.specs.Faults.{to_place, named}
use Rattle.tree_check.specs.Scans.{names_of, AreMarks, IsPlaced, IsLeast, IsUnfilled, fault_of, with_fault}
use Rattle.tree_check.proofs.LevelLists.{all_at}
use Rattle.tree_check.proofs.PackScans.{names_more, has_bad, no_bad, rates_named, least_more, pack_first, first_more, IsSum, IsFirstBelow}
use Rattle.tree_check.proofs.LevelScans.{line_more, lines_grow}

pub sum_is : (w : Written) (l i : ℕ) (o : Option ℕ) → i < length (level_at w l) → IsPlaced (to_place w l) (names_of w l (take i (level_at w l)))
    (map (named w l) (pack_at (level_at w l) i).members) o → IsSum w l i o
sum_is w l i None low p = has_bad w l i low p
sum_is w l i (Some s) low p = ((λ b. p.0 (no_bad w l i low b)), p.1 ∙ ap (λ n. min n (2 ^ 128 - 1)) (rates_named w l (pack_at (level_at w l) i)))

pub pack_within : (w : Written) (l i : ℕ) → IsWritten w → l < length w.levels → i < length (level_at w l) → (pack_at (level_at w l) i).rate ≤ w.scale
pack_within w l i iw low li = (all_at (IsWrittenPack w.scale l) no_pack (level_at w l) i (iw.levels l low).each li).within

-- what the code has in hand once pack i was placed: its members and rate, what placing them told, and the marks
pub record IsScanStep (w : Written) (l i : ℕ) (rates_now : List ℕ) (marks_now : List Bool) (ms : List Member) (printed : ℕ) (o : Option ℕ) : Type 0 where
  pub level : l < length w.levels
  pub pack : i < length (level_at w l)
  pub rates : rates_now ≡ to_place w l
  pub members : ms ≡ (pack_at (level_at w l) i).members
  pub rate : printed ≡ (pack_at (level_at w l) i).rate
  pub marks : AreMarks rates_now (names_of w l (take i (level_at w l)) ++ map (named w l) ms) marks_now
  pub placed : IsPlaced rates_now (names_of w l (take i (level_at w l))) (map (named w l) ms) o

module _ (w : Written) (l i : ℕ) (rates : List ℕ) (marks : List Bool) (ms : List Member) (rate : ℕ) (o : Option ℕ) (a : IsScanStep w l i rates marks ms rate
    o) where
  abbrev pub before_it : List (Option ℕ)
  before_it = names_of w l (take i (level_at w l))

  pub marks_step : AreMarks rates (names_of w l (take (i + 1) (level_at w l))) marks
  marks_step =
      let e = ap (λ xs. before_it ++ map (named w l) xs) a.members ∙ sym (names_more w l i (level_at w l) a.pack) in
      subst (λ (names : List (Option ℕ)). AreMarks rates names marks) e a.marks

  pub least_step : (scale least : ℕ) → IsLeast scale (level_at w l) i least → IsLeast scale (level_at w l) (i + 1) (min least rate)
  least_step scale least p = subst (λ (r : ℕ). IsLeast scale (level_at w l) (i + 1) (min least r)) (sym a.rate) (least_more scale least i (level_at w l) p)

  pub sum_step : IsSum w l i o
  sum_step =
      let P : List ℕ → List Member → Type 0 = λ rs xs. IsPlaced rs before_it (map (named w l) xs) o in
      sum_is w l i o a.pack (subst (λ (xs : List Member). P (to_place w l) xs) a.members (subst (λ (rs : List ℕ). P rs ms) a.rates a.placed))

  pub first_step : (iw : IsWritten w) (least line : ℕ) (first : Option Fault) → IsLeast w.scale (level_at w l) i least → line ≡ pack_line w l i →
      IsFirstBelow w l i first
      → IsFirstBelow w l (i + 1) (with_fault first (fault_of o rate least w.scale) line)
  first_step iw least line first p at f =
      let within = pack_within w l i iw a.level a.pack in
      let known = pack_first w l i least iw.scale_fits within p o sum_step in
      subst (λ (r : ℕ). IsFirstBelow w l (i + 1) (with_fault first (fault_of o r least w.scale) line)) (sym a.rate)
      (first_more w l i line first (fault_of o (pack_at (level_at w l) i).rate least w.scale) at f known)

-- ---- numbers that fit

-- the lines of a level are within the text
pub lines_room : (w : Written) (l : ℕ) → IsWritten w → l < length w.levels → suc (level_line w l + length (level_at w l)) < 2 ^ 64
lines_room w l iw low =
    let m = line_more w l in
    let g = lines_grow w (suc l) (length w.levels) (omega (arith, low)) in
    let f = iw.lines_fit in
    omega (arith, m, g, f)

-- a sum that is capped past every limit is right where it has the processors' room
pub total_right : (w : Written) (s : ℕ) → IsWritten w → min s (2 ^ 128 - 1) ≡ w.set.processors * w.scale → s ≡ w.set.processors * w.scale
total_right w s iw e =
    let p : w.set.processors * w.scale ≤ w.set.processors * 2 ^ 94 = mul-le-mul_left w.set.processors iw.scale_fits in
    let m = iw.lawful.few_processors in
    omega (arith, e, p, m)

-- of no pack yet any number past the scale is the least
pub least_none : (scale : ℕ) (packs : List Pack) → scale < 2 ^ 128 - 1 → IsLeast scale packs 0 (2 ^ 128 - 1)
least_none scale packs fits = record { some = λ r within low. absurd (omega (arith, fits, within, low)); all = λ j low. absurd (omega (arith, low)) }

-- the processors' room is a number
pub room_fits : (w : Written) (processors scale : ℕ) → IsWritten w → processors ≡ w.set.processors → scale ≡ w.scale → processors * scale < 2 ^ 128 - 1
room_fits w processors scale iw p s =
    let most : w.set.processors * w.scale ≤ w.set.processors * 2 ^ 94 = mul-le-mul_left w.set.processors iw.scale_fits in
    let few = iw.lawful.few_processors in
    let same : processors * scale ≡ w.set.processors * w.scale = ap₂ (λ (x y : ℕ). x * y) p s in
    omega (arith, most, few, same)

-- the capped sum of level 0 tells whether its leaves fill the processors
pub filled : (w : Written) (l : ℕ) (rates : List ℕ) (total processors scale : ℕ) → IsWritten w → rates ≡ to_place w l → total ≡ min (sum rates) (2 ^ 128 - 1)
    → total ≡ processors * scale → processors ≡ w.set.processors → scale ≡ w.scale → ¬ IsUnfilled w l
filled w l rates total processors scale iw are is room p s unfilled =
    unfilled.1 (ap (λ k. sum (to_place w k)) (sym unfilled.0) ∙ sym (ap sum are)
    ∙ total_right w (sum rates) iw (sym is ∙ room ∙ ap₂ (λ (x y : ℕ). x * y) p s))

pub unfilled : (w : Written) (l : ℕ) (rates : List ℕ) (total processors scale : ℕ) → IsWritten w → rates ≡ to_place w l → total ≡ min (sum rates) (2 ^ 128 - 1)
    → total ≢ processors * scale → processors ≡ w.set.processors → scale ≡ w.scale → l ≡ 0 → IsUnfilled w l
unfilled w l rates total processors scale iw are is other p s first = (
  first,
  λ full.
      let fits = room_fits w processors scale iw p s in
      let same : processors * scale ≡ w.set.processors * w.scale = ap₂ (λ (x y : ℕ). x * y) p s in
      let whole : sum rates ≡ w.set.processors * w.scale = ap sum are ∙ ap (λ k. sum (to_place w k)) first ∙ full in
      other (omega (arith, is, fits, same, whole)),
)
