-- Bytes of several sets are told of as modes, or refused with one status.
use Rattle.std.proofs.Common.{◌≡◌, ◌⊎◌, inl, inr, ℕ, zero, suc, ◌<◌, List, [], ◌∷◌, Option, Some, None, Result, Ok, Err, refl, sym, ◌∙◌, ap, subst, arith}
use Rattle.std.specs.Prelude.{slice_get}
use Rattle.std.specs.List.{AllZip}
use Rattle.std.proofs.lemmas.Bool.{cases_lt}
use Rattle.sched_base.specs.Sets.{SetContents}
use Rattle.task_reader.specs.declared.refusals.ReadSet.{ReadSet}
use Rattle.task_reader.specs.Pieces.{pieces_of}
use Rattle.task_reader.specs.Reading.{set_read_from}
use Rattle.mode_join.specs.declared.faults.ModeKind.{ModeKind}
use Rattle.mode_join.specs.declared.faults.ModeKind.TheVariants as kind
use Rattle.mode_join.specs.Joining.{IsFirstFlaw, rank}
use Rattle.mode_join.specs.Modes.{ModesContents, sets_of}
use Rattle.pure_commands.specs.declared.mode_refusal.ModeRefusal.{ModeRefusal}
use Rattle.pure_commands.specs.declared.mode_refusal.ModeRefusal.TheVariants as mode
use Rattle.pure_commands.specs.declared.refusal.Refusal.{Refusal}
use Rattle.pure_commands.specs.declared.refusal.Refusal.TheVariants as why
use Rattle.exit_status.specs.declared.Status.{Status}
use Rattle.exit_status.specs.declared.Status.TheVariants as status
use Rattle.run_tool.specs.ModeTexts.{ReadsSets, ReadsModes, IsFirstBad, RefusesModes}
use Rattle.pure_commands.specs.Refusals.{status_of, set_status, mode_status}

-- ---- pieces that are sets

abbrev IsSetOf : List ℕ → SetContents → Type 0
IsSetOf piece s = set_read_from piece ≡ Ok s

same_set : (piece : List ℕ) (s t : SetContents) → IsSetOf piece s → IsSetOf piece t → s ≡ t
same_set piece s t a b = let e : ◌≡◌ {A = Result SetContents ReadSet} (Ok s) (Ok t) = sym a ∙ b in cc

not_both : (piece : List ℕ) (s : SetContents) (r : ReadSet) → IsSetOf piece s → set_read_from piece ≡ Err r → ⊥
not_both piece s r a b = let e : ◌≡◌ {A = Result SetContents ReadSet} (Ok s) (Err r) = sym a ∙ b in cc

same_refusal : (piece : List ℕ) (r q : ReadSet) → set_read_from piece ≡ Err r → set_read_from piece ≡ Err q → r ≡ q
same_refusal piece r q a b = let e : ◌≡◌ {A = Result SetContents ReadSet} (Err r) (Err q) = sym a ∙ b in cc

same_zip : (pieces : List (List ℕ)) (a b : List SetContents) → AllZip IsSetOf pieces a → AllZip IsSetOf pieces b → a ≡ b
same_zip [] [] [] x y = refl
same_zip [] (s ∷ a) b x y = absurd x
same_zip [] [] (t ∷ b) x y = absurd y
same_zip (p ∷ pieces) [] b x y = absurd x
same_zip (p ∷ pieces) (s ∷ a) [] x y = absurd y
same_zip (p ∷ pieces) (s ∷ a) (t ∷ b) x y =
    let head = same_set p s t x.0 y.0 in
    let tail = same_zip pieces a b x.1 y.1 in
    λ i. head i ∷ tail i

pub read_at : (pieces : List (List ℕ)) (sets : List SetContents) (j : ℕ) (piece : List ℕ) → AllZip IsSetOf pieces sets → slice_get pieces j ≡ Some piece
    → (s : SetContents) × IsSetOf piece s
read_at [] sets j piece zip at = absurd (let e : ◌≡◌ {A = Option (List ℕ)} None (Some piece) = at in cc)
read_at (p ∷ pieces) [] j piece zip at = absurd zip
read_at (p ∷ pieces) (s ∷ sets) zero piece zip at = let e : Some p ≡ Some piece = at in let same : p ≡ piece = cc in (s, subst (λ x. IsSetOf x s) same zip.0)
read_at (p ∷ pieces) (s ∷ sets) (suc j) piece zip at = read_at pieces sets j piece zip.1 at

-- a piece that is no set isn't one of those that are read
none_bad : (bytes : List ℕ) (sets : List SetContents) (j : ℕ) (r : ReadSet) → ReadsSets bytes sets → IsFirstBad bytes j r → ⊥
none_bad bytes sets j r reads bad =
    let (piece, at, refused) = bad.bad in
    let (s, is) = read_at (pieces_of bytes) sets j piece reads at in
    not_both piece s r is refused

-- no piece before another is the first that is no set
not_before : (bytes : List ℕ) (i j : ℕ) (r q : ReadSet) → IsFirstBad bytes i r → IsFirstBad bytes j q → i < j → ⊥
not_before bytes i j r q a b below =
    let (piece, at, refused) = a.bad in
    let (s, is) = b.lowest i piece below at in
    not_both piece s r is refused

one_number : (i j : ℕ) → (i < j → ⊥) → (j < i → ⊥) → i ≡ j
one_number i j up down = elim (cases_lt i j) [
  | inl below ↦ absurd (up below)
  | inr above ↦ elim (cases_lt j i) [
    | inl below ↦ absurd (down below)
    | inr least ↦ omega (arith, above, least)
  ]
]

one_bad : (bytes : List ℕ) (i j : ℕ) (r q : ReadSet) → IsFirstBad bytes i r → IsFirstBad bytes j q → r ≡ q
one_bad bytes i j r q a b =
    let same = one_number i j (not_before bytes i j r q a b) (not_before bytes j i q r b a) in
    let (piece, at, refused) = a.bad in
    let (other, there, refused') = b.bad in
    let e : Some piece ≡ Some other = sym at ∙ ap (slice_get (pieces_of bytes)) same ∙ there in
    let one : piece ≡ other = cc in
    same_refusal other r q (subst (λ x. set_read_from x ≡ Err r) one refused) refused'

-- ---- sets that can't be joined

-- the status goes by the place in the order of kinds
abbrev status_at : ℕ → Status
status_at zero = status.ModeFault
status_at (suc zero) = status.ModeFault
status_at (suc (suc zero)) = status.ModeFault
status_at (suc (suc (suc zero))) = status.Overload
status_at (suc (suc (suc (suc n)))) = status.TooLong

kind_at : (k : ModeKind) → mode_status (mode.NotJoined k) ≡ status_at (rank k)
kind_at kind.Processors = refl
kind_at (kind.Offset task) = refl
kind_at (kind.Period task) = refl
kind_at (kind.Overload total room) = refl
kind_at (kind.TooLong rows) = refl

one_kind : (sets : List SetContents) (i j : ℕ) (k l : ModeKind) → IsFirstFlaw sets i k → IsFirstFlaw sets j l → mode_status (mode.NotJoined k) ≡ mode_status
    (mode.NotJoined l)
one_kind sets i j k l a b =
    let same = one_number i j (λ below. b.lowest i k below a.has) (λ below. a.lowest j l below b.has) in
    let b' : IsFirstFlaw sets i l = subst (λ n. IsFirstFlaw sets n l) (sym same) b in
    let up = a.first l b'.has in
    let down = b'.first k a.has in
    let ranks : rank k ≡ rank l = omega (arith, up, down) in
    kind_at k ∙ ap status_at ranks ∙ sym (kind_at l)

-- ---- bytes that are refused

-- a piece is no set, or all are sets, and can't be joined
abbrev Why : List ℕ → Refusal → Type 0
Why bytes r =
    ((j : ℕ) × (q : ReadSet) × IsFirstBad bytes j q × (status_of r ≡ set_status q))
    ⊎ ((j : ℕ) × (k : ModeKind) × (sets : List SetContents) × ReadsSets bytes sets × IsFirstFlaw sets j k × (status_of r ≡ mode_status (mode.NotJoined k)))

why_mode : (bytes : List ℕ) (j : ℕ) (r : ModeRefusal) → RefusesModes bytes (why.OfMode j r) → Why bytes (why.OfMode j r)
why_mode bytes j (mode.BadSet q) refuses = inl (j, q, refuses, refl)
why_mode bytes j (mode.NotJoined k) refuses = inr (j, k, refuses.0, refuses.1, refuses.2, refl)
why_mode bytes j _ refuses = absurd refuses

why_refused : (bytes : List ℕ) (r : Refusal) → RefusesModes bytes r → Why bytes r
why_refused bytes (why.OfMode j q) refuses = why_mode bytes j q refuses
why_refused bytes _ refuses = absurd refuses

-- nothing is told of bytes that are refused
pub modes_or_refused : (bytes : List ℕ) (m : ModesContents) (r : Refusal) → ReadsModes bytes m → RefusesModes bytes r → ⊥
modes_or_refused bytes m r reads refuses =
    elim (why_refused bytes r refuses) [
      | inl bad ↦ none_bad bytes (sets_of m.modes) bad.0 bad.1 reads.read bad.2
      | inr unjoined ↦
          let (j, k, sets, other, refused, same) = unjoined in
          let one = same_zip (pieces_of bytes) sets (sets_of m.modes) other reads.read in
          reads.joined j k (subst (λ (xs : List SetContents). IsFirstFlaw xs j k) one refused).has
    ]

-- bytes are refused with one status
pub one_modes_status : (bytes : List ℕ) (r q : Refusal) → RefusesModes bytes r → RefusesModes bytes q → status_of r ≡ status_of q
one_modes_status bytes r q a b = go (why_refused bytes r a) (why_refused bytes q b)
  where
    go : Why bytes r → Why bytes q → status_of r ≡ status_of q
    go (inl x) (inl y) = x.3 ∙ ap set_status (one_bad bytes x.0 y.0 x.1 y.1 x.2 y.2) ∙ sym y.3
    go (inl x) (inr y) = absurd (none_bad bytes y.2 x.0 x.1 y.3 x.2)
    go (inr x) (inl y) = absurd (none_bad bytes x.2 y.0 y.1 x.3 y.2)
    go (inr x) (inr y) =
        let one = same_zip (pieces_of bytes) x.2 y.2 x.3 y.3 in
        x.5 ∙ one_kind y.2 x.0 y.0 x.1 y.1 (subst (λ (xs : List SetContents). IsFirstFlaw xs x.0 x.1) one x.4) y.4 ∙ sym y.5
