-- The walk over packs that are to be looked at again.
use Rattle.std.proofs.Common.{◌≡◌, ◌≢◌, ℕ, ◌+◌, ◌<◌, ◌≤◌, Bool, false, List, [], length, Option, Some, None, refl, ap, ap₂, arith, inl, inr, sym}
use Rattle.std.proofs.Common.{subst, ◌∙◌, get_or, get_or-set_same, get_or-set_other}
use Rattle.std.proofs.lemmas.Bool.{cases_eq, both_ways}
use Rattle.std.proofs.lemmas.List.{length-map, length-set}
use Rattle.std.proofs.Math.ListN.{set}
use Rattle.sched_base.specs.declared.candidates.Candidate.{Candidate}
use Rattle.sched_base.specs.Candidates.{is_at}
use Rattle.run_tree.specs.Tree.{Tree, IsTree, IsPack, IsMember, kind_at, is_pack, level, members, member}
use Rattle.edf_pick.specs.Ready.{AreReady}
use Rattle.tree_select.specs.Selected.{candidates}
use Rattle.run_tree.specs.Schedule.{packs_at}
use Rattle.tree_select.specs.declared.masks.Group.{Group}
use Rattle.tree_select.specs.declared.masks.Span.{Span}
use Rattle.tree_select.specs.Marked.{AreFresh, AreLed, AreServed}
use Rattle.tree_select.specs.Masks.{group_at, AreUnmarked, IsSpanOf}
use Rattle.tree_select.proofs.LevelLemmas.{pack_of_level}
use Rattle.tree_select.proofs.MaskLemmas.{pack_of_group}
use Rattle.server_budget.specs.Dues.{DueContents}
use Rattle.event_core.specs.Serving.{ServingContents, dry_by, AreFitting, IsServing}

-- a pack has as many ends in its knockout as members
pub ready_long : (t : Tree) (remains ends : List ℕ) (p : ℕ) (ready : List ℕ) → AreReady (candidates t remains ends p) ready →
    length ready ≡ length (members t p)
ready_long t remains ends p ready h = h.long ∙ length-map (members t p) (λ (m : ℕ). let c : Candidate =
    record { end = get_or ends m 0; remain = get_or remains m 0 } in c)

-- one pack more serves whom it picks
pub serving_step : (t : Tree) (d d' : DueContents) (ends : List ℕ) (s s' : ServingContents) (p : ℕ) (next : Option ℕ) → IsPack t p → p < length s.serves →
    d'.tick ≡ d.tick → d'.remains ≡ d.remains →
    s'.ready ≡ s.ready → s'.serves ≡ set s.serves p next → s'.dry ≡ set s.dry p (dry_by t d' p next) →
    ((j : ℕ) → next ≡ Some j → j < length (members t p)) →
    ((j : ℕ) → j < length (members t p) → get_or s'.runs (member t p j) false ≡ is_at next j) →
    ((q j : ℕ) → IsPack t q → q ≢ p → j < length (members t q) → get_or s'.runs (member t q j) false ≡ get_or s.runs (member t q j) false) →
    ((x : ℕ) → IsMember t x → get_or d'.runs x false ≡ get_or s'.runs x false) → ((x : ℕ) → (IsMember t x → ⊥) → get_or d'.runs x false ≡ get_or d.runs x
    false) →
    ((q : ℕ) → IsPack t q → q ≢ p → get_or s'.stale q false ≡ false → get_or s.stale q false ≡ false) →
    AreLed t s'.runs → AreServed t d.remains ends s'.stale s'.runs →
    IsServing t d ends s → IsServing t d' ends s'
serving_step t d d' ends s s' p next i b tick remains ready serves dry within now others agree rest unmarked led served was = record {
  picks = λ q j. subst (λ (rs : List ℕ). AreReady (candidates t rs ends q) (get_or s'.ready q [])) (sym remains)
      (subst (λ (ks : List (List ℕ)). AreReady (candidates t d.remains ends q) (get_or ks q [])) (sym ready) (was.picks q j));
  within = λ q j k e. elim (cases_eq q p) [
    | inl same ↦ (let P : ℕ → Type 0 = λ x. get_or s'.serves x None ≡ Some j → j < length (members t x) in subst P (sym same) (λ f. within j (sym here ∙ f)) e)
    | inr ne ↦ was.within q j k (sym (there q ne) ∙ e)
  ];
  at = λ q j k l. elim (cases_eq q p) [
    | inl same ↦ (let P : ℕ → Type 0 = λ x. j < length (members t x) → get_or s'.runs (member t x j) false ≡ is_at (get_or s'.serves x None) j in
        subst P (sym same) (λ m. now j m ∙ ap (λ o. is_at o j) (sym here)) l)
    | inr ne ↦ others q j k ne l ∙ was.at q j k l ∙ ap (λ o. is_at o j) (sym (there q ne))
  ];
  agree = agree;
  rest = λ x none. rest x none ∙ was.rest x none;
  ticks = record {
    long = ap (λ (xs : List ℕ). length xs) dry ∙ length-set s.dry p (dry_by t d' p next) ∙ was.ticks.long;
    members = λ x j. dry_there x (λ e. both_ways (is_pack (kind_at t x)) j.1 (ap (λ y. is_pack (kind_at t y)) e ∙ i.1)) ∙ was.ticks.members x j;
  };
  told = λ q j off. elim (cases_eq q p) [
    | inl same ↦ (let P : ℕ → Type 0 = λ x. get_or s'.dry x 0 ≡ dry_by t d' x (get_or s'.serves x None) in subst P (sym same) (dry_here ∙ ap (dry_by t d' p)
        (sym here)))
    | inr ne ↦ dry_there q ne ∙ was.told q j (unmarked q j ne off) ∙ same_dry q (get_or s.serves q None) ∙ ap (dry_by t d' q) (sym (there q ne))
  ];
  led = led;
  served = subst (λ (rs : List ℕ). AreServed t rs ends s'.stale s'.runs) (sym remains) served;
}
  where
    here : get_or s'.serves p None ≡ next
    here = ap (λ (os : List (Option ℕ)). get_or os p None) serves ∙ own
      where
        own : get_or (set s.serves p next) p None ≡ next
        own = rw get_or-set_same

    there : (q : ℕ) → q ≢ p → get_or s'.serves q None ≡ get_or s.serves q None
    there q ne = ap (λ (os : List (Option ℕ)). get_or os q None) serves ∙ other
      where
        other : get_or (set s.serves p next) q None ≡ get_or s.serves q None
        other = rw get_or-set_other refl

    dry_here : get_or s'.dry p 0 ≡ dry_by t d' p next
    dry_here = ap (λ (xs : List ℕ). get_or xs p 0) dry ∙ own
      where
        own : get_or (set s.dry p (dry_by t d' p next)) p 0 ≡ dry_by t d' p next
        own = get_or-set_same s.dry p (dry_by t d' p next) 0 (let l = i.0 in let long = was.ticks.long in omega (arith, l, long))

    dry_there : (q : ℕ) → q ≢ p → get_or s'.dry q 0 ≡ get_or s.dry q 0
    dry_there q ne = ap (λ (xs : List ℕ). get_or xs q 0) dry ∙ other
      where
        other : get_or (set s.dry p (dry_by t d' p next)) q 0 ≡ get_or s.dry q 0
        other = rw get_or-set_other refl

    same_dry : (q : ℕ) (o : Option ℕ) → dry_by t d q o ≡ dry_by t d' q o
    same_dry q None = refl
    same_dry q (Some k) = ap₂ (λ (n : ℕ) (rs : List ℕ). n + get_or rs (member t q k) 0) (sym tick) (sym remains)

-- what is left still fits
pub fitting_still : (t : Tree) (d d' : DueContents) → d'.tick ≡ d.tick → d'.remains ≡ d.remains → AreFitting t d → AreFitting t d'
fitting_still t d d' tick remains fits x i = (let f = fits x i in let e = ap (λ (rs : List ℕ). get_or rs x 0) remains in omega (arith, f, e, tick))

-- packs before a number up to which a level is fresh have no mark
pub fresh_below : (t : Tree) → IsTree t → (stale : List Bool) (l n : ℕ) → n ≤ length (packs_at t l) → AreFresh t stale l n → (k : ℕ) → k < n →
    get_or stale (get_or (packs_at t l) k 0) false ≡ false
fresh_below t h stale l n within fresh k m = fresh (get_or (packs_at t l) k 0) (pack_of_level t h l k (omega (arith, m, within))).0 (inr (k, m, refl))

-- groups of a level that had no marked pack have none once a pack of the level was served
pub unmarked_still : (t : Tree) (groups : List Group) (l : ℕ) (span : Span) → IsSpanOf t groups l span → (stale stale' : List Bool) (p g : ℕ) →
    level t p ≡ l → g < span.to → get_or stale' p false ≡ false →
    ((q : ℕ) → IsPack t q → q ≢ p → level t p ≤ level t q → get_or stale' q false ≡ get_or stale q false) → AreUnmarked groups stale span.from g →
    AreUnmarked groups stale' span.from g
unmarked_still t groups l span s stale stale' p g at inside own marks before i q low m of = elim (cases_eq q p) [
  | inl same ↦ ap (λ x. get_or stale' x false) same ∙ own
  | inr ne ↦
      (let its = pack_of_group t l (group_at groups i) (s.each i low (omega (arith, m, inside))) q of in
      marks q its.0 ne (let there = its.1 in omega (arith, at, there)) ∙ before i q low m of)
]

-- the level of the pack at a place of a level
pub pack_level : (t : Tree) → IsTree t → (l i p : ℕ) → i < length (packs_at t l) → p ≡ get_or (packs_at t l) i 0 → level t p ≡ l
pack_level t h l i p b at = ap (level t) at ∙ (pack_of_level t h l i b).1
