-- Windows that end at a unit are followed by the next ones.
use Rattle.std.proofs.Common.{◌≡◌, ℕ, ◌+◌, ◌<◌, ◌≤◌, ◌^◌, ◌&&◌, ◌==◌, not, Bool, true, false, List, length, get_or, refl, ap, arith, inl, inr, sym}
use Rattle.std.proofs.Common.{subst, subst₂, ◌∙◌, Vec, eq-eqb}
use Rattle.std.specs.Prelude.{Option, IfSome}
use Rattle.std.specs.Vec.{with_items}
use Rattle.std.proofs.lemmas.Grind.{get_or_default_zero}
use Rattle.std.proofs.lemmas.List.{with_items_is}
use Rattle.std.proofs.lemmas.Bool.{cases_Bool, cases_eq, both_ways, ne_eqb}
use Rattle.run_tree.specs.Windows.{window_begin, window_end}
use Rattle.run_tree.specs.Tree.{IsMember, kind_at, is_pack}
use Rattle.run_tree.specs.Plans.{PlanContents, IsPlan, boundary_of}
use Rattle.run_tree.proofs.WindowLemmas.{begin_is, end_is, windows_of, same_IsBegin}
use Rattle.release_calendar.specs.Calendars.{CalendarContents, HasWindow, IsNext, PacksNeverEnd, BelongsTo, AreReady, AreSteps, AreTurned, EndsFit}
use Rattle.release_calendar.proofs.NextLemmas.{have, next-le-end}

-- a turn of a node leaves what stands at packs
pub packs_kept : (p : PlanContents) (ends ends' : List ℕ) (x : ℕ) → (is_pack (kind_at p.tree x) ≡ true → get_or ends' x 0 ≡ get_or ends x 0) →
    ((y : ℕ) → (y ≡ x → ⊥) → get_or ends' y 0 ≡ get_or ends y 0) → PacksNeverEnd p.tree ends → PacksNeverEnd p.tree ends'
packs_kept p ends ends' x own others packs y i = elim (cases_eq y x) [
  | inl same ↦ (let P : ℕ → Type 0 = λ z. is_pack (kind_at p.tree z) ≡ true → get_or ends' z 0 ≡ get_or ends z 0 in subst P (sym same) own i.1 ∙ packs y i)
  | inr ne ↦ others y ne ∙ packs y i
]

-- what is read of a vector is what its value shows
pub read_shown : (items shown : List ℕ) (i value : ℕ) → items ≡ shown → i < length items → value ≡ get_or items i value → value ≡ get_or shown i 0
read_shown items shown i value same within is = is ∙ get_or_default_zero items i value within ∙ ap (λ (xs : List ℕ). get_or xs i 0) same

-- a node that is a leaf or a dual is no pack
pub no_pack : (pack : Bool) → true ≡ not pack → pack ≡ true → ⊥
no_pack true e is = cc
no_pack false e is = cc

-- and one that is neither is
pub no_member : (pack : Bool) → false ≡ not pack → pack ≡ false → ⊥
no_member true e is = cc
no_member false e is = cc

-- unit 0 is the first
pub first_unit : (u : ℕ) → 0 ≤ u
first_unit u = omega arith

module _ (p : PlanContents) (h : IsPlan p) where
  -- a window begins at its first boundary
  pub begins_here : (x u : ℕ) → IsMember p.tree x → boundary_of p x u ≡ true → window_begin (boundary_of p x) u ≡ u
  begins_here x u i e =
      same_IsBegin (boundary_of p x) u (window_begin (boundary_of p x) u) u (begin_is (boundary_of p x) (have p h x i).first u)
      (record { below = omega arith; here = e; last = λ v a b. absurd (omega arith) })

  -- one node more has turned
  pub turn_step : (begins ends begins' ends' begins'' ends'' : List ℕ) (u x : ℕ) → AreReady p begins ends u → AreTurned p begins ends begins' ends' u x →
      (is_pack (kind_at p.tree x) ≡ false → get_or ends' x 0 ≡ u → (get_or begins'' x 0 ≡ u) × (get_or ends'' x 0 ≡ window_end (boundary_of p x) u)) →
      (is_pack (kind_at p.tree x) ≡ false → (get_or ends' x 0 ≡ u → ⊥) → (get_or begins'' x 0 ≡ get_or begins' x 0) × (get_or ends'' x 0 ≡ get_or ends' x 0)) →
      ((y : ℕ) → (y ≡ x → ⊥) → (get_or begins'' y 0 ≡ get_or begins' y 0) × (get_or ends'' y 0 ≡ get_or ends' y 0)) →
      AreTurned p begins ends begins'' ends'' u (x + 1)
  turn_step begins ends begins' ends' begins'' ends'' u x ready was turned kept others = record {
    done = λ y b i. elim (cases_eq y x) [
      | inl same ↦ (let P : ℕ → Type 0 = λ z. IsMember p.tree z → HasWindow p begins'' ends'' u z in subst P (sym same) here i)
      | inr ne ↦ (let o = others y ne in let old = was.done y (omega (arith, b, ne)) i in record { begin = o.0 ∙ old.begin; end = o.1 ∙ old.end })
    ];
    same_begin = λ y no_less. (let ne : y ≡ x → ⊥ = (λ e. no_less (omega arith)) in (others y ne).0 ∙ was.same_begin y (λ l. no_less (omega arith)));
    same_end = λ y no_less. (let ne : y ≡ x → ⊥ = (λ e. no_less (omega arith)) in (others y ne).1 ∙ was.same_end y (λ l. no_less (omega arith)));
  }
    where
      b_was : get_or begins' x 0 ≡ get_or begins x 0
      b_was = was.same_begin x (λ l. omega arith)

      e_was : get_or ends' x 0 ≡ get_or ends x 0
      e_was = was.same_end x (λ l. omega arith)

      here : IsMember p.tree x → HasWindow p begins'' ends'' u x
      here i = elim (cases_eq (get_or ends' x 0) u) [
        | inl at ↦
            (let t = turned i.1 at in
            let due = (ready x i).due (sym e_was ∙ at) in
            record { begin = t.0 ∙ sym (begins_here x u i due); end = t.1 })
        | inr ne ↦
            (let k = kept i.1 ne in
            let old = (ready x i).other (λ e. ne (e_was ∙ e)) in
            record { begin = k.0 ∙ b_was ∙ old.begin; end = k.1 ∙ e_was ∙ old.end })
      ]

  -- at first none has
  pub turn_none : (begins ends : List ℕ) (u n : ℕ) → n ≡ 0 → AreTurned p begins ends begins ends u n
  turn_none begins ends u n e = record { done = λ x l i. absurd (omega arith); same_begin = λ x l. refl; same_end = λ x l. refl }

  -- at last all have
  pub turn_all : (begins ends begins' ends' : List ℕ) (u : ℕ) → AreTurned p begins ends begins' ends' u (length p.tree.nodes) → (x : ℕ) →
      IsMember p.tree x → HasWindow p begins' ends' u x
  turn_all begins ends begins' ends' u w x i = w.done x i.0 i

  -- every window begins at unit 0
  pub ready_first : (begins ends : List ℕ) → ((x : ℕ) → IsMember p.tree x → get_or ends x 0 ≡ 0) → AreReady p begins ends 0
  ready_first begins ends all x i = record { due = λ e. (have p h x i).first; other = λ ne. absurd (ne (all x i)) }

  -- a calendar's windows are ready for its next unit
  pub ready_next : (c : CalendarContents) → BelongsTo p c → AreReady p c.begins c.ends c.next
  ready_next c b x i =
      let w = b.windows x i in
      let e = end_is (boundary_of p x) (have p h x i) c.unit in
      let least = next-le-end p h c.unit c.next b.next x i in
      let above = b.next.above in
      let tile = windows_of (boundary_of p x) (have p h x i) in
      let begun = tile.begun c.unit in
      record {
        due = λ at. ap (boundary_of p x) (sym at ∙ w.end) ∙ e.here;
        other = λ ne. (
            let less : c.next < window_end (boundary_of p x) c.unit = (elim (cases_eq (window_end (boundary_of p x) c.unit) c.next) [
              | inl same ↦ absurd (ne (w.end ∙ same))
              | inr other ↦ omega (arith, least, other)
            ]) in
            record {
              begin = w.begin ∙ sym (tile.same_begin c.unit c.next (omega (arith, begun, above)) less);
              end = w.end ∙ sym (tile.same_end c.unit c.next (omega (arith, begun, above)) less);
            });
      }

  -- a window begins at a unit exactly where its node has a boundary there
  pub mark_is : (begins ends : List ℕ) (u x : ℕ) (due : Bool) → x < length p.tree.nodes → ((y : ℕ) → IsMember p.tree y → HasWindow p begins ends u y) →
      due ≡ (not (is_pack (kind_at p.tree x)) && get_or begins x 0 == u) → due ≡ (not (is_pack (kind_at p.tree x)) && boundary_of p x u)
  mark_is begins ends u x due l w e = e ∙ (elim (cases_Bool (is_pack (kind_at p.tree x))) [
    | inl pack ↦ ap (λ (b : Bool). not b && get_or begins x 0 == u) pack ∙ sym (ap (λ (b : Bool). not b && boundary_of p x u) pack)
    | inr member ↦
        (let i : IsMember p.tree x = (l, member) in
        let begin = (w x i).begin in
        ap (λ (b : Bool). not b && get_or begins x 0 == u) member
        ∙ (elim (cases_Bool (boundary_of p x u)) [
          | inl on ↦ ap (λ v. v == u) (begin ∙ begins_here x u i on) ∙ same_number u ∙ sym on
          | inr off ↦ ne_eqb (get_or begins x 0) u (λ s. both_ways (boundary_of p x u) off (ap (boundary_of p x) (sym s ∙ begin)
              ∙ (begin_is (boundary_of p x) (have p h x i).first u).here)) ∙ sym off
        ])
        ∙ sym (ap (λ (b : Bool). not b && boundary_of p x u) member))
  ])
    where
      same_number : (v : ℕ) → (v == v) ≡ true
      same_number v = eq-eqb v v refl

  -- what is written belongs to the plan
  pub belongs_written : {Z : Type 0} (vb ve : Vec ℕ Z) (begins ends begun steps : List ℕ) (u d : ℕ) → u ≤ p.set.horizon → length begins ≡ length
      p.tree.nodes → length ends ≡ length p.tree.nodes →
      length vb.items ≡ length begins → length ve.items ≡ length ends →
      ((x : ℕ) → IsMember p.tree x → HasWindow p begins ends u x) → PacksNeverEnd p.tree ends → IsNext p.set.tasks u d → AreSteps p steps →
      BelongsTo p (record { unit = u; next = d; begins = (with_items vb begins).items; ends = (with_items ve ends).items; begun = begun; steps = steps })
  belongs_written vb ve begins ends begun steps u d early b e sb se w packs n all =
      let P : List ℕ → List ℕ → Type 0 = λ xs ys. BelongsTo p (record { unit = u; next = d; begins = xs; ends = ys; begun = begun; steps = steps }) in
      let kb = vb.ok.0 in
      let ke = ve.ok.0 in
      let whole : BelongsTo p (record { unit = u; next = d; begins = begins; ends = ends; begun = begun; steps = steps }) =
      record { unit_fits = early; begins_long = b; ends_long = e; windows = w; packs = packs; next = n; steps = all } in
      subst₂ P (sym (with_items_is vb begins (omega (arith, kb, sb)))) (sym (with_items_is ve ends (omega (arith, ke, se)))) whole

-- what is written is what a calendar keeps
pub kept_written : {Z : Type 0} (vb ve : Vec ℕ Z) (begins ends : List ℕ) (order : Option (List ℕ)) (n count turned d : ℕ) → length vb.items ≡ length begins
    → length ve.items ≡ length ends → length begins ≡ n → length ends ≡ n → count ≡ n → turned ≤ count →
    EndsFit ends → IfSome order (λ o. o ≡ ends) → d ≤ 2 ^ 33 →
    (length (with_items ve ends).items ≡ length (with_items vb begins).items) × EndsFit (with_items ve ends).items
    × IfSome order (λ o. o ≡ (with_items ve ends).items) × (count ≡ length (with_items vb begins).items) × (turned ≤ count) × (d ≤ 2 ^ 33)
kept_written vb ve begins ends order n count turned d sb se b e c some fit ordered below =
    let kb = vb.ok.0 in
    let ke = ve.ok.0 in
    let whole_b = with_items_is vb begins (omega (arith, kb, sb)) in
    let whole_e = with_items_is ve ends (omega (arith, ke, se)) in
    let long_b : length (with_items vb begins).items ≡ n = ap (λ (xs : List ℕ). length xs) whole_b ∙ b in
    let long_e : length (with_items ve ends).items ≡ n = ap (λ (xs : List ℕ). length xs) whole_e ∙ e in (
      long_e ∙ sym long_b,
      subst (λ xs. EndsFit xs) (sym whole_e) fit,
      subst (λ (xs : List ℕ). IfSome order (λ o. o ≡ xs)) (sym whole_e) ordered,
      c ∙ sym long_b,
      some,
      below,
    )
