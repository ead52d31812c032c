use Rattle.std.proofs.Common.{◌≡◌, ◌≢◌, ◌<◌, ◌≤◌, ◌+◌, ◌∙◌, ℕ, inl, inr, ap, arith, get_or, length, refl, set, subst, sym}
use Rattle.std.specs.Prelude.{slice_index}
use Rattle.std.proofs.lemmas.Bool.{cases_eq}
use Rattle.std.proofs.lemmas.List.{get_or-set_other, get_or-set_same, get_or_read_under}
use Rattle.book_steps.specs.Books.{halves_value}
use Rattle.book_steps.proofs.book.StepBook.write_totals.Goals as goal

nothing : (k : ℕ) → k < 0 → ⊥
nothing k low = omega (arith, low)

within : (t end many room long : ℕ) → t < end → end ≡ many → many ≤ room → long ≡ room → t < long
within t end many room long low all few same = omega (arith, low, all, few, same)

below : (k t : ℕ) → k < t + 1 → k ≢ t → k < t
below k t low apart = omega (arith, low, apart)

beyond : (k t end many : ℕ) → t < end → end ≡ many → many ≤ k → k ≢ t
beyond k t end many low all past same = omega (arith, low, all, past, same)

up_to : (k many end t : ℕ) → k < many → end ≡ many → end ≤ t → k < t
up_to k many end t low all past = omega (arith, low, all, past)

pub loop-t-init : goal.loop-t-init
loop-t-init c = record { told = λ k none low. absurd (nothing k low); rest = λ k none past. refl }

pub index-requires : goal.index-requires
index-requires c = subst (λ n. c.loop-t.t < n) c.len-t-end.ensures c.loop-t-test.true

pub bounds-totals-t : goal.bounds-totals-t
bounds-totals-t c =
    let room = rw (← c.self.view_is) at c.requires.room in
    let all = c.len-t-end.ensures ∙ c.self.inside.totals.ok.0 in
    within c.loop-t.t c.len-t-end.result (length c.self.inside.totals.items) (length c.args.totals.now) (length c.loop-t.totals) c.loop-t-test.true all room
    c.loop-t.auto.totals

pub loop-t-preserved : goal.loop-t-preserved
loop-t-preserved c =
    let items = c.self.inside.totals.items in
    let t = c.loop-t.t in
    let room = rw (← c.self.view_is) at c.requires.room in
    let all = c.len-t-end.ensures ∙ c.self.inside.totals.ok.0 in
    let inside = within t c.len-t-end.result (length items) (length c.args.totals.now) (length c.loop-t.totals) c.loop-t-test.true all room
    c.loop-t.auto.totals in
    let read = get_or_read_under items t c.len-t-end.result c.index.result.now 0 c.index.ensures c.loop-t-test.true all in
    record {
      told = λ k none low. elim (cases_eq k t) [
        | inl same ↦ rw (← c.self.view_is) (ap (λ i. slice_index items i) same ∙ sym read ∙ c.halves_of.ensures
            ∙ ap halves_value (sym (get_or-set_same c.loop-t.totals t c.halves_of.result none inside)
            ∙ ap (λ i. get_or (set c.loop-t.totals t c.halves_of.result) i none) (sym same)))
        | inr apart ↦ c.loop-t.invariant.told k none (below k t low apart)
            ∙ ap halves_value (sym (get_or-set_other c.loop-t.totals t k c.halves_of.result none apart))
      ];
      rest = λ k none past.
          let far = beyond k t c.len-t-end.result (length items) c.loop-t-test.true all (rw (← c.self.view_is) at past) in
          get_or-set_other c.loop-t.totals t k c.halves_of.result none far ∙ c.loop-t.invariant.rest k none past;
    }

pub returns-clause-totals : goal.returns-clause-totals
returns-clause-totals c =
    let all = c.len-t-end.ensures ∙ c.self.inside.totals.ok.0 in
    λ t none low. c.loop-t.invariant.told t none
    (up_to t (length c.self.inside.totals.items) c.len-t-end.result c.loop-t.t (rw (← c.self.view_is) at low) all c.loop-t-test.false)
