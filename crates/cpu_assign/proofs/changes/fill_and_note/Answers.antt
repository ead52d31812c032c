use Rattle.std.proofs.Common.{ap, arith, get_or, inl, inr, not, refl, sym, None, List, Option, ℕ, ◌≡◌, ◌∙◌}
use Rattle.std.proofs.lemmas.Bool.{both_ways, cases_Bool, cases_eq, not-true}
use Rattle.sched_base.specs.Places.{is_held}
use Rattle.sched_base.proofs.PlaceLemmas.{filled_nobody}
use Rattle.cpu_assign.proofs.BackLemmas.{there_is}
use Rattle.cpu_assign.proofs.ChangeLemmas.{fill_begun_step, fill_begun_all}
use Rattle.cpu_assign.proofs.NoteLemmas.{noted_since}
use Rattle.cpu_assign.proofs.PutLemmas.{put_others}
use Rattle.cpu_assign.proofs.changes.fill_and_note.Goals as goal

pub loop-k-init : goal.loop-k-init
loop-k-init c = (sym (filled_nobody c.args.onto.now), c.requires.held, c.requires.room, c.requires.noted, λ j h. refl, λ j off. refl)

pub loop-k-preserved : goal.loop-k-preserved
loop-k-preserved c =
    let l = c.loop-k-test.true in
    let back = c.args.onto.now in
    let begun = c.args.begun.now in
    let i = get_or begun c.loop-k.k 0 in
    let fresh : is_held c.loop-k.onto i ≡ is_held back i = c.loop-k.invariant.4 i (λ m b same. c.requires.once m c.loop-k.k b (omega (arith, l)) same) in
    let puts = c.put_and_note-from.ensures.put in
    let skips = c.put_and_note-from.ensures.skip in (
      fill_begun_step back c.args.last.now c.loop-k.onto c.put_and_note-from.new.onto begun c.loop-k.k i (not (is_held c.loop-k.onto i)) c.requires.noted
          (omega (arith, l)) refl
          (ap not (fresh ∙ sym (there_is back c.args.last.now i c.requires.noted)))
          (λ on. puts (not-true (is_held c.loop-k.onto i) on))
          (λ off. skips (elim (cases_Bool (is_held c.loop-k.onto i))
          [ inl held ↦ held | inr free ↦ absurd (both_ways (not (is_held c.loop-k.onto i)) off (ap not free)) ]))
          c.loop-k.invariant.0,
      c.put_and_note-from.ensures.held,
      c.put_and_note-from.ensures.within,
      c.put_and_note-from.ensures.noted,
      λ j h. (elim (cases_Bool (is_held c.loop-k.onto i)) [
        | inl held ↦ ap (λ (os : List (Option ℕ)). is_held os j) (skips held)
        | inr free ↦ ap (λ (os : List (Option ℕ)). is_held os j) (puts free) ∙ put_others i j c.loop-k.onto (λ same. h c.loop-k.k (omega arith) (sym same))
      ]) ∙ c.loop-k.invariant.4 j (λ m b. h m (omega (arith, b))),
      λ j off. elim (cases_Bool (is_held c.loop-k.onto j)) [
        | inr free ↦ (elim (cases_eq j i) [
          | inl same ↦ ap (λ (ls : List (Option ℕ)). get_or ls j None) (c.put_and_note-from.ensures.own (ap (is_held c.put_and_note-from.new.onto)
              (sym same) ∙ off))
          | inr ne ↦ c.put_and_note-from.ensures.others j ne
        ]) ∙ c.loop-k.invariant.5 j free
        | inl held ↦ absurd (both_ways (is_held c.put_and_note-from.new.onto j) off (elim (cases_Bool (is_held c.loop-k.onto i)) [
          | inl held' ↦ ap (λ (os : List (Option ℕ)). is_held os j) (skips held') ∙ held
          | inr free ↦ ap (λ (os : List (Option ℕ)). is_held os j) (puts free) ∙ put_others i j c.loop-k.onto (λ same. both_ways (is_held c.loop-k.onto i)
              free (ap (is_held c.loop-k.onto) (sym same) ∙ held)) ∙ held
        ]))
      ],
    )

pub returns-clause-onto : goal.returns-clause-onto
returns-clause-onto c = fill_begun_all c.args.onto.now c.loop-k.onto c.args.begun.now c.loop-k.k (omega arith) c.loop-k.invariant.0

pub returns-clause-last : goal.returns-clause-last
returns-clause-last c = noted_since c.loop-k.onto c.args.last.now c.loop-k.last c.loop-k.invariant.3 c.loop-k.auto.last c.loop-k.invariant.5
