use Rattle.std.proofs.Common.{rules, ◌≡◌, ◌++◌, ◌∷◌, [], arith, length, sym, ap, ◌∙◌, append-nil, append_assoc}
use Rattle.std.proofs.lemmas.List.{map-append, nil_from_length}
use Rattle.std.proofs.lemmas.Result.{IfOk-from_err, err_from_is_err_and}
use Rattle.mode_join.specs.declared.mode.Mode.{Mode}
use Rattle.mode_join.specs.Modes.{ModesContents, sets_of}
use Rattle.mode_join.proofs.ModeLemmas.{all_end, can_be_joined, refused_next}
use Rattle.mode_join.proofs.modes.Modes.join.Goals as goal

pub returns-in_err-add-clause-refused : goal.returns-in_err-add-clause-refused
returns-in_err-add-clause-refused c =
    let why = err_from_is_err_and c.from_residual.result c.from_residual.ensures.1 in
    rw (why.1, why.2)
    (refused_next c.loop-set.modes c.loop-set.invariant.are c.args.sets.items c.in-Some.set c.next.new.self.rest.items
    (c.loop-set.invariant.whole ∙ ap (λ xs. sets_of c.loop-set.modes.modes ++ xs) c.in-Some.ensures.steps.0) c.loop-set.invariant.wide _
    c.in_err-add.ensures.refused)

pub returns-clause-no_crossing : goal.returns-clause-no_crossing
returns-clause-no_crossing c = all_end c.loop-set.modes.processors c.loop-set.modes.modes c.loop-set.invariant.are.each

pub returns-clause-joined : goal.returns-clause-joined
returns-clause-joined c =
    let no_items : length c.loop-set.set-iterator.rest.items ≡ 0 = search rules in
    let none = nil_from_length c.loop-set.set-iterator.rest.items no_items in
    let whole : sets_of c.loop-set.modes.modes ≡ c.args.sets.items =
    sym (c.loop-set.invariant.whole ∙ ap (λ xs. sets_of c.loop-set.modes.modes ++ xs) none ∙ append-nil (sets_of c.loop-set.modes.modes)) in
    can_be_joined c.loop-set.modes c.loop-set.invariant.are c.args.sets.items whole c.loop-set.invariant.wide

pub returns-in_err-add-clause-processors : goal.returns-in_err-add-clause-processors
returns-in_err-add-clause-processors c = IfOk-from_err _ _ c.from_residual.ensures.0

pub returns-in_err-add-clause-sets : goal.returns-in_err-add-clause-sets
returns-in_err-add-clause-sets c = IfOk-from_err _ _ c.from_residual.ensures.0

pub returns-in_err-add-clause-lawful : goal.returns-in_err-add-clause-lawful
returns-in_err-add-clause-lawful c = IfOk-from_err _ _ c.from_residual.ensures.0

pub returns-in_err-add-clause-no_crossing : goal.returns-in_err-add-clause-no_crossing
returns-in_err-add-clause-no_crossing c = IfOk-from_err _ _ c.from_residual.ensures.0

pub returns-in_err-add-clause-joined : goal.returns-in_err-add-clause-joined
returns-in_err-add-clause-joined c = IfOk-from_err _ _ c.from_residual.ensures.0

pub returns-clause-processors : goal.returns-clause-processors
returns-clause-processors c = c.loop-set.invariant.wide

pub returns-clause-lawful : goal.returns-clause-lawful
returns-clause-lawful c = c.loop-set.invariant.are

pub index-requires : goal.index-requires
index-requires c = let len = c.args.sets.ok.0 in omega (arith, c.requires, len)

pub none-modes-requires-clause-some : goal.none-modes-requires-clause-some
none-modes-requires-clause-some c =
    let is = c.processors.ensures.value in
    let some = c.processors.ensures.lawful.some_processors in
    omega (arith, is, some)

pub none-modes-requires-clause-few : goal.none-modes-requires-clause-few
none-modes-requires-clause-few c =
    let is = c.processors.ensures.value in
    let few = c.processors.ensures.lawful.few_processors in
    omega (arith, is, few)

pub loop-set-preserved : goal.loop-set-preserved
loop-set-preserved c =
    let (mode, set, modes) = c.in_ok-add.ensures.ok in
    let before = c.loop-set.modes in
    let later = c.next.new.self.rest.items in
    let told : sets_of c.add.new.self.modes ≡ sets_of before.modes ++ c.in-Some.set ∷ [] =
    ap (λ (m : ModesContents). sets_of m.modes) modes ∙ map-append (λ (m : Mode). m.plan.set) before.modes (mode ∷ [])
    ∙ ap (λ s. sets_of before.modes ++ s ∷ []) set in
    record {
      whole = c.loop-set.invariant.whole ∙ ap (λ xs. sets_of before.modes ++ xs) c.in-Some.ensures.steps.0 ∙ sym (ap (λ xs. xs ++ later) told
          ∙ append_assoc (sets_of before.modes) (c.in-Some.set ∷ []) later);
      wide = ap (λ (m : ModesContents). m.processors) modes ∙ c.loop-set.invariant.wide;
      are = c.in_ok-add.ensures.lawful;
    }

pub returns-clause-sets : goal.returns-clause-sets
returns-clause-sets c =
    let no_items : length c.loop-set.set-iterator.rest.items ≡ 0 = search rules in
    let none = nil_from_length c.loop-set.set-iterator.rest.items no_items in
    sym (c.loop-set.invariant.whole ∙ ap (λ xs. sets_of c.loop-set.modes.modes ++ xs) none ∙ append-nil (sets_of c.loop-set.modes.modes))
