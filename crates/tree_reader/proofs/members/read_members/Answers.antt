use Rattle.std.proofs.Common.{◌≡◌, ◌∷◌, ◌++◌, [], Some, None, sym, ap, ◌∙◌}
use Rattle.text_words.specs.Words.{cut_space}
use Rattle.tree_reader.specs.Members.{words_of, members_from}
use Rattle.tree_reader.proofs.WordLemmas.{after, members_more, members_stop, members_last, members_last_stop, cut_shorter}
use Rattle.tree_reader.proofs.members.read_members.Goals as goal

pub returns-in-None : goal.returns-in-None
returns-in-None c =
    let e : cut_space c.loop-word.rest.now ≡ Some (c.in-Some.word.now, c.in-Some.later.now) = cc in
    sym (c.loop-word.invariant ∙ members_stop c.args.level c.loop-word.rest.now c.in-Some.word.now c.in-Some.later.now c.loop-word.members.items e
    (sym c.member_of.ensures ∙ c.in-None.is))

pub loop-word-smaller : goal.loop-word-smaller
loop-word-smaller c =
    let e : cut_space c.loop-word.rest.now ≡ Some (c.in-Some.word.now, c.in-Some.later.now) = cc in
    cut_shorter c.loop-word.rest.now c.in-Some.word.now c.in-Some.later.now e

pub loop-word-preserved : goal.loop-word-preserved
loop-word-preserved c =
    let e : cut_space c.loop-word.rest.now ≡ Some (c.in-Some.word.now, c.in-Some.later.now) = cc in
    let member = c.in-Some-member_of.member in
    let pushed : c.push.new.self.items ≡ c.loop-word.members.items ++ member ∷ [] = c.in_ok-push-in-Some-member_of.ensures.items in
    c.loop-word.invariant
    ∙ members_more c.args.level c.loop-word.rest.now c.in-Some.word.now c.in-Some.later.now member c.loop-word.members.items e (sym c.member_of.ensures
    ∙ c.in-Some-member_of.is)
    ∙ ap (λ ms. after ms (members_from c.args.level (words_of c.in-Some.later.now))) (sym pushed)

pub returns-in-None-member_of : goal.returns-in-None-member_of
returns-in-None-member_of c =
    let e : cut_space c.loop-word.rest.now ≡ None = cc in
    sym (c.loop-word.invariant ∙ members_last_stop c.args.level c.loop-word.rest.now c.loop-word.members.items e (sym c.member_of-2.ensures
    ∙ c.in-None-member_of.is))

pub returns : goal.returns
returns c =
    let e : cut_space c.loop-word.rest.now ≡ None = cc in
    let member = c.in-Some-member_of-2.member in
    let pushed : c.push-in-Some-member_of-2.new.self.items ≡ c.loop-word.members.items ++ member ∷ [] = c.in_ok-push-in-Some-member_of-2.ensures.items in
    ap Some pushed ∙ sym (c.loop-word.invariant ∙ members_last c.args.level c.loop-word.rest.now member c.loop-word.members.items e
    (sym c.member_of-2.ensures ∙ c.in-Some-member_of-2.is))
