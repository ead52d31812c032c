use Rattle.std.proofs.Common.{string_bytes, sym, arith}
use Rattle.command_words.proofs.DrawLemmas.{front_empty, front_own}
use Rattle.command_words.proofs.words.front.Goals as goal

pub slice_bounds-rest-count : goal.slice_bounds-rest-count
slice_bounds-rest-count c = omega arith

pub bounds-words-0 : goal.bounds-words-0
bounds-words-0 c = omega arith

pub bounds-words-1 : goal.bounds-words-1
bounds-words-1 c = omega arith

pub slice_bounds-rest-start : goal.slice_bounds-rest-start
slice_bounds-rest-start c = omega arith

pub slice_bounds-rest-end : goal.slice_bounds-rest-end
slice_bounds-rest-end c = omega arith

pub slice_bounds-rest-end-2 : goal.slice_bounds-rest-end-2
slice_bounds-rest-end-2 c = omega arith

pub returns-in-empty-clause-value : goal.returns-in-empty-clause-value
returns-in-empty-clause-value c = (front_empty string_bytes c.args.name.now c.args.words.now c.in-empty.len_below).value_is

pub returns-in-empty-clause-rest : goal.returns-in-empty-clause-rest
returns-in-empty-clause-rest c = (front_empty string_bytes c.args.name.now c.args.words.now c.in-empty.len_below).rest_is

pub returns-in-len2-up-clause-value : goal.returns-in-len2-up-clause-value
returns-in-len2-up-clause-value c =
    (front_own string_bytes c.args.name.now _ _ c.args.words.now _ _ c.in-len2-up.len_at_least c.word-item.is c.value-item.is c.as_str.ensures.value
    c.as_bytes.ensures.value (sym c.if-eq.ensures)).value_is

pub returns-in-len2-up-clause-rest : goal.returns-in-len2-up-clause-rest
returns-in-len2-up-clause-rest c =
    (front_own string_bytes c.args.name.now _ _ c.args.words.now _ _ c.in-len2-up.len_at_least c.word-item.is c.value-item.is c.as_str.ensures.value
    c.as_bytes.ensures.value (sym c.if-eq.ensures)).rest_is
