use Rattle.std.proofs.Common.{◌≡◌, true, take, ap, subst, ◌∙◌, arith}
use Rattle.std.specs.Char.{is_ascii_digit}
use Rattle.std.specs.List.{list_all}
use Rattle.std.specs.Str.Parse.{digits_value}
use Rattle.text_words.proofs.numbers.cut_number.Goals as goal

pub more_digits-count-requires-clause-digits : goal.more_digits-count-requires-clause-digits
more_digits-count-requires-clause-digits c =
    let all : c.front_digits-count.result.0 ≡ 19 = omega arith in
    subst (λ n. list_all is_ascii_digit (take n c.args.text.now) ≡ true) all c.front_digits-count.ensures.digits

pub more_digits-count-requires-clause-value : goal.more_digits-count-requires-clause-value
more_digits-count-requires-clause-value c =
    let all : c.front_digits-count.result.0 ≡ 19 = omega arith in
    c.front_digits-count.ensures.value ∙ ap (λ n. digits_value 10 (take n c.args.text.now)) all
