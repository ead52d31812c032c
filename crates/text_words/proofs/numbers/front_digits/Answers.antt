use Rattle.std.proofs.Common.{arith, length-take}
use Rattle.text_words.proofs.DigitLemmas.{front}
use Rattle.text_words.proofs.numbers.front_digits.Goals as goal

pub returns-clause-few : goal.returns-clause-few
returns-clause-few c =
    let within = c.read_digits.ensures.within in
    let long = length-take c.min.result c.args.text.now in
    omega (arith, within, long)

pub returns-clause-within : goal.returns-clause-within
returns-clause-within c =
    (front c.args.text.now c.min.result c.read_digits.result.0 c.read_digits.result.1 (omega arith) (omega arith) c.read_digits.ensures.end
    c.read_digits.ensures.within c.read_digits.ensures.value).within

pub returns-clause-digits : goal.returns-clause-digits
returns-clause-digits c =
    (front c.args.text.now c.min.result c.read_digits.result.0 c.read_digits.result.1 (omega arith) (omega arith) c.read_digits.ensures.end
    c.read_digits.ensures.within c.read_digits.ensures.value).digits

pub returns-clause-value : goal.returns-clause-value
returns-clause-value c =
    (front c.args.text.now c.min.result c.read_digits.result.0 c.read_digits.result.1 (omega arith) (omega arith) c.read_digits.ensures.end
    c.read_digits.ensures.within c.read_digits.ensures.value).value

pub returns-clause-bound : goal.returns-clause-bound
returns-clause-bound c =
    (front c.args.text.now c.min.result c.read_digits.result.0 c.read_digits.result.1 (omega arith) (omega arith) c.read_digits.ensures.end
    c.read_digits.ensures.within c.read_digits.ensures.value).bound
