-- The instruction of a line, by the name that it begins with.
use Rattle.std.proofs.Common.{ℕ, ◌+◌, ◌^◌, ◌≡◌, true, false, min, List, Option, None, Some, option_map, option_and_then, codes, sym, ap, ◌∙◌}
use Rattle.std.specs.Str.{bytes_eq}
use Rattle.std.proofs.lemmas.Bool.{cond-true, cond-false}
use Rattle.text_words.specs.Words.{cut_space}
use Rattle.job_vm.specs.Instructions.{word_of, operand, on_register, instruction_named, instruction_of}

-- the name isn't this word
abbrev pub Other : List ℕ → List ℕ → Type 0
Other name word = bytes_eq name word ≡ false

-- the name is this word
abbrev pub Same : List ℕ → List ℕ → Type 0
Same name word = bytes_eq name word ≡ true

pub named_set : (count : ℕ) (name operands : List ℕ) → Same name (codes "set") → on_register 0 (2 ^ 32) operands ≡ instruction_named count name operands
unfolding instruction_named
named_set count name operands e = sym (cond-true _ _ _ e)

pub named_add : (count : ℕ) (name operands : List ℕ) → Other name (codes "set") → Same name (codes "add") → on_register 1 8 operands ≡ instruction_named
    count name operands
unfolding instruction_named
named_add count name operands n0 e = sym (cond-false _ _ _ n0 ∙ cond-true _ _ _ e)

pub named_sub : (count : ℕ) (name operands : List ℕ) → Other name (codes "set") → Other name (codes "add") → Same name (codes "sub")
    → on_register 2 8 operands ≡ instruction_named count name operands
unfolding instruction_named
named_sub count name operands n0 n1 e = sym (cond-false _ _ _ n0 ∙ (cond-false _ _ _ n1 ∙ cond-true _ _ _ e))

pub named_mul : (count : ℕ) (name operands : List ℕ) → Other name (codes "set") → Other name (codes "add") → Other name (codes "sub") → Same name (codes "mul")
    → on_register 3 8 operands ≡ instruction_named count name operands
unfolding instruction_named
named_mul count name operands n0 n1 n2 e = sym (cond-false _ _ _ n0 ∙ (cond-false _ _ _ n1 ∙ (cond-false _ _ _ n2 ∙ cond-true _ _ _ e)))

-- none of the names of those on two registers, nor `set`
pub record NoneOfFour (name : List ℕ) : Type 0 where
  pub no_set : Other name (codes "set")
  pub no_add : Other name (codes "add")
  pub no_sub : Other name (codes "sub")
  pub no_mul : Other name (codes "mul")

pub named_jz : (count targets : ℕ) (name operands : List ℕ) → NoneOfFour name → Same name (codes "jz") → targets ≡ min (2 ^ 32) (count + 1)
    → on_register 4 targets operands ≡ instruction_named count name operands
unfolding instruction_named
named_jz count targets name operands n e t =
    ap (λ k. on_register 4 k operands) t
    ∙ sym (cond-false _ _ _ n.no_set ∙ (cond-false _ _ _ n.no_add ∙ (cond-false _ _ _ n.no_sub ∙ (cond-false _ _ _ n.no_mul ∙ cond-true _ _ _ e))))

pub named_jump : (count targets : ℕ) (name operands : List ℕ) → NoneOfFour name → Other name (codes "jz") → Same name (codes "jump") →
    targets ≡ min (2 ^ 32) (count + 1)
    → option_map (word_of 5 0) (operand targets operands) ≡ instruction_named count name operands
unfolding instruction_named
named_jump count targets name operands n n4 e t =
    ap (λ k. option_map (word_of 5 0) (operand k operands)) t
    ∙ sym (cond-false _ _ _ n.no_set ∙ (cond-false _ _ _ n.no_add ∙ (cond-false _ _ _ n.no_sub ∙ (cond-false _ _ _ n.no_mul ∙ (cond-false _ _ _ n4
    ∙ cond-true _ _ _ e)))))

pub named_none : (count : ℕ) (name operands : List ℕ) → NoneOfFour name → Other name (codes "jz") → Other name (codes "jump") → None ≡ instruction_named
    count name operands
unfolding instruction_named
named_none count name operands n n4 n5 =
    sym (cond-false _ _ _ n.no_set ∙ (cond-false _ _ _ n.no_add ∙ (cond-false _ _ _ n.no_sub ∙ (cond-false _ _ _ n.no_mul ∙ (cond-false _ _ _ n4
    ∙ cond-false _ _ _ n5)))))

pub halt_is : (count : ℕ) (line : List ℕ) → Same line (codes "halt") → Some (word_of 6 0 0) ≡ instruction_of count line
unfolding instruction_of
halt_is count line e = sym (cond-true _ _ _ e)

-- the instruction of the words that a space parts
abbrev pub of_words : ℕ → Option (List ℕ × List ℕ) → Option ℕ
of_words count None = None
of_words count (Some (name, operands)) = instruction_named count name operands

pub words_are : (count : ℕ) (line : List ℕ) (words : Option (List ℕ × List ℕ)) → Other line (codes "halt") → words ≡ cut_space line →
    of_words count words ≡ instruction_of count line
unfolding instruction_of
words_are count line None n e = sym (cond-false _ _ _ n ∙ ap (λ w. option_and_then (λ (p : List ℕ × List ℕ). instruction_named count p.0 p.1) w) (sym e))
words_are count line (Some p) n e = sym (cond-false _ _ _ n ∙ ap (λ w. option_and_then (λ (p : List ℕ × List ℕ). instruction_named count p.0 p.1) w) (sym e))
