-- The instructions of a program, as lines of a text.
use Rattle.std.specs.Prelude.{ℕ, ◌+◌, ◌*◌, ◌^◌, nat_lt, min, if◌then◌else◌, List, Option, Some, None, option_map, option_and_then, codes}
use Rattle.std.specs.Str.{bytes_eq}
use Rattle.text_words.specs.Words.{cut_space, number_of}

-- the word of an instruction
abbrev pub word_of : ℕ → ℕ → ℕ → ℕ
word_of operation a b = operation * 2 ^ 40 + a * 2 ^ 32 + b

-- an operand: a number below the limit
abbrev pub operand : ℕ → List ℕ → Option ℕ
operand limit word = option_and_then (λ n. if nat_lt n limit then Some n else None) (number_of word)

-- the instruction of this operation on a register and a number below the limit, which a space parts
abbrev pub on_register : ℕ → ℕ → List ℕ → Option ℕ
on_register operation limit operands =
    option_and_then (λ (p : List ℕ × List ℕ).
    option_and_then (λ a. option_map (word_of operation a) (operand limit p.1)) (operand 8 p.0)) (cut_space operands)

-- the instruction of this name with these operands, in a program of so many instructions. A target is at most their number.
unfoldable pub instruction_named : ℕ → List ℕ → List ℕ → Option ℕ
instruction_named count name operands =
    let targets = min (2 ^ 32) (count + 1) in
    if bytes_eq name (codes "set") then on_register 0 (2 ^ 32) operands
    else if bytes_eq name (codes "add") then on_register 1 8 operands
    else if bytes_eq name (codes "sub") then on_register 2 8 operands
    else if bytes_eq name (codes "mul") then on_register 3 8 operands
    else if bytes_eq name (codes "jz") then on_register 4 targets operands
    else if bytes_eq name (codes "jump") then option_map (word_of 5 0) (operand targets operands)
    else None

-- the instruction of a line, in a program of so many
unfoldable pub instruction_of : ℕ → List ℕ → Option ℕ
instruction_of count line =
    if bytes_eq line (codes "halt") then Some (word_of 6 0 0)
    else option_and_then (λ (p : List ℕ × List ℕ). instruction_named count p.0 p.1) (cut_space line)
