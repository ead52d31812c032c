-- The words of a pack line, and what they say.
use Rattle.std.specs.Prelude.{ℕ, zero, suc, ◌-◌, ◌^◌, ◌==◌, if◌then◌else◌, List, [], ◌∷◌, Option, Some, None, option_map}
use Rattle.std.specs.Prelude.{option_and_then}
use Rattle.sched_base.specs.Bytes.{hyphen, space}
use Rattle.sched_base.specs.Names.{is_lawful_name}
use Rattle.text_words.specs.Words.{onto_first_line, number_of}
use Rattle.trace_check.specs.Steps.{within}
use Rattle.tree_check.specs.declared.written.Member.{Member}
use Rattle.tree_check.specs.declared.written.Member.TheVariants.{Name, Number}

-- the words of a text, with one space between each two; a text with no space is one word
abbrev pub words_of : List ℕ → List (List ℕ)
words_of [] = [] ∷ []
words_of (b ∷ bs) = if b == space then [] ∷ words_of bs else onto_first_line b (words_of bs)

-- a number that a member may have
abbrev pub member_number : List ℕ → Option Member
member_number word = option_map Number (option_and_then (within 0 (2 ^ 32 - 1)) (number_of word))

-- a member of level 0 is `-` and a number, or a lawful name
abbrev pub leaf_member : List ℕ → Option Member
leaf_member [] = None
leaf_member (b ∷ word) = if b == hyphen then member_number word else (if is_lawful_name (b ∷ word) then Some (Name (b ∷ word)) else None)

-- a member of a higher level is `~` and a number
abbrev pub dual_member : List ℕ → Option Member
dual_member [] = None
dual_member (b ∷ word) = if b == 126 then member_number word else None

-- the member of level l that a word names, if it is one
abbrev pub member_of : ℕ → List ℕ → Option Member
member_of zero word = leaf_member word
member_of (suc l) word = dual_member word

-- all words are members
abbrev pub members_from : ℕ → List (List ℕ) → Option (List Member)
members_from l [] = Some []
members_from l (word ∷ words) = option_and_then (λ m. option_map (λ ms. m ∷ ms) (members_from l words)) (member_of l word)
