-- Which command the words are, by what the first of them asks for.
use Rattle.std.proofs.Common.{◌≡◌, ◌≢◌, ◌↔◌, ℕ, if◌then◌else◌, Bool, true, false, ◌||◌, ◌⊎◌, inl, inr, List, [], ◌∷◌, length, map, get_or, codes}
use Rattle.std.proofs.Common.{Option, Some, None, refl, sym, ◌∙◌, ap, ap₂, arith, rules, tests}
use Rattle.std.specs.Prelude.{option_map, option_and_then, slice_get, ◌==◌}
use Rattle.std.specs.Str.{bytes_eq}
use Rattle.command_words.specs.declared.command.Command.{Command}
use Rattle.command_words.specs.declared.command.Command.TheVariants.{Read, Batch, Execute}
use Rattle.command_words.specs.declared.command.Reading.{Reading}
use Rattle.command_words.specs.declared.command.Execution.{Execution}
use Rattle.command_words.specs.Words.{reading_by, reading_with, reading_with_value, execution_named, execution_with}
use Rattle.command_words.specs.Words.{command_of, reading_of, reading_named, execution_of, asks_to_execute, asks_for_batch, asks_for_threads}

pub some_is : {A : Type 0} (a b : A) → Some a ≡ Some b → a ≡ b
some_is a b e = cc

pub no_some : {A : Type 0} (a : A) → ◌≡◌ {A = Option A} None (Some a) → ⊥
no_some a e = cc

pub mapped : {A B : Type 0} (f : A → B) (o : Option A) (b : B) → option_map f o ≡ Some b → (a : A) × (o ≡ Some a) × (f a ≡ b)
mapped f None b e = absurd (no_some b e)
mapped f (Some a) b e = (a, refl, some_is (f a) b e)

pub and_then_some : {A B : Type 0} (f : A → Option B) (o : Option A) (b : B) → option_and_then f o ≡ Some b → (a : A) × (o ≡ Some a) × (f a ≡ Some b)
and_then_some f None b e = absurd (no_some b e)
and_then_some f (Some a) b e = (a, refl, e)

either_false : (a b : Bool) → a || b ≡ false → (a ≡ false) × (b ≡ false)
either_false false b e = (refl, e)
either_false true b e = absurd (let h : true ≡ false = e in cc)

pub if_is : {A : Type 0} (b : Bool) (x y z : Option A) → (if b then x else y) ≡ z → ((b ≡ true) × (x ≡ z)) ⊎ ((b ≡ false) × (y ≡ z))
if_is true x y z e = inl (refl, e)
if_is false x y z e = inr (refl, e)

pub same_text : (a b : List ℕ) → bytes_eq a b ≡ true → a ≡ b
same_text a b e = search (rules, tests)

other_text : (a b : List ℕ) (same : Bool) → bytes_eq a b ≡ same → a ≢ b → same ≡ false
other_text a b true e other = absurd (other (same_text a b e))
other_text a b false e other = refl

if_other : {A : Type 0} (a b : List ℕ) (x y z : A) → a ≢ b → z ≡ y → z ≡ (if bytes_eq a b then x else y)
if_other a b x y z other e = e ∙ ap (λ (c : Bool). if c then x else y) (sym (other_text a b (bytes_eq a b) refl other))

-- a word that names no command that reads
pub none_named : (w : List ℕ) → w ≢ codes "rate" → w ≢ codes "tree" → w ≢ codes "trace" → w ≢ codes "table" → w ≢ codes "check" → w ≢ codes "follow"
    → None ≡ reading_named w
none_named w rate tree trace table check follow =
    if_other w (codes "rate") _ _ _ rate (if_other w (codes "tree") _ _ _ tree (if_other w (codes "trace") _ _ _ trace
    (if_other w (codes "table") _ _ _ table (if_other w (codes "check") _ _ _ check (if_other w (codes "follow") _ _ _ follow refl)))))

-- words that ask for many sets are `batch` where they are one word
abbrev pub batch_of : List (List ℕ) → Option Command
batch_of words = if length words == 1 then Some Batch else None

-- the command that words are which ask for no execution
abbrev pub unexecuted : Bool → List (List ℕ) → Option Command
unexecuted batch words = if batch then batch_of words else option_map Read (reading_of words)

-- words that ask for an execution are none of another command, and the other way round
pub executes : (words : List (List ℕ)) → asks_to_execute words ≡ true → command_of words ≡ option_map Execute (execution_of words)
executes words asks = ap (λ (b : Bool). if b then option_map Execute (execution_of words) else unexecuted (asks_for_batch words) words) asks

pub executes_none : (words : List (List ℕ)) → asks_to_execute words ≡ false → command_of words ≡ unexecuted (asks_for_batch words) words
executes_none words asks = ap (λ (b : Bool). if b then option_map Execute (execution_of words) else unexecuted (asks_for_batch words) words) asks

pub reads : (words : List (List ℕ)) → asks_for_threads words ≡ false → command_of words ≡ option_map Read (reading_of words)
reads words asks =
    let (run, batch) = either_false (asks_to_execute words) (asks_for_batch words) asks in
    executes_none words run ∙ ap (λ (b : Bool). unexecuted b words) batch

-- words that ask for many sets ask for no execution
pub batch_runs_none : (words : List (List ℕ)) → asks_for_batch words ≡ true → asks_to_execute words ≡ false
batch_runs_none [] e = refl
batch_runs_none (word ∷ words) e = ap (λ (w : List ℕ). asks_to_execute (w ∷ words)) (same_text word (codes "batch") e)

pub batches : (words : List (List ℕ)) → asks_for_batch words ≡ true → command_of words ≡ batch_of words
batches words asks = executes_none words (batch_runs_none words asks) ∙ ap (λ (b : Bool). unexecuted b words) asks

pub only_read : (o : Option Reading) (c : Command) → option_map Read o ≡ Some c → (r : Reading) × (Read r ≡ c)
only_read None c e = absurd (let h : ◌≡◌ {A = Option Command} None (Some c) = e in cc)
only_read (Some r) c e = (r, let h : Some (Read r) ≡ Some c = e in cc)

pub only_execute : (o : Option Execution) (c : Command) → option_map Execute o ≡ Some c → (e : Execution) × (Execute e ≡ c)
only_execute None c e = absurd (let h : ◌≡◌ {A = Option Command} None (Some c) = e in cc)
only_execute (Some x) c e = (x, let h : Some (Execute x) ≡ Some c = e in cc)

pub only_batch : (words : List (List ℕ)) (c : Command) → batch_of words ≡ Some c → c ≡ Batch
only_batch words c e = elim (if_is (length words == 1) (Some Batch) None (Some c) e) [
  | inl is ↦ let h : Some Batch ≡ Some c = is.1 in cc
  | inr other ↦ absurd (let h : ◌≡◌ {A = Option Command} None (Some c) = other.1 in cc)
]

unexecuted_runs_none : (b : Bool) (words : List (List ℕ)) (x : Execution) → unexecuted b words ≡ Some (Execute x) → ⊥
unexecuted_runs_none true words x e = let h : Execute x ≡ Batch = only_batch words (Execute x) e in cc
unexecuted_runs_none false words x e = let (r, is) = only_read (reading_of words) (Execute x) e in let h : Read r ≡ Execute x = is in cc

-- words that ask for no execution are the line of none
pub not_executing : (words : List (List ℕ)) (x : Execution) → asks_to_execute words ≡ false → command_of words ≡ Some (Execute x) → ⊥
not_executing words x asks e = unexecuted_runs_none (asks_for_batch words) words x (sym (executes_none words asks) ∙ e)

-- ---- the words as they are given

-- what words ask for, the first of them tells
pub no_first : {A : Type 0} (words : List A) → None ≡ slice_get words 0 → words ≡ []
no_first [] e = refl
no_first (word ∷ words) e = absurd (no_some word e)

pub batch_asked : {A : Type 0} (f : A → List ℕ) (words : List A) (word : A) → Some word ≡ slice_get words 0 →
    bytes_eq (f word) (codes "batch") ≡ asks_for_batch (map f words)
batch_asked f [] word e = absurd (no_some word (sym e))
batch_asked f (first ∷ words) word e = ap (λ w. bytes_eq (f w) (codes "batch")) (some_is word first e)

pub execution_asked : {A : Type 0} (f : A → List ℕ) (words : List A) (word : A) → Some word ≡ slice_get words 0 →
    asks_to_execute (f word ∷ []) ≡ asks_to_execute (map f words)
execution_asked f [] word e = absurd (no_some word (sym e))
execution_asked f (first ∷ words) word e = ap (λ w. asks_to_execute (f w ∷ [])) (some_is word first e)

-- what is said of one answer is said of the same one
pub said_of_same : {A P : Type 0} (a b : Option A) (x : A) → a ≡ b → P ↔ (a ≡ Some x) → P ↔ (b ≡ Some x)
said_of_same a b x e h = (λ p. sym e ∙ h.0 p, λ is. h.1 (e ∙ is))

pub reading_by_none : {A : Type 0} (f : A → List ℕ) (word : List ℕ) (options : List A) → length options ≡ 0 → reading_named word ≡ reading_by word
    (map f options)
reading_by_none f word [] e = refl
reading_by_none f word (o ∷ os) e = absurd (omega (arith, e))

pub reading_by_one : {A : Type 0} (f : A → List ℕ) (word text : List ℕ) (options : List A) (option : A) → length options ≡ 1 → option ≡ get_or options 0 option
    → text ≡ f option → reading_with word text ≡ reading_by word (map f options)
reading_by_one f word text [] option e at is = absurd (omega (arith, e))
reading_by_one f word text (o ∷ []) option e at is = ap (reading_with word) (is ∙ ap f at)
reading_by_one f word text (o ∷ v ∷ os) option e at is = absurd (omega (arith, e))

pub reading_by_two : {A : Type 0} (f : A → List ℕ) (word text more : List ℕ) (options : List A) (option value : A) → length options ≡ 2 →
    option ≡ get_or options 0 option
    → value ≡ get_or options 1 value → text ≡ f option → more ≡ f value → reading_with_value word text more ≡ reading_by word (map f options)
reading_by_two f word text more [] option value e at next is given = absurd (omega (arith, e))
reading_by_two f word text more (o ∷ []) option value e at next is given = absurd (omega (arith, e))
reading_by_two f word text more (o ∷ v ∷ []) option value e at next is given = ap₂ (reading_with_value word) (is ∙ ap f at) (given ∙ ap f next)
reading_by_two f word text more (o ∷ v ∷ w ∷ os) option value e at next is given = absurd (omega (arith, e))

pub execution_of_one : {A : Type 0} (f : A → List ℕ) (text : List ℕ) (words : List A) (word : A) → length words ≡ 1 → word ≡ get_or words 0 word → text ≡ f word
    → execution_named text ≡ execution_of (map f words)
execution_of_one f text [] word e at is = absurd (omega (arith, e))
execution_of_one f text (w ∷ []) word e at is = ap execution_named (is ∙ ap f at)
execution_of_one f text (w ∷ o ∷ ws) word e at is = absurd (omega (arith, e))

pub execution_of_two : {A : Type 0} (f : A → List ℕ) (text more : List ℕ) (words : List A) (word option : A) → length words ≡ 2 → word ≡ get_or words 0 word
    → option ≡ get_or words 1 option → text ≡ f word → more ≡ f option → execution_with text more ≡ execution_of (map f words)
execution_of_two f text more [] word option e at next is given = absurd (omega (arith, e))
execution_of_two f text more (w ∷ []) word option e at next is given = absurd (omega (arith, e))
execution_of_two f text more (w ∷ o ∷ []) word option e at next is given = ap₂ execution_with (is ∙ ap f at) (given ∙ ap f next)
execution_of_two f text more (w ∷ o ∷ v ∷ ws) word option e at next is given = absurd (omega (arith, e))
