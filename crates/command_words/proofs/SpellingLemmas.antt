-- The words of a command line are those of its command, and of no other.
use Rattle.std.proofs.Common.{◌≡◌, ◌≢◌, ◌⊎◌, inl, inr, ℕ, zero, suc, ◌-◌, ◌^◌, if◌then◌else◌, ◌≤◌, List, [], ◌∷◌, ◌++◌, codes, take, drop}
use Rattle.std.proofs.Common.{Option, Some, None, Bool, true, false, ◌&&◌, option_map, option_and_then, length, refl, sym, ap, ap₂}
use Rattle.std.proofs.Common.{subst, ◌∙◌, arith, rules, tests, append-nil, eq-eqb, IfSome}
use Rattle.std.specs.Prelude.{◌==◌}
use Rattle.std.specs.Str.{bytes_eq}
use Rattle.std.proofs.lemmas.Bool.{eqb-true}
use Rattle.clap.specs.Words.{Text}
use Rattle.command_words.specs.declared.command.Command.{Command}
use Rattle.command_words.specs.declared.command.Command.TheVariants.{Read, Batch, Execute}
use Rattle.command_words.specs.declared.command.Reading.{Reading}
use Rattle.command_words.specs.declared.command.Reading.TheVariants.{Rate, Tree, Trace, TraceMet, TraceWrap, TraceRepeat, Table, TableRepeat, Check}
use Rattle.command_words.specs.declared.command.Reading.TheVariants.{Follow, Draw}
use Rattle.command_words.specs.declared.command.Execution.{Execution}
use Rattle.command_words.specs.declared.command.Execution.TheVariants.{Exec, ExecMet, Drill, Jobs, Modes}
use Rattle.sched_base.specs.Limits.{unit_limit, window_limit}
use Rattle.command_words.specs.Words.{number_in, exec_with, exec_by, after_text, HasWindow}
use Rattle.command_words.specs.Words.{reading_of, reading_by, reading_named, reading_with, reading_with_value, execution_of, execution_named}
use Rattle.command_words.specs.Words.{execution_with, execution_with_value}
use Rattle.command_words.specs.Words.{value_in, met_at, front, asked_units, drawn, draw_at_end, draw_of, DrawsSomeUnit}
use Rattle.command_words.specs.Words.{asks_to_execute, asks_for_batch, asks_for_threads, command_of}
use Rattle.command_words.specs.CommandLine.{Spells, SpellsExec, SpellsOption}
use Rattle.command_words.proofs.WordLemmas.{batch_of, executes, reads, batches, only_batch, if_is, same_text}
use Rattle.command_words.proofs.WordLemmas.{some_is, no_some, mapped, and_then_some}
use Rattle.command_words.proofs.DrawLineLemmas.{asked_by}
use Rattle.command_words.proofs.CommandLineLemmas.{apart, joined}

both : (a b : Bool) → a && b ≡ true → (a ≡ true) × (b ≡ true)
both true true e = (refl, refl)
both true false e = absurd (let h : false ≡ true = e in cc)
both false b e = absurd (let h : false ≡ true = e in cc)

take_drop : (n : ℕ) (xs : Text) → xs ≡ take n xs ++ drop n xs
take_drop zero xs = refl
take_drop (suc n) [] = refl
take_drop (suc n) (x ∷ xs) = ap (λ ys. x ∷ ys) (take_drop n xs)

after_in : (b : Bool) (text word v : Text) → (b ≡ true → take (length text) word ≡ text) → (if b then Some (drop (length text) word) else None) ≡ Some v
    → word ≡ text ++ v
after_in true text word v begins e = take_drop (length text) word ∙ ap₂ ◌++◌ (begins refl) (some_is (drop (length text) word) v e)
after_in false text word v begins e = absurd (no_some v e)

after_is : (text word v : Text) → after_text text word ≡ Some v → word ≡ text ++ v
after_is text word v e = after_in (bytes_eq (take (length text) word) text) text word v (same_text (take (length text) word) text) e

followed : (o : Option Text) (x : Execution) → option_and_then exec_with o ≡ Some x → (v : Text) × (o ≡ Some v) × (exec_with v ≡ Some x)
followed None x e = absurd (no_some x e)
followed (Some v) x e = (v, refl, e)

exec_spelled : (v : Text) (x : Execution) (words : List Text) → exec_with v ≡ Some x → (words ≡ apart v) ⊎ (words ≡ joined v) → Spells (Execute x) words
exec_spelled v x words e is =
    let (n, writes, same) = mapped (λ w. Exec w) (number_in 1 window_limit v) x e in
    subst (λ (y : Execution). Spells (Execute y) words) same (inr (v, writes, is))

by_spelled : (w o : Text) (x : Execution) → w ≡ codes "exec" → exec_by o ≡ Some x → Spells (Execute x) (w ∷ o ∷ [])
by_spelled w o x we e = elim (if_is (bytes_eq o (codes "--met")) _ _ _ e) [
  | inl met ↦
      subst (λ (y : Execution). Spells (Execute y) (w ∷ o ∷ [])) (some_is ExecMet x met.1)
      (ap₂ (λ a b. a ∷ b ∷ []) we (same_text o (codes "--met") met.0))
  | inr other ↦
      let (v, after, given) = followed (after_text (codes "--window=") o) x other.1 in
      exec_spelled v x (w ∷ o ∷ []) given (inr (ap₂ (λ a b. a ∷ b ∷ []) we (after_is (codes "--window=") o v after)))
]

drill_spelled : (w v : Text) (x : Execution) → w ≡ codes "drill" → option_map (λ number. Drill number) (number_in 0 (2 ^ 64 - 1) v) ≡ Some x →
    Spells (Execute x) (w ∷ v ∷ [])
drill_spelled w v x we e =
    let (n, writes, same) = mapped (λ m. Drill m) (number_in 0 (2 ^ 64 - 1) v) x e in
    subst (λ (y : Execution). Spells (Execute y) (w ∷ v ∷ [])) same (v, writes, ap (λ a. a ∷ v ∷ []) we)

-- one word, where it is the name of a command
reading_word : (w name : Text) (r x : Reading) → Spells (Read r) (name ∷ []) → (bytes_eq w name ≡ true) × (Some r ≡ Some x) → Spells (Read x) (w ∷ [])
reading_word w name r x spells is =
    subst (λ (y : Reading). Spells (Read y) (w ∷ [])) (some_is r x is.1)
    (subst (λ (t : Text). Spells (Read r) (t ∷ [])) (sym (same_text w name is.0)) spells)

-- the words of a command line are those of its command
reading_named_spelled : (w : Text) (x : Reading) → reading_named w ≡ Some x → Spells (Read x) (w ∷ [])
reading_named_spelled w x e = elim (if_is (bytes_eq w (codes "rate")) _ _ _ e) [
  | inl is ↦ reading_word w (codes "rate") Rate x refl is
  | inr other ↦ elim (if_is (bytes_eq w (codes "tree")) _ _ _ other.1) [
    | inl is ↦ reading_word w (codes "tree") Tree x refl is
    | inr other ↦ elim (if_is (bytes_eq w (codes "trace")) _ _ _ other.1) [
      | inl is ↦ reading_word w (codes "trace") Trace x refl is
      | inr other ↦ elim (if_is (bytes_eq w (codes "table")) _ _ _ other.1) [
        | inl is ↦ reading_word w (codes "table") Table x refl is
        | inr other ↦ elim (if_is (bytes_eq w (codes "check")) _ _ _ other.1) [
          | inl is ↦ reading_word w (codes "check") Check x refl is
          | inr other ↦ elim (if_is (bytes_eq w (codes "follow")) _ _ _ other.1) [
            | inl is ↦ reading_word w (codes "follow") Follow x refl is
            | inr other ↦ absurd (no_some x other.1)
          ]
        ]
      ]
    ]
  ]
]

reading_with_spelled : (w o : Text) (x : Reading) → reading_with w o ≡ Some x → Spells (Read x) (w ∷ o ∷ [])
reading_with_spelled w o x e = elim (if_is (bytes_eq w (codes "trace") && bytes_eq o (codes "--met")) _ _ _ e) [
  | inl is ↦
      let (we, oe) = both (bytes_eq w (codes "trace")) (bytes_eq o (codes "--met")) is.0 in
      subst (λ (y : Reading). Spells (Read y) (w ∷ o ∷ [])) (some_is TraceMet x is.1)
      (ap₂ (λ a b. a ∷ b ∷ []) (same_text w _ we) (same_text o _ oe))
  | inr other ↦ elim (if_is (bytes_eq w (codes "trace") && bytes_eq o (codes "--by=wrap")) _ _ _ other.1) [
    | inl is ↦
        let (we, oe) = both (bytes_eq w (codes "trace")) (bytes_eq o (codes "--by=wrap")) is.0 in
        subst (λ (y : Reading). Spells (Read y) (w ∷ o ∷ [])) (some_is TraceWrap x is.1)
        (inr (ap₂ (λ a b. a ∷ b ∷ []) (same_text w _ we) (same_text o _ oe)))
    | inr other ↦ elim (if_is (bytes_eq w (codes "trace") && bytes_eq o (codes "--repeat")) _ _ _ other.1) [
      | inl is ↦
          let (we, oe) = both (bytes_eq w (codes "trace")) (bytes_eq o (codes "--repeat")) is.0 in
          subst (λ (y : Reading). Spells (Read y) (w ∷ o ∷ [])) (some_is TraceRepeat x is.1)
          (ap₂ (λ a b. a ∷ b ∷ []) (same_text w _ we) (same_text o _ oe))
      | inr other ↦ elim (if_is (bytes_eq w (codes "table") && bytes_eq o (codes "--repeat")) _ _ _ other.1) [
        | inl is ↦
            let (we, oe) = both (bytes_eq w (codes "table")) (bytes_eq o (codes "--repeat")) is.0 in
            subst (λ (y : Reading). Spells (Read y) (w ∷ o ∷ [])) (some_is TableRepeat x is.1)
            (ap₂ (λ a b. a ∷ b ∷ []) (same_text w _ we) (same_text o _ oe))
        | inr other ↦ absurd (no_some x other.1)
      ]
    ]
  ]
]

reading_value_spelled : (w o v : Text) (x : Reading) → reading_with_value w o v ≡ Some x → Spells (Read x) (w ∷ o ∷ v ∷ [])
reading_value_spelled w o v x e =
    let named = bytes_eq o (codes "--by") && bytes_eq v (codes "wrap") in
    elim (if_is (bytes_eq w (codes "trace") && named) _ _ _ e) [
      | inl is ↦
          let (we, rest) = both (bytes_eq w (codes "trace")) named is.0 in
          let (oe, ve) = both (bytes_eq o (codes "--by")) (bytes_eq v (codes "wrap")) rest in
          subst (λ (y : Reading). Spells (Read y) (w ∷ o ∷ v ∷ [])) (some_is TraceWrap x is.1)
          (inl (ap₂ ◌∷◌ (same_text w _ we) (ap₂ (λ a b. a ∷ b ∷ []) (same_text o _ oe) (same_text v _ ve))))
      | inr other ↦ absurd (no_some x other.1)
    ]

reading_by_spelled : (w : Text) (options : List Text) (x : Reading) → reading_by w options ≡ Some x → Spells (Read x) (w ∷ options)
reading_by_spelled w [] x e = reading_named_spelled w x e
reading_by_spelled w (o ∷ []) x e = reading_with_spelled w o x e
reading_by_spelled w (o ∷ v ∷ []) x e = reading_value_spelled w o v x e
reading_by_spelled w (o ∷ v ∷ u ∷ xs) x e = absurd (no_some x e)

value_is : (name w v : Text) → value_in name w ≡ Some v → w ≡ name ++ (codes "=" ++ v)
value_is name w v e =
    let (u, after, behind) = and_then_some (after_text (codes "=")) (after_text name w) v e in
    after_is name w u after ∙ ap (λ r. name ++ r) (after_is (codes "=") u v behind)

-- what was met at the front of the words is spelled there
record IsFront (name : Text) (p : Option Text × List Text) (words : List Text) : Type 0 where
  first : (first : List Text) × SpellsOption name p.0 first × (words ≡ first ++ p.1)

met_spelled : (o : Option Text) (name w : Text) (rest : List Text) → ((v : Text) → o ≡ Some v → w ≡ name ++ (codes "=" ++ v))
    → IsFront name (met_at o w rest) (w ∷ rest)
met_spelled None name w rest is = record { first = ([], refl, refl) }
met_spelled (Some v) name w rest is = record { first = ((name ++ (codes "=" ++ v)) ∷ [], inr refl, ap (λ a. a ∷ rest) (is v refl)) }

front_by : (b : Bool) (name w n : Text) (rest : List Text) → (b ≡ true → w ≡ name)
    → IsFront name (if b then (Some n, rest) else met_at (value_in name w) w (n ∷ rest)) (w ∷ n ∷ rest)
front_by true name w n rest same = record { first = (name ∷ n ∷ [], inl refl, ap (λ a. a ∷ n ∷ rest) (same refl)) }
front_by false name w n rest same = met_spelled (value_in name w) name w (n ∷ rest) (value_is name w)

front_spelled : (name : Text) (words : List Text) → IsFront name (front name words) words
front_spelled name [] = record { first = ([], refl, refl) }
front_spelled name (w ∷ []) = met_spelled (value_in name w) name w [] (value_is name w)
front_spelled name (w ∷ n ∷ rest) = front_by (bytes_eq w name) name w n rest (same_text w name)

at_end : (from units : Option Text) (rest : List Text) (x : Reading) → draw_at_end from units rest ≡ Some x → (rest ≡ []) × (drawn from units ≡ Some x)
at_end from units [] x e = (refl, e)
at_end from units (w ∷ rest) x e = absurd (no_some x e)

draw_spelled : (w : Text) (options : List Text) (x : Reading) → w ≡ codes "draw" → draw_of options ≡ Some x → Spells (Read x) (w ∷ options)
draw_spelled w options x we e =
    let p = front (codes "--from") options in
    let q = front (codes "--units") p.1 in
    let (none, is) = at_end p.0 q.0 q.1 x e in
    let (u, n, from_given, units_given, same) = (asked_by p.0 q.0 x is).asks in
    let (first, first_is, options_are) = (front_spelled (codes "--from") options).first in
    let (second, second_is, behind_are) = (front_spelled (codes "--units") p.1).first in
    let behind = behind_are ∙ (ap (λ r. second ++ r) none ∙ append-nil second) in
    let words_are = ap₂ (λ a b. a ∷ b) we (options_are ∙ ap (λ r. first ++ r) behind) in
    subst (λ (y : Reading). Spells (Read y) (w ∷ options)) same
    (p.0, q.0, first, second, is ∙ ap Some (sym same), first_is, second_is, words_are)

reading_spelled : (words : List Text) (x : Reading) → reading_of words ≡ Some x → Spells (Read x) words
reading_spelled [] x e = absurd (no_some x e)
reading_spelled (w ∷ options) x e = elim (if_is (bytes_eq w (codes "draw")) _ _ _ e) [
  | inl is ↦ draw_spelled w options x (same_text w _ is.0) is.1
  | inr other ↦ reading_by_spelled w options x other.1
]

-- a picture that is asked for shows one unit at least
units_bound : (v : Text) (n : ℕ) → number_in 1 unit_limit v ≡ Some n → 1 ≤ n
units_bound v n e = search (rules, tests)

units_some : (units : Option Text) (n : Option ℕ) → asked_units units ≡ Some n → IfSome n (λ m. 1 ≤ m)
units_some None n e = subst (λ (o : Option ℕ). IfSome o (λ m. 1 ≤ m)) (some_is None n e) tt
units_some (Some w) n e =
    let (m, is, same) = mapped (λ m. Some m) (number_in 1 unit_limit w) n e in
    subst (λ (o : Option ℕ). IfSome o (λ k. 1 ≤ k)) same (units_bound w m is)

some_by : (x : Reading) (words : List Text) → Spells (Read x) words → DrawsSomeUnit x
some_by (Draw asked) words spells =
    let (u, n, from_given, units_given, same) = (asked_by spells.0 spells.1 (Draw asked) spells.4).asks in
    subst DrawsSomeUnit same (units_some spells.1 n units_given)
some_by Rate words spells = tt
some_by Tree words spells = tt
some_by Trace words spells = tt
some_by TraceMet words spells = tt
some_by TraceWrap words spells = tt
some_by TraceRepeat words spells = tt
some_by Table words spells = tt
some_by TableRepeat words spells = tt
some_by Check words spells = tt
some_by Follow words spells = tt

pub shows_some : (words : List Text) (x : Reading) → reading_of words ≡ Some x → DrawsSomeUnit x
shows_some words x e = some_by x words (reading_spelled words x e)

execution_named_spelled : (w : Text) (x : Execution) → execution_named w ≡ Some x → Spells (Execute x) (w ∷ [])
execution_named_spelled w x e = elim (if_is (bytes_eq w (codes "exec")) _ _ _ e) [
  | inl is ↦
      subst (λ (y : Execution). Spells (Execute y) (w ∷ [])) (some_is (Exec 32) x is.1)
      (inl (refl, ap (λ a. a ∷ []) (same_text w _ is.0)))
  | inr other ↦ elim (if_is (bytes_eq w (codes "jobs")) _ _ _ other.1) [
    | inl is ↦
        subst (λ (y : Execution). Spells (Execute y) (w ∷ [])) (some_is Jobs x is.1) (ap (λ a. a ∷ []) (same_text w _ is.0))
    | inr other ↦ elim (if_is (bytes_eq w (codes "modes")) _ _ _ other.1) [
      | inl is ↦
          subst (λ (y : Execution). Spells (Execute y) (w ∷ [])) (some_is Modes x is.1) (ap (λ a. a ∷ []) (same_text w _ is.0))
      | inr other ↦ absurd (no_some x other.1)
    ]
  ]
]

execution_with_spelled : (w o : Text) (x : Execution) → execution_with w o ≡ Some x → Spells (Execute x) (w ∷ o ∷ [])
execution_with_spelled w o x e = elim (if_is (bytes_eq w (codes "exec")) _ _ _ e) [
  | inl is ↦ by_spelled w o x (same_text w _ is.0) is.1
  | inr other ↦ elim (if_is (bytes_eq w (codes "drill")) _ _ _ other.1) [
    | inl is ↦ drill_spelled w o x (same_text w _ is.0) is.1
    | inr other ↦ absurd (no_some x other.1)
  ]
]

execution_value_spelled : (w o v : Text) (x : Execution) → execution_with_value w o v ≡ Some x → Spells (Execute x) (w ∷ o ∷ v ∷ [])
execution_value_spelled w o v x e = elim (if_is (bytes_eq w (codes "exec") && bytes_eq o (codes "--window")) _ _ _ e) [
  | inl is ↦
      let (we, oe) = both (bytes_eq w (codes "exec")) (bytes_eq o (codes "--window")) is.0 in
      exec_spelled v x (w ∷ o ∷ v ∷ []) is.1 (inl (ap₂ (λ a b. a ∷ b ∷ v ∷ []) (same_text w _ we) (same_text o _ oe)))
  | inr other ↦ absurd (no_some x other.1)
]

execution_spelled : (words : List Text) (x : Execution) → execution_of words ≡ Some x → Spells (Execute x) words
execution_spelled [] x e = absurd (no_some x e)
execution_spelled (w ∷ []) x e = execution_named_spelled w x e
execution_spelled (w ∷ o ∷ []) x e = execution_with_spelled w o x e
execution_spelled (w ∷ o ∷ v ∷ []) x e = execution_value_spelled w o v x e
execution_spelled (w ∷ o ∷ v ∷ u ∷ xs) x e = absurd (no_some x e)

batch_single : (words : List Text) (c : Command) → batch_of words ≡ Some c → length words ≡ 1
batch_single words c e = elim (if_is (length words == 1) (Some Batch) None (Some c) e) [
  | inl is ↦ eqb-true (length words) 1 is.0
  | inr other ↦ absurd (no_some c other.1)
]

batch_spelled : (words : List Text) (c : Command) → asks_for_batch words ≡ true → batch_of words ≡ Some c → Spells c words
batch_spelled [] c asks e = absurd (let one = batch_single [] c e in omega (arith, one))
batch_spelled (w ∷ []) c asks e =
    subst (λ (k : Command). Spells k (w ∷ [])) (sym (only_batch (w ∷ []) c e)) (ap (λ a. a ∷ []) (same_text w _ asks))
batch_spelled (w ∷ o ∷ words) c asks e = absurd (let one = batch_single (w ∷ o ∷ words) c e in omega (arith, one))

pub spelled : (words : List Text) (c : Command) → command_of words ≡ Some c → Spells c words
spelled words c e = elim (if_is (asks_to_execute words) _ _ _ e) [
  | inl is ↦
      let (x, given, same) = mapped Execute (execution_of words) c is.1 in
      subst (λ (k : Command). Spells k words) same (execution_spelled words x given)
  | inr is ↦ elim (if_is (asks_for_batch words) _ _ _ is.1) [
    | inl many ↦ batch_spelled words c many.0 many.1
    | inr few ↦
        let (x, given, same) = mapped Read (reading_of words) c few.1 in
        subst (λ (k : Command). Spells k words) same (reading_spelled words x given)
  ]
]

-- words of another number are no command line
pub no_reading : (w : Text) (options : List Text) (x : Reading) → length options ≢ 0 → length options ≢ 1 → length options ≢ 2
    → reading_by w options ≡ Some x → ⊥
no_reading w [] x none one two e = none refl
no_reading w (o ∷ []) x none one two e = one refl
no_reading w (o ∷ v ∷ []) x none one two e = two refl
no_reading w (o ∷ v ∷ u ∷ xs) x none one two e = no_some x e

pub no_execution : (words : List Text) (x : Execution) → length words ≢ 1 → length words ≢ 2 → length words ≢ 3 → execution_of words ≡ Some x → ⊥
no_execution [] x one two three e = no_some x e
no_execution (w ∷ []) x one two three e = one refl
no_execution (w ∷ o ∷ []) x one two three e = two refl
no_execution (w ∷ o ∷ v ∷ []) x one two three e = three refl
no_execution (w ∷ o ∷ v ∷ u ∷ xs) x one two three e = no_some x e

none_is : {A : Type 0} (o : Option A) → ((a : A) → o ≡ Some a → ⊥) → None ≡ o
none_is None none = refl
none_is (Some a) none = absurd (none a refl)

-- where no command has these words, they are no command line
pub no_line : (words : List Text) → ((c : Command) → command_of words ≡ Some c → ⊥) → None ≡ command_of words
no_line words none = none_is (command_of words) none

read_is : (a b : Reading) → Read a ≡ Read b → a ≡ b
read_is a b e = cc

execute_is : (a b : Execution) → Execute a ≡ Execute b → a ≡ b
execute_is a b e = cc

-- words that don't ask for what takes threads are the line of a command that reads, or none
pub reading_line : (words : List Text) (x : Reading) → asks_for_threads words ≡ false → reading_of words ≡ Some x → Some (Read x) ≡ command_of words
reading_line words x still e = sym (reads words still ∙ ap (option_map Read) e)

pub reading_spelled_by : (words : List Text) (x : Reading) → asks_for_threads words ≡ false → command_of words ≡ Some (Read x) → reading_of words ≡ Some x
reading_spelled_by words x still e =
    let (y, is, same) = mapped Read (reading_of words) (Read x) (sym (reads words still) ∙ e) in
    is ∙ ap Some (read_is y x same)

pub only_reading : (words : List Text) (c : Command) → asks_for_threads words ≡ false → command_of words ≡ Some c → (x : Reading) × (Read x ≡ c)
only_reading words c still e =
    let (y, is, same) = mapped Read (reading_of words) c (sym (reads words still) ∙ e) in
    (y, same)

-- the same of words that ask for many sets
batch_alone : (words : List Text) → asks_for_batch words ≡ true → length words ≡ 1 → batch_of words ≡ Some Batch
batch_alone words asks one = ap (λ (b : Bool). if b then Some Batch else None) (eq-eqb (length words) 1 one)

pub batch_line : (words : List Text) → asks_for_batch words ≡ true → length words ≡ 1 → command_of words ≡ Some Batch
batch_line words asks one = batches words asks ∙ batch_alone words asks one

pub only_batching : (words : List Text) (c : Command) → asks_for_batch words ≡ true → command_of words ≡ Some c → (c ≡ Batch) × (length words ≡ 1)
only_batching words c asks e = let is = sym (batches words asks) ∙ e in (only_batch words c is, batch_single words c is)

-- and the same of words that do
pub execution_line : (words : List Text) (x : Execution) → asks_to_execute words ≡ true → execution_of words ≡ Some x → Some (Execute x) ≡ command_of words
execution_line words x asks e = sym (executes words asks ∙ ap (option_map Execute) e)

pub execution_spelled_by : (words : List Text) (x : Execution) → asks_to_execute words ≡ true → command_of words ≡ Some (Execute x)
    → execution_of words ≡ Some x
execution_spelled_by words x asks e =
    let (y, is, same) = mapped Execute (execution_of words) (Execute x) (sym (executes words asks) ∙ e) in
    is ∙ ap Some (execute_is y x same)

pub only_executing : (words : List Text) (c : Command) → asks_to_execute words ≡ true → command_of words ≡ Some c → (x : Execution) × (Execute x ≡ c)
only_executing words c asks e =
    let (y, is, same) = mapped Execute (execution_of words) c (sym (executes words asks) ∙ e) in
    (y, same)

-- a window that was written is from 1 to the largest one
window_bounds : (v : Text) (n : ℕ) → number_in 1 window_limit v ≡ Some n → (1 ≤ n) × (n ≤ window_limit)
window_bounds v n e = search (rules, tests)

exec_window : (window : ℕ) (words : List Text) → SpellsExec window words → (1 ≤ window) × (window ≤ window_limit)
exec_window window words spells = elim spells [
  | inl usual ↦ let is = usual.0 in (omega (arith, is), omega (arith, is))
  | inr asked ↦ window_bounds asked.0 window asked.1
]

window_by : (x : Execution) (words : List Text) → Spells (Execute x) words → HasWindow x
window_by (Exec window) words spells = exec_window window words spells
window_by ExecMet words spells = tt
window_by (Drill number) words spells = tt
window_by Jobs words spells = tt
window_by Modes words spells = tt

pub has_window : (words : List Text) (x : Execution) → execution_of words ≡ Some x → HasWindow x
has_window words x e = window_by x words (execution_spelled words x e)
