-- What `clap` makes of each command line.
use Rattle.std.proofs.Common.{◌≡◌, ◌≢◌, ◌⊎◌, inl, inr, ℕ, List, [], ◌∷◌, ◌++◌, codes}
use Rattle.std.proofs.Common.{Option, Some, None, Bool, true, false, option_map, option_and_then, refl, sym, ap, ap₂}
use Rattle.std.proofs.Common.{subst, ◌∙◌}
use Rattle.std.specs.Str.{bytes_eq}
use Rattle.clap.specs.Words.{Row, Text, is_simple, first_of, one_of, subcommand_of, subcommand_rows_of, subcommand_name_of, takes}
use Rattle.clap.specs.declared.parser.matches.ArgMatches.{ArgMatches}
use Rattle.clap.specs.declared.parser.matches.ArgMatches.TheViews.{out-ArgMatches}
use Rattle.clap.proofs.OnLiterals.{clap_on_literals}
use Rattle.command_words.specs.declared.asking.Asked.{Asked}
use Rattle.command_words.specs.declared.command.Command.{Command}
use Rattle.command_words.specs.declared.command.Command.TheVariants.{Read, Batch, Execute}
use Rattle.command_words.specs.declared.command.Reading.{Reading}
use Rattle.command_words.specs.declared.command.Reading.TheVariants.{Rate, Tree, Trace, TraceMet, TraceWrap, TraceRepeat, Table, TableRepeat, Check}
use Rattle.command_words.specs.declared.command.Reading.TheVariants.{Follow, Draw}
use Rattle.command_words.specs.declared.command.Execution.{Execution}
use Rattle.command_words.specs.declared.command.Execution.TheVariants.{Exec, ExecMet, Drill, Jobs, Modes}
use Rattle.sched_base.specs.Limits.{window_limit}
use Rattle.command_words.specs.Words.{exec_with, number_in}
use Rattle.command_words.specs.Words.{drawn, reading_named}
use Rattle.command_words.specs.CommandLine.{parser, Spells, SpellsWrap, SpellsExec}
use Rattle.command_words.proofs.ValueLemmas.{IsBare, in_range_is_bare}
use Rattle.command_words.proofs.DrawLineLemmas.{reads_draw}
use Rattle.std.specs.Prelude.{◌-◌, ◌^◌, if◌then◌else◌, nat_le, ◌&&◌}

-- a window is from 1 to the largest one
abbrev as_window : ℕ → Option ℕ
as_window n = if nat_le 1 n && nat_le n window_limit then Some n else None

-- the number of a drill is below 2 ^ 64
abbrev as_drill : ℕ → Option ℕ
as_drill n = if nat_le 0 n && nat_le n (2 ^ 64 - 1) then Some n else None

pub simple : is_simple parser ≡ true
unfolding clap_on_literals
simple = refl

-- the words of `exec` with a window as a word of its own, and behind `=`
abbrev pub apart : Text → List Text
apart v = codes "exec" ∷ codes "--window" ∷ v ∷ []

abbrev pub joined : Text → List Text
joined v = codes "exec" ∷ (codes "--window=" ++ v) ∷ []

-- what `clap` makes of the value doesn't go by its letters, as long as it doesn't begin with a hyphen
record IsRead (v : Text) : Type 0 where
  taken : takes parser (apart v) ≡ true
  unmet : option_and_then (one_of (codes "met")) (option_map (λ p. p.1) (subcommand_of parser (apart v))) ≡ Some (codes "false")
  value : option_and_then (first_of (codes "window")) (option_map (λ p. p.1) (subcommand_of parser (apart v))) ≡ Some v

bare_read : (v : Text) → IsBare v → IsRead v
unfolding clap_on_literals
bare_read [] bare = absurd bare
bare_read (d ∷ ds) bare = record { taken = rw (bare, bare) refl; unmet = rw (bare, bare) refl; value = rw (bare, bare) refl }

read_window : (v : Text) (n : ℕ) → number_in 1 window_limit v ≡ Some n → IsRead v
read_window v n e = bare_read v (in_range_is_bare as_window v n e)

taken_joined : (v : Text) → takes parser (joined v) ≡ true
unfolding clap_on_literals
taken_joined v = refl

taken_exec : (window : ℕ) (words : List Text) → SpellsExec window words → takes parser words ≡ true
unfolding clap_on_literals
taken_exec window words spells = elim spells [
  | inl usual ↦ ap (takes parser) usual.1
  | inr asked ↦ elim (asked.2) [
    | inl own ↦ ap (takes parser) own ∙ (read_window asked.0 window asked.1).taken
    | inr behind ↦ ap (takes parser) behind ∙ taken_joined asked.0
  ]
]

-- the words of `drill`, whose value stands in its place
abbrev drilling : Text → List Text
drilling v = codes "drill" ∷ v ∷ []

-- the same of a number
record IsReadNumber (v : Text) : Type 0 where
  taken : takes parser (drilling v) ≡ true
  named : option_map (λ p. p.0) (subcommand_of parser (drilling v)) ≡ Some (codes "drill")
  value : option_and_then (first_of (codes "number")) (option_map (λ p. p.1) (subcommand_of parser (drilling v))) ≡ Some v

bare_number : (v : Text) → IsBare v → IsReadNumber v
unfolding clap_on_literals
bare_number [] bare = absurd bare
bare_number (d ∷ ds) bare = record { taken = simp bare; named = refl; value = simp bare }

read_number : (v : Text) (n : ℕ) → number_in 0 (2 ^ 64 - 1) v ≡ Some n → IsReadNumber v
read_number v n e = bare_number v (in_range_is_bare as_drill v n e)

taken_wrap : (words : List Text) → SpellsWrap words → takes parser words ≡ true
unfolding clap_on_literals
taken_wrap words spells = elim spells [ inl own ↦ ap (takes parser) own | inr behind ↦ ap (takes parser) behind ]

-- ---- all command lines

-- no command line is refused
pub taken : (c : Command) (words : List Text) → Spells c words → takes parser words ≡ true
unfolding clap_on_literals
taken (Read Rate) words e = ap (takes parser) e
taken (Read Tree) words e = ap (takes parser) e
taken (Read Trace) words e = ap (takes parser) e
taken (Read TraceMet) words e = ap (takes parser) e
taken (Read TraceWrap) words e = taken_wrap words e
taken (Read TraceRepeat) words e = ap (takes parser) e
taken (Read Table) words e = ap (takes parser) e
taken (Read TableRepeat) words e = ap (takes parser) e
taken (Read Check) words e = ap (takes parser) e
taken (Read Follow) words e = ap (takes parser) e
taken (Read (Draw asked)) words e = (reads_draw asked words e).reads.3.taken
taken Batch words e = ap (takes parser) e
taken (Execute (Exec window)) words e = taken_exec window words e
taken (Execute ExecMet) words e = ap (takes parser) e
taken (Execute (Drill number)) words e = ap (takes parser) e.2 ∙ (read_number e.0 number e.1).taken
taken (Execute Jobs) words e = ap (takes parser) e
taken (Execute Modes) words e = ap (takes parser) e

-- the first word of a command
abbrev pub name_of : Command → Text
name_of (Read Rate) = codes "rate"
name_of (Read Tree) = codes "tree"
name_of (Read Trace) = codes "trace"
name_of (Read TraceMet) = codes "trace"
name_of (Read TraceWrap) = codes "trace"
name_of (Read TraceRepeat) = codes "trace"
name_of (Read Table) = codes "table"
name_of (Read TableRepeat) = codes "table"
name_of (Read Check) = codes "check"
name_of (Read Follow) = codes "follow"
name_of (Read (Draw asked)) = codes "draw"
name_of Batch = codes "batch"
name_of (Execute (Exec window)) = codes "exec"
name_of (Execute ExecMet) = codes "exec"
name_of (Execute (Drill number)) = codes "drill"
name_of (Execute Jobs) = codes "jobs"
name_of (Execute Modes) = codes "modes"

abbrev Either : Bool → Type 0 → Type 0 → Type 0
Either true a b = a
Either false a b = b

-- the commands with this first word
abbrev pub IsCalled : Text → Command → Type 0
IsCalled name c =
    Either (bytes_eq name (codes "rate")) (c ≡ Read Rate)
    (Either (bytes_eq name (codes "tree")) (c ≡ Read Tree)
    (Either (bytes_eq name (codes "trace")) ((c ≡ Read Trace) ⊎ ((c ≡ Read TraceMet) ⊎ ((c ≡ Read TraceWrap) ⊎ (c ≡ Read TraceRepeat))))
    (Either (bytes_eq name (codes "table")) ((c ≡ Read Table) ⊎ (c ≡ Read TableRepeat))
    (Either (bytes_eq name (codes "check")) (c ≡ Read Check)
    (Either (bytes_eq name (codes "follow")) (c ≡ Read Follow)
    (Either (bytes_eq name (codes "draw")) ((asked : Asked) × (c ≡ Read (Draw asked)))
    (Either (bytes_eq name (codes "batch")) (c ≡ Batch)
    (Either (bytes_eq name (codes "exec")) (((window : ℕ) × (c ≡ Execute (Exec window))) ⊎ (c ≡ Execute ExecMet))
    (Either (bytes_eq name (codes "drill")) ((number : ℕ) × (c ≡ Execute (Drill number)))
    (Either (bytes_eq name (codes "jobs")) (c ≡ Execute Jobs)
    (Either (bytes_eq name (codes "modes")) (c ≡ Execute Modes) ⊥)))))))))))

called : (c : Command) → IsCalled (name_of c) c
called (Read Rate) = refl
called (Read Tree) = refl
called (Read Trace) = inl refl
called (Read TraceMet) = inr (inl refl)
called (Read TraceWrap) = inr (inr (inl refl))
called (Read TraceRepeat) = inr (inr (inr refl))
called (Read Table) = inl refl
called (Read TableRepeat) = inr refl
called (Read Check) = refl
called (Read Follow) = refl
called (Read (Draw asked)) = (asked, refl)
called Batch = refl
called (Execute (Exec window)) = inl (window, refl)
called (Execute ExecMet) = inr refl
called (Execute (Drill number)) = (number, refl)
called (Execute Jobs) = refl
called (Execute Modes) = refl

pub called_as : (c : Command) (name : Text) → name ≡ name_of c → IsCalled name c
called_as c name e = subst (λ (n : Text). IsCalled n c) (sym e) (called c)

-- a word that names a command, and none of those with options or threads, is its whole line
pub plainly_named : (c : Command) (name : Text) → name ≡ name_of c → name ≢ codes "trace" → name ≢ codes "table" → name ≢ codes "draw" →
    name ≢ codes "batch" → name ≢ codes "exec" → name ≢ codes "drill" → name ≢ codes "jobs" → name ≢ codes "modes"
    → option_map Read (reading_named name) ≡ Some c
plainly_named (Read Rate) name e trace table draw batch exec drill jobs modes = ap (λ n. option_map Read (reading_named n)) e
plainly_named (Read Tree) name e trace table draw batch exec drill jobs modes = ap (λ n. option_map Read (reading_named n)) e
plainly_named (Read Trace) name e trace table draw batch exec drill jobs modes = absurd (trace e)
plainly_named (Read TraceMet) name e trace table draw batch exec drill jobs modes = absurd (trace e)
plainly_named (Read TraceWrap) name e trace table draw batch exec drill jobs modes = absurd (trace e)
plainly_named (Read TraceRepeat) name e trace table draw batch exec drill jobs modes = absurd (trace e)
plainly_named (Read Table) name e trace table draw batch exec drill jobs modes = absurd (table e)
plainly_named (Read TableRepeat) name e trace table draw batch exec drill jobs modes = absurd (table e)
plainly_named (Read Check) name e trace table draw batch exec drill jobs modes = ap (λ n. option_map Read (reading_named n)) e
plainly_named (Read Follow) name e trace table draw batch exec drill jobs modes = ap (λ n. option_map Read (reading_named n)) e
plainly_named (Read (Draw asked)) name e trace table draw batch exec drill jobs modes = absurd (draw e)
plainly_named Batch name e trace table draw batch exec drill jobs modes = absurd (batch e)
plainly_named (Execute (Exec window)) name e trace table draw batch exec drill jobs modes = absurd (exec e)
plainly_named (Execute ExecMet) name e trace table draw batch exec drill jobs modes = absurd (exec e)
plainly_named (Execute (Drill number)) name e trace table draw batch exec drill jobs modes = absurd (drill e)
plainly_named (Execute Jobs) name e trace table draw batch exec drill jobs modes = absurd (jobs e)
plainly_named (Execute Modes) name e trace table draw batch exec drill jobs modes = absurd (modes e)

-- the name of the subcommand that the words name
abbrev named_by : List Text → Option Text
named_by words = option_map (λ p. p.0) (subcommand_of parser words)

named_apart : (v : Text) → named_by (apart v) ≡ Some (codes "exec")
unfolding clap_on_literals
named_apart v = refl

named_joined : (v : Text) → named_by (joined v) ≡ Some (codes "exec")
unfolding clap_on_literals
named_joined v = refl

named_exec : (window : ℕ) (words : List Text) → SpellsExec window words → named_by words ≡ Some (codes "exec")
unfolding clap_on_literals
named_exec window words spells = elim spells [
  | inl usual ↦ ap named_by usual.1
  | inr asked ↦ elim (asked.2) [
    | inl own ↦ ap named_by own ∙ named_apart asked.0
    | inr behind ↦ ap named_by behind ∙ named_joined asked.0
  ]
]

named_wrap : (words : List Text) → SpellsWrap words → named_by words ≡ Some (codes "trace")
unfolding clap_on_literals
named_wrap words spells = elim spells [ inl own ↦ ap named_by own | inr behind ↦ ap named_by behind ]

named : (c : Command) (words : List Text) → Spells c words → named_by words ≡ Some (name_of c)
unfolding clap_on_literals
named (Read Rate) words e = ap named_by e
named (Read Tree) words e = ap named_by e
named (Read Trace) words e = ap named_by e
named (Read TraceMet) words e = ap named_by e
named (Read TraceWrap) words e = named_wrap words e
named (Read TraceRepeat) words e = ap named_by e
named (Read Table) words e = ap named_by e
named (Read TableRepeat) words e = ap named_by e
named (Read Check) words e = ap named_by e
named (Read Follow) words e = ap named_by e
named (Read (Draw asked)) words e = (reads_draw asked words e).reads.3.named
named Batch words e = ap named_by e
named (Execute (Exec window)) words e = named_exec window words e
named (Execute ExecMet) words e = ap named_by e
named (Execute (Drill number)) words e = ap named_by e.2 ∙ (read_number e.0 number e.1).named
named (Execute Jobs) words e = ap named_by e
named (Execute Modes) words e = ap named_by e

-- the value of `--met`, that of `--by`, and that of `--window`, in the matches of a subcommand
abbrev met_in : Option (List Row) → Option Text
met_in = option_and_then (one_of (codes "met"))

abbrev by_in : Option (List Row) → Option Text
by_in = option_and_then (first_of (codes "by"))

abbrev window_in : Option (List Row) → Option Text
window_in = option_and_then (first_of (codes "window"))

abbrev repeat_in : Option (List Row) → Option Text
repeat_in = option_and_then (one_of (codes "repeat"))

-- the matches of the subcommand that the words name
abbrev matches_by : List Text → Option (List Row)
matches_by words = option_map (λ p. p.1) (subcommand_of parser words)

unmet : met_in (matches_by (codes "trace" ∷ [])) ≡ Some (codes "false")
unfolding clap_on_literals
unmet = refl

met : met_in (matches_by (codes "trace" ∷ codes "--met" ∷ [])) ≡ Some (codes "true")
unfolding clap_on_literals
met = refl

by_none : by_in (matches_by (codes "trace" ∷ [])) ≡ None
unfolding clap_on_literals
by_none = refl

wrap_unmet : met_in (matches_by (codes "trace" ∷ codes "--by" ∷ codes "wrap" ∷ [])) ≡ Some (codes "false")
unfolding clap_on_literals
wrap_unmet = refl

by_wrap : by_in (matches_by (codes "trace" ∷ codes "--by" ∷ codes "wrap" ∷ [])) ≡ Some (codes "wrap")
unfolding clap_on_literals
by_wrap = refl

joined_wrap_unmet : met_in (matches_by (codes "trace" ∷ codes "--by=wrap" ∷ [])) ≡ Some (codes "false")
unfolding clap_on_literals
joined_wrap_unmet = refl

joined_wrap : by_in (matches_by (codes "trace" ∷ codes "--by=wrap" ∷ [])) ≡ Some (codes "wrap")
unfolding clap_on_literals
joined_wrap = refl

unrepeated : repeat_in (matches_by (codes "trace" ∷ [])) ≡ Some (codes "false")
unfolding clap_on_literals
unrepeated = refl

wrap_unrepeated : repeat_in (matches_by (codes "trace" ∷ codes "--by" ∷ codes "wrap" ∷ [])) ≡ Some (codes "false")
unfolding clap_on_literals
wrap_unrepeated = refl

joined_wrap_unrepeated : repeat_in (matches_by (codes "trace" ∷ codes "--by=wrap" ∷ [])) ≡ Some (codes "false")
unfolding clap_on_literals
joined_wrap_unrepeated = refl

repeat_unmet : met_in (matches_by (codes "trace" ∷ codes "--repeat" ∷ [])) ≡ Some (codes "false")
unfolding clap_on_literals
repeat_unmet = refl

trace_repeat : repeat_in (matches_by (codes "trace" ∷ codes "--repeat" ∷ [])) ≡ Some (codes "true")
unfolding clap_on_literals
trace_repeat = refl

table_unrepeated : repeat_in (matches_by (codes "table" ∷ [])) ≡ Some (codes "false")
unfolding clap_on_literals
table_unrepeated = refl

table_repeat : repeat_in (matches_by (codes "table" ∷ codes "--repeat" ∷ [])) ≡ Some (codes "true")
unfolding clap_on_literals
table_repeat = refl

exec_met : met_in (matches_by (codes "exec" ∷ codes "--met" ∷ [])) ≡ Some (codes "true")
unfolding clap_on_literals
exec_met = refl

exec_unmet : met_in (matches_by (codes "exec" ∷ [])) ≡ Some (codes "false")
unfolding clap_on_literals
exec_unmet = refl

exec_usual : window_in (matches_by (codes "exec" ∷ [])) ≡ None
unfolding clap_on_literals
exec_usual = refl

joined_unmet : (v : Text) → met_in (matches_by (joined v)) ≡ Some (codes "false")
unfolding clap_on_literals
joined_unmet v = refl

joined_window : (v : Text) → window_in (matches_by (joined v)) ≡ Some v
unfolding clap_on_literals
joined_window v = refl

map_map : {A B C : Type 0} (g : B → C) (h : A → B) (o : Option A) → option_map (λ a. g (h a)) o ≡ option_map g (option_map h o)
map_map g h None = refl
map_map g h (Some a) = refl

-- the name of the subcommand that was met, where its matches are those of a command line
pub names : (m : ArgMatches) (c : Command) (words : List Text) → Spells c words → subcommand_rows_of m ≡ subcommand_of parser words
    → subcommand_name_of m ≡ Some (name_of c)
names m c words spells e =
    map_map (λ p. p.0) _ (out-ArgMatches m).subcommand ∙ ap (option_map (λ p. p.0)) e ∙ named c words spells

-- what the matches of `trace` say of its options
abbrev pub TellsOptions : Reading → List Row → Type 0
TellsOptions Trace rows =
    (one_of (codes "met") rows ≡ Some (codes "false")) × (one_of (codes "repeat") rows ≡ Some (codes "false")) × (first_of (codes "by") rows ≡ None)
TellsOptions TraceMet rows = one_of (codes "met") rows ≡ Some (codes "true")
TellsOptions TraceWrap rows =
    (one_of (codes "met") rows ≡ Some (codes "false")) × (one_of (codes "repeat") rows ≡ Some (codes "false"))
    × (first_of (codes "by") rows ≡ Some (codes "wrap"))
TellsOptions TraceRepeat rows = (one_of (codes "met") rows ≡ Some (codes "false")) × (one_of (codes "repeat") rows ≡ Some (codes "true"))
TellsOptions _ rows = ⊥

-- what those of `table` say of them
abbrev pub TellsTable : Reading → List Row → Type 0
TellsTable Table rows = one_of (codes "repeat") rows ≡ Some (codes "false")
TellsTable TableRepeat rows = one_of (codes "repeat") rows ≡ Some (codes "true")
TellsTable _ rows = ⊥

tells_wrap : (words : List Text) (rows : List Row) → SpellsWrap words → Some rows ≡ matches_by words → TellsOptions TraceWrap rows
tells_wrap words rows spells is = elim spells [
  | inl own ↦ (
    ap met_in (is ∙ ap matches_by own) ∙ wrap_unmet,
    ap repeat_in (is ∙ ap matches_by own) ∙ wrap_unrepeated,
    ap by_in (is ∙ ap matches_by own) ∙ by_wrap,
  )
  | inr behind ↦ (
    ap met_in (is ∙ ap matches_by behind) ∙ joined_wrap_unmet,
    ap repeat_in (is ∙ ap matches_by behind) ∙ joined_wrap_unrepeated,
    ap by_in (is ∙ ap matches_by behind) ∙ joined_wrap,
  )
]

-- the options tell the commands of this name apart
pub trace_used : (c : Command) (words : List Text) (rows : List Row) → Spells c words → IsCalled (codes "trace") c → Some rows ≡ matches_by words
    → (x : Reading) × (c ≡ Read x) × TellsOptions x rows
trace_used c words rows spells name is = elim name [
  | inl plain ↦
      let spelled : words ≡ codes "trace" ∷ [] = subst (λ (x : Command). Spells x words) plain spells in (
        Trace,
        plain,
        (
          ap met_in (is ∙ ap matches_by spelled) ∙ unmet,
          ap repeat_in (is ∙ ap matches_by spelled) ∙ unrepeated,
          ap by_in (is ∙ ap matches_by spelled) ∙ by_none,
        ),
      )
  | inr other ↦ elim other [
    | inl told ↦
        let spelled : words ≡ codes "trace" ∷ codes "--met" ∷ [] = subst (λ (x : Command). Spells x words) told spells in
        (TraceMet, told, ap met_in (is ∙ ap matches_by spelled) ∙ met)
    | inr third ↦ elim third [
      | inl wrap ↦ (TraceWrap, wrap, tells_wrap words rows (subst (λ (x : Command). Spells x words) wrap spells) is)
      | inr repeated ↦
          let spelled : words ≡ codes "trace" ∷ codes "--repeat" ∷ [] = subst (λ (x : Command). Spells x words) repeated spells in
          (TraceRepeat, repeated, (ap met_in (is ∙ ap matches_by spelled) ∙ repeat_unmet, ap repeat_in (is ∙ ap matches_by spelled) ∙ trace_repeat))
    ]
  ]
]

-- so those of `table` do
pub table_used : (c : Command) (words : List Text) (rows : List Row) → Spells c words → IsCalled (codes "table") c → Some rows ≡ matches_by words
    → (x : Reading) × (c ≡ Read x) × TellsTable x rows
table_used c words rows spells name is = elim name [
  | inl plain ↦
      let spelled : words ≡ codes "table" ∷ [] = subst (λ (x : Command). Spells x words) plain spells in
      (Table, plain, ap repeat_in (is ∙ ap matches_by spelled) ∙ table_unrepeated)
  | inr repeated ↦
      let spelled : words ≡ codes "table" ∷ codes "--repeat" ∷ [] = subst (λ (x : Command). Spells x words) repeated spells in
      (TableRepeat, repeated, ap repeat_in (is ∙ ap matches_by spelled) ∙ table_repeat)
]

-- what `trace` is read as, by what is made of its options
pub trace_told : (x : Reading) (rows : List Row) (result : Option Reading) → TellsOptions x rows
    → (one_of (codes "met") rows ≡ Some (codes "true") → result ≡ Some TraceMet)
    → (one_of (codes "met") rows ≡ Some (codes "false") → one_of (codes "repeat") rows ≡ Some (codes "true") → result ≡ Some TraceRepeat)
    → (one_of (codes "met") rows ≡ Some (codes "false") → one_of (codes "repeat") rows ≡ Some (codes "false") → first_of (codes "by") rows ≡ None
    → result ≡ Some Trace)
    → (one_of (codes "met") rows ≡ Some (codes "false") → one_of (codes "repeat") rows ≡ Some (codes "false") → first_of (codes "by") rows ≡ Some (codes "wrap")
    → result ≡ Some TraceWrap)
    → result ≡ Some x
trace_told Trace rows result tells told again plain wrapped = plain tells.0 tells.1 tells.2
trace_told TraceMet rows result tells told again plain wrapped = told tells
trace_told TraceWrap rows result tells told again plain wrapped = wrapped tells.0 tells.1 tells.2
trace_told TraceRepeat rows result tells told again plain wrapped = again tells.0 tells.1
trace_told _ rows result tells told again plain wrapped = absurd tells

-- the same of `table`
pub table_told : (x : Reading) (rows : List Row) (result : Option Reading) → TellsTable x rows
    → (one_of (codes "repeat") rows ≡ Some (codes "true") → result ≡ Some TableRepeat)
    → (one_of (codes "repeat") rows ≡ Some (codes "false") → result ≡ Some Table)
    → result ≡ Some x
table_told Table rows result tells again plain = plain tells
table_told TableRepeat rows result tells again plain = again tells
table_told _ rows result tells again plain = absurd tells

-- what the matches of `exec` say of its options
abbrev pub TellsExec : Execution → List Row → Type 0
TellsExec (Exec window) rows =
    (one_of (codes "met") rows ≡ Some (codes "false"))
    × (((first_of (codes "window") rows ≡ None) × (window ≡ 32))
    ⊎ ((value : Text) × (first_of (codes "window") rows ≡ Some value) × (exec_with value ≡ Some (Exec window))))
TellsExec ExecMet rows = one_of (codes "met") rows ≡ Some (codes "true")
TellsExec _ rows = ⊥

tells_exec : (window : ℕ) (words : List Text) (rows : List Row) → SpellsExec window words → Some rows ≡ matches_by words → TellsExec (Exec window) rows
tells_exec window words rows spells is = elim spells [
  | inl usual ↦ (ap met_in (is ∙ ap matches_by usual.1) ∙ exec_unmet, inl (ap window_in (is ∙ ap matches_by usual.1) ∙ exec_usual, usual.0))
  | inr asked ↦
      let given : exec_with asked.0 ≡ Some (Exec window) = ap (option_map (λ n. Exec n)) asked.1 in
      elim (asked.2) [
        | inl own ↦
            let read = read_window asked.0 window asked.1 in
            (ap met_in (is ∙ ap matches_by own) ∙ read.unmet, inr (asked.0, ap window_in (is ∙ ap matches_by own) ∙ read.value, given))
        | inr behind ↦
            let value = ap window_in (is ∙ ap matches_by behind) ∙ joined_window asked.0 in
            (ap met_in (is ∙ ap matches_by behind) ∙ joined_unmet asked.0, inr (asked.0, value, given))
      ]
]

pub exec_used : (c : Command) (words : List Text) (rows : List Row) → Spells c words → IsCalled (codes "exec") c → Some rows ≡ matches_by words
    → (e : Execution) × (c ≡ Execute e) × TellsExec e rows
exec_used c words rows spells name is = elim name [
  | inl some ↦ (Exec some.0, some.1, tells_exec some.0 words rows (subst (λ (x : Command). Spells x words) some.1 spells) is)
  | inr told ↦
      let spelled : words ≡ codes "exec" ∷ codes "--met" ∷ [] = subst (λ (x : Command). Spells x words) told spells in
      (ExecMet, told, ap met_in (is ∙ ap matches_by spelled) ∙ exec_met)
]

-- what `exec` is read as, by what is made of its options
pub exec_told : (x : Execution) (rows : List Row) (result : Option Execution) → TellsExec x rows
    → (one_of (codes "met") rows ≡ Some (codes "true") → result ≡ Some ExecMet)
    → (one_of (codes "met") rows ≡ Some (codes "false") → first_of (codes "window") rows ≡ None → result ≡ Some (Exec 32))
    → ((value : Text) → one_of (codes "met") rows ≡ Some (codes "false") → first_of (codes "window") rows ≡ Some value → result ≡ exec_with value)
    → result ≡ Some x
exec_told (Exec window) rows result tells by_met usual by_window = elim (tells.1) [
  | inl none ↦ usual tells.0 none.0 ∙ ap (λ n. Some (Exec n)) (sym none.1)
  | inr own ↦ by_window own.0 tells.0 own.1 ∙ own.2
]
exec_told ExecMet rows result tells by_met usual by_window = by_met tells
exec_told _ rows result tells by_met usual by_window = absurd tells

-- what the matches of `draw` say of its options
pub draw_used : (c : Command) (words : List Text) (rows : List Row) → Spells c words → IsCalled (codes "draw") c → Some rows ≡ matches_by words
    → option_map Read (drawn (first_of (codes "from") rows) (first_of (codes "units") rows)) ≡ Some c
draw_used c words rows spells name is =
    let (asked, own) = name in
    let (from, units, given, read) = (reads_draw asked words (subst (λ (x : Command). Spells x words) own spells)).reads in
    let from_is = ap (option_and_then (first_of (codes "from"))) is ∙ read.from_is in
    let units_is = ap (option_and_then (first_of (codes "units"))) is ∙ read.units_is in
    ap (option_map Read) (ap₂ drawn from_is units_is ∙ given) ∙ ap Some (sym own)

-- what the matches of `drill` say of its number
pub drill_used : (c : Command) (words : List Text) (rows : List Row) → Spells c words → IsCalled (codes "drill") c → Some rows ≡ matches_by words
    → (value : Text) × (first_of (codes "number") rows ≡ Some value) × (option_map Execute (option_map (λ number. Drill number) (number_in 0 (2 ^ 64 - 1)
    value)) ≡ Some c)
drill_used c words rows spells name is =
    let (n, own) = name in
    let (value, writes, spelled) = subst (λ (x : Command). Spells x words) own spells in (
      value,
      ap (option_and_then (first_of (codes "number"))) (is ∙ ap matches_by spelled) ∙ (read_number value n writes).value,
      ap (λ (o : Option ℕ). option_map Execute (option_map (λ m. Drill m) o)) writes ∙ ap Some (sym own),
    )
