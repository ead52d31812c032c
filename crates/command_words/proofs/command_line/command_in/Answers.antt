use Rattle.std.proofs.Common.{◌≡◌, Option, Some, None, List, ℕ, codes, sym, ap, option_map, ◌∙◌}
use Rattle.clap.specs.Words.{found_of, rows_of}
use Rattle.command_words.specs.declared.command.Command.TheVariants.{Read, Execute}
use Rattle.command_words.proofs.CommandLineLemmas.{names, name_of, called_as, plainly_named, trace_used, trace_told, table_used, table_told}
use Rattle.command_words.proofs.CommandLineLemmas.{draw_used, exec_used, exec_told, drill_used}
use Rattle.command_words.proofs.command_line.command_in.Goals as goal

pub returns-in_err-name : goal.returns-in_err-name
returns-in_err-name c = λ used words spells e.
    let h : ◌≡◌ {A = Option (List ℕ)} None (Some (name_of used)) = c.in_err-name.ensures.name ∙ names c.args.matches.now used words spells e in
    absurd cc

pub returns-in-trace : goal.returns-in-trace
returns-in-trace c = λ used words spells e.
    let h : ◌≡◌ {A = Option (List ℕ)} (Some c.in_ok-name.name.now) (Some (name_of used)) =
    c.in_ok-name.ensures.name ∙ names c.args.matches.now used words spells e in
    let name = called_as used (codes "trace") (sym c.in-trace.is ∙ cc) in
    let rows = rows_of (found_of c.in_ok-name.options.now) in
    let (x, is, tells) = trace_used used words rows spells name (c.in_ok-name.ensures.rows ∙ ap (option_map (λ p. p.1)) e) in
    let read = trace_told x rows c.trace_in.result tells c.trace_in.ensures.met c.trace_in.ensures.repeat c.trace_in.ensures.plain c.trace_in.ensures.wrap in
    c.read.ensures ∙ ap (option_map Read) read ∙ ap Some (sym is)

pub returns-in-table : goal.returns-in-table
returns-in-table c = λ used words spells e.
    let h : ◌≡◌ {A = Option (List ℕ)} (Some c.in_ok-name.name.now) (Some (name_of used)) =
    c.in_ok-name.ensures.name ∙ names c.args.matches.now used words spells e in
    let name = called_as used (codes "table") (sym c.in-table.is ∙ cc) in
    let rows = rows_of (found_of c.in_ok-name.options.now) in
    let (x, is, tells) = table_used used words rows spells name (c.in_ok-name.ensures.rows ∙ ap (option_map (λ p. p.1)) e) in
    let read = table_told x rows c.table_in.result tells c.table_in.ensures.repeat c.table_in.ensures.plain in
    c.read-in-table.ensures ∙ ap (option_map Read) read ∙ ap Some (sym is)

pub returns-in-draw : goal.returns-in-draw
returns-in-draw c = λ used words spells e.
    let h : ◌≡◌ {A = Option (List ℕ)} (Some c.in_ok-name.name.now) (Some (name_of used)) =
    c.in_ok-name.ensures.name ∙ names c.args.matches.now used words spells e in
    let name = called_as used (codes "draw") (sym c.in-draw.is ∙ cc) in
    let rows = rows_of (found_of c.in_ok-name.options.now) in
    let told = draw_used used words rows spells name (c.in_ok-name.ensures.rows ∙ ap (option_map (λ p. p.1)) e) in
    c.read-in-draw.ensures ∙ ap (option_map Read) c.draw_in.ensures ∙ told

pub returns-in-batch : goal.returns-in-batch
returns-in-batch c = λ used words spells e.
    let h : ◌≡◌ {A = Option (List ℕ)} (Some c.in_ok-name.name.now) (Some (name_of used)) =
    c.in_ok-name.ensures.name ∙ names c.args.matches.now used words spells e in
    ap Some (sym (called_as used (codes "batch") (sym c.in-batch.is ∙ cc)))

pub returns-in-exec : goal.returns-in-exec
returns-in-exec c = λ used words spells e.
    let h : ◌≡◌ {A = Option (List ℕ)} (Some c.in_ok-name.name.now) (Some (name_of used)) =
    c.in_ok-name.ensures.name ∙ names c.args.matches.now used words spells e in
    let name = called_as used (codes "exec") (sym c.in-exec.is ∙ cc) in
    let rows = rows_of (found_of c.in_ok-name.options.now) in
    let (x, is, tells) = exec_used used words rows spells name (c.in_ok-name.ensures.rows ∙ ap (option_map (λ p. p.1)) e) in
    let read = exec_told x rows c.exec_in.result tells c.exec_in.ensures.met c.exec_in.ensures.usual c.exec_in.ensures.window in
    c.executed.ensures ∙ ap (option_map Execute) read ∙ ap Some (sym is)

pub returns-in-drill : goal.returns-in-drill
returns-in-drill c = λ used words spells e.
    let h : ◌≡◌ {A = Option (List ℕ)} (Some c.in_ok-name.name.now) (Some (name_of used)) =
    c.in_ok-name.ensures.name ∙ names c.args.matches.now used words spells e in
    let name = called_as used (codes "drill") (sym c.in-drill.is ∙ cc) in
    let rows = rows_of (found_of c.in_ok-name.options.now) in
    let (value, given, is) = drill_used used words rows spells name (c.in_ok-name.ensures.rows ∙ ap (option_map (λ p. p.1)) e) in
    c.executed-in-drill.ensures ∙ ap (option_map Execute) (c.drill_in.ensures value given) ∙ is

pub returns-in-jobs : goal.returns-in-jobs
returns-in-jobs c = λ used words spells e.
    let h : ◌≡◌ {A = Option (List ℕ)} (Some c.in_ok-name.name.now) (Some (name_of used)) =
    c.in_ok-name.ensures.name ∙ names c.args.matches.now used words spells e in
    ap Some (sym (called_as used (codes "jobs") (sym c.in-jobs.is ∙ cc)))

pub returns-in-modes : goal.returns-in-modes
returns-in-modes c = λ used words spells e.
    let h : ◌≡◌ {A = Option (List ℕ)} (Some c.in_ok-name.name.now) (Some (name_of used)) =
    c.in_ok-name.ensures.name ∙ names c.args.matches.now used words spells e in
    ap Some (sym (called_as used (codes "modes") (sym c.in-modes.is ∙ cc)))

pub returns-in_default : goal.returns-in_default
returns-in_default c = λ used words spells e.
    let h : ◌≡◌ {A = Option (List ℕ)} (Some c.in_ok-name.name.now) (Some (name_of used)) =
    c.in_ok-name.ensures.name ∙ names c.args.matches.now used words spells e in
    let called : c.in_ok-name.name.now ≡ name_of used = cc in
    let other = c.in_default in
    c.read-in_default.ensures ∙ ap (option_map Read) c.reading_named.ensures
    ∙ plainly_named used c.in_ok-name.name.now called other.not-trace other.not-table other.not-draw other.not-batch other.not-exec other.not-drill
    other.not-jobs other.not-modes
