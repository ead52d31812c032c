-- Which text is told of a set.
use Rattle.std.specs.Prelude.{false}
use Rattle.pure_commands.specs.SetTexts.{SetText, rates, server_tree, schedule_rows, wrapped_rows, c_table, repeating}
use Rattle.pure_commands.specs.declared.set_told.SetTold.{SetTold}
use Rattle.pure_commands.specs.declared.set_told.SetTold.TheVariants.{Rates, Tree, Trace, TraceWrap, TraceRepeat, Table, TableRepeat}

-- the text that is told of a set so
abbrev pub text_told : SetTold → SetText
text_told Rates = rates
text_told Tree = server_tree
text_told (Trace met) = schedule_rows met
text_told TraceWrap = wrapped_rows
text_told TraceRepeat = repeating (schedule_rows false)
text_told Table = c_table
text_told TableRepeat = repeating c_table
