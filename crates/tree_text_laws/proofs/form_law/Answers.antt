use Rattle.tree_text_laws.proofs.FormLemmas.{set_read}
use Rattle.tree_text_laws.proofs.form_law.Goals as goal

pub returns-clause-lawful : goal.returns-clause-lawful
returns-clause-lawful c bytes w e = (set_read bytes w e).lawful

pub returns-clause-on_time : goal.returns-clause-on_time
returns-clause-on_time c bytes w e = (set_read bytes w e).on_time
