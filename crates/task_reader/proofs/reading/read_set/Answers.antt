use Rattle.std.proofs.Common.{◌≡◌, true, refl, sym, ◌∙◌, inl, inr}
use Rattle.std.proofs.lemmas.Bool.{cases_Bool, false≢true}
use Rattle.std.proofs.lemmas.Str.{is_utf8-from_IsUtf8, IsUtf8-from_is_utf8}
use Rattle.std.specs.Str.{is_utf8}
use Rattle.task_reader.specs.Reading.{set_read_from}
use Rattle.task_reader.proofs.reading.read_set.Goals as goal

pub returns-in-Ok : goal.returns-in-Ok
unfolding set_read_from
returns-in-Ok c wanted =
    let text : is_utf8 c.args.bytes.now ≡ true = is_utf8-from_IsUtf8 _ c.in-Ok.ensures.ok.0 in
    c.read_document.ensures wanted ∙ rw (text, c.in-Ok.ensures.ok.1) refl

pub returns-else-is_memory : goal.returns-else-is_memory
unfolding set_read_from
returns-else-is_memory c wanted =
    elim (cases_Bool (is_utf8 c.args.bytes.now)) [
      | inl text ↦ rw (
        text,
        c.in-Err.ensures.refused (λ memory. false≢true (sym c.if-is_memory.false ∙ c.is_memory.ensures.1 memory))
            (IsUtf8-from_is_utf8 _ text),
      ) refl
      | inr other ↦ rw other refl
    ]
