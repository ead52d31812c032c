use Rattle.std.proofs.Common.{◌-◌, ◌∙◌, sym, ap, not, Some, set, arith, rules}
use Rattle.job_vm.specs.Programs.{lengthened}
use Rattle.job_vm.proofs.NamesLemmas.{same_names}
use Rattle.job_vm.proofs.ProgramsLemmas.{with_word, lengthened_last}
use Rattle.job_vm.proofs.programs.Programs.lengthen.Goals.{in-Ok, in-Err}
use Rattle.job_vm.proofs.programs.Programs.lengthen.Goals as goal

pub returns-clause-lengthened : goal.returns-clause-lengthened
returns-clause-lengthened c =
    elim c.match-push.branch [
      | in-Ok w ↦ rw w.result-is
          (ap (λ ps. lengthened ps c.args.word) (sym c.self.view_is)
          ∙ lengthened_last c.self.inside.list.items c.args.word (c.len-count.result - 1) c.index_mut.result.now (omega (
            arith,
            c.len-count.ensures,
            c.if-count-eq0.false,
          ))
          ∙ ap (λ q. Some (set c.self.inside.list.items (c.len-count.result - 1) q)) (ap (λ p. with_word p c.args.word) (sym c.index_mut.ensures.value)
          ∙ sym w.in-Ok.ensures.ok))
      | in-Err w ↦ rw w.result-is tt
    ]

pub invariant_of-self : goal.invariant_of-self
invariant_of-self c = (
  search rules,
  λ name. c.self.invariant.1 name
      ∙ ap not (sym (same_names c.self.inside.list.items (c.len-count.result - 1) c.push.new.self c.index_mut.result.now name (c.push.ensures.name
      ∙ ap (λ p. p.name) c.index_mut.ensures.value))),
)
