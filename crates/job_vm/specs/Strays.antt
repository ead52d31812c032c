-- Programs that name no task of a set.
use Rattle.std.specs.Prelude.{ℕ, not, List, Option, option_map}
use Rattle.std.specs.List.{find, list_any}
use Rattle.std.specs.Str.{bytes_eq}
use Rattle.sched_base.specs.declared.sets.Task.{Task}
use Rattle.job_vm.specs.Programs.{Program}

-- the line that begins the first program of no task
unfoldable pub first_stray : List Task → List Program → Option ℕ
first_stray tasks programs = option_map (λ p. p.line) (find (λ p. not (list_any (λ t. bytes_eq t.name p.name) tasks)) programs)
