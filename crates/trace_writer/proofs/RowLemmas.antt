-- The line of a row, piece by piece.
use Rattle.std.proofs.Common.{◌≡◌, ℕ, List, [], ◌∷◌, ◌++◌, codes, refl, append_assoc}
use Rattle.std.specs.Fmt.{decimal}
use Rattle.sched_base.specs.declared.rows.Row.{Row}
use Rattle.sched_base.specs.declared.sets.Task.{Task}
use Rattle.sched_edges.specs.Lines.{line_of}
use Rattle.trace_format.specs.Lines.{leaf_name, row_line}

pub row_line_is : (tasks : List Task) (r : Row)
    → row_line tasks r ≡ codes
    "row " ++ (decimal r.processor ++ (32 ∷ (decimal r.start ++ (32 ∷ (decimal r.end ++ (32 ∷ (leaf_name tasks r.leaf ++ 10 ∷ [])))))))
unfolding row_line line_of
row_line_is tasks r = refl

-- the first words and the start, and then the end and a name, after what is there
pub row_in_pieces : (page p start end name : List ℕ)
    → (page ++ ((codes "row " ++ (p ++ 32 ∷ [])) ++ (start ++ 32 ∷ []))) ++ ((end ++ 32 ∷ []) ++ (name ++ 10 ∷ []))
    ≡ page ++ (codes "row " ++ (p ++ (32 ∷ (start ++ (32 ∷ (end ++ (32 ∷ (name ++ 10 ∷ []))))))))
row_in_pieces page p start end name = simp append_assoc
