-- Rows that went by, processor by processor.
use Rattle.std.proofs.Common.{ℕ, zero, suc, ◌+◌, ◌<◌, ◌≡◌, ◌≢◌, Option, None, Some, List, [], ◌∷◌, ◌++◌, length, take, refl, sym, ap, ◌∙◌, subst}
use Rattle.std.proofs.Common.{arith, append_assoc, append-nil, add-one}
use Rattle.std.specs.Prelude.{IfNone}
use Rattle.sched_base.specs.declared.rows.Row.{Row}
use Rattle.sched_base.specs.Sets.{SetContents}
use Rattle.sched_base.specs.Tables.{all_rows, lane_of}
use Rattle.row_totals.specs.Sums.{NamesAmong}
use Rattle.trace_writer.specs.Finishes.{HaveRoom, AreDoneBy}

-- of these rows some went by, and the others are left
pub record HasNoted (scale : ℕ) (s : SetContents) (rows left : List Row) (old now : List (List ℕ)) : Type 0 where
  pub parts : (done : List Row) × (rows ≡ done ++ left) × ((before : List Row) → AreDoneBy scale s.tasks before old → AreDoneBy scale s.tasks
      (before ++ done) now)
  pub names : NamesAmong (length s.tasks) left
  pub room : HaveRoom s now

pub has_noted_none : (scale : ℕ) (s : SetContents) (rows left : List Row) (f : List (List ℕ)) → left ≡ rows → NamesAmong (length s.tasks) rows →
    HaveRoom s f → HasNoted scale s rows left f f
has_noted_none scale s rows left f same names room = record {
  parts = ([], sym same, λ before done. subst (λ (xs : List Row). AreDoneBy scale s.tasks xs f) (sym (append-nil before)) done);
  names = subst (NamesAmong (length s.tasks)) (sym same) names;
  room = room;
}

-- one more went by
pub has_noted_more : (scale : ℕ) (s : SetContents) (rows left later : List Row) (r : Row) (old now next : List (List ℕ)) → left ≡ r ∷ later →
    HasNoted scale s rows left old now
    → HaveRoom s next → ((before : List Row) → AreDoneBy scale s.tasks before now → AreDoneBy scale s.tasks (before ++ r ∷ []) next) →
    HasNoted scale s rows later old next
has_noted_more scale s rows left later r old now next first h room noted =
    let (done, all, so_far) = h.parts in
    record {
      parts = (
        done ++ r ∷ [],
        all ∙ ap (λ rs. done ++ rs) first ∙ sym (append_assoc done (r ∷ []) later),
        λ before was. subst (λ (xs : List Row). AreDoneBy scale s.tasks xs next) (append_assoc before done (r ∷ [])) (noted (before ++ done)
            (so_far before was)),
      );
      names = (subst (NamesAmong (length s.tasks)) first h.names).1;
      room = room;
    }

-- none is left
pub has_noted_all : (scale : ℕ) (s : SetContents) (rows left : List Row) (old now : List (List ℕ)) → left ≡ [] → HasNoted scale s rows left old now
    → (before : List Row) → AreDoneBy scale s.tasks before old → AreDoneBy scale s.tasks (before ++ rows) now
has_noted_all scale s rows left old now none h before was =
    let (done, all, so_far) = h.parts in
    let whole : done ≡ rows = sym (append-nil done) ∙ sym (all ∙ ap (λ rs. done ++ rs) none) in
    subst (λ (xs : List Row). AreDoneBy scale s.tasks (before ++ xs) now) whole (so_far before was)

-- ---- all processors

rows_next : (lanes : List (List Row)) (p : ℕ) → p < length lanes → all_rows (take (suc p) lanes) ≡ all_rows (take p lanes) ++ lane_of lanes p
rows_next [] p within = absurd (omega (arith, within))
rows_next (lane ∷ lanes) zero within = append-nil lane
rows_next (lane ∷ lanes) (suc p) within =
    ap (λ rows. lane ++ rows) (rows_next lanes p (omega (arith, within))) ∙ sym (append_assoc lane (all_rows (take p lanes)) (lane_of lanes p))

-- one processor more
pub all_next : (lanes : List (List Row)) (p : ℕ) → p < length lanes → all_rows (take (p + 1) lanes) ≡ all_rows (take p lanes) ++ lane_of lanes p
all_next lanes p within = rw add-one (rows_next lanes p within)

-- where nothing is handed out, what is then so is so
pub none_left : {A : Type 0} {P : Type 0} (o : Option A) → ((x : A) → o ≢ Some x) → IfNone o P → P
none_left (Some x) other then = absurd (other x refl)
none_left None other then = then
