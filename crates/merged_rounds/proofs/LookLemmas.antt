-- What is told of processors, and what is kept of them.
use Rattle.std.proofs.Common.{◌≡◌, ℕ, ◌<◌, ◌≤◌, true, List, length, get_or, slice_get, Option, None, Some, refl, sym, ap, ◌∙◌, arith}
use Rattle.std.proofs.lemmas.Option.{slice_get-get_or, slice_get_within}
use Rattle.sched_base.specs.declared.rows.Leaf.{Leaf}
use Rattle.sched_base.specs.declared.rows.Leaf.TheVariants.{Empty}
use Rattle.sched_base.specs.declared.rows.NodeId.{NodeId}
use Rattle.sched_base.specs.declared.rows.Row.{Row}
use Rattle.sched_base.specs.Tables.{lane_of}
use Rattle.run_tree.specs.Plans.{PlanContents}
use Rattle.sched_laws.proofs.WholeRounds.{length-round}
use Rattle.event_core.specs.Rounds.{rows_of_round}
use Rattle.merged_rows.specs.Columns.{ends_showing, AreChangesTold}
use Rattle.round_looks.specs.Looks.{shown_for, leaf_at, IsLooked}
use Rattle.merged_rounds.specs.Passes.{IsKept}

-- ---- one processor

module _ (p : PlanContents) (start end q : ℕ) (none : Row) (lane : List Row) (before after : Option NodeId) (told : Option Leaf) (k : IsKept p start lane
    before) (h : IsLooked p start end q before after told) where
  -- where nothing is told it shows what the last row does
  pub shown_again : told ≡ None → leaf_at p start end q none ≡ k.leaf
  shown_again is = let (n, was, now, row) = h.again is in row none ∙ k.stays n start was (omega arith)

  pub ends_again : told ≡ None → ends_showing lane k.leaf ≡ true
  ends_again is = let (n, was, now, row) = h.again is in k.last n was

  -- the node that is kept shows the same from here on
  pub stays_of : (o : Option Leaf) → told ≡ o → (n : NodeId) (t : ℕ) → after ≡ Some n → start ≤ t → shown_for p n.0 t ≡ leaf_at p start end q none
  stays_of None is n t e later =
      let (m, was, now, row) = h.again is in
      let e' : Some m ≡ Some n = sym now ∙ e in
      let same : n ≡ m = cc in
      ap (λ (x : NodeId). shown_for p x.0 t) same ∙ k.stays m t was later ∙ sym (shown_again is)
  stays_of (Some leaf) is n t e later = h.stays leaf n t is e later ∙ sym (h.other leaf none is)

-- ---- all processors

module _ (p : PlanContents) (start end : ℕ) (lanes : List (List Row)) (before after : List (Option NodeId)) (told : List (Option Leaf))
    (kept : (q : ℕ) → q < p.tree.processors → IsKept p start (lane_of lanes q) (get_or before q None))
    (looked : (q : ℕ) → q < p.tree.processors → IsLooked p start end q (get_or before q None) (get_or after q None) (get_or told q None)) where
  within : (q : ℕ) (r : Row) → slice_get (rows_of_round p start end) q ≡ Some r → q < p.tree.processors
  within q r at =
      let l = slice_get_within (rows_of_round p start end) q r at in
      let long = length-round p.set.tasks p.tree start end in
      omega (arith, l, long)

  row_is : (q : ℕ) (r : Row) → slice_get (rows_of_round p start end) q ≡ Some r → r.leaf ≡ leaf_at p start end q r
  row_is q r at =
      let rows = rows_of_round p start end in
      let e : Some r ≡ Some (get_or rows q r) = sym at ∙ slice_get-get_or rows q r (slice_get_within rows q r at) in
      let e' : r ≡ get_or rows q r = cc in
      ap (λ (x : Row). x.leaf) e'

  pub are_told : length told ≡ p.tree.processors → AreChangesTold lanes told (rows_of_round p start end)
  are_told long = record {
    long = length-round p.set.tasks p.tree start end ∙ sym long;
    some = λ q r leaf at is. sym (row_is q r at ∙ (looked q (within q r at)).other leaf r is);
    none = λ q r at is.
        let l = within q r at in
        ap (ends_showing (lane_of lanes q)) (row_is q r at ∙ shown_again p start end q r (lane_of lanes q) (get_or before q None) (get_or after q None)
        (get_or told q None) (kept q l) (looked q l) is)
        ∙ ends_again p start end q r (lane_of lanes q) (get_or before q None) (get_or after q None) (get_or told q None) (kept q l) (looked q l) is;
  }

  -- at the end of the round
  pub kept_on : (later : List (List Row)) → start ≤ end → ((q : ℕ) (r : Row) → slice_get (rows_of_round p start end) q ≡ Some r →
      ends_showing (lane_of later q) r.leaf ≡ true)
      → (q : ℕ) → q < p.tree.processors → IsKept p end (lane_of later q) (get_or after q None)
  kept_on later on ends q l =
      let rows = rows_of_round p start end in
      let none : Row = record { processor = 0; start = 0; end = 0; leaf = Empty } in
      let long = length-round p.set.tasks p.tree start end in
      let at = slice_get-get_or rows q none (omega (arith, l, long)) in
      record {
        leaf = leaf_at p start end q none;
        stays = λ n t e le. stays_of p start end q none (lane_of lanes q) (get_or before q None) (get_or after q None) (get_or told q None) (kept q l)
            (looked q l) (get_or told q None) refl n t e (omega (arith, on, le));
        last = λ n e. ends q (get_or rows q none) at;
      }
