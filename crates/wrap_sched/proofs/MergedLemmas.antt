-- The merged rows of the first rounds of a wrapped schedule.
use Rattle.std.proofs.Common.{[], add-zero, ap, arith, filter, length, List, map, refl, replicate, subst, sym, ℕ, ◌*◌, ◌+◌, ◌++◌, ◌-◌, ◌<◌, ◌^◌, ◌∙◌}
use Rattle.std.proofs.Common.{◌≡◌, ◌≤◌, true}
use Rattle.std.proofs.lemmas.List.{append-nil, append_assoc, length-map, take_all}
use Rattle.std.specs.List.{flat_map, range_with_len}
use Rattle.sched_base.specs.declared.rows.Row.{Row}
use Rattle.sched_base.specs.Lanes.{lanes_of}
use Rattle.sched_base.specs.Scale.{Fits, IsScale}
use Rattle.sched_base.specs.Sets.{IsLawful, SetContents}
use Rattle.sched_base.specs.Tables.{IsRound, IsTable, end_after, end_of, rounds_in, row_limit, with_round}
use Rattle.sched_base.proofs.ScheduleLanes.{lanes_of-none, length-lanes_of}
use Rattle.sched_base.proofs.TableLemmas.{IsTable-none, IsTable-with_round}
use Rattle.merged_rows.specs.Merging.{merged}
use Rattle.merged_rows.specs.Columns.{MergedContents}
use Rattle.merged_rows.specs.Lawful.{AreLawful}
use Rattle.merged_rows.proofs.MergedTables.{end_of_all, lawful_rows, merged_none}
use Rattle.wrap_sched.specs.Merged.{AreMergedOf, AreMergedUpTo}
use Rattle.wrap_sched.specs.Spans.{spans}
use Rattle.wrap_sched.specs.Steps.{HeldRound, IsNext, rates, unit_round, unit_rounds}
use Rattle.wrap_sched.specs.Wrapped.{is_point, round_rows, round_spans, slice_rows, wrapped, wrapped_rounds}
use Rattle.wrap_sched.proofs.PatternLemmas.{spans_next}
use Rattle.wrap_sched.proofs.RowNames.{lanes_name}
use Rattle.wrap_sched.proofs.StepLemmas.{filter_next}
use Rattle.wrap_sched.proofs.StretchLemmas.{stretch}
use Rattle.wrap_sched.proofs.TableLemmas.{IsItem, IsReached, first_reached, item_whole, last_reached, next_count, next_end, next_reached, none_end}
use Rattle.wrap_sched.proofs.TableLemmas.{none_rounds, room_from, round_get, round_lanes, round_long, rows_up_to, slice_of, slice_rows_are}
use Rattle.wrap_sched.proofs.TableLemmas.{wrapped_from}

-- ---- the rounds of a slice, one after another

-- the rows up to round i of the slice from unit x up to unit y are merged; so many rounds were before the slice
pub record IsPart (s : SetContents) (scale x y i count : ℕ) (rows : List Row) (now : MergedContents) : Type 0 where
  pub reached : IsReached s scale x y i (lanes_of s.processors rows)
  pub lanes : now.lanes ≡ map merged (lanes_of s.processors rows)
  pub tick : now.end ≡ end_of (lanes_of s.processors rows)
  pub rounds : rounds_in (lanes_of s.processors rows) ≡ count + i
  pub table : IsTable (lanes_of s.processors rows)

module _ (s : SetContents) (scale : ℕ) (lawful : IsLawful s) (is : IsScale s.tasks scale) (x y : ℕ) (forward : x < y) (count : ℕ) where
  -- none of the slice's rounds yet
  pub first_part : (done : List Row) (now : MergedContents) → AreMergedUpTo s.processors (x * scale) count done now
      → IsPart s scale x y 0 count (done ++ rows_up_to s scale x y 0) now
  first_part done now up =
      let e : done ++ rows_up_to s scale x y 0 ≡ done = append-nil done in
      subst (λ (rows : List Row). IsPart s scale x y 0 count rows now) (sym e) (record {
        reached = first_reached s scale lawful is x y forward (lanes_of s.processors done) up.end (length-lanes_of s.processors done);
        lanes = up.lanes;
        tick = up.tick ∙ sym up.end;
        rounds = up.rounds ∙ sym (add-zero count);
        table = up.table;
      })

  -- all of the slice's rounds
  pub last_part : (i : ℕ) (done : List Row) (now : MergedContents) (pattern : List HeldRound) → pattern ≡ unit_rounds s.processors scale
      (rates scale s.tasks) → i ≡ length pattern
      → IsPart s scale x y i count (done ++ rows_up_to s scale x y i) now
      → AreMergedUpTo s.processors (y * scale) (count + length pattern) (done ++ slice_rows scale s.tasks s.processors (slice_of x y)) now
  last_part i done now pattern pattern_is at part =
      let rs = round_spans scale (rates scale s.tasks) in
      let many = ap length pattern_is ∙ length-map rs (unit_round s.processors scale (rates scale s.tasks)) in
      let l : length rs ≤ i = omega (arith, many, at) in
      let e : done ++ rows_up_to s scale x y i ≡ done ++ slice_rows scale s.tasks s.processors (slice_of x y) =
      ap (λ zs. done ++ flat_map (round_rows scale s.tasks s.processors (slice_of x y)) (map (stretch (y - x)) zs)) (take_all i rs l)
      ∙ ap (λ rows. done ++ rows) (sym (slice_rows_are s scale lawful is (slice_of x y) forward)) in
      let end = last_reached s scale lawful is x y forward (lanes_of s.processors (done ++ rows_up_to s scale x y i)) i l part.reached in
      subst (λ (rows : List Row). AreMergedUpTo s.processors (y * scale) (count + length pattern) rows now) e (record {
        lanes = part.lanes;
        tick = part.tick ∙ end;
        end = end;
        rounds = part.rounds ∙ ap (λ n. count + n) at;
        table = part.table;
      })

  module _ (fits : Fits scale s) (early : y ≤ s.horizon) (small : scale ≤ 2 ^ 94) (i : ℕ) (rows : List Row) (now : MergedContents) (part : IsPart s scale x
      y i count rows now)
      (item : HeldRound) (it : IsItem s.processors scale (rates scale s.tasks) i item) where
    abbrev raw : List (List Row)
    raw = lanes_of s.processors rows

    abbrev round : List Row
    round = round_rows scale s.tasks s.processors (slice_of x y) (stretch (y - x) it.round)

    pub part_whole : length round ≡ length now.lanes
    part_whole =
        round_long s scale lawful is fits (slice_of x y) forward (stretch (y - x) it.round)
        ∙ sym (ap length part.lanes ∙ length-map raw merged ∙ length-lanes_of s.processors rows)

    is_round : IsRound (end_of raw) round
    is_round = item_whole s scale lawful is x y forward raw i part.reached item it fits early small

    pub part_round : IsRound now.end round
    part_round = subst (λ (n : ℕ). IsRound n round) (sym part.tick) is_round

    -- a round more
    pub next_part : (all : List Row) (later : MergedContents) → rows ++ round ≡ all → ((lanes : List (List Row)) → now.lanes ≡ map merged lanes →
        later.lanes ≡ map merged (with_round lanes round))
        → later.end ≡ end_after now.end round → IsPart s scale x y (i + 1) count all later
    next_part all later joined onto ends =
        let slice = slice_of x y in
        let r = stretch (y - x) it.round in
        let m = s.processors in
        let long = length-lanes_of m rows in
        let next : lanes_of m (rows ++ round) ≡ with_round raw round = round_lanes s scale lawful is fits slice forward rows r in
        let whole = round_long s scale lawful is fits slice forward r in
        let some = lawful.some_processors in
        let counted = next_count s scale lawful is fits slice forward raw long r in
        let before = part.rounds in
        let end : end_after now.end round ≡ x * scale + r.end =
        end_of_all round now.end (x * scale + r.end) (omega (arith, whole, some)) (λ k row at. ap (λ (z : Row). z.end) (round_get s scale lawful is fits
        slice forward r k row at)) in
        subst (λ (rs : List Row). IsPart s scale x y (i + 1) count rs later) joined (record {
          reached = subst (λ (ls : List (List Row)). IsReached s scale x y (i + 1) ls) (sym next) (next_reached s scale lawful is x y forward raw i
              part.reached item it fits);
          lanes = onto raw part.lanes ∙ ap (map merged) (sym next);
          tick = ends ∙ end ∙ sym (ap end_of next ∙ next_end s scale lawful is fits slice forward raw long r);
          rounds = ap rounds_in next ∙ omega (arith, counted, before);
          table = subst IsTable (sym next) (IsTable-with_round raw round part.table (whole ∙ sym long) is_round);
        })

-- ---- the slices, one after another

-- the rounds of the slices before unit x are merged; `each` is how many a slice has
pub record AreBefore (s : SetContents) (scale each x : ℕ) (now : MergedContents) : Type 0 where
  pub done : List Row
  pub count : ℕ
  pub so_far : AreMergedUpTo s.processors (x * scale) count done now
  pub rows : done ++ flat_map (slice_rows scale s.tasks s.processors) (spans (filter (is_point s.tasks) (range_with_len x (s.horizon - x))) s.horizon)
      ≡ wrapped scale s
  pub rounds : count + each * length (filter (is_point s.tasks) (range_with_len x (s.horizon - x))) ≡ wrapped_rounds scale s

module _ (s : SetContents) (scale : ℕ) (lawful : IsLawful s) (is : IsScale s.tasks scale) where
  pub none_before : (now : MergedContents) (pattern : List HeldRound) → pattern ≡ unit_rounds s.processors scale (rates scale s.tasks) →
      now.lanes ≡ replicate s.processors [] → now.end ≡ 0
      → AreBefore s scale (length pattern) 0 now
  none_before now pattern pattern_is none start =
      let m = s.processors in
      let some = lawful.some_processors in
      let zero_is : 0 ≡ 0 * scale = omega arith in
      let room = room_from s scale lawful is pattern pattern_is in
      record {
        done = [];
        count = 0;
        so_far = record {
          lanes = none ∙ sym (merged_none m) ∙ ap (map merged) (sym (lanes_of-none m));
          tick = start ∙ zero_is;
          end = none_end m (lanes_of m []) some refl ∙ zero_is;
          rounds = none_rounds m (lanes_of m []) some refl;
          table = subst IsTable (sym (lanes_of-none m)) (IsTable-none m);
        };
        rows = wrapped_from s scale;
        rounds = omega (arith, room);
      }

  pub next_before : (each x y : ℕ) (now later : MergedContents) → is_point s.tasks x ≡ true → IsNext (is_point s.tasks) s.horizon x y →
      (before : AreBefore s scale each x now)
      → AreMergedUpTo s.processors (y * scale) (before.count + each) (before.done ++ slice_rows scale s.tasks s.processors (slice_of x y)) later
      → AreBefore s scale each y later
  next_before each x y now later at next before up =
      let f = slice_rows scale s.tasks s.processors in
      let rest : List Row = flat_map f (spans (filter (is_point s.tasks) (range_with_len y (s.horizon - y))) s.horizon) in
      let more = ap (λ xs. each * length xs) (filter_next (is_point s.tasks) s.horizon x y at next) in
      let counted = before.rounds in
      record {
        done = before.done ++ f (slice_of x y);
        count = before.count + each;
        so_far = up;
        rows = append_assoc before.done (f (slice_of x y)) rest
            ∙ ap (λ ss. before.done ++ flat_map f ss) (sym (spans_next (is_point s.tasks) s.horizon x y at next)) ∙ before.rows;
        rounds = omega (arith, more, counted);
      }

  module _ (fits : Fits scale s) (each x : ℕ) (now : MergedContents) (before : AreBefore s scale each x now) (past : s.horizon ≤ x) where
    none_left : s.horizon - x ≡ 0
    none_left = omega (arith, past)

    all_done : before.done ≡ wrapped scale s
    all_done =
        sym (append-nil before.done)
        ∙ sym (ap (λ n. before.done ++ flat_map (slice_rows scale s.tasks s.processors) (spans (filter (is_point s.tasks) (range_with_len x n)) s.horizon))
        none_left)
        ∙ before.rows

    all_counted : before.count ≡ wrapped_rounds scale s
    all_counted =
        let none = ap (λ n. each * length (filter (is_point s.tasks) (range_with_len x n))) none_left in
        let all = before.rounds in
        omega (arith, none, all)

    pub all_merged_rows : AreMergedOf scale s now.lanes
    all_merged_rows = before.so_far.lanes ∙ ap (λ rows. map merged (lanes_of s.processors rows)) all_done

    -- what is so of the merged rows, where they aren't too many
    pub all_lawful : wrapped_rounds scale s * s.processors ≤ row_limit → AreLawful s now.lanes
    all_lawful few =
        let m = s.processors in
        let raw = lanes_of m (wrapped scale s) in
        let table : IsTable raw = subst (λ (rows : List Row). IsTable (lanes_of m rows)) all_done before.so_far.table in
        let count : rounds_in raw ≡ wrapped_rounds scale s = ap (λ rows. rounds_in (lanes_of m rows)) (sym all_done) ∙ before.so_far.rounds ∙ all_counted in
        subst (AreLawful s) (sym all_merged_rows)
        (lawful_rows s raw (wrapped_rounds scale s) (length-lanes_of m (wrapped scale s)) (lanes_name s scale lawful is fits) table count few)
