-- The merged rows of a plan as they begin, round by round, and those of the last rounds where they come again.
use Rattle.std.proofs.Common.{◌≡◌, ℕ, zero, suc, ◌+◌, ◌-◌, ◌*◌, ◌<◌, ◌≤◌, inl, inr, true, false, List, [], ◌∷◌, length, map, get_or, replicate, None}
use Rattle.std.proofs.Common.{Some, refl, sym, ap, subst, ◌∙◌, arith, zero-add}
use Rattle.std.specs.List.{range_with_len}
use Rattle.std.proofs.lemmas.Bool.{cases_Bool, cases_lt}
use Rattle.std.proofs.lemmas.List.{ext_get_or}
use Rattle.std.proofs.lemmas.List.FromFn.{get_or-range_with_len, length-range_with_len}
use Rattle.sched_base.specs.declared.rows.Leaf.{Leaf}
use Rattle.sched_base.specs.declared.rows.Leaf.TheVariants.{Empty}
use Rattle.sched_base.specs.declared.rows.Row.{Row}
use Rattle.sched_base.specs.Lanes.{lanes_of}
use Rattle.sched_base.specs.Tables.{IsRound, IsTable, end_after, end_of, row_limit, rounds_in}
use Rattle.sched_base.proofs.ScheduleLanes.{lanes_of-none, length-lanes_of}
use Rattle.sched_base.proofs.TableLemmas.{IsTable-none, IsTable-with_round}
use Rattle.run_tree.specs.Plans.{IsPlan, PlanContents, rounds_of, stop_of}
use Rattle.sched_laws.proofs.WholeRounds.{length-round, round_get}
use Rattle.event_core.specs.Cores.{places_of}
use Rattle.event_core.specs.Rounds.{IsRoundStart, IsRoundUpTo, event_at, rounds_before, rows_before, rows_of_round}
use Rattle.event_core.proofs.PlanRounds.{is_round, next_count, next_end, next_lanes, no_end, no_round}
use Rattle.event_core.proofs.RoundsInOrder.{next_rounds, no_rounds, no_rows}
use Rattle.merged_rows.specs.Columns.{AreGoingOn, AreShown, Begun, going_on, lanes_up_to, showing}
use Rattle.merged_rows.specs.Merging.{merged}
use Rattle.merged_rows.proofs.ChangedLemmas.{shown_round}
use Rattle.merged_rows.proofs.MergedTables.{end_of_all, merged_none}
use Rattle.merged_rounds.specs.declared.copies.Window.{Window}
use Rattle.merged_rounds.specs.declared.sources.Source.{Source}
use Rattle.merged_rounds.specs.declared.sums.RoundSum.{RoundSum}
use Rattle.merged_rounds.specs.Changes.{leaves_in}
use Rattle.merged_rounds.specs.Copies.{AreCopied, IsLastLap, begun_before, copied_from, leaf_from}
use Rattle.merged_rounds.specs.Laps.{AreTurns, ComesAgain, IsSumUpTo}
use Rattle.merged_rounds.specs.Replays.{IsSourceOf}
use Rattle.merged_rounds.specs.Standings.{StandsAlike}
use Rattle.merged_rounds.proofs.BegunLemmas.{same_begun}
use Rattle.merged_rounds.proofs.ChangeLemmas.{all_in, leaf_in}
use Rattle.merged_rounds.proofs.CopyLemmas.{begun_off, begun_on, copied_all}
use Rattle.merged_rounds.proofs.CountLemmas.{first_event}
use Rattle.merged_rounds.proofs.LapLemmas.{leaf_is, row_shows}

-- ---- the rows of all processors

-- of so many processors from number a on
abbrev pub lanes_from : PlanContents → ℕ → ℕ → ℕ → List (List Begun)
lanes_from p n a zero = []
lanes_from p n a (suc k) = begun_before p a n ∷ lanes_from p n (a + 1) k

abbrev pub all_before : PlanContents → ℕ → List (List Begun)
all_before p n = lanes_from p n 0 p.tree.processors

length-lanes_from : (p : PlanContents) (n a k : ℕ) → length (lanes_from p n a k) ≡ k
length-lanes_from p n a zero = refl
length-lanes_from p n a (suc k) = ap suc (length-lanes_from p n (a + 1) k)

lane_from : (p : PlanContents) (n a k q : ℕ) → q < k → get_or (lanes_from p n a k) q [] ≡ begun_before p (a + q) n
lane_from p n a zero q l = absurd (omega (arith, l))
lane_from p n a (suc k) zero l = let e : a ≡ a + 0 = omega arith in ap (λ i. begun_before p i n) e
lane_from p n a (suc k) (suc q) l = let e : a + 1 + q ≡ a + suc q = omega arith in lane_from p n (a + 1) k q (omega (arith, l)) ∙ ap (λ i. begun_before p i n) e

long_before : (p : PlanContents) (n : ℕ) → length (all_before p n) ≡ p.tree.processors
long_before p n = length-lanes_from p n 0 p.tree.processors

pub lane_before : (p : PlanContents) (n q : ℕ) → q < p.tree.processors → get_or (all_before p n) q [] ≡ begun_before p q n
lane_before p n q l = lane_from p n 0 p.tree.processors q l ∙ ap (λ i. begun_before p i n) (zero-add q)

-- no row begins before tick 0
none_at_first : (p : PlanContents) (n a k : ℕ) → lanes_up_to a n (lanes_from p 0 a k) ≡ replicate k []
none_at_first p n a zero = refl
none_at_first p n a (suc k) = ap (λ lanes. [] ∷ lanes) (none_at_first p n (a + 1) k)

-- ---- one round

-- in a round a processor shows one leaf
still : (p : PlanContents) (q start end : ℕ) → IsRoundUpTo p start end → (k n : ℕ) → n ≡ suc (start + k) → n ≤ end → begun_before p q n ≡ showing
    (begun_before p q start) start (leaf_from p start q)
still p q start end round zero n e l = let f : n ≡ suc start = omega (arith, e) in ap (begun_before p q) f ∙ begun_on p q start round.event
still p q start end round (suc k) n e l =
    let m = suc (start + k) in
    let f : n ≡ suc m = omega (arith, e) in
    ap (begun_before p q) f ∙ begun_off p q m (round.quiet m (omega arith) (omega (arith, l, f))) ∙ still p q start end round k m refl (omega (arith, l, f))

shown_in_round : (p : PlanContents) (q start end : ℕ) → IsRoundUpTo p start end → begun_before p q end ≡ showing (begun_before p q start) start
    (leaf_from p start q)
shown_in_round p q start end round = let up = round.above in still p q start end round (end - suc start) end (omega (arith, up)) (omega arith)

-- the rounds up to a tick: their merged rows, as they begin, and what is known of their table
pub record IsBegunTo (p : PlanContents) (n : ℕ) : Type 0 where
  pub lanes : lanes_up_to 0 n (all_before p n) ≡ map merged (lanes_of p.tree.processors (rows_before p n))
  pub table : IsTable (lanes_of p.tree.processors (rows_before p n))
  pub end : end_of (lanes_of p.tree.processors (rows_before p n)) ≡ n
  pub rounds : rounds_in (lanes_of p.tree.processors (rows_before p n)) ≡ rounds_before p n

begun_none : (p : PlanContents) → IsPlan p → IsBegunTo p 0
begun_none p h =
    let m = p.tree.processors in
    let lanes : lanes_of m (rows_before p 0) ≡ lanes_of m [] = ap (lanes_of m) (no_rows p) in
    record {
      lanes = none_at_first p 0 0 m ∙ sym (merged_none m) ∙ ap (map merged) (sym (lanes_of-none m) ∙ sym lanes);
      table = subst IsTable (sym (lanes ∙ lanes_of-none m)) (IsTable-none m);
      end = ap end_of lanes ∙ no_end p h;
      rounds = ap rounds_in lanes ∙ no_round p h ∙ sym (no_rounds p);
    }

module _ (p : PlanContents) (h : IsPlan p) (start end : ℕ) (round : IsRoundUpTo p start end) where
  all_shown : AreShown (lanes_up_to 0 start (all_before p start)) (range_with_len 0 p.tree.processors) (leaves_in p start end) (rows_of_round p start end)
  all_shown =
      let told = all_in p start end in
      record {
        long = length-round p.set.tasks p.tree start end ∙ sym told.long;
        each = λ q r at. (let s = row_shows p start end q r at in leaf_in p start end q r s.0 ∙ ap (λ (x : Leaf). Some x) (sym s.1));
        rest = λ q r at none.
            let s = row_shows p start end q r at in
            absurd (none q (let long = length-range_with_len 0 p.tree.processors in omega (arith, long, s.0)) (get_or-range_with_len 0 p.tree.processors q 0
            s.0 ∙ zero-add q));
      }

  all_going : AreGoingOn (all_before p start) start (range_with_len 0 p.tree.processors) (leaves_in p start end) (all_before p end)
      (length (range_with_len 0 p.tree.processors))
  all_going = record {
    long = long_before p end ∙ sym (long_before p start);
    each = λ q l.
        let none : Row = record { processor = 0; start = 0; end = 0; leaf = Empty } in
        let long = long_before p start in
        let in_tree : q < p.tree.processors = omega (arith, l, long) in
        let told : get_or (leaves_in p start end) q None ≡ Some (leaf_from p start q) = leaf_in p start end q none in_tree ∙ ap (λ (x : Leaf). Some x)
        (leaf_is p start end q none in_tree) in
        inl (
        lane_before p end q in_tree ∙ shown_in_round p q start end round ∙ ap (λ lane. showing lane start (leaf_from p start q))
        (sym (lane_before p start q in_tree))
        ∙ ap (going_on (get_or (all_before p start) q []) start) (sym told)
        );
  }

  begun_next : IsBegunTo p start → IsBegunTo p end
  begun_next before =
      let m = p.tree.processors in
      let rows = rows_of_round p start end in
      let old = lanes_of m (rows_before p start) in
      let long = length-lanes_of m (rows_before p start) in
      let now = next_lanes p h start end round in
      let here = is_round p h start end round in
      let length_rows = length-round p.set.tasks p.tree start end in
      let some = h.sized.some_processors in
      let to : end_after start rows ≡ end = end_of_all rows start end (omega (arith, length_rows, some)) (λ k row at. ap (λ (x : Row). x.end)
      (round_get p.set.tasks p.tree start end k row at)) in
      let there : IsRound (end_of old) rows = subst (λ (n : ℕ). IsRound n rows) (sym before.end) here in
      record {
        lanes = ap (λ n. lanes_up_to 0 n (all_before p end)) (sym to)
            ∙ shown_round (all_before p start) start (range_with_len 0 m) (leaves_in p start end) (all_before p end) rows old (length_rows
            ∙ sym (long_before p start)) here before.lanes all_shown all_going
            ∙ ap (map merged) (sym now);
        table = subst IsTable (sym now) (IsTable-with_round old rows before.table (length_rows ∙ sym long) there);
        end = ap end_of now ∙ next_end p h start end round old long;
        rounds = ap rounds_in now ∙ next_count p h start end round old long ∙ ap (λ n. n + 1) before.rounds ∙ sym (next_rounds p start end round);
      }

-- ---- all rounds

-- the last event before a tick
record IsLastEvent (p : PlanContents) (n : ℕ) : Type 0 where
  pub start : ℕ
  pub before : start < n
  pub on : event_at p start ≡ true
  pub quiet : (i : ℕ) → start < i → i < n → event_at p i ≡ false

event_past : (p : PlanContents) (n : ℕ) → event_at p n ≡ false → IsLastEvent p n → IsLastEvent p (suc n)
event_past p n off last =
    let soon = last.before in
    record {
      start = last.start;
      before = omega (arith, soon);
      on = last.on;
      quiet = λ i low high. elim (cases_lt i n) [
        | inl early ↦ last.quiet i low early
        | inr late ↦ (let e : i ≡ n = omega (arith, late, high) in ap (event_at p) e ∙ off)
      ];
    }

event_here : (p : PlanContents) (n : ℕ) → event_at p n ≡ true → IsLastEvent p (suc n)
event_here p n on = record { start = n; before = omega arith; on = on; quiet = λ i low high. absurd (omega (arith, low, high)) }

last_event : (p : PlanContents) (n : ℕ) → IsLastEvent p (suc n)
last_event p zero = event_here p 0 (first_event p)
last_event p (suc n) = elim (cases_Bool (event_at p (suc n))) [
  | inl on ↦ event_here p (suc n) on
  | inr off ↦ event_past p (suc n) off (last_event p n)
]

pub begun_to : (p : PlanContents) → IsPlan p → (most n : ℕ) → n ≤ most → n ≤ stop_of p → IsRoundStart p n → IsBegunTo p n
begun_to p h most zero l early begins = begun_none p h
begun_to p h zero (suc n) l early begins = absurd (omega (arith, l))
begun_to p h (suc most) (suc n) l early begins =
    let last = last_event p n in
    let before = last.before in
    let round : IsRoundUpTo p last.start (suc n) = record { event = last.on; above = before; below = early; quiet = last.quiet; last = begins } in
    begun_next p h last.start (suc n) round (begun_to p h most last.start (omega (arith, before, l)) (omega (arith, before, early)) (inr last.on))

-- ---- the last rounds

module _ (p : PlanContents) (h : IsPlan p) (source : Source) (belongs : IsSourceOf p source) (ticks : ℕ) (last : IsLastLap p source ticks)
    (alike : StandsAlike p (source.tick - ticks) source.tick)
    (sum : RoundSum) (before : IsSumUpTo p source.tick sum) (is : sum.rows.lanes ≡ lanes_up_to 0 sum.rows.end sum.rows.begun) where
  here : IsRoundStart p source.tick
  here = (belongs.again last.replays).event

  -- the rows at hand begin as those of all rounds so far
  rows_begin : sum.rows.begun ≡ all_before p source.tick
  rows_begin =
      let now = begun_to p h source.tick source.tick (omega arith) (let early = last.early in omega (arith, early)) here in
      same_begun source.tick sum.rows.begun (all_before p source.tick) (
      ap (λ n. lanes_up_to 0 n sum.rows.begun) (sym before.tick) ∙ sym is ∙ before.lanes ∙ sym now.lanes
      )

  pub many_begun : length sum.rows.begun ≡ p.tree.processors
  many_begun = ap (λ (ls : List (List Begun)). length ls) rows_begin ∙ long_before p source.tick

  module _ (w : Window) (from : w.from ≡ source.tick - ticks) (until : w.until ≡ stop_of p - ticks) (later : w.ticks ≡ ticks) (lanes : List (List Begun))
      (copies : AreCopied p source.tick w sum.rows.begun lanes p.tree.processors) where
    comes : ComesAgain p w.from w.ticks
    comes =
        let gone = last.gone in
        let at : source.tick ≡ w.from + w.ticks = omega (arith, gone, from, later) in
        record {
          turns = subst (AreTurns p) (sym later) last.turns;
          places = ap (places_of p) (sym at) ∙ alike.places ∙ ap (places_of p) (sym from);
        }

    all_copied : lanes ≡ all_before p (stop_of p)
    all_copied =
        let gone = last.gone in
        let early = last.early in
        let left = last.left in
        let long = copies.long in
        let to = long_before p (stop_of p) in
        let none : Row = record { processor = 0; start = 0; end = 0; leaf = Empty } in
        ext_get_or [] lanes (all_before p (stop_of p)) (omega (arith, long, many_begun, to)) (λ q l.
        let in_tree : q < p.tree.processors = omega (arith, l, long, many_begun) in
        copies.each q in_tree
        ∙ ap (λ lane. copied_from w source.tick lane (leaf_from p source.tick q)) (ap (λ (ls : List (List Begun)). get_or ls q []) rows_begin
        ∙ lane_before p source.tick q in_tree)
        ∙ copied_all p h (belongs.again last.replays).can w comes (omega (arith, until, later, gone, early)) q in_tree source.tick
        (omega (arith, gone, from, later)) early begins (omega (arith, until, left)) none
        ∙ sym (lane_before p (stop_of p) q in_tree))
      where
        begins : event_at p source.tick ≡ true
        begins = elim here [
          | inl over ↦ absurd (let soon = last.early in omega (arith, over, soon))
          | inr on ↦ on
        ]

    -- they are all rounds then
    pub copies_sum : (next : RoundSum) → next.rounds ≡ rounds_of p → next.rounds * p.tree.processors ≤ row_limit → next.rows.end ≡ stop_of p →
        next.rows.lanes ≡ lanes_up_to 0 next.rows.end lanes → IsSumUpTo p (stop_of p) next
    copies_sum next count few end shows =
        let all = begun_to p h (stop_of p) (stop_of p) (omega arith) (omega arith) (inl refl) in
        record {
          count = count;
          few = few;
          lanes = shows ∙ ap (λ n. lanes_up_to 0 n lanes) end ∙ ap (lanes_up_to 0 (stop_of p)) all_copied ∙ all.lanes;
          tick = end;
          table = all.table;
          end = all.end;
          rounds = all.rounds;
        }
