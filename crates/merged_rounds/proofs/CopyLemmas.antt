-- The last rounds of a schedule that stands as a while before: the merged rows of that while come again.
use Rattle.std.proofs.Common.{◌≡◌, ℕ, zero, suc, ◌+◌, ◌-◌, ◌<◌, ◌≤◌, ◌&&◌, inl, inr, true, false, List, [], ◌∷◌, ◌++◌, length, get_or, le_refl}
use Rattle.std.proofs.Common.{length-set, set, slice_get, take, None, Some, eqb, refl, sym, ap, subst, ◌∙◌, arith}
use Rattle.std.specs.Prelude.{ltb}
use Rattle.std.proofs.lemmas.Bool.{cases_Bool, cases_lt, cases_eq, cond-true, cond-false, eqb-true, le-ltb, lt-ltb}
use Rattle.std.proofs.lemmas.List.{set-set, take_all, take_more}
use Rattle.std.proofs.lemmas.Option.{slice_get-get_or, slice_get_within}
use Rattle.sched_base.specs.declared.rows.Leaf.{Leaf}
use Rattle.sched_base.specs.declared.rows.Leaf.TheVariants.{Empty}
use Rattle.sched_base.specs.declared.rows.Row.{Row}
use Rattle.sched_base.specs.Tables.{lane_of}
use Rattle.run_tree.specs.Plans.{IsPlan, PlanContents, stop_of}
use Rattle.event_core.specs.Rounds.{event_at}
use Rattle.merged_rows.specs.Merging.{shown}
use Rattle.merged_rows.specs.Columns.{Begun, lanes_up_to, last_mark, rows_up_to, shows_last, showing}
use Rattle.merged_rounds.specs.declared.copies.Window.{Window}
use Rattle.merged_rounds.specs.Copies.{AreCopied, begun_before, copied, copied_from, copy_on, is_within, leaf_from}
use Rattle.merged_rounds.specs.Laps.{CanComeRound, ComesAgain}
use Rattle.merged_rounds.proofs.BegunLemmas.{lane_up_to, mark_pushed, new_row, row_begins, shows_by_mark}
use Rattle.merged_rounds.proofs.ChangeLemmas.{set_other, set_same}
use Rattle.merged_rounds.proofs.CountLemmas.{first_event}
use Rattle.merged_rounds.proofs.LapLemmas.{event_later, leaf_is, leaf_later}

-- ---- what the last row shows

-- where one shows a leaf, its last row shows that
mark_showing : (lane : List Begun) (start : ℕ) (leaf : Leaf) → last_mark (showing lane start leaf) ≡ shown leaf + 1
mark_showing lane start leaf = elim (cases_Bool (shows_last lane leaf)) [
  | inl on ↦ ap last_mark (cond-true (shows_last lane leaf) lane (lane ++ new_row start leaf ∷ []) on) ∙ eqb-true (last_mark lane) (shown leaf + 1)
      (shows_by_mark lane leaf ∙ on)
  | inr off ↦ ap last_mark (cond-false (shows_last lane leaf) lane (lane ++ new_row start leaf ∷ []) off) ∙ mark_pushed lane start leaf
]

-- where the last rows show the same, so do these show it or not
shows_alike : (a b : List Begun) (leaf : Leaf) → last_mark a ≡ last_mark b → shows_last a leaf ≡ shows_last b leaf
shows_alike a b leaf same = sym (shows_by_mark a leaf) ∙ ap (λ m. eqb m (shown leaf + 1)) same ∙ shows_by_mark b leaf

-- where the last row shows the same, it goes on
stays : (lane : List Begun) (start : ℕ) (leaf : Leaf) → shows_last lane leaf ≡ true → showing lane start leaf ≡ lane
stays lane start leaf on = cond-true (shows_last lane leaf) lane (lane ++ new_row start leaf ∷ []) on

-- else a row begins
begins : (lane : List Begun) (start : ℕ) (leaf : Leaf) → shows_last lane leaf ≡ false → showing lane start leaf ≡ lane ++ new_row start leaf ∷ []
begins lane start leaf off = cond-false (shows_last lane leaf) lane (lane ++ new_row start leaf ∷ []) off

-- ---- rows that come again

-- one row more
pub copied_more : (w : Window) (lane rows : List Begun) (b : Begun) → copied w lane (rows ++ b ∷ []) ≡ copy_on w (copied w lane rows) b
copied_more w lane [] b = refl
copied_more w lane (x ∷ rows) b = copied_more w (copy_on w lane x) rows b

-- a row that begins before the window isn't in it
none_before : (w : Window) (b : Begun) → b.start ≤ w.from → is_within w b ≡ false
none_before w b l = ap (λ x. x && ltb b.start w.until) (le-ltb w.from b.start l)

-- nor is one that begins behind it
none_behind : (w : Window) (b : Begun) → w.until ≤ b.start → is_within w b ≡ false
none_behind w b l = elim (cases_lt w.from b.start) [
  | inl late ↦ ap (λ x. x && ltb b.start w.until) (lt-ltb w.from b.start late) ∙ le-ltb b.start w.until l
  | inr early ↦ none_before w b early
]

-- one that begins between is in it
some_within : (w : Window) (b : Begun) → w.from < b.start → b.start < w.until → is_within w b ≡ true
some_within w b low high = ap (λ x. x && ltb b.start w.until) (lt-ltb w.from b.start low) ∙ lt-ltb b.start w.until high

-- so that one comes again
pub copy_within : (w : Window) (lane : List Begun) (b : Begun) → w.from < b.start → b.start < w.until → copy_on w lane b ≡ showing lane (b.start + w.ticks)
    b.leaf
copy_within w lane b low high = cond-true (is_within w b) (showing lane (b.start + w.ticks) b.leaf) lane (some_within w b low high)

-- and those don't
pub copy_before : (w : Window) (lane : List Begun) (b : Begun) → b.start ≤ w.from → copy_on w lane b ≡ lane
copy_before w lane b l = cond-false (is_within w b) (showing lane (b.start + w.ticks) b.leaf) lane (none_before w b l)

pub copy_behind : (w : Window) (lane : List Begun) (b : Begun) → w.until ≤ b.start → copy_on w lane b ≡ lane
copy_behind w lane b l = cond-false (is_within w b) (showing lane (b.start + w.ticks) b.leaf) lane (none_behind w b l)

-- what is shown outside of the window doesn't come again
copied_out : (w : Window) (base lane : List Begun) (n : ℕ) (x : Leaf) → is_within w (new_row n x) ≡ false → copied w base (showing lane n x) ≡ copied w base
    lane
copied_out w base lane n x out = elim (cases_Bool (shows_last lane x)) [
  | inl on ↦ ap (copied w base) (stays lane n x on)
  | inr off ↦ ap (copied w base) (begins lane n x off) ∙ copied_more w base lane (new_row n x)
      ∙ cond-false (is_within w (new_row n x)) (showing (copied w base lane) (n + w.ticks) x) (copied w base lane) out
]

-- ---- tick by tick

module _ (p : PlanContents) (q : ℕ) where
  -- at an event a processor shows its leaf, and between events it goes on
  pub begun_on : (n : ℕ) → event_at p n ≡ true → begun_before p q (suc n) ≡ showing (begun_before p q n) n (leaf_from p n q)
  begun_on n on = cond-true (event_at p n) (showing (begun_before p q n) n (leaf_from p n q)) (begun_before p q n) on

  pub begun_off : (n : ℕ) → event_at p n ≡ false → begun_before p q (suc n) ≡ begun_before p q n
  begun_off n off = cond-false (event_at p n) (showing (begun_before p q n) n (leaf_from p n q)) (begun_before p q n) off

  -- what begins at a tick outside of the window doesn't come again
  out_next : (w : Window) (base : List Begun) (n : ℕ) → is_within w (new_row n (leaf_from p n q)) ≡ false → copied w base (begun_before p q (suc n))
      ≡ copied w base (begun_before p q n)
  out_next w base n out = elim (cases_Bool (event_at p n)) [
    | inl on ↦ ap (copied w base) (begun_on n on) ∙ copied_out w base (begun_before p q n) n (leaf_from p n q) out
    | inr off ↦ ap (copied w base) (begun_off n off)
  ]

  -- up to the window nothing comes again
  before_window : (w : Window) (base : List Begun) (n : ℕ) → n ≤ suc w.from → copied w base (begun_before p q n) ≡ base
  before_window w base zero l = refl
  before_window w base (suc n) l = out_next w base n (none_before w (new_row n (leaf_from p n q)) (omega (arith, l))) ∙ before_window w base n
      (omega (arith, l))

  -- nor does more behind it
  behind_window : (w : Window) (base : List Begun) (k n : ℕ) → n ≡ k + w.until → copied w base (begun_before p q n) ≡ copied w base (begun_before p q w.until)
  behind_window w base zero n e = ap (λ m. copied w base (begun_before p q m)) (omega (arith, e))
  behind_window w base (suc k) n e =
      let m = k + w.until in
      let f : n ≡ suc m = omega (arith, e) in
      ap (λ i. copied w base (begun_before p q i)) f
      ∙ out_next w base m (none_behind w (new_row m (leaf_from p m q)) (omega arith))
      ∙ behind_window w base k m refl

-- ---- so many ticks later

-- the rows before tick m are those of the window before tick n, which came again, and the last ones show the same
record Follows (p : PlanContents) (q : ℕ) (w : Window) (base : List Begun) (n m : ℕ) : Type 0 where
  pub same : begun_before p q m ≡ copied w base (begun_before p q n)
  pub last : last_mark (begun_before p q m) ≡ last_mark (begun_before p q n)

module _ (p : PlanContents) (h : IsPlan p) (can : CanComeRound p) (w : Window) (again : ComesAgain p w.from w.ticks) (until : w.until + w.ticks ≡ stop_of p)
    (q : ℕ) (in_tree : q < p.tree.processors) where
  -- it shows the same so many ticks later
  leaf_again : (none : Row) (n : ℕ) → w.from ≤ n → n + w.ticks < stop_of p → leaf_from p (n + w.ticks) q ≡ leaf_from p n q
  leaf_again none n low l =
      sym (leaf_is p (n + w.ticks) (n + 1) q none in_tree) ∙ leaf_later p h can w.from w.ticks again n (n + 1) (n + 1) q none low l in_tree
      ∙ leaf_is p n (n + 1) q none in_tree

  -- one tick more of the window
  step : (base : List Begun) (none : Row) (n : ℕ) → w.from < n → n + w.ticks < stop_of p → Follows p q w base n (n + w.ticks) → Follows p q w base (suc n)
      (suc (n + w.ticks))
  step base none n low l f = elim (cases_Bool (event_at p n)) [
    | inr off ↦ (let off' = there ∙ off in
        record {
          same = begun_off p q m off' ∙ f.same ∙ ap (copied w base) (sym (begun_off p q n off));
          last = ap last_mark (begun_off p q m off') ∙ f.last ∙ ap last_mark (sym (begun_off p q n off));
        })
    | inl on ↦
        (let on' = there ∙ on in
        let now : begun_before p q (suc m) ≡ showing (begun_before p q m) m x = begun_on p q m on' ∙ ap (showing (begun_before p q m) m)
        (leaf_again none n (omega (arith, low)) l) in
        record {
          same = now ∙ shows now ∙ ap (copied w base) (sym (begun_on p q n on));
          last = ap last_mark now ∙ mark_showing (begun_before p q m) m x ∙ sym (mark_showing (begun_before p q n) n x)
              ∙ ap last_mark (sym (begun_on p q n on));
        })
  ]
    where
      m : ℕ
      m = n + w.ticks

      x : Leaf
      x = leaf_from p n q

      there : event_at p m ≡ event_at p n
      there = event_later p h can w.ticks again.turns n (omega (arith, low)) l

      alike : shows_last (begun_before p q m) x ≡ shows_last (begun_before p q n) x
      alike = shows_alike (begun_before p q m) (begun_before p q n) x f.last

      shows : begun_before p q (suc m) ≡ showing (begun_before p q m) m x → showing (begun_before p q m) m x ≡ copied w base (showing (begun_before p q n) n x)
      shows now = elim (cases_Bool (shows_last (begun_before p q n) x)) [
        | inl stay ↦ stays (begun_before p q m) m x (alike ∙ stay) ∙ f.same ∙ ap (copied w base) (sym (stays (begun_before p q n) n x stay))
        | inr new ↦ ap (λ lane. showing lane m x) f.same
            ∙ sym (copy_within w (copied w base (begun_before p q n)) (new_row n x) low (omega (arith, l, until)))
            ∙ sym (copied_more w base (begun_before p q n) (new_row n x))
            ∙ ap (copied w base) (sym (begins (begun_before p q n) n x new))
      ]

  module _ (now : ℕ) (at : now ≡ w.from + w.ticks) (early : now < stop_of p) (on : event_at p now ≡ true) (late : w.until ≤ now) (none : Row) where
    -- what is shown at tick `now`, where the window begins again
    abbrev base : List Begun
    base = showing (begun_before p q now) now (leaf_from p now q)

    -- a round begins at the window's start
    first_on : event_at p w.from ≡ true
    first_on = elim (cases_lt 0 w.from) [
      | inl some ↦ sym (event_later p h can w.ticks again.turns w.from some (omega (arith, early, at))) ∙ ap (event_at p) (sym at) ∙ on
      | inr none' ↦ (let z : w.from ≡ 0 = omega (arith, none') in ap (event_at p) z ∙ first_event p)
    ]

    -- the first tick of the window
    first : Follows p q w base (suc w.from) (suc now)
    first =
        let same : leaf_from p now q ≡ leaf_from p w.from q = ap (λ n. leaf_from p n q) at ∙ leaf_again none w.from (omega arith) (omega (arith, early, at)) in
        record {
          same = begun_on p q now on ∙ sym (before_window p q w base (suc w.from) (omega arith));
          last = ap last_mark (begun_on p q now on) ∙ mark_showing (begun_before p q now) now (leaf_from p now q)
              ∙ ap (λ x. shown x + 1) same ∙ sym (mark_showing (begun_before p q w.from) w.from (leaf_from p w.from q))
              ∙ ap last_mark (sym (begun_on p q w.from first_on));
        }

    -- and all ticks of it
    follows : (k n m : ℕ) → n ≡ suc (w.from + k) → m ≡ n + w.ticks → m ≤ stop_of p → Follows p q w base n m
    follows zero n m e f l =
        let e' : suc w.from ≡ n = omega (arith, e) in
        let f' : suc now ≡ m = omega (arith, e, f, at) in
        subst (λ (j : ℕ). Follows p q w base n j) f' (subst (λ (i : ℕ). Follows p q w base i (suc now)) e' first)
    follows (suc k) n m e f l =
        let n' = suc (w.from + k) in
        let e' : suc n' ≡ n = omega (arith, e) in
        let f' : suc (n' + w.ticks) ≡ m = omega (arith, e, f) in
        let before = follows k n' (n' + w.ticks) refl refl (omega (arith, l, f')) in
        subst (λ (j : ℕ). Follows p q w base n j) f' (subst (λ (i : ℕ). Follows p q w base i (suc (n' + w.ticks))) e' (step base none n' (omega arith)
        (omega (arith, l, f')) before))

    -- all rows of the processor
    pub copied_all : copied_from w now (begun_before p q now) (leaf_from p now q) ≡ begun_before p q (stop_of p)
    copied_all =
        let k = w.until - suc w.from in
        let some : w.from < w.until = omega (arith, early, at, until) in
        let end = follows k w.until (stop_of p) (omega (arith, some)) (sym until) (omega arith) in
        copied_out w base (begun_before p q now) now (leaf_from p now q) (none_behind w (new_row now (leaf_from p now q)) late)
        ∙ behind_window p q w base (now - w.until) now (omega (arith, late))
        ∙ sym end.same

-- ---- one processor

-- the lane that is read
pub lane_read : (end : ℕ) (begun : List (List Begun)) (lanes : List (List Row)) (q : ℕ) → lanes ≡ lanes_up_to 0 end begun → q < length begun →
    lane_of lanes q ≡ rows_up_to q end (get_or begun q [])
lane_read end begun lanes q is l =
    let e : 0 + q ≡ q = omega arith in
    ap (λ ls. lane_of ls q) is ∙ lane_up_to 0 end begun q l ∙ ap (λ n. rows_up_to n end (get_or begun q [])) e

-- and row i of it
pub row_read : (end : ℕ) (begun : List (List Begun)) (lanes : List (List Row)) (q i : ℕ) (r : Row) (b : Begun) → lanes ≡ lanes_up_to 0 end begun →
    q < length begun → slice_get (lane_of lanes q) i ≡ Some r →
    slice_get (get_or begun q []) i ≡ Some b → b ≡ new_row r.start r.leaf
row_read end begun lanes q i r b is l at there =
    let row : slice_get (rows_up_to q end (get_or begun q [])) i ≡ Some r = ap (λ rows. slice_get rows i) (sym (lane_read end begun lanes q is l)) ∙ at in
    let e : Some b ≡ Some (new_row r.start r.leaf) = sym there ∙ row_begins q end i (get_or begun q []) r row in
    cc

-- what stands there, set again
pub set_again : (lanes : List (List Begun)) (q : ℕ) → set lanes q (get_or lanes q []) ≡ lanes
set_again [] q = refl
set_again (lane ∷ lanes) zero = refl
set_again (lane ∷ lanes) (suc q) = ap (λ ls. lane ∷ ls) (set_again lanes q)

-- rows that come again stand behind the others
showing_keeps : (lane : List Begun) (start : ℕ) (leaf : Leaf) (k : ℕ) (b : Begun) → slice_get lane k ≡ Some b → slice_get (showing lane start leaf) k ≡ Some b
showing_keeps lane start leaf k b at = elim (cases_Bool (shows_last lane leaf)) [
  | inl on ↦ ap (λ rows. slice_get rows k) (stays lane start leaf on) ∙ at
  | inr off ↦ ap (λ rows. slice_get rows k) (begins lane start leaf off) ∙ front lane k at
]
  where
    front : (rows : List Begun) (i : ℕ) → slice_get rows i ≡ Some b → slice_get (rows ++ new_row start leaf ∷ []) i ≡ Some b
    front [] i is = absurd (let e : None ≡ Some b = is in cc)
    front (x ∷ rows) zero is = is
    front (x ∷ rows) (suc i) is = front rows i is

-- so do those of a window
copy_keeps : (w : Window) (lane : List Begun) (x : Begun) (k : ℕ) (b : Begun) → slice_get lane k ≡ Some b → slice_get (copy_on w lane x) k ≡ Some b
copy_keeps w lane x k b at = elim (cases_Bool (is_within w x)) [
  | inl on ↦ ap (λ rows. slice_get rows k) (cond-true (is_within w x) (showing lane (x.start + w.ticks) x.leaf) lane on) ∙ showing_keeps lane
      (x.start + w.ticks) x.leaf k b at
  | inr off ↦ ap (λ rows. slice_get rows k) (cond-false (is_within w x) (showing lane (x.start + w.ticks) x.leaf) lane off) ∙ at
]

pub copied_keeps : (w : Window) (lane rows : List Begun) (k : ℕ) (b : Begun) → slice_get lane k ≡ Some b → slice_get (copied w lane rows) k ≡ Some b
copied_keeps w lane [] k b at = at
copied_keeps w lane (x ∷ rows) k b at = copied_keeps w (copy_on w lane x) rows k b (copy_keeps w lane x k b at)

-- ---- the loop over the rows of one processor

module _ (first : List (List Begun)) (q : ℕ) (w : Window) (l : q < length first) where
  abbrev own : List Begun
  own = get_or first q []

  abbrev none_begun : Begun
  none_begun = new_row 0 Empty

  -- of its rows the first i came again
  abbrev pub IsCopiedTo : List (List Begun) → ℕ → Type 0
  IsCopiedTo lanes i = lanes ≡ set first q (copied w (get_or first q []) (take i (get_or first q [])))

  pub copied_none : IsCopiedTo first 0
  copied_none = sym (set_again first q)

  module _ (lanes : List (List Begun)) (i : ℕ) (h : IsCopiedTo lanes i) where
    own_now : get_or lanes q [] ≡ copied w own (take i own)
    own_now = ap (λ ls. get_or ls q []) h ∙ set_same first q (copied w own (take i own)) [] l

    pub still_there : q < length lanes
    still_there = let e = ap length h in let s = length-set first q (copied w own (take i own)) in omega (arith, e, s, l)

    module _ (m : i < length own) where
      pub row_there : slice_get (get_or lanes q []) i ≡ Some (get_or own i none_begun)
      row_there = ap (λ rows. slice_get rows i) own_now ∙ copied_keeps w own (take i own) i (get_or own i none_begun) (slice_get-get_or own i none_begun m)

      pub row_within : i < length (get_or lanes q [])
      row_within = slice_get_within (get_or lanes q []) i (get_or own i none_begun) row_there

      pub copied_next : (lanes' : List (List Begun)) → lanes' ≡ set lanes q (copy_on w (get_or lanes q []) (get_or own i none_begun)) →
          IsCopiedTo lanes' (i + 1)
      copied_next lanes' is =
          let b = get_or own i none_begun in
          is ∙ ap (λ ls. set ls q (copy_on w (get_or lanes q []) b)) h ∙ set-set first q (copied w own (take i own)) (copy_on w (get_or lanes q []) b)
          ∙ ap (set first q) (ap (λ lane. copy_on w lane b) own_now ∙ sym (copied_more w own (take i own) b) ∙ ap (copied w own)
          (sym (take_more own i none_begun m)))

  pub copied_end : (lanes : List (List Begun)) (i : ℕ) → length own ≤ i → IsCopiedTo lanes i → lanes ≡ set first q (copied w own own)
  copied_end lanes i all h = h ∙ ap (λ rows. set first q (copied w own rows)) (take_all i own all)

-- ---- the loop over the processors

module _ (p : PlanContents) (now : ℕ) (w : Window) (first : List (List Begun)) where
  pub are_none : AreCopied p now w first first 0
  are_none = record { long = refl; each = λ q l. absurd (omega (arith, l)); rest = λ q l. refl }

  -- what one processor shows at first, and then its rows
  pub are_next : (lanes then lanes' : List (List Begun)) (n : ℕ) (leaf : Leaf) → AreCopied p now w first lanes n → n < length first → leaf_from p now n ≡ leaf →
      then ≡ set lanes n (showing (get_or lanes n []) now leaf) → lanes' ≡ set then n (copied w (get_or then n []) (get_or then n [])) →
      AreCopied p now w first lanes' (n + 1)
  are_next lanes then lanes' n leaf h l is shows copies = record {
    long = ap length whole ∙ length-set lanes n (copied w base base) ∙ h.long;
    each = λ q m. elim (cases_eq q n) [
      | inl same ↦ ap (λ k. get_or lanes' k []) same ∙ here ∙ ap (λ k. copied_from w now (get_or first k []) (leaf_from p now k)) (sym same)
      | inr ne ↦ ap (λ ls. get_or ls q []) whole ∙ set_other lanes n q (copied w base base) [] ne ∙ h.each q (omega (arith, m, ne))
    ];
    rest = λ q m. ap (λ ls. get_or ls q []) whole ∙ set_other lanes n q (copied w base base) [] (λ e. absurd (omega (arith, m, e)))
        ∙ h.rest q (omega (arith, m));
  }
    where
      base : List Begun
      base = showing (get_or lanes n []) now leaf

      within : n < length lanes
      within = let long = h.long in omega (arith, l, long)

      base_now : get_or then n [] ≡ base
      base_now = ap (λ ls. get_or ls n []) shows ∙ set_same lanes n base [] within

      whole : lanes' ≡ set lanes n (copied w base base)
      whole = copies ∙ ap (λ x. set then n (copied w x x)) base_now ∙ ap (λ ls. set ls n (copied w base base)) shows ∙ set-set lanes n base (copied w base base)

      here : get_or lanes' n [] ≡ copied_from w now (get_or first n []) (leaf_from p now n)
      here =
          ap (λ ls. get_or ls n []) whole ∙ set_same lanes n (copied w base base) [] within
          ∙ ap (λ lane. copied_from w now lane leaf) (h.rest n (le_refl n)) ∙ ap (copied_from w now (get_or first n [])) (sym is)
