-- One mode of several and its run: what holds of it where it is written.
use Rattle.std.proofs.Common.{◌≡◌, ℕ, zero, suc, ◌*◌, ◌≤◌, List, [], ◌∷◌, ◌++◌, length, Option, Some, None, option_map, refl, sym, ◌∙◌, ap, subst}
use Rattle.std.specs.Prelude.{slice_get, codes, decimal}
use Rattle.std.specs.List.{AllZip}
use Rattle.sched_base.specs.Tables.{Table, row_limit}
use Rattle.run_tree.specs.Plans.{PlanContents, rounds_of}
use Rattle.plan_rounds.specs.PlanRows.{plan_rows}
use Rattle.exec_lanes.specs.declared.answers.Executed.{Executed}
use Rattle.mode_join.specs.declared.mode.Mode.{Mode}
use Rattle.mode_join.specs.Modes.{ModesContents, AreModes}
use Rattle.mode_switch.specs.Runs.{IsRunOf}
use Rattle.mode_switch.proofs.RunLemmas.{IsNext, next_mode}
use Rattle.trace_format.specs.Conditions.{AreOnTime}
use Rattle.row_totals.specs.Sums.{totals_of}
use Rattle.sched_edges.specs.Lines.{line_of}
use Rattle.trace_format.specs.declared.versions.Version.TheVariants.{One}
use Rattle.pure_commands.specs.SetTexts.{schedule_text}
use Rattle.run_tool.specs.ModeTexts.{mode_part}

-- the number of a mode, and its start and its horizon in units
abbrev mode_head : ℕ → ℕ → ℕ → List ℕ
mode_head j start horizon = line_of (codes "mode") (decimal j ∷ decimal start ∷ decimal horizon ∷ [])

-- what is told of an item tells that there is one
held : {A B : Type 0} (f : A → B) (o : Option A) (y : B) → option_map f o ≡ Some y → (x : A) × (o ≡ Some x) × (f x ≡ y)
held f None y e = absurd (let bad : ◌≡◌ {A = Option _} None (Some y) = e in cc)
held f (Some x) y e = let same : Some (f x) ≡ Some y = e in (x, refl, (cc))

zip_at : {A B : Type 0} (R : A → B → Type 0) (xs : List A) (ys : List B) (j : ℕ) (x : A) → AllZip R xs ys → slice_get xs j ≡ Some x
    → (y : B) × (slice_get ys j ≡ Some y) × R x y
zip_at R [] ys j x zip at = absurd (let bad : ◌≡◌ {A = Option _} None (Some x) = at in cc)
zip_at R (a ∷ xs) [] j x zip at = absurd zip
zip_at R (a ∷ xs) (b ∷ ys) zero x zip at =
    let is : Some a ≡ Some x = at in
    let same : a ≡ x = cc in
    (b, refl, subst (λ z. R z b) same zip.0)
zip_at R (a ∷ xs) (b ∷ ys) (suc j) x zip at = zip_at R xs ys j x zip.1 at

module _ (modes : ModesContents) (are : AreModes modes) (j : ℕ) (p : PlanContents)
    (plan : option_map (λ (x : Mode). x.plan) (slice_get modes.modes j) ≡ Some p) where
  next : (n : ℕ) × IsNext modes j p n
  next =
      let (m, at, same) = held (λ (x : Mode). x.plan) (slice_get modes.modes j) p plan in
      (m.rounds, next_mode modes are j p m.rounds plan (ap (option_map (λ (x : Mode). x.rounds)) at))

  pub mode_on_time : AreOnTime p.set.tasks
  mode_on_time = subst (λ (q : PlanContents). AreOnTime q.set.tasks) next.1.plan next.1.is.can_join.can_repeat.no_offset

  pub mode_is_short : rounds_of p * p.tree.processors ≤ row_limit
  mode_is_short = subst (λ (n : ℕ). n * p.tree.processors ≤ row_limit) next.1.count next.1.few

  module _ (runs : List Executed) (zip : AllZip IsRunOf modes.modes runs) where
    run : (e : Executed) × (slice_get runs j ≡ Some e) × IsRunOf next.1.mode e
    run = zip_at IsRunOf modes.modes runs j next.1.mode zip next.1.at

    pub mode_rows : (t : Table) → option_map (λ (e : Executed). e.table) (slice_get runs j) ≡ Some t → t.lanes ≡ plan_rows p
    mode_rows t told =
        let (e, at, is) = run in
        let one : Some t ≡ Some e.table = sym told ∙ ap (option_map (λ (x : Executed). x.table)) at in
        let same : t ≡ e.table = cc in
        ap (λ (x : Table). x.lanes) same ∙ is.table ∙ ap plan_rows next.1.plan

    pub mode_totals : (ticks : List ℕ) → option_map (λ (e : Executed). e.totals.ticks) (slice_get runs j) ≡ Some ticks
        → ticks ≡ totals_of (length p.set.tasks) (plan_rows p)
    mode_totals ticks told =
        let (e, at, is) = run in
        let one : Some ticks ≡ Some e.totals.ticks = sym told ∙ ap (option_map (λ (x : Executed). x.totals.ticks)) at in
        let same : ticks ≡ e.totals.ticks = cc in
        same ∙ is.totals ∙ ap (λ (q : PlanContents). totals_of (length q.set.tasks) (plan_rows q)) next.1.plan

  -- the head and the rows are the mode's text
  pub mode_texts : (start horizon : ℕ) (head : List ℕ) → option_map (λ (x : Mode). x.start) (slice_get modes.modes j) ≡ Some start → horizon ≡ p.set.horizon
      → head ≡ mode_head j start horizon → (m : Mode) → slice_get modes.modes j ≡ Some m → head ++ schedule_text One p ≡ mode_part j m
  mode_texts start horizon head begins lasts is m at =
      let of_plan : Some p ≡ Some m.plan = sym plan ∙ ap (option_map (λ (x : Mode). x.plan)) at in
      let one : p ≡ m.plan = cc in
      let of_start : Some start ≡ Some m.start = sym begins ∙ ap (option_map (λ (x : Mode). x.start)) at in
      let first : start ≡ m.start = cc in
      let long : horizon ≡ m.plan.set.horizon = lasts ∙ ap (λ (q : PlanContents). q.set.horizon) one in
      let start_of : head ≡ mode_head j m.start m.plan.set.horizon = is ∙ (λ i. mode_head j (first i) (long i)) in
      λ i. start_of i ++ schedule_text One (one i)
