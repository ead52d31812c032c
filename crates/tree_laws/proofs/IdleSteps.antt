-- The idle leaves, one by one, each put where the servers' rates leave room.
use Rattle.std.proofs.Common.{◌≡◌, ℕ, zero, suc, ◌+◌, ◌-◌, ◌*◌, ◌<◌, ◌≤◌, List, [], ◌∷◌, length, sum, max, ap, arith, sym, subst}
use Rattle.std.proofs.Math.Seq.{take-length}
use Rattle.std.proofs.lemmas.List.{length-append, length-map, get_or-map}
use Rattle.sched_base.specs.FirstFit.{packed, idles}
use Rattle.sched_base.specs.declared.rows.Leaf.TheVariants.{Idle}
use Rattle.run_tree.specs.declared.kinds.Kind.TheVariants as kind
use Rattle.run_tree.specs.Tree.{rate}
use Rattle.run_tree.specs.Making.{Making, started, put}
use Rattle.run_tree.specs.Compiled.{pack_items, task_items, put_idles, first_level}
use Rattle.run_tree.specs.Maker.{leaf_count}
use Rattle.tree_laws.specs.Raised.{RatesFit}
use Rattle.tree_laws.proofs.LeafEntries.{entries}
use Rattle.tree_laws.proofs.IdleLeaves.{CanFill, fill_none, fill_room, fill_put, fill_some}
use Rattle.tree_laws.proofs.FirstLevel as first
use Rattle.tree_laws.proofs.FewPacks.{amounts_long}
use Rattle.tree_laws.proofs.CompiledTree.{each, fit, amounts_are, idles_follow}
use Rattle.tree_laws.proofs.Sizes.{leaves_counted}
use Rattle.tree_laws.proofs.TaskSteps.{MayCome, tasks_counted}

-- level 0 becomes whole once packs from b on are given these amounts, the next idle leaf being number k
pub record IsFilling (whole : Making) (tasks b k : ℕ) (amounts : List ℕ) (m : Making) : Type 0 where
  pub can : CanFill m b amounts
  pub counted : leaf_count m.tree ≡ tasks + k
  pub few : k ≤ b
  pub rest : put_idles b k amounts m ≡ whole

pub idle_skip : (whole m : Making) (tasks b k amount : ℕ) (amounts : List ℕ) → IsFilling whole tasks b k (amount ∷ amounts) m → amount ≡ 0 →
    IsFilling whole tasks (suc b) k amounts m
idle_skip whole m tasks b k zero amounts h e =
    record { can = fill_none m b amounts h.can; counted = h.counted; few = (let few = h.few in omega (arith, few)); rest = h.rest }
idle_skip whole m tasks b k (suc amount) amounts h e = absurd (omega (arith, e))

pub idle_may_come : (whole m : Making) (tasks b k amount : ℕ) (amounts : List ℕ) → IsFilling whole tasks b k (amount ∷ amounts) m → 0 < amount →
    MayCome m amount b
idle_may_come whole m tasks b k zero amounts h some = absurd (omega arith)
idle_may_come whole m tasks b k (suc a) amounts h some =
    let room = fill_room m b a amounts h.can k in
    let long = length-map m.last (rate m.tree) in
    let low = h.can.low in
    record {
      first_level = h.can.one_level;
      pack = omega (arith, low, long);
      some_rate = omega arith;
      rate_fits = room.1;
      within = λ l. (
          let at = get_or-map (rate m.tree) m.last b 0 0 l in
          let f = room.0 (omega (arith, l, long)) in
          omega (arith, at, f));
    }

pub idle_step : (whole m : Making) (tasks b k amount : ℕ) (amounts : List ℕ) → IsFilling whole tasks b k (amount ∷ amounts) m → 0 < amount →
    IsFilling whole tasks (suc b) (suc k) amounts (put (kind.Leaf (Idle k)) amount b m)
idle_step whole m tasks b k zero amounts h some = absurd (omega arith)
idle_step whole m tasks b k (suc a) amounts h some =
    let p = fill_put m b a amounts h.can k in
    let before = leaves_counted m.tree.nodes in
    let after = leaves_counted (put (kind.Leaf (Idle k)) (suc a) b m).tree.nodes in
    let one = ap length p.leaves in
    let both = length-append (entries m.tree.nodes) (record { leaf = Idle k; rate = suc a } ∷ []) in
    let counted = h.counted in
    let few = h.few in
    record { can = fill_some m b a amounts h.can k; counted = omega (arith, before, after, one, both, counted); few = omega (arith, few); rest = h.rest }

-- where all are given, level 0 is whole
pub idle_end : (whole m : Making) (tasks b k : ℕ) → IsFilling whole tasks b k [] m → m ≡ whole
idle_end whole m tasks b k h = h.rest

module _ (processors scale : ℕ) (rates : List ℕ) (h : RatesFit processors scale rates) where
  -- what the servers' rates ask for
  abbrev pub asked : List ℕ
  asked = idles scale (processors * scale - sum rates) (packed scale rates)

  abbrev pub all_tasks : Making
  all_tasks = pack_items (task_items 0 rates) (started processors scale)

  pub asked_are : asked ≡ first.amounts processors scale rates h.some_processors h.some_scale (each processors scale rates h) (fit processors scale rates h)
  asked_are = amounts_are processors scale rates h

  pub asked_few : length asked ≤ max processors (length (packed scale rates))
  unfolding packed
  asked_few = (let a = ap length asked_are in let b = amounts_long processors scale rates h.some_processors h.some_scale (each processors scale rates h)
      (fit processors scale rates h) in omega (arith, a, b))

  pub idle_start : IsFilling (first_level processors scale rates) (length rates) 0 0 asked all_tasks
  idle_start =
      let P : List ℕ → Type 0 = λ xs. CanFill all_tasks 0 xs in
      record {
        can = subst P (sym asked_are) (first.can_fill processors scale rates h.some_processors h.some_scale (each processors scale rates h)
            (fit processors scale rates h));
        counted = (let n = tasks_counted processors scale rates h (length rates) (omega arith) in
            let whole = ap (λ rs. leaf_count (pack_items (task_items 0 rs) (started processors scale)).tree) (take-length rates) in
            omega (arith, n, whole));
        few = omega arith;
        rest = idles_follow processors scale rates h;
      }
