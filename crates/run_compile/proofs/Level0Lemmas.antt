-- Level 0 as it is made, leaf by leaf.
use Rattle.std.proofs.Common.{◌≡◌, ℕ, zero, suc, ◌+◌, ◌-◌, ◌*◌, ◌<◌, ◌≤◌, List, [], ◌∷◌, drop, map, length, get_or, take, min, sum, refl, ap, ap₂}
use Rattle.std.proofs.Common.{arith, sym, subst, ◌∙◌}
use Rattle.std.proofs.Math.Seq.{drop-cons}
use Rattle.std.proofs.lemmas.List.{length-map, get_or-map}
use Rattle.sched_base.specs.FirstFit.{packed, homes, idles}
use Rattle.sched_base.specs.declared.rows.Leaf.TheVariants.{Task, Idle}
use Rattle.run_tree.specs.declared.kinds.Kind.TheVariants as kind
use Rattle.run_tree.specs.Making.{Making, started, put}
use Rattle.run_tree.specs.Compiled.{pack_items, task_items}
use Rattle.server_pack.specs.declared.packing.Server.{Server}
use Rattle.server_pack.specs.Servers.{server_at, no_server, rates_of, rate_sum, idle_alone, with_idles}
use Rattle.run_tree.specs.Maker.{leaf_count}
use Rattle.tree_laws.specs.Raised.{RatesFit}
use Rattle.tree_laws.proofs.Sizes.{servers_few}
use Rattle.tree_laws.proofs.TaskSteps.{MayCome, tasks_counted, task_step, task_may_come}
use Rattle.tree_laws.proofs.IdleSteps.{IsFilling, idle_skip, idle_may_come, idle_step, asked_few}

-- ---- tasks

-- the making once the first j tasks are in
abbrev pub Holds : ℕ → ℕ → List ℕ → ℕ → Making → Type 0
Holds processors scale rates j m = m ≡ pack_items (task_items 0 (take j rates)) (started processors scale)

module _ (processors scale : ℕ) (rates told : List ℕ) (h : RatesFit processors scale rates) (are : told ≡ homes scale rates) (m : Making) (j : ℕ)
    (is : Holds processors scale rates j m) (l : j < length rates) where
  pub task_asks : MayCome m (get_or rates j 0) (get_or told j 0)
  task_asks =
      let P : Making → ℕ → Type 0 = λ n b. MayCome n (get_or rates j 0) b in
      let Q : Making → Type 0 = λ n. MayCome n (get_or rates j 0) (get_or told j 0) in
      let R : ℕ → Type 0 = λ b. MayCome (pack_items (task_items 0 (take j rates)) (started processors scale)) (get_or rates j 0) b in
      subst Q (sym is) (subst R (ap (λ xs. get_or xs j 0) (sym are)) (task_may_come processors scale rates h j l))

  pub task_count : leaf_count m.tree ≡ j
  task_count = ap (λ (n : Making). leaf_count n.tree) is ∙ tasks_counted processors scale rates h j (omega (arith, l))

  pub task_put : Holds processors scale rates (j + 1) (put (kind.Leaf (Task (record { 0 = j }))) (get_or rates j 0) (get_or told j 0) m)
  task_put =
      let next : suc j ≡ j + 1 = omega arith in
      ap₂ (λ n b. put (kind.Leaf (Task (record { 0 = j }))) (get_or rates j 0) b n) is (ap (λ xs. get_or xs j 0) are)
      ∙ task_step processors scale rates h j l ∙ ap (λ k. pack_items (task_items 0 (take k rates)) (started processors scale)) next

-- ---- idle leaves

abbrev pub idles_of : List Server → List ℕ
idles_of servers = map (λ (s : Server). s.idle) servers

-- what a filled packing tells
pub idles_told : (scale slack : ℕ) (servers : List Server) → idles_of (with_idles (idles scale slack (rates_of servers)) servers) ≡ idles scale slack
    (rates_of servers)
idles_told scale slack [] = each (idles scale slack [])
  where
    each : (rates : List ℕ) → idles_of (map idle_alone rates) ≡ rates
    each [] = refl
    each (r ∷ rates) = ap (λ xs. r ∷ xs) (each rates)
idles_told scale slack (s ∷ servers) = ap (λ xs. min (scale - s.rate) slack ∷ xs) (idles_told scale (slack - min (scale - s.rate) slack) servers)

-- the rates for which the idle leaves are asked
abbrev pub asked_of : ℕ → ℕ → List ℕ → List ℕ
asked_of processors scale rates = idles scale (processors * scale - sum rates) (packed scale rates)

pub idles_asked : (processors scale : ℕ) (rates : List ℕ) (servers filled : List Server) → rates_of servers ≡ packed scale rates → rate_sum servers ≡ sum
    rates →
    filled ≡ with_idles (idles scale (processors * scale - rate_sum servers) (rates_of servers)) servers → idles_of filled ≡ asked_of processors scale rates
idles_asked processors scale rates servers filled are total is =
    ap idles_of is ∙ idles_told scale (processors * scale - rate_sum servers) servers ∙ ap₂ (λ t rs. idles scale (processors * scale - t) rs) total are

pub idle_told : (servers : List Server) (asked : List ℕ) (s : ℕ) → idles_of servers ≡ asked → s < length servers → (server_at servers s).idle ≡ get_or asked s 0
idle_told servers asked s e l = sym (get_or-map (λ (x : Server). x.idle) servers s no_server 0 l) ∙ ap (λ xs. get_or xs s 0) e

pub idles_long : (servers : List Server) (asked : List ℕ) → idles_of servers ≡ asked → length servers ≡ length asked
idles_long servers asked e = sym (length-map servers (λ (x : Server). x.idle)) ∙ ap length e

pub asked_limit : (processors scale : ℕ) (rates : List ℕ) → RatesFit processors scale rates → processors ≤ 32 → length rates ≤ 256 →
    length (asked_of processors scale rates) ≤ 256
asked_limit processors scale rates h few tasks =
    let a = asked_few processors scale rates h in
    let b = servers_few scale rates in
    omega (arith, a, b, few, tasks)

module _ (whole m : Making) (tasks s k rate : ℕ) (asked : List ℕ) (h : IsFilling whole tasks s k (drop s asked) m) (l : s < length asked)
    (is : rate ≡ get_or asked s 0) where
  pub next_asked : IsFilling whole tasks s k (rate ∷ drop (suc s) asked) m
  next_asked =
      let P : List ℕ → Type 0 = λ xs. IsFilling whole tasks s k xs m in
      subst P (drop-cons asked s 0 l ∙ ap (λ r. r ∷ drop (suc s) asked) (sym is)) h

  pub fill_skip : rate ≡ 0 → IsFilling whole tasks (s + 1) k (drop (s + 1) asked) m
  fill_skip none =
      let P : ℕ → Type 0 = λ n. IsFilling whole tasks n k (drop n asked) m in
      subst P (omega arith) (idle_skip whole m tasks s k rate (drop (suc s) asked) next_asked none)

  pub fill_asks : 0 < rate → MayCome m rate s
  fill_asks some = idle_may_come whole m tasks s k rate (drop (suc s) asked) next_asked some

  pub fill_put : 0 < rate → IsFilling whole tasks (s + 1) (k + 1) (drop (s + 1) asked) (put (kind.Leaf (Idle k)) rate s m)
  fill_put some =
      let P : ℕ → Type 0 = λ n. IsFilling whole tasks n (suc k) (drop n asked) (put (kind.Leaf (Idle k)) rate s m) in
      let Q : ℕ → Type 0 = λ n. IsFilling whole tasks (s + 1) n (drop (s + 1) asked) (put (kind.Leaf (Idle k)) rate s m) in
      let a : suc s ≡ s + 1 = omega arith in
      let b : suc k ≡ k + 1 = omega arith in
      subst Q b (subst P a (idle_step whole m tasks s k rate (drop (suc s) asked) next_asked some))

-- where no pack is left, level 0 is whole
pub fill_end : (whole m : Making) (tasks s k : ℕ) (asked : List ℕ) → IsFilling whole tasks s k (drop s asked) m → length asked ≤ s → m ≡ whole
fill_end whole m tasks s k asked h l =
    let P : List ℕ → Type 0 = λ xs. IsFilling whole tasks s k xs m in
    let last : IsFilling whole tasks s k [] m = subst P (nothing s asked l) h in
    last.rest
  where
    nothing : (n : ℕ) (xs : List ℕ) → length xs ≤ n → drop n xs ≡ []
    nothing zero [] l = refl
    nothing zero (x ∷ xs) l = absurd (omega arith)
    nothing (suc n) [] l = refl
    nothing (suc n) (x ∷ xs) l = nothing n xs (omega arith)
