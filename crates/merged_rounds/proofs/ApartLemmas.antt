-- Idle leaves that stand apart.
use Rattle.std.proofs.Common.{◌≡◌, ◌≢◌, ℕ, ◌+◌, ◌<◌, ◌≤◌, inl, inr, List, length, get_or, None, true, sym, ap, ◌∙◌, arith}
use Rattle.std.proofs.lemmas.Bool.{cases_lt}
use Rattle.std.proofs.lemmas.List.{get_or-map, length-map}
use Rattle.sched_base.specs.declared.rows.NodeId.{NodeId}
use Rattle.run_tree.specs.Tree.{IsPack, Tree, dual, leaf, member, members, numbers}
use Rattle.run_tree.specs.TreeOfSet.{is_idle}
use Rattle.hyperperiod_laws.specs.Hyperperiods.{IdlesApart}
use Rattle.merged_rounds.specs.Laps.{IsApartAt}

-- no idle leaf is among these members from one place up to another
abbrev pub NoIdle : Tree → List ℕ → ℕ → ℕ → Type 0
NoIdle t ms from to = (k : ℕ) → from ≤ k → k < to → is_idle (leaf t (get_or ms k 0)) ≡ true → ⊥

pub number_at : (ids : List NodeId) (k : ℕ) (d : NodeId) → k < length ids → get_or (numbers ids) k 0 ≡ (get_or ids k d).0
number_at ids k d l = get_or-map (λ (n : NodeId). n.0) ids k d 0 l

pub length-numbers : (ids : List NodeId) → length (numbers ids) ≡ length ids
length-numbers ids = length-map ids (λ (n : NodeId). n.0)

module _ (t : Tree) (p : ℕ) (ids : List NodeId) (are : numbers ids ≡ members t p) where
  count_is : length (members t p) ≡ length ids
  count_is = ap length (sym are) ∙ length-numbers ids

  none_at : (from to : ℕ) → NoIdle t (numbers ids) from to → (k : ℕ) → from ≤ k → k < to → is_idle (leaf t (member t p k)) ≡ true → ⊥
  none_at from to none k low high on = none k low high (ap (λ (ms : List ℕ). is_idle (leaf t (get_or ms k 0))) are ∙ on)

  -- none at all
  pub apart_none : (first : ℕ) → NoIdle t (numbers ids) 0 first → first ≡ length ids → IsApartAt t p
  apart_none first none all = record {
    one = λ j k lj lk on other. absurd (none_at 0 first none j (omega arith) (omega (arith, lj, all, count_is)) on);
    root = λ one on. absurd (none_at 0 first none 0 (omega arith) (omega (arith, one, all, count_is)) on);
  }

  -- a root of one member
  pub apart_root : length ids ≡ 1 → dual t p ≡ None → IsApartAt t p
  apart_root one root = record {
    one = λ j k lj lk on other. omega (arith, lj, lk, one, count_is);
    root = λ _ _. root;
  }

  -- one of several
  pub apart_one : (first second : ℕ) → NoIdle t (numbers ids) 0 first → NoIdle t (numbers ids) (first + 1) second → second ≡ length ids → length ids ≢ 1 →
      IsApartAt t p
  apart_one first second before after all many = record {
    one = λ j k lj lk on other.
        let at : (m : ℕ) → m < length (members t p) → is_idle (leaf t (member t p m)) ≡ true → m ≡ first =
        (λ m l idle. elim (cases_lt m first) [
          | inl low ↦ absurd (none_at 0 first before m (omega arith) low idle)
          | inr high ↦ elim (cases_lt first m) [
            | inl past ↦ absurd (none_at (first + 1) second after m (omega (arith, past)) (omega (arith, l, all, count_is)) idle)
            | inr most ↦ omega (arith, high, most)
          ]
        ]) in
        at j lj on ∙ sym (at k lk other);
    root = λ one on. absurd (many (omega (arith, one, count_is)));
  }

-- where that is so of each pack
pub all_apart : (t : Tree) → ((p : ℕ) → p < length t.nodes → IsPack t p → IsApartAt t p) → IdlesApart t
all_apart t each = record {
  one = λ p j k i lj lk on other. (each p i.0 i).one j k lj lk on other;
  root = λ p i one on. (each p i.0 i).root one on;
}
