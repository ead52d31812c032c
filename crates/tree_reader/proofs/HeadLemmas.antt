-- Where the head of a tree text stops.
use Rattle.std.proofs.Common.{ℕ, ◌-◌, ◌^◌, ◌≡◌, List, Ok, Err, codes, refl}
use Rattle.trace_check.specs.Steps.{next_line, number_after, number_within}
use Rattle.tree_reader.specs.Reading.{tree_head}

pub stops_at_version : (lines : List (List ℕ)) (line : ℕ) → next_line 1 (number_within (codes "run-tree") 1 1) lines ≡ Err line → tree_head lines ≡ Err line
stops_at_version lines line a = rw a refl

pub stops_at_processors : (lines l1 : List (List ℕ)) (v line : ℕ) → next_line 1 (number_within (codes "run-tree") 1 1) lines ≡ Ok (v, l1)
    → next_line 2 (number_within (codes "processors") 1 32) l1 ≡ Err line → tree_head lines ≡ Err line
stops_at_processors lines l1 v line a b = rw (a, b) refl

pub stops_at_horizon : (lines l1 l2 : List (List ℕ)) (v p line : ℕ) → next_line 1 (number_within (codes "run-tree") 1 1) lines ≡ Ok (v, l1)
    → next_line 2 (number_within (codes "processors") 1 32) l1 ≡ Ok (p, l2)
    → next_line 3 (number_within (codes "horizon") 1 (2 ^ 32 - 1)) l2 ≡ Err line → tree_head lines ≡ Err line
stops_at_horizon lines l1 l2 v p line a b c = rw (a, b, c) refl

pub stops_at_scale : (lines l1 l2 l3 : List (List ℕ)) (v p h line : ℕ) → next_line 1 (number_within (codes "run-tree") 1 1) lines ≡ Ok (v, l1)
    → next_line 2 (number_within (codes "processors") 1 32) l1 ≡ Ok (p, l2)
    → next_line 3 (number_within (codes "horizon") 1 (2 ^ 32 - 1)) l2 ≡ Ok (h, l3)
    → next_line 4 (number_after (codes "scale")) l3 ≡ Err line → tree_head lines ≡ Err line
stops_at_scale lines l1 l2 l3 v p h line a b c d = rw (a, b, c, d) refl

pub stops_at_tasks : (lines l1 l2 l3 l4 : List (List ℕ)) (v p h s line : ℕ) → next_line 1 (number_within (codes "run-tree") 1 1) lines ≡ Ok (v, l1)
    → next_line 2 (number_within (codes "processors") 1 32) l1 ≡ Ok (p, l2)
    → next_line 3 (number_within (codes "horizon") 1 (2 ^ 32 - 1)) l2 ≡ Ok (h, l3)
    → next_line 4 (number_after (codes "scale")) l3 ≡ Ok (s, l4)
    → next_line 5 (number_within (codes "tasks") 0 256) l4 ≡ Err line → tree_head lines ≡ Err line
stops_at_tasks lines l1 l2 l3 l4 v p h s line a b c d e = rw (a, b, c, d, e) refl
