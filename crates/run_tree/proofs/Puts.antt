-- The two cases of a put.
use Rattle.std.proofs.Common.{◌≡◌, ℕ, ◌<◌, ◌≤◌, length, ap}
use Rattle.std.proofs.lemmas.Bool.{lt-ltb, le-ltb}
use Rattle.run_tree.specs.declared.kinds.Kind.{Kind}
use Rattle.run_tree.specs.Making.{Making, put, put_in, joined_at, opened}

pub put_old : (k : Kind) (rate b : ℕ) (m : Making) → b < length m.last → put k rate b m ≡ joined_at k rate b m
unfolding put
put_old k rate b m l = ap (put_in k rate b m) (lt-ltb b (length m.last) l)

pub put_new : (k : Kind) (rate b : ℕ) (m : Making) → length m.last ≤ b → put k rate b m ≡ joined_at k rate (length m.last) (opened m)
unfolding put
put_new k rate b m l = ap (put_in k rate b m) (le-ltb b (length m.last) l)
