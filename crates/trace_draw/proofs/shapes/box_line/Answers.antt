use Rattle.std.proofs.Common.{◌≡◌, ℕ, List, [], ◌∷◌, ◌++◌, codes, decimal, refl, append_assoc}
use Rattle.sched_base.specs.Bytes.{line_feed}
use Rattle.trace_draw.specs.Shapes.{box_line}
use Rattle.trace_draw.proofs.shapes.box_line.Goals as goal

-- a box's line, put together piece by piece
pieces : (a b c d e f g h i look start x y w t m n o p q r : List ℕ) → a ≡ [] → b ≡ a ++ start → c ≡ b ++ look → d ≡ c ++ (x ++ m) → e ≡ d ++ (y ++ n) →
    f ≡ e ++ (w ++ o) → g ≡ f ++ (t ++ p) → h ≡ g ++ q → i ≡ h ++ r
    → i ≡ start ++ (look ++ (x ++ (m ++ (y ++ (n ++ (w ++ (o ++ (t ++ (p ++ (q ++ r))))))))))
pieces a b c d e f g h i look start x y w t m n o p q r e0 e1 e2 e3 e4 e5 e6 e7 e8 = simp (e8, e7, e6, e5, e4, e3, e2, e1, e0, append_assoc) refl

pub returns : goal.returns
unfolding box_line
returns c =
    pieces _ _ _ _ _ _ _ _ _ c.args.look.now (codes "<rect") (codes " x='") (codes "' y='") (codes "' width='") (codes "' height='")
    (decimal c.args.x) (decimal c.args.y) (decimal c.args.width) (decimal c.args.height) (codes "'/>") (line_feed ∷ [])
    c.new-line.ensures c.text.ensures c.text-2.ensures c.add_number.ensures.text c.add_number-2.ensures.text c.add_number-3.ensures.text
    c.add_number-4.ensures.text c.text-3.ensures c.end.ensures
