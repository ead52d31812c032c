-- Lines, piece by piece.
use Rattle.std.proofs.Common.{◌≡◌, ℕ, List, [], ◌∷◌, ◌++◌, refl, ap, ◌∙◌, sym, append_assoc}
use Rattle.std.specs.List.{flat_map}
use Rattle.sched_edges.specs.Lines.{line_end, line_of}

-- a line's further words, each after a space, and its line feed: for a line that is written in pieces
pub line_end_is : (words : List (List ℕ)) → line_end words ≡ flat_map (λ word. 32 ∷ word) words ++ 10 ∷ []
line_end_is [] = refl
line_end_is (word ∷ words) = ap (λ text. 32 ∷ (word ++ text)) (line_end_is words) ∙ ap (λ text. 32 ∷ text)
    (sym (append_assoc word (flat_map (λ w. 32 ∷ w) words) (10 ∷ [])))

-- a line by its first word and further words
pub line_of_is : (word : List ℕ) (words : List (List ℕ)) → line_of word words ≡ word ++ line_end words
unfolding line_of
line_of_is word words = refl
