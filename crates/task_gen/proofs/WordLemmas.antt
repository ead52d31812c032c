-- The next words of a generator, by its answers.
use Rattle.std.proofs.Common.{◌≡◌, ℕ, zero, suc, ◌+◌, ◌-◌, ◌<◌, ◌≤◌, List, [], ◌∷◌, ◌++◌, length, take, set, append_assoc, refl, sym, ◌∙◌, ap, arith}
use Rattle.std.proofs.lemmas.List.{append-nil, take_all, take_more_set}
use Rattle.rand_core.specs.Stream.{Stream, next_u32}
use Rattle.rand_core.specs.Steps.{stream_of, steps_u32, first_words}

-- the next n answers to `next_u32`
abbrev pub answers : ℕ → Stream → List ℕ
answers zero stream = []
answers (suc n) stream = (next_u32 stream).0 ∷ answers n (next_u32 stream).1

-- a generator of words answers its words
pub answers-stream_of : {S : Type 0} (step : S → ℕ × S) (n : ℕ) (s : S) → answers n (stream_of (steps_u32 step) s) ≡ first_words step n s
unfolding stream_of next_u32 first_words
answers-stream_of step zero s = refl
answers-stream_of step (suc n) s = ap (λ ws. (step s).0 ∷ ws) (answers-stream_of step n (step s).1)

-- n more answers, the first of them told
answers_more : (n k w : ℕ) (stream next : Stream) → n ≡ suc k → (w, next) ≡ next_u32 stream → answers n stream ≡ w ∷ answers k next
answers_more n k w stream next e told = ap (λ m. answers m stream) e ∙ ap (λ a. a.0 ∷ answers k a.1) (sym told)

-- one word more is written, and what was to come is told by what is left
pub written_more : (words : List ℕ) (i w : ℕ) (stream next : Stream) (all : List ℕ) → i < 128 → length words ≡ 128 → (w, next) ≡ next_u32 stream
    → take i words ++ answers (128 - i) stream ≡ all → take (i + 1) (set words i w) ++ answers (128 - (i + 1)) next ≡ all
written_more words i w stream next all within whole told h =
    ap (λ ws. ws ++ answers (128 - (i + 1)) next) (take_more_set words i w (omega arith))
    ∙ append_assoc (take i words) (w ∷ []) (answers (128 - (i + 1)) next)
    ∙ ap (λ ws. take i words ++ ws) (sym (answers_more (128 - i) (128 - (i + 1)) w stream next (omega arith) told))
    ∙ h

-- all words are written
pub written_all : (words : List ℕ) (i : ℕ) (stream : Stream) (all : List ℕ) → 128 ≤ i → length words ≡ 128 → take i words ++ answers (128 - i) stream ≡ all
    → words ≡ all
written_all words i stream all within whole h =
    let none : 128 - i ≡ 0 = omega arith in
    sym (append-nil words) ∙ ap (λ ws. ws ++ []) (sym (take_all i words (omega arith))) ∙ ap (λ n. take i words ++ answers n stream) (sym none) ∙ h
