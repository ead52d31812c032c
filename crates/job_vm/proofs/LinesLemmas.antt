-- The first line and what follows it, by the place of the first line feed.
use Rattle.std.proofs.Common.{ℕ, suc, ◌+◌, ◌-◌, ◌<◌, ◌≤◌, ◌≡◌, Bool, true, false, cond, not, List, [], ◌∷◌, length, take, drop, min, sym, refl, ap}
use Rattle.std.proofs.Common.{◌∙◌, arith, inl, inr}
use Rattle.std.specs.Prelude.{◌==◌}
use Rattle.std.proofs.lemmas.List.{take_all, drop_all, length-drop, length-take}
use Rattle.std.proofs.Math.Nat.{eq-or-lt_of_le}
use Rattle.std.specs.List.{after_first, position_or_len}
use Rattle.text_words.specs.Words.{onto_first_line, lines_of}

-- the place of the first line feed, or the length where there is none
abbrev pub feed_place : List ℕ → ℕ
feed_place text = position_or_len (λ b. b == 10) text

onto_first : (b : ℕ) (bs : List ℕ) (n : ℕ) → lines_of bs ≡ take n bs ∷ lines_of (drop (n + 1) bs)
    → onto_first_line b (lines_of bs) ≡ take (1 + n) (b ∷ bs) ∷ lines_of (drop ((1 + n) + 1) (b ∷ bs))
onto_first b bs n e =
    let one : suc n ≡ 1 + n = omega arith in
    let two : suc (n + 1) ≡ (1 + n) + 1 = omega arith in
    ap (onto_first_line b) e
    ∙ (ap (λ k. take k (b ∷ bs) ∷ lines_of (drop (n + 1) bs)) one ∙ ap (λ k. take (1 + n) (b ∷ bs) ∷ lines_of (drop k (b ∷ bs))) two)

first_by : (b : ℕ) (bs : List ℕ) (n : ℕ) (feed : Bool) → lines_of bs ≡ take n bs ∷ lines_of (drop (n + 1) bs)
    → cond feed ([] ∷ lines_of bs) (onto_first_line b (lines_of bs))
    ≡ take (cond (not feed) (1 + n) 0) (b ∷ bs) ∷ lines_of (drop (cond (not feed) (1 + n) 0 + 1) (b ∷ bs))
first_by b bs n true e = refl
first_by b bs n false e = onto_first b bs n e

last_by : (b : ℕ) (feed : Bool)
    → cond feed ([] ∷ []) (onto_first_line b [])
    ≡ take (cond (not feed) (1 + 0) 0) (b ∷ []) ∷ lines_of (drop (cond (not feed) (1 + 0) 0 + 1) (b ∷ []))
last_by b true = refl
last_by b false = refl

pub lines_first : (bs : List ℕ) → 0 < length bs → lines_of bs ≡ take (feed_place bs) bs ∷ lines_of (drop (feed_place bs + 1) bs)
lines_first [] some = absurd (omega arith)
lines_first (b ∷ []) some = last_by b (b == 10)
lines_first (b ∷ (c ∷ bs)) some = first_by b (c ∷ bs) (feed_place (c ∷ bs)) (b == 10) (lines_first (c ∷ bs) (omega arith))

within_by : (feed : Bool) (n m : ℕ) → n ≤ m → cond (not feed) (1 + n) 0 ≤ suc m
within_by true n m h = omega arith
within_by false n m h = omega (arith, h)

-- what stands from a place on, which is one behind the feed or the end
rest_by : (text : List ℕ) (at n : ℕ) → n ≤ length text → at ≡ min (n + 1) (length text) → take (length text - at) (drop at text) ≡ drop (n + 1) text
rest_by text at n within here =
    let all : take (length text - at) (drop at text) ≡ drop at text = take_all (length text - at) (drop at text) (omega (arith, length-drop at text)) in
    elim (eq-or-lt_of_le within) [
      | inl past ↦
          (let end : at ≡ length text = omega (arith, here, past) in
          all ∙ (ap (λ k. drop k text) end ∙ (drop_all (length text) text (omega arith) ∙ sym (drop_all (n + 1) text (omega (arith, past))))))
      | inr fits ↦ all ∙ ap (λ k. drop k text) (omega (arith, here, fits))
    ]

feed_within : (text : List ℕ) → feed_place text ≤ length text
feed_within [] = omega arith
feed_within (b ∷ bs) = within_by (b == 10) (feed_place bs) (length bs) (feed_within bs)

-- the first line, and what follows it, where its length is known
pub cut_at_feed : (text line : List ℕ) (more : List (List ℕ)) (at : ℕ) → 0 < length text → lines_of text ≡ line ∷ more → at ≡ min (length line + 1)
    (length text)
    → take (length text - at) (drop at text) ≡ after_first (λ b. b == 10) text
cut_at_feed text line more at some e here =
    let first : line ≡ take (feed_place text) text = cc (lines_first text some) in
    let long : length line ≡ feed_place text = ap length first ∙ (length-take (feed_place text) text ∙ omega (arith, feed_within text)) in
    rest_by text at (feed_place text) (feed_within text) (here ∙ ap (λ n. min (n + 1) (length text)) long)

-- the lines of a text are its first one and those of what follows
pub lines_cut : (text line : List ℕ) (more : List (List ℕ)) (at : ℕ) → 0 < length text → lines_of text ≡ line ∷ more → at ≡ min (length line + 1) (length text)
    → lines_of text ≡ line ∷ lines_of (take (length text - at) (drop at text))
lines_cut text line more at some e here =
    let first : line ≡ take (feed_place text) text = cc (lines_first text some) in
    lines_first text some ∙ (ap (λ l. l ∷ lines_of (after_first (λ b. b == 10) text)) (sym first) ∙ ap (λ r. line ∷ lines_of r)
    (sym (cut_at_feed text line more at some e here)))
