-- Whole lines, whatever follows them.
use Rattle.std.proofs.Common.{zero, suc, add-one, ℕ, ◌+◌, ◌-◌, ◌<◌, ◌≤◌, ◌≡◌, ◌≢◌, inl, inr, eqb, List, [], ◌∷◌, ◌++◌, length, take, drop, get_or}
use Rattle.std.proofs.Common.{sym, refl, ap, ◌∙◌, arith, append_assoc}
use Rattle.std.proofs.lemmas.Bool.{cases_Bool, cond-true, cond-false, ne_eqb}
use Rattle.std.proofs.lemmas.List.{take-append-drop}
use Rattle.std.proofs.Math.Seq.{drop-cons}
use Rattle.text_words.specs.Words.{onto_first_line, lines_of}
use Rattle.text_words.proofs.RoundTrip.{line_written}
use Rattle.text_words.proofs.TextLemmas.{take_rest}
use Rattle.text_window.specs.Lines.{IsWholeLine, LacksFeed, EndsLine}

-- no line feed below a place
front_lacks : (bs : List ℕ) (n : ℕ) → n ≤ length bs → ((k : ℕ) → k < n → get_or bs k 0 ≢ 10) → LacksFeed (take n bs)
front_lacks bs zero h none = tt
front_lacks [] (suc n) h none = absurd (omega (arith, h))
front_lacks (b ∷ bs) (suc n) h none = (none 0 (omega arith), front_lacks bs n (omega (arith, h)) (λ k l. none (suc k) (omega (arith, l))))

pub all_lacks : (bs : List ℕ) (n : ℕ) → n ≡ length bs → ((k : ℕ) → k < n → get_or bs k 0 ≢ 10) → LacksFeed bs
all_lacks [] n e none = tt
all_lacks (b ∷ bs) n e none = (none 0 (omega (arith, e)), all_lacks bs (length bs) refl (λ k l. none (suc k) (omega (arith, l, e))))

-- the line up to the first line feed
pub whole_line_is : (bs : List ℕ) (n : ℕ) → n ≤ length bs → (n ≡ length bs → ⊥) → ((k : ℕ) → k < n → get_or bs k 0 ≢ 10) → (n < length bs → get_or bs n 0 ≡ 10)
    → IsWholeLine bs (take n bs) (take (length bs - (n + 1)) (drop (n + 1) bs))
whole_line_is bs n h ne none at =
    let below : n < length bs = omega (arith, h, ne) in
    let later = take (length bs - (n + 1)) (drop (n + 1) bs) in
    let rest : later ≡ drop (suc n) bs = take_rest (n + 1) (length bs) bs refl ∙ ap (λ k. drop k bs) (add-one n) in
    let bytes : bs ≡ take n bs ++ 10 ∷ later
    = sym (take-append-drop n bs) ∙ ap (λ r. take n bs ++ r) (drop-cons bs n 0 below ∙ ap (λ b. b ∷ drop (suc n) bs) (at below) ∙ ap (λ r. 10 ∷ r)
    (sym rest)) in
    record {
      bytes = bytes;
      first = λ more. ap (λ t. lines_of (t ++ more)) bytes ∙ ap lines_of (append_assoc (take n bs) (10 ∷ later) more)
          ∙ line_written (take n bs) (later ++ more) (front_lacks bs n h none);
    }

-- a text whose last line has its line feed is whole, whatever follows
pub ends_line_whole : (front more : List ℕ) → lines_of ((front ++ 10 ∷ []) ++ more) ≡ lines_of (front ++ 10 ∷ []) ++ lines_of more
ends_line_whole [] more = refl
ends_line_whole (b ∷ front) more =
    elim (cases_Bool (eqb b 10)) [
      | inl t ↦ (cond-true _ _ _ t ∙ ap (λ ls. [] ∷ ls) (ends_line_whole front more) ∙ ap (λ ls. ls ++ lines_of more) (sym (cond-true _ _ _ t)))
      | inr f ↦ (cond-false _ _ _ f ∙ ap (onto_first_line b) (ends_line_whole front more) ∙ onto_some (lines_of (front ++ 10 ∷ [])) (some_lines front)
          ∙ ap (λ ls. ls ++ lines_of more) (sym (cond-false _ _ _ f)))
    ]
  where
    Some_ : List (List ℕ) → Type 0
    Some_ lines = (line : List ℕ) × (rest : List (List ℕ)) × (lines ≡ line ∷ rest)

    some_lines : (front : List ℕ) → Some_ (lines_of (front ++ 10 ∷ []))
    some_lines [] = ([], [], refl)
    some_lines (c ∷ front) =
        elim (cases_Bool (eqb c 10)) [
          | inl t ↦ ([], lines_of (front ++ 10 ∷ []), cond-true _ _ _ t)
          | inr f ↦ (let s = some_lines front in (c ∷ s.0, s.1, cond-false _ _ _ f ∙ ap (onto_first_line c) s.2))
        ]

    onto_some : (lines : List (List ℕ)) → Some_ lines → onto_first_line b (lines ++ lines_of more) ≡ onto_first_line b lines ++ lines_of more
    onto_some [] s = absurd (let e : [] ≡ s.0 ∷ s.1 = s.2 in cc)
    onto_some (line ∷ lines) s = refl

-- a line feed more at the end of a last line
pub feed_added : (text : List ℕ) (last : ℕ) (front : List ℕ) → text ≡ front ++ last ∷ [] → last ≢ 10 → lines_of (text ++ 10 ∷ []) ≡ lines_of text
feed_added text last front e ne = ap (λ t. lines_of (t ++ 10 ∷ [])) e ∙ go front ∙ ap lines_of (sym e)
  where
    go : (front : List ℕ) → lines_of ((front ++ last ∷ []) ++ 10 ∷ []) ≡ lines_of (front ++ last ∷ [])
    go [] = cond-false _ _ _ (ne_eqb last 10 ne) ∙ sym (cond-false _ _ _ (ne_eqb last 10 ne))
    go (b ∷ front) =
        elim (cases_Bool (eqb b 10)) [
          | inl t ↦ (cond-true _ _ _ t ∙ ap (λ ls. [] ∷ ls) (go front) ∙ sym (cond-true _ _ _ t))
          | inr f ↦ (cond-false _ _ _ f ∙ ap (onto_first_line b) (go front) ∙ sym (cond-false _ _ _ f))
        ]

-- what is left of a text that ends its last line has a line feed, unless nothing is left
pub nothing_left : (text rest : List ℕ) (gone : List ℕ) → EndsLine text → text ≡ gone ++ rest → LacksFeed rest → rest ≡ []
nothing_left text [] gone ends split lacks = refl
nothing_left text (b ∷ rest) gone ends split lacks = absurd (go gone ends split)
  where
    at_end : (b : ℕ) (rest front : List ℕ) → b ∷ rest ≡ front ++ 10 ∷ [] → LacksFeed (b ∷ rest) → ⊥
    at_end b rest [] e lacks = lacks.0 (let x : b ≡ 10 = cc in x)
    at_end b [] (f ∷ front) e lacks = none_here front (let x : [] ≡ front ++ 10 ∷ [] = cc in x)
      where
        none_here : (front : List ℕ) → [] ≡ front ++ 10 ∷ [] → ⊥
        none_here [] e = cc
        none_here (g ∷ front) e = cc
    at_end b (c ∷ rest) (f ∷ front) e lacks = at_end c rest front (let x : c ∷ rest ≡ front ++ 10 ∷ [] = cc in x) lacks.1

    go : (gone : List ℕ) → EndsLine text → text ≡ gone ++ b ∷ rest → ⊥
    go gone (inl none) split = too_long gone (sym none ∙ split)
      where
        too_long : (gone : List ℕ) → [] ≡ gone ++ b ∷ rest → ⊥
        too_long [] e = cc
        too_long (g ∷ gone) e = cc
    go gone (inr some) split = dropped gone some.0 (sym split ∙ some.1)
      where
        dropped : (gone front : List ℕ) → gone ++ b ∷ rest ≡ front ++ 10 ∷ [] → ⊥
        dropped [] front e = at_end b rest front e lacks
        dropped (g ∷ gone) [] e = past gone (let x : gone ++ b ∷ rest ≡ [] = cc in x)
          where
            past : (gone : List ℕ) → gone ++ b ∷ rest ≡ [] → ⊥
            past [] e = cc
            past (g ∷ gone) e = cc
        dropped (g ∷ gone) (f ∷ front) e = dropped gone front (let x : gone ++ b ∷ rest ≡ front ++ 10 ∷ [] = cc in x)
