-- Words that stand in line after line.
use Rattle.std.proofs.Common.{ℕ, ◌+◌, ◌-◌, ◌<◌, ◌≤◌, ◌≡◌, inl, inr, List, [], ◌∷◌, ◌++◌, length, take, drop, codes, get_or, zero-add, sym, refl, ap}
use Rattle.std.proofs.Common.{subst, ◌∙◌, arith, append_assoc, length-append}
use Rattle.std.proofs.Math.Seq.{take-append_seam}
use Rattle.std.proofs.lemmas.Bool.{cases_lt}
use Rattle.text_words.specs.Words.{number_of, BeginsWith}
use Rattle.trace_check.specs.KnownWords.{unspaced, IsSpaced, IsRowFront, BeginsRowOf}

-- the first eight bytes and the last eight are all of at most sixteen
pub same_sixteen : (text word : List ℕ) → 8 ≤ length word → length word ≤ 16 → ((k : ℕ) → k < 8 → get_or text (0 + k) 0 ≡ get_or word (0 + k) 0)
    → ((k : ℕ) → k < 8 → get_or text (length word - 8 + k) 0 ≡ get_or word (length word - 8 + k) 0) → (k : ℕ) → k < length word → get_or text k 0 ≡ get_or
    word k 0
same_sixteen text word many most low high k within =
    elim (cases_lt k 8) [
      | inl l ↦ subst (λ n. get_or text n 0 ≡ get_or word n 0) (zero-add k) (low k l)
      | inr ge ↦ (
          let back : length word - 8 + (k - (length word - 8)) ≡ k = omega (arith, ge, most, many) in
          let small : k - (length word - 8) < 8 = omega (arith, within, many) in
          subst (λ n. get_or text n 0 ≡ get_or word n 0) back (high (k - (length word - 8)) small))
    ]

-- what stands before the rest of a text
front_taken : (text front rest : List ℕ) → text ≡ front ++ rest → take (length text - length rest) text ≡ front
front_taken text front rest e =
    let long = ap length e ∙ length-append front rest in
    let count : length text - length rest ≡ length front = omega (arith, long) in
    ap (λ n. take n text) count ∙ ap (take (length front)) e ∙ take-append_seam front rest

-- a word with its space at the front of a text
pub word_before : (n : ℕ) (text word rest : List ℕ) → BeginsWith n word [] → text ≡ word ++ rest → BeginsWith n text rest
word_before n text word rest b e = (b.0, e ∙ ap (λ w. w ++ rest) b.1 ∙ append_assoc b.0 (32 ∷ []) rest, b.2)

-- the word with its space that stands there
pub word_taken : (n : ℕ) (text rest : List ℕ) → BeginsWith n text rest → BeginsWith n (take (length text - length rest) text) []
word_taken n text rest b = (b.0, front_taken text (b.0 ++ 32 ∷ []) rest (b.1 ∙ sym (append_assoc b.0 (32 ∷ []) rest)), b.2)

-- the front of a row line at the front of a text
pub row_before : (n : ℕ) (text front rest : List ℕ) → BeginsRowOf n front [] → text ≡ front ++ rest → BeginsRowOf n text rest
row_before n text front rest b e =
    record { behind = b.behind ++ rest; row = e ∙ ap (λ w. w ++ rest) b.row; processor = word_before n (b.behind ++ rest) b.behind rest b.processor refl }

-- the front of the row line that stands there
pub row_taken : (n : ℕ) (text mid rest : List ℕ) → text ≡ codes "row" ++ 32 ∷ mid → BeginsWith n mid rest → BeginsRowOf n (take (length text - length rest)
    text) []
row_taken n text mid rest e b =
    let whole : text ≡ (codes "row" ++ 32 ∷ (b.0 ++ 32 ∷ [])) ++ rest
    = e ∙ ap (λ m. codes "row" ++ 32 ∷ m) (b.1 ∙ sym (append_assoc b.0 (32 ∷ []) rest)) in
    record { behind = b.0 ++ 32 ∷ []; row = front_taken text (codes "row" ++ 32 ∷ (b.0 ++ 32 ∷ [])) rest whole; processor = (b.0, refl, b.2) }

-- ---- what is known of a word by itself

pub spaced_is : (n : ℕ) (word : List ℕ) → BeginsWith n word [] → IsSpaced n word
spaced_is n word b =
    let same : unspaced word ≡ b.0 = front_taken word b.0 (32 ∷ []) b.1 in
    (b.1 ∙ ap (λ w. w ++ 32 ∷ []) (sym same), ap number_of same ∙ b.2)

pub spaced_begins : (n : ℕ) (word : List ℕ) → IsSpaced n word → BeginsWith n word []
spaced_begins n word h = (unspaced word, h.0, h.1)

pub front_is : (n : ℕ) (front : List ℕ) → BeginsRowOf n front [] → IsRowFront n front
front_is n front b =
    let same : drop 4 front ≡ b.behind = ap (drop 4) b.row in
    (b.row ∙ ap (λ m. codes "row" ++ 32 ∷ m) (sym same), subst (IsSpaced n) (sym same) (spaced_is n b.behind b.processor))

pub front_begins : (n : ℕ) (front : List ℕ) → IsRowFront n front → BeginsRowOf n front []
front_begins n front h = record { behind = drop 4 front; row = h.0; processor = spaced_begins n (drop 4 front) h.1 }
