-- The options of `draw`, one behind the other.
use Rattle.std.proofs.Common.{◌≡◌, ◌≢◌, ℕ, ◌-◌, ◌<◌, ◌≤◌, true, List, [], ◌∷◌, length, map, take, drop, get_or, codes, Option, Some, None, refl, sym}
use Rattle.std.proofs.Common.{ap, ap₂, ◌∙◌, arith}
use Rattle.std.specs.Str.{bytes_eq}
use Rattle.std.proofs.lemmas.Bool.{cond-true}
use Rattle.std.proofs.lemmas.List.{take_all}
use Rattle.command_words.specs.Words.{front, drawn, draw_at_end, draw_of}

abbrev Text : Type 0
Text = List ℕ

-- `draw` is read option by option
pub drawn_by : (words behind rest : List Text) (from units : Option Text) → from ≡ (front (codes "--from") words).0
    → behind ≡ (front (codes "--from") words).1 → units ≡ (front (codes "--units") behind).0 → rest ≡ (front (codes "--units") behind).1
    → draw_at_end from units rest ≡ draw_of words
drawn_by words behind rest from units f b u r =
    let p = front (codes "--from") words in
    let q = front (codes "--units") behind in
    ap (λ o. draw_at_end o units rest) f ∙ (ap (λ o. draw_at_end p.0 o rest) u ∙ (ap (λ ws. draw_at_end p.0 q.0 ws) r
    ∙ ap (λ ws. draw_at_end p.0 (front (codes "--units") ws).0 (front (codes "--units") ws).1) b))

pub at_end_none : (from units : Option Text) (rest : List Text) → length rest ≡ 0 → drawn from units ≡ draw_at_end from units rest
at_end_none from units [] e = refl
at_end_none from units (w ∷ rest) e = absurd (omega (arith, e))

pub at_end_some : (from units : Option Text) (rest : List Text) → length rest ≢ 0 → None ≡ draw_at_end from units rest
at_end_some from units [] e = absurd (e refl)
at_end_some from units (w ∷ rest) e = refl

-- ---- the option at the front

-- the option's value and the words behind it are these
pub record IsFront (name : Text) (words : List Text) (value : Option Text) (rest : List Text) : Type 0 where
  pub value_is : value ≡ (front name words).0
  pub rest_is : rest ≡ (front name words).1

at_front : (name : Text) (words : List Text) (value : Option Text) (rest : List Text) → front name words ≡ (value, rest) → IsFront name words value rest
at_front name words value rest e = record { value_is = ap (λ p. p.0) (sym e); rest_is = ap (λ p. p.1) (sym e) }

pub front_empty : {A : Type 0} (f : A → Text) (name : Text) (words : List A) → length words < 1 → IsFront name (map f words) None (map f words)
front_empty f name [] low = record { value_is = refl; rest_is = refl }
front_empty f name (w ∷ ws) low = absurd (omega (arith, low))

-- a value that is a word of its own
pub front_own : {A : Type 0} (f : A → Text) (name text value : Text) (words : List A) (word next : A) → 2 ≤ length words → word ≡ get_or words 0 word
    → next ≡ get_or words 1 next → text ≡ f word → value ≡ f next → bytes_eq text name ≡ true
    → IsFront name (map f words) (Some value) (map f (take (length words - 2) (drop 2 words)))
front_own f name text value [] word next low at after is given same = absurd (omega (arith, low))
front_own f name text value (w ∷ []) word next low at after is given same = absurd (omega (arith, low))
front_own {A = A} f name text value (w ∷ v ∷ rest) word next low at after is given same = at_front name (map f (w ∷ v ∷ rest)) (Some value) _
    (cond-true _ _ _ (ap (λ t. bytes_eq t name) (sym (is ∙ ap f at)) ∙ same)
    ∙ ap₂ (λ x (ws : List A). (Some x, map f ws)) (sym (given ∙ ap f after)) (sym (take_all (length (w ∷ v ∷ rest) - 2) rest (omega arith))))
