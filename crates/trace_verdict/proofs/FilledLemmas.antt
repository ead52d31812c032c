-- Lists that are filled item by item.
use Rattle.std.proofs.Common.{◌≡◌, ◌∙◌, ℕ, ◌+◌, ◌<◌, ◌≤◌, List, [], ◌∷◌, ◌++◌, length, map, take, get_or, ap, sym}
use Rattle.std.proofs.lemmas.List.{map-append, take_all, take_more}

-- one more item
pub mapped_more : {A B : Type 0} (f : A → B) (xs : List A) (i : ℕ) (d : A) (before after : List B) (y : B) → i < length xs → before ≡ map f (take i xs) →
    after ≡ before ++ y ∷ [] → y ≡ f (get_or xs i d)
    → after ≡ map f (take (i + 1) xs)
mapped_more {B = B} f xs i d before after y within so_far push is =
    push
    ∙ ap (λ (ys : List B). ys ++ y ∷ []) so_far
    ∙ ap (λ (z : B). map f (take i xs) ++ z ∷ []) is
    ∙ sym (map-append f (take i xs) (get_or xs i d ∷ []))
    ∙ sym (ap (map f) (take_more xs i d within))

-- all items
pub mapped_all : {A B : Type 0} (f : A → B) (xs : List A) (i : ℕ) (ys : List B) → length xs ≤ i → ys ≡ map f (take i xs) → ys ≡ map f xs
mapped_all f xs i ys done so_far = so_far ∙ ap (map f) (take_all i xs done)

-- one more item that maps back to the one that it was made of
pub made_more : {A B : Type 0} (f : A → B) (xs : List B) (i : ℕ) (d : B) (before after : List A) (y : A) → i < length xs → map f before ≡ take i xs →
    after ≡ before ++ y ∷ [] → f y ≡ get_or xs i d
    → map f after ≡ take (i + 1) xs
made_more {B = B} f xs i d before after y within so_far push is =
    ap (map f) push
    ∙ map-append f before (y ∷ [])
    ∙ ap (λ (ys : List B). ys ++ f y ∷ []) so_far
    ∙ ap (λ (z : B). take i xs ++ z ∷ []) is
    ∙ sym (take_more xs i d within)

-- one more item of a copy
pub copied_more : {A : Type 0} (xs : List A) (i : ℕ) (d : A) (before after : List A) (y : A) → i < length xs → before ≡ take i xs → after ≡ before ++ y ∷ []
    → y ≡ get_or xs i d → after ≡ take (i + 1) xs
copied_more {A = A} xs i d before after y within so_far push is =
    push
    ∙ ap (λ (ys : List A). ys ++ y ∷ []) so_far
    ∙ ap (λ (z : A). take i xs ++ z ∷ []) is
    ∙ sym (take_more xs i d within)

-- all items of a copy
pub copied_all : {A : Type 0} (xs : List A) (i : ℕ) (ys : List A) → length xs ≤ i → ys ≡ take i xs → ys ≡ xs
copied_all xs i ys done so_far = so_far ∙ take_all i xs done
