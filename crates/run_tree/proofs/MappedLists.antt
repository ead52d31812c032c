-- Lists that are filled item by item.
use Rattle.std.proofs.Common.{◌≡◌, ◌∙◌, ℕ, ◌+◌, ◌<◌, ◌≤◌, Bool, true, false, cond, List, [], ◌∷◌, ◌++◌, filter, length, map, take, get_or, ap, sym, append-nil}
use Rattle.std.proofs.lemmas.List.{map-append, take_all, take_more}
use Rattle.std.proofs.lemmas.List.Elements.{filter_more}

-- one more item
pub mapped_more : {A B : Type 0} (f : A → B) (xs : List A) (i : ℕ) (x : A) (before after : List B) (y : B) → i < length xs → x ≡ get_or xs i x →
    before ≡ map f (take i xs) → after ≡ before ++ y ∷ [] → y ≡ f x → after ≡ map f (take (i + 1) xs)
mapped_more {B = B} f xs i x before after y within at so_far push is =
    push
    ∙ ap (λ (ys : List B). ys ++ y ∷ []) so_far
    ∙ ap (λ (z : B). map f (take i xs) ++ z ∷ []) (is ∙ ap f at)
    ∙ sym (map-append f (take i xs) (get_or xs i x ∷ []))
    ∙ sym (ap (map f) (take_more xs i x within))

-- all items
pub mapped_all : {A B : Type 0} (f : A → B) (xs : List A) (i : ℕ) (ys : List B) → length xs ≤ i → ys ≡ map f (take i xs) → ys ≡ map f xs
mapped_all f xs i ys done so_far = so_far ∙ ap (map f) (take_all i xs done)

-- one more item of a copy
pub copied_more : {A : Type 0} (xs : List A) (i : ℕ) (x : A) (before after : List A) (y : A) → i < length xs → x ≡ get_or xs i x → before ≡ take i xs →
    after ≡ before ++ y ∷ [] → y ≡ x → after ≡ take (i + 1) xs
copied_more {A = A} xs i x before after y within at so_far push is =
    push
    ∙ ap (λ (ys : List A). ys ++ y ∷ []) so_far
    ∙ ap (λ (z : A). take i xs ++ z ∷ []) (is ∙ at)
    ∙ sym (take_more xs i x within)

-- one more item that passes a test
pub passed_more : {A : Type 0} (p : A → Bool) (xs : List A) (i : ℕ) (d : A) (before after : List A) → i < length xs → before ≡ filter p (take i xs) →
    after ≡ before ++ get_or xs i d ∷ [] → p (get_or xs i d) ≡ true → after ≡ filter p (take (i + 1) xs)
passed_more {A = A} p xs i d before after within so_far push is =
    push
    ∙ ap (λ (ys : List A). ys ++ get_or xs i d ∷ []) so_far
    ∙ sym (filter_more p xs i d within ∙ ap (λ (b : Bool). filter p (take i xs) ++ cond b (get_or xs i d ∷ []) []) is)

-- one more item that doesn't
pub failed_more : {A : Type 0} (p : A → Bool) (xs : List A) (i : ℕ) (d : A) (before after : List A) → i < length xs → before ≡ filter p (take i xs) →
    after ≡ before → p (get_or xs i d) ≡ false → after ≡ filter p (take (i + 1) xs)
failed_more p xs i d before after within so_far same is =
    same
    ∙ so_far
    ∙ sym (filter_more p xs i d within ∙ ap (λ (b : Bool). filter p (take i xs) ++ cond b (get_or xs i d ∷ []) []) is ∙ append-nil (filter p (take i xs)))
