-- One member more of a pack, as it is placed.
use Rattle.std.proofs.Common.{◌≡◌, ℕ, ◌+◌, ◌-◌, ◌^◌, ◌<◌, ◌&&◌, Bool, List, [], ◌∷◌, ◌++◌, Option, map, min, length, get_or, take, MatchBool, ap}
use Rattle.std.proofs.Common.{arith, sym, subst, ◌∙◌}
use Rattle.std.specs.Prelude.{sum}
use Rattle.std.proofs.lemmas.List.{map-append, take_more}
use Rattle.std.proofs.lemmas.List.Sums.{sum_by_push}
use Rattle.tree_check.specs.declared.written.Member.{Member}
use Rattle.tree_check.specs.Scans.{rate_in, AreMarks, IsBadAfter}
use Rattle.tree_check.proofs.MarkLemmas.{Placing, placing_more}

pub news_more : (f : Member → Option ℕ) (ms : List Member) (k : ℕ) (x : Member) → k < length ms → x ≡ get_or ms k x → map f (take (k + 1) ms) ≡ map f
    (take k ms) ++ f x ∷ []
news_more f ms k x l e = ap (map f) (take_more ms k x l) ∙ map-append f (take k ms) (get_or ms k x ∷ []) ∙ ap (λ y. map f (take k ms) ++ f y ∷ []) (sym e)

pub sum_more : (rates : List ℕ) (news : List (Option ℕ)) (o : Option ℕ) (s : ℕ) → s ≡ min (sum (map (rate_in rates) news)) (2 ^ 128 - 1)
    → min (s + rate_in rates o) (2 ^ 128 - 1) ≡ min (sum (map (rate_in rates) (news ++ o ∷ []))) (2 ^ 128 - 1)
sum_more rates news o s e =
    let p = ap sum (map-append (rate_in rates) news (o ∷ [])) ∙ sum_by_push (λ x. x) (map (rate_in rates) news) (rate_in rates o) in
    omega (arith, e, p)

-- what the code has in hand once a member was marked
pub record IsPlaceStep (rs : List ℕ) (f : Member → Option ℕ) (ms : List Member) (k : ℕ) (x : Member) (o : Option ℕ) (placed : Bool)
    (before after : List Bool) : Type 0 where
  pub place : k < length ms
  pub member : x ≡ get_or ms k x
  pub name : o ≡ f x
  pub marks : (names : List (Option ℕ)) → AreMarks rs names before → AreMarks rs (names ++ o ∷ []) after
  pub placed_is : (names : List (Option ℕ)) → AreMarks rs names before → MatchBool placed (¬ IsBadAfter rs names o) (IsBadAfter rs names o)

pub place_step : (rs : List ℕ) (f : Member → Option ℕ) (ms : List Member) (k : ℕ) (x : Member) (o : Option ℕ) (ok : Bool) (placed : Bool)
    (marks marks' : List Bool)
    → IsPlaceStep rs f ms k x o placed marks marks' → (names : List (Option ℕ)) → Placing rs names (map f (take k ms)) ok marks →
    Placing rs names (map f (take (k + 1) ms)) (ok && placed) marks'
place_step rs f ms k x o ok placed marks marks' a names p =
    let news = map f (take k ms) in
    let e : map f (take (k + 1) ms) ≡ news ++ o ∷ [] = news_more f ms k x a.place a.member ∙ ap (λ y. news ++ y ∷ []) (sym a.name) in
    subst (λ (ns : List (Option ℕ)). Placing rs names ns (ok && placed) marks') (sym e)
    (placing_more rs names news o ok placed marks marks' p (a.marks (names ++ news) p.are) (a.placed_is (names ++ news) p.are))

pub sum_step : (rs : List ℕ) (f : Member → Option ℕ) (ms : List Member) (k : ℕ) (x : Member) (o : Option ℕ) (s : ℕ) → k < length ms → x ≡ get_or ms k x →
    o ≡ f x
    → s ≡ min (sum (map (rate_in rs) (map f (take k ms)))) (2 ^ 128 - 1) → min (s + rate_in rs o) (2 ^ 128 - 1) ≡ min
    (sum (map (rate_in rs) (map f (take (k + 1) ms)))) (2 ^ 128 - 1)
sum_step rs f ms k x o s low is name e =
    sum_more rs (map f (take k ms)) o s e
    ∙ ap (λ ns. min (sum (map (rate_in rs) ns)) (2 ^ 128 - 1)) (sym (news_more f ms k x low is ∙ ap (λ y. map f (take k ms) ++ y ∷ []) (sym name)))
