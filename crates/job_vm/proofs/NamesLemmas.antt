-- The names of programs, kept in order beside them.
use Rattle.std.proofs.Common.{ℕ, zero, suc, ◌≡◌, Bool, true, false, not, List, [], ◌∷◌, ◌++◌, set, get_or, sym, refl, ap, ◌∙◌}
use Rattle.std.specs.Prelude.{◌&&◌, ◌||◌}
use Rattle.std.specs.BTreeSet.{insert_key}
use Rattle.std.specs.Cmp.Lexicographic.{slice_cmp}
use Rattle.std.specs.declared.cmp.Ordering.{Ordering}
use Rattle.std.specs.declared.cmp.Ordering.TheVariants.{Less, Equal, Greater}
use Rattle.std.specs.List.{list_any}
use Rattle.std.specs.Ordering.{is_eq, match_ordering, nat_cmp}
use Rattle.std.specs.Str.{bytes_eq}
use Rattle.std.proofs.lemmas.Cmp.{nat_list_eq_equiv}
use Rattle.std.proofs.lemmas.List.Folds.{list_all-append}
use Rattle.std.proofs.lemmas.Map.Lookups.{exact_bytes}
use Rattle.std.proofs.lemmas.Map.Text.{is_eq-slice_cmp}
use Rattle.job_vm.specs.Programs.{Program, is_new}

absorbed : (a b : Bool) → (a || b) ≡ (a || (a || b))
absorbed true b = refl
absorbed false b = refl

exchanged : (a b c : Bool) → (a || (b || c)) ≡ (b || (a || c))
exchanged true true c = refl
exchanged true false c = refl
exchanged false b c = refl

module _ {K : Type 0} (items : K → List ℕ) where
  -- whether a key has this name
  abbrev pub names : List ℕ → K → Bool
  names name k = is_eq (slice_cmp nat_cmp name (items k))

  -- the order of keys
  abbrev pub order : K → K → Ordering
  order x y = slice_cmp nat_cmp (items x) (items y)

  -- a key more, where it stands as this order says beside the first of the keys
  put : (name : List ℕ) (k x : K) (xs : List K) (o : Ordering) → order k x ≡ o
      → list_any (names name) (insert_key order xs k) ≡ (names name k || list_any (names name) xs)
      → list_any (names name) (match_ordering o (k ∷ (x ∷ xs)) (x ∷ xs) (x ∷ insert_key order xs k)) ≡ (names name k || list_any (names name) (x ∷ xs))
  put name k x xs Less e later = refl
  put name k x xs Equal e later =
      let same : names name k ≡ names name x = ap (λ n. is_eq (slice_cmp nat_cmp name n)) (exact_bytes (items k) (items x) e) in
      absorbed (names name x) (list_any (names name) xs) ∙ ap (λ b. b || (names name x || list_any (names name) xs)) (sym same)
  put name k x xs Greater e later =
      ap (λ b. names name x || b) later ∙ exchanged (names name x) (names name k) (list_any (names name) xs)

  -- the names of the keys and of a further one
  with_key : (name : List ℕ) (ks : List K) (k : K) → list_any (names name) (insert_key order ks k) ≡ (names name k || list_any (names name) ks)
  with_key name [] k = refl
  with_key name (x ∷ xs) k = put name k x xs (order k x) refl (with_key name xs k)

  one_more : (found new : Bool) → (found || not new) ≡ not (new && (not found && true))
  one_more true true = refl
  one_more true false = refl
  one_more false true = refl
  one_more false false = refl

  -- a program more, and its name
  pub still_named : (old new : List K) (k : K) (programs : List Program) (p : Program)
      → ((name : List ℕ) → list_any (names name) old ≡ not (is_new programs name))
      → new ≡ insert_key order old k → items k ≡ p.name
      → (name : List ℕ) → list_any (names name) new ≡ not (is_new (programs ++ p ∷ []) name)
  still_named old new k programs p before is named name =
      let this : names name k ≡ bytes_eq p.name name =
      is_eq-slice_cmp name (items k) ∙ (ap (bytes_eq name) named ∙ nat_list_eq_equiv.symm name p.name) in
      ap (list_any (names name)) is
      ∙ with_key name old k
      ∙ ap (λ b. names name k || b) (before name)
      ∙ ap (λ b. b || not (is_new programs name)) this
      ∙ one_more (bytes_eq p.name name) (is_new programs name)
      ∙ ap not (sym (list_all-append (λ (q : Program). not (bytes_eq q.name name)) programs (p ∷ [])))

-- a program that keeps its name, put in its own place
pub same_names : (programs : List Program) (at : ℕ) (p d : Program) (name : List ℕ) → p.name ≡ (get_or programs at d).name
    → is_new (set programs at p) name ≡ is_new programs name
same_names [] at p d name e = refl
same_names (q ∷ qs) zero p d name e = ap (λ n. not (bytes_eq n name) && is_new qs name) e
same_names (q ∷ qs) (suc at) p d name e = ap (λ b. not (bytes_eq q.name name) && b) (same_names qs at p d name e)
