-- What was written so far of items that are numbered one after the other.
use Rattle.std.proofs.Common.{◌≡◌, ℕ, zero, suc, ◌+◌, ◌<◌, List, [], ◌∷◌, ◌++◌, Option, Some, None, length, drop, refl, sym, ◌∙◌, ap, add-one, arith}
use Rattle.std.proofs.Common.{append_assoc, append-nil}
use Rattle.std.specs.Prelude.{slice_get}
use Rattle.std.specs.Io.KnownBytes.{Appends}
use Rattle.std.proofs.KnownBytes.{Appends-nil, Appends-trans}
use Rattle.std.proofs.Math.Seq.{drop-length}
use Rattle.sched_edges.specs.Streams.{TookPart}
use Rattle.sched_edges.proofs.Wrote.{part_then, part_cut}
use Rattle.pure_commands.specs.Numbered.{numbered}

drop_next : {A : Type 0} (xs : List A) (j : ℕ) (a : A) → slice_get xs j ≡ Some a → drop j xs ≡ a ∷ drop (suc j) xs
drop_next [] j a e = absurd (let h : ◌≡◌ {A = Option _} None (Some a) = e in cc)
drop_next (x ∷ xs) zero a e = let h : Some x ≡ Some a = e in let same : x ≡ a = cc in ap (λ y. y ∷ xs) same
drop_next (x ∷ xs) (suc j) a e = drop_next xs j a e

drop_at : {A : Type 0} (xs : List A) (j : ℕ) (a : A) → slice_get xs j ≡ Some a → drop j xs ≡ a ∷ drop (j + 1) xs
drop_at xs j a e = drop_next xs j a e ∙ ap (λ (n : ℕ). a ∷ drop n xs) (sym (add-one j))

-- there is an item of each number below their count
pub item_at : {A : Type 0} (xs : List A) (j : ℕ) → j < length xs → (x : A) × (slice_get xs j ≡ Some x)
item_at [] j within = absurd (omega (arith, within))
item_at (x ∷ xs) zero within = (x, refl)
item_at (x ∷ xs) (suc j) within = item_at xs j (omega (arith, within))

module _ {A : Type 0} (text : ℕ → A → List ℕ) where
  -- the texts of all items but those from number j on were written
  pub record IsWrittenTo (xs : List A) (j : ℕ) (old now : Option (List ℕ)) : Type 0 where
    pub written : (done : List ℕ) × (numbered text 0 xs ≡ done ++ numbered text j (drop j xs)) × Appends old now done

  pub none_written : (xs : List A) (out : Option (List ℕ)) → IsWrittenTo xs 0 out out
  none_written xs out = record { written = ([], refl, Appends-nil out) }

  -- where item j stands in the whole
  parts : (xs : List A) (j : ℕ) (a : A) (done : List ℕ) → slice_get xs j ≡ Some a → numbered text 0 xs ≡ done ++ numbered text j (drop j xs)
      → numbered text 0 xs ≡ done ++ (text j a ++ numbered text (j + 1) (drop (j + 1) xs))
  parts xs j a done at whole = whole ∙ ap (λ (rest : List A). done ++ numbered text j rest) (drop_at xs j a at)

  pub more_written : (xs : List A) (j : ℕ) (a : A) (x y z : Option (List ℕ)) → slice_get xs j ≡ Some a
      → IsWrittenTo xs j x y → Appends y z (text j a) → IsWrittenTo xs (j + 1) x z
  more_written xs j a x y z at before now =
      let (done, whole, took) = before.written in
      record {
        written = (
          done ++ text j a,
          parts xs j a done at whole ∙ sym (append_assoc done (text j a) (numbered text (j + 1) (drop (j + 1) xs))),
          Appends-trans x y z done (text j a) took now,
        );
      }

  pub all_written : (xs : List A) (x y : Option (List ℕ)) → IsWrittenTo xs (length xs) x y → Appends x y (numbered text 0 xs)
  all_written xs x y before =
      let (done, whole, took) = before.written in
      let none : numbered text (length xs) (drop (length xs) xs) ≡ [] = ap (numbered text (length xs)) (drop-length xs) in
      let same : numbered text 0 xs ≡ done = whole ∙ ap (λ rest. done ++ rest) none ∙ append-nil done in
      rw same took

  -- where `out` failed at item j, it took a first part of the whole
  pub part_written : (xs : List A) (j : ℕ) (a : A) (x y z : Option (List ℕ)) → slice_get xs j ≡ Some a
      → IsWrittenTo xs j x y → TookPart y z (text j a) → TookPart x z (numbered text 0 xs)
  part_written xs j a x y z at before now =
      let (done, whole, took) = before.written in
      rw (parts xs j a done at whole)
      (part_then x y z done (text j a ++ numbered text (j + 1) (drop (j + 1) xs)) took
      (part_cut y z (text j a) (numbered text (j + 1) (drop (j + 1) xs)) now))
