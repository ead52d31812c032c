-- Rows in one form: one of them read, all of them in another form.
use Rattle.std.proofs.Common.{◌≡◌, ℕ, ◌+◌, ◌<◌, ◌≤◌, List, [], ◌∷◌, ◌++◌, Some, length, map, take, get_or, sym, ap, ◌∙◌, option_map}
use Rattle.std.specs.Prelude.{slice_get}
use Rattle.std.proofs.lemmas.List.{length-map, map-append, take_all, take_more}
use Rattle.std.proofs.lemmas.Option.{slice_get-get_or, slice_get-map}
use Rattle.sched_base.specs.declared.rows.Leaf.{Leaf}
use Rattle.merged_rows.specs.Columns.{Begun, rows_up_to}
use Rattle.merged_rows.proofs.ColumnLemmas.{length-rows_up_to, new_row}

-- a row that was read
pub read_at : {X : Type 0} (begun : X → Begun) (rows : List X) (i : ℕ) (row : X) → i < length rows → row ≡ get_or rows i row → slice_get (map begun rows)
    i ≡ Some (begun row)
read_at begun rows i row within is = slice_get-map begun rows i ∙ ap (option_map begun) (slice_get-get_or rows i row within ∙ ap Some (sym is))

-- there are as many rows as records
pub count_in : {X : Type 0} (begun : X → Begun) (rows : List X) (p end : ℕ) → length (rows_up_to p end (map begun rows)) ≡ length rows
count_in begun rows p end = length-rows_up_to p end (map begun rows) ∙ length-map rows begun

-- a record with this start and this leaf
pub same_begun : (b : Begun) (start : ℕ) (leaf : Leaf) → start ≡ b.start → leaf ≡ b.leaf → b ≡ new_row start leaf
same_begun b start leaf first second = ap (λ n. new_row n b.leaf) (sym first) ∙ ap (new_row start) (sym second)

-- one row more in the other form
pub moved_more : {X Y : Type 0} (begun : X → Begun) (begun' : Y → Begun) (rows : List X) (moved moved' : List Y) (i : ℕ) (row : X) (same : Y) (start : ℕ)
    (leaf : Leaf) → i < length rows
    → row ≡ get_or rows i row → start ≡ (begun row).start → leaf ≡ (begun row).leaf → begun' same ≡ new_row start leaf → moved' ≡ moved ++ same ∷ [] →
    map begun' moved ≡ map begun (take i rows)
    → map begun' moved' ≡ map begun (take (i + 1) rows)
moved_more begun begun' rows moved moved' i row same start leaf within is first second packed pushed before =
    ap (map begun') pushed ∙ map-append begun' moved (same ∷ []) ∙ ap (λ bs. bs ++ begun' same ∷ []) before
    ∙ ap (λ b. map begun (take i rows) ++ b ∷ []) (packed ∙ sym (same_begun (begun row) start leaf first second) ∙ ap begun is)
    ∙ sym (map-append begun (take i rows) (get_or rows i row ∷ [])) ∙ ap (map begun) (sym (take_more rows i row within))

-- all rows, and the one that follows them
pub moved_all : {X Y : Type 0} (begun : X → Begun) (begun' : Y → Begun) (rows : List X) (moved moved' : List Y) (n : ℕ) (last : Y) (b : Begun) →
    length rows ≤ n → moved' ≡ moved ++ last ∷ [] → begun' last ≡ b
    → map begun' moved ≡ map begun (take n rows) → map begun' moved' ≡ map begun rows ++ b ∷ []
moved_all begun begun' rows moved moved' n last b through pushed is before =
    ap (map begun') pushed ∙ map-append begun' moved (last ∷ []) ∙ ap (λ bs. bs ++ begun' last ∷ []) (before ∙ ap (map begun) (take_all n rows through))
    ∙ ap (λ x. map begun rows ++ x ∷ []) is
