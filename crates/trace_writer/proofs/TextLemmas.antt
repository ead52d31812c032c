-- The whole text, part by part.
use Rattle.std.proofs.Common.{ℕ, ◌≡◌, List, [], ◌∷◌, ◌++◌, length, map, codes, Option, Result, Err, refl, sym, ap, ◌∙◌, append_assoc, append-nil}
use Rattle.std.specs.Prelude.{IsErr}
use Rattle.std.specs.List.{flat_map, range_with_len}
use Rattle.std.proofs.lemmas.List.Concat.{flat_map-append}
use Rattle.std.proofs.lemmas.List.Folds.{flat_map-map}
use Rattle.sched_base.specs.declared.rows.Row.{Row}
use Rattle.sched_base.specs.declared.sets.Task.{Task}
use Rattle.sched_base.specs.Sets.{SetContents}
use Rattle.sched_edges.specs.Lines.{number_line}
use Rattle.sched_edges.specs.Streams.{Wrote}
use Rattle.sched_edges.proofs.Wrote.{wrote_part}
use Rattle.trace_format.specs.declared.versions.Version.{Version}
use Rattle.trace_format.specs.Lines.{task_line, row_line, met_line}
use Rattle.trace_format.specs.Finishes.{ended_count, finish}
use Rattle.trace_format.specs.Text.{head_lines, total_lines, mets_of_task, met_lines, trace_format, trace_text}
use Rattle.trace_writer.specs.Parts.{text_of, body_text}

-- a write that failed, under another answer that fails
pub wrote_again : {T U E F : Type 0} (a b : Option (List ℕ)) (xs : List ℕ) (e : F) (r : Result T E) → Wrote {T = U} a b xs (Err e) → IsErr r → Wrote a b xs r
wrote_again a b xs e r wrote failed = wrote_part a b xs r failed wrote.err

text_append : (xs ys : List (List ℕ)) → text_of (xs ++ ys) ≡ text_of xs ++ text_of ys
text_append xs ys = flat_map-append (λ line. line) xs ys

-- lines made one from each item, and then others
text_map : {A : Type 0} (f : A → List ℕ) (xs : List A) (lines : List (List ℕ)) (text : List ℕ) → text_of lines ≡ text →
    text_of (map f xs ++ lines) ≡ flat_map f xs ++ text
text_map f xs lines text rest = text_append (map f xs) lines ∙ ap (λ t. t ++ text_of lines) (flat_map-map (λ line. line) f xs)
    ∙ ap (λ t. flat_map f xs ++ t) rest

regroup : (a b c d x : List ℕ) → a ++ (b ++ (c ++ (d ++ x))) ≡ (a ++ (b ++ (c ++ d))) ++ x
regroup a b c d x = sym (append_assoc a (b ++ (c ++ d)) x ∙ ap (λ t. a ++ t) (append_assoc b (c ++ d) x ∙ ap (λ t. b ++ t) (append_assoc c d x)))

-- after the totals stand the lines of the periods, and the number of rows
pub trace_parts : (version : Version) (s : SetContents) (scale : ℕ) (rows : List Row)
    → trace_text version s scale rows ≡ body_text version s scale rows ++ (text_of (met_lines version scale s rows) ++ number_line (codes "rows") (length rows))
unfolding trace_format
trace_parts version s scale rows =
    let end = number_line (codes "rows") (length rows) in
    let mets = met_lines version scale s rows in
    let a : text_of (mets ++ end ∷ []) ≡ text_of mets ++ end = text_append mets (end ∷ []) ∙ ap (λ t. text_of mets ++ t) (append-nil end) in
    let b : text_of (total_lines s rows ++ (mets ++ end ∷ [])) ≡ text_of (total_lines s rows) ++ (text_of mets ++ end) =
    text_append (total_lines s rows) (mets ++ end ∷ []) ∙ ap (λ t. text_of (total_lines s rows) ++ t) a in
    let c = text_map (row_line s.tasks) rows (total_lines s rows ++ (mets ++ end ∷ [])) _ b in
    let d = text_map (task_line version) s.tasks (map (row_line s.tasks) rows ++ (total_lines s rows ++ (mets ++ end ∷ []))) _ c in
    text_append (head_lines version s scale) (map (task_line version) s.tasks ++ (map (row_line s.tasks) rows ++ (total_lines s rows ++ (mets ++ end ∷ []))))
    ∙ ap (λ t. text_of (head_lines version s scale) ++ t) d
    ∙ regroup (text_of (head_lines version s scale)) (flat_map (task_line version) s.tasks) (flat_map (row_line s.tasks) rows)
    (text_of (total_lines s rows)) (text_of mets ++ end)

-- the texts of parts that are lists of lines
pub texts_of : {A : Type 0} (f : A → List (List ℕ)) (xs : List A) → text_of (flat_map f xs) ≡ flat_map (λ x. text_of (f x)) xs
texts_of f [] = refl
texts_of f (x ∷ xs) = text_append (f x) (flat_map f xs) ∙ ap (λ t. text_of (f x) ++ t) (texts_of f xs)

-- the text of a list of lines made one from each item
pub text_of_map : {A : Type 0} (f : A → List ℕ) (xs : List A) → text_of (map f xs) ≡ flat_map f xs
text_of_map f xs = flat_map-map (λ line. line) f xs

-- when period k of task j, which has this name, was done
abbrev pub met_of : ℕ → SetContents → List Row → ℕ → List ℕ → ℕ → List ℕ
met_of scale s rows j name k = met_line name k (finish scale s rows j k)

pub mets_are : (scale : ℕ) (s : SetContents) (rows : List Row) (j : ℕ) (t : Task) → text_of (mets_of_task scale s rows (j, t)) ≡ flat_map
    (met_of scale s rows j t.name) (range_with_len 0 (ended_count s t))
mets_are scale s rows j t = text_of_map (met_of scale s rows j t.name) (range_with_len 0 (ended_count s t))
