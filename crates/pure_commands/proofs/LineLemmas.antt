-- Lines whose words are added one by one.
use Rattle.std.proofs.Common.{◌≡◌, ℕ, List, [], ◌∷◌, ◌++◌, Option, Result, length, map, codes, decimal, refl, ap, sym, ◌∙◌, subst, arith}
use Rattle.std.proofs.Common.{append_assoc, append-nil}
use Rattle.std.proofs.lemmas.List.{map-append}
use Rattle.std.specs.Io.KnownBytes.{Appends}
use Rattle.std.proofs.KnownBytes.{Appends-nil, Appends-trans}
use Rattle.sched_edges.specs.Streams.{TookPart, Wrote}
use Rattle.sched_edges.proofs.Wrote.{part_then, part_cut}
use Rattle.task_reader.specs.declared.refusals.Place.{Place}
use Rattle.task_reader.specs.declared.refusals.Place.TheVariants as place
use Rattle.sched_edges.specs.Lines.{line_end, line_of}
use Rattle.pure_commands.specs.Refusals.{place_and, place_text, key_start, printed_byte, refusal_line, mode_line, set_start}
use Rattle.pure_commands.specs.declared.mode_refusal.ModeRefusal.{ModeRefusal}
use Rattle.pure_commands.specs.declared.refusal.Refusal.TheVariants.{BadSet, OfMode}
use Rattle.task_reader.specs.declared.refusals.ReadSet.TheVariants.{UnknownKey}

line_end-place : (p : Place) (word : List ℕ) → line_end (place_and p word) ≡ place_text p ++ (32 ∷ (word ++ 10 ∷ []))
line_end-place place.Top word = refl
line_end-place (place.Task i) word = refl

joined : (a d w p k : List ℕ)
    → ((((a ++ (32 ∷ (d ++ (32 ∷ w)))) ++ p) ++ 32 ∷ []) ++ k) ++ 10 ∷ [] ≡ a ++ (32 ∷ (d ++ (32 ∷ (w ++ (p ++ (32 ∷ (k ++ 10 ∷ [])))))))
joined a d w p k =
    let begun = a ++ (32 ∷ (d ++ (32 ∷ w))) in
    let rest = p ++ (32 ∷ (k ++ 10 ∷ [])) in
    ap (λ xs. xs ++ 10 ∷ []) (append_assoc (begun ++ p) (32 ∷ []) k)
    ∙ append_assoc (begun ++ p) (32 ∷ k) (10 ∷ [])
    ∙ append_assoc begun p (32 ∷ (k ++ 10 ∷ []))
    ∙ append_assoc a (32 ∷ (d ++ (32 ∷ w))) rest
    ∙ ap (λ xs. a ++ (32 ∷ xs)) (append_assoc d (32 ∷ w) rest)

-- a line whose words were added one by one, the last of them after those of a place
pub place_line_is : (a d w : List ℕ) (p : Place) (k : List ℕ) →
    ((((a ++ (32 ∷ (d ++ (32 ∷ w)))) ++ place_text p) ++ 32 ∷ []) ++ k) ++ 10 ∷ [] ≡ a ++ (32 ∷ (d ++ (32 ∷ (w ++ line_end (place_and p k)))))
place_line_is a d w p k = joined a d w (place_text p) k ∙ ap (λ end. a ++ (32 ∷ (d ++ (32 ∷ (w ++ end))))) (sym (line_end-place p k))

one_word : (a x rest : List ℕ) → ((a ++ 32 ∷ []) ++ x) ++ rest ≡ a ++ (32 ∷ (x ++ rest))
one_word a x rest = append_assoc (a ++ 32 ∷ []) x rest ∙ append_assoc a (32 ∷ []) (x ++ rest)

two_words : (a x y rest : List ℕ) → (a ++ (32 ∷ (x ++ (32 ∷ y)))) ++ rest ≡ a ++ (32 ∷ (x ++ (32 ∷ (y ++ rest))))
two_words a x y rest = append_assoc a (32 ∷ (x ++ (32 ∷ y))) rest ∙ ap (λ t. a ++ (32 ∷ t)) (append_assoc x (32 ∷ y) rest)

-- a line of a gate that failed, whose words were added one by one
pub gate_line_is : (r d w v p u s e n : List ℕ) →
    (((((((r ++ (32 ∷ (d ++ (32 ∷ w)))) ++ (32 ∷ (v ++ (32 ∷ p)))) ++ (32 ∷ (u ++ (32 ∷ s)))) ++ 32 ∷ []) ++ e) ++ 32 ∷ []) ++ n) ++ 10 ∷ []
    ≡ r ++ line_end (d ∷ w ∷ v ∷ p ∷ u ∷ s ∷ e ∷ n ∷ [])
gate_line_is r d w v p u s e n =
    let status = r ++ (32 ∷ (d ++ (32 ∷ w))) in
    let placed = status ++ (32 ∷ (v ++ (32 ∷ p))) in
    let begun = placed ++ (32 ∷ (u ++ (32 ∷ s))) in
    let name = 32 ∷ (n ++ 10 ∷ []) in
    let end = 32 ∷ (e ++ name) in
    let row = 32 ∷ (u ++ (32 ∷ (s ++ end))) in
    one_word ((begun ++ 32 ∷ []) ++ e) n (10 ∷ []) ∙ one_word begun e name ∙ two_words placed u s end ∙ two_words status v p row
    ∙ two_words r d w (32 ∷ (v ++ (32 ∷ (p ++ row))))

-- a line of a job that failed
pub job_line_is : (r d w t n v p u s e : List ℕ) →
    (((((((((r ++ (32 ∷ (d ++ (32 ∷ w)))) ++ 32 ∷ []) ++ t) ++ 32 ∷ []) ++ n) ++ (32 ∷ (v ++ (32 ∷ p)))) ++ (32 ∷ (u ++ (32 ∷ s)))) ++ 32 ∷ []) ++ e) ++ 10 ∷ []
    ≡ r ++ line_end (d ∷ w ∷ t ∷ n ∷ v ∷ p ∷ u ∷ s ∷ e ∷ [])
job_line_is r d w t n v p u s e =
    let status = r ++ (32 ∷ (d ++ (32 ∷ w))) in
    let task = (status ++ 32 ∷ []) ++ t in
    let named = (task ++ 32 ∷ []) ++ n in
    let placed = named ++ (32 ∷ (v ++ (32 ∷ p))) in
    let begun = placed ++ (32 ∷ (u ++ (32 ∷ s))) in
    let end = 32 ∷ (e ++ 10 ∷ []) in
    let row = 32 ∷ (u ++ (32 ∷ (s ++ end))) in
    let place = 32 ∷ (v ++ (32 ∷ (p ++ row))) in
    one_word begun e (10 ∷ []) ∙ two_words placed u s end ∙ two_words named v p row ∙ one_word task n place ∙ one_word status t (32 ∷ (n ++ place))
    ∙ two_words r d w (32 ∷ (t ++ (32 ∷ (n ++ place))))

-- a line of a tree text that is at fault
pub tree_line_is : (r d w v n k : List ℕ) →
    ((((r ++ (32 ∷ (d ++ (32 ∷ w)))) ++ (32 ∷ (v ++ (32 ∷ n)))) ++ 32 ∷ []) ++ k) ++ 10 ∷ [] ≡ r ++ line_end (d ∷ w ∷ v ∷ n ∷ k ∷ [])
tree_line_is r d w v n k =
    let status = r ++ (32 ∷ (d ++ (32 ∷ w))) in
    let end = 32 ∷ (k ++ 10 ∷ []) in
    one_word (status ++ (32 ∷ (v ++ (32 ∷ n)))) k (10 ∷ []) ∙ two_words status v n end ∙ two_words r d w (32 ∷ (v ++ (32 ∷ (n ++ end))))

-- the line of an unknown key, whose parts are written one after the other
pub key_parts : (p : Place) (key : List ℕ) → key_start p ++ (map printed_byte key ++ 10 ∷ []) ≡ refusal_line (BadSet (UnknownKey p key))
unfolding refusal_line line_of
key_parts p key =
    sym (append_assoc (key_start p) (map printed_byte key) (10 ∷ []))
    ∙ place_line_is (codes "refused") (decimal 6) (codes "UnknownKey") p (map printed_byte key)

-- the line of a mode's refusal, behind the number of the mode
pub mode_line_parts : (j : ℕ) (r : ModeRefusal) → set_start j ++ mode_line r ≡ refusal_line (OfMode j r)
unfolding refusal_line mode_line
mode_line_parts j r = refl

-- ---- an unknown key, which is printed in pieces

-- these bytes were printed but for the rest of them
pub record IsPrinted (bytes rest : List ℕ) (old now : Option (List ℕ)) : Type 0 where
  pub printed : (done : List ℕ) × (bytes ≡ done ++ rest) × Appends old now (map printed_byte done)

pub none_printed : (bytes : List ℕ) (out : Option (List ℕ)) → IsPrinted bytes bytes out out
none_printed bytes out = record { printed = ([], refl, Appends-nil out) }

pub more_printed : (bytes rest piece after : List ℕ) (a b c : Option (List ℕ)) → rest ≡ piece ++ after → IsPrinted bytes rest a b
    → Appends b c (map printed_byte piece) → IsPrinted bytes after a c
more_printed bytes rest piece after a b c parts before now =
    let (done, whole, took) = before.printed in
    let joined : map printed_byte (done ++ piece) ≡ map printed_byte done ++ map printed_byte piece = map-append printed_byte done piece in
    record {
      printed = (
        done ++ piece,
        whole ∙ ap (λ xs. done ++ xs) parts ∙ sym (append_assoc done piece after),
        rw joined (Appends-trans a b c _ _ took now),
      );
    }

pub all_printed : (bytes rest : List ℕ) (a b : Option (List ℕ)) → length rest ≡ 0 → IsPrinted bytes rest a b → Appends a b (map printed_byte bytes)
all_printed bytes [] a b none before =
    let (done, whole, took) = before.printed in
    subst (λ xs. Appends a b (map printed_byte xs)) (sym (whole ∙ append-nil done)) took
all_printed bytes (x ∷ rest) a b none before = absurd (omega (arith, none))

-- where `out` failed, it took a first part
pub part_printed : (bytes rest piece after : List ℕ) (a b c : Option (List ℕ)) → rest ≡ piece ++ after → IsPrinted bytes rest a b
    → TookPart b c (map printed_byte piece) → TookPart a c (map printed_byte bytes)
part_printed bytes rest piece after a b c parts before now =
    let (done, whole, took) = before.printed in
    let same : map printed_byte bytes ≡ map printed_byte done ++ (map printed_byte piece ++ map printed_byte after) =
    ap (map printed_byte) (whole ∙ ap (λ xs. done ++ xs) parts) ∙ map-append printed_byte done (piece ++ after)
    ∙ ap (λ xs. map printed_byte done ++ xs) (map-append printed_byte piece after) in
    rw same (part_then a b c _ _ took (part_cut b c (map printed_byte piece) (map printed_byte after) now))

-- ---- the same writes, of a text that is said otherwise

pub appends_as : (a b : Option (List ℕ)) (xs ys : List ℕ) → xs ≡ ys → Appends a b xs → Appends a b ys
appends_as a b xs ys same took = subst (λ zs. Appends a b zs) same took

pub took_as : (a b : Option (List ℕ)) (xs ys : List ℕ) → xs ≡ ys → TookPart a b xs → TookPart a b ys
took_as a b xs ys same took = subst (λ zs. TookPart a b zs) same took

pub wrote_as : {T E : Type 0} (a b : Option (List ℕ)) (xs ys : List ℕ) (r : Result T E) → xs ≡ ys → Wrote a b xs r → Wrote a b ys r
wrote_as a b xs ys r same wrote = subst (λ zs. Wrote a b zs r) same wrote
