-- The lines of a tree text are read again, part by part.
use Rattle.std.proofs.Common.{◌≡◌, ◌≢◌, ℕ, zero, suc, ◌+◌, ◌-◌, ◌^◌, ◌<◌, ◌≤◌, ◌&&◌, true, false, cond, eqb, leb, List, [], ◌∷◌, ◌++◌, map, length}
use Rattle.std.proofs.Common.{Some, None, option_map, option_and_then, Ok, codes, decimal, refl, ap, arith, sym, subst, ◌∙◌, append_assoc, append-nil}
use Rattle.std.proofs.Common.{length-append}
use Rattle.std.specs.Prelude.{is_some}
use Rattle.std.specs.List.{AllByRecursion, flat_map, list_all}
use Rattle.std.proofs.lemmas.Bool.{cond-true, cond-false, ne_eqb, eq-eqb, and_from, and_parts, le-leb}
use Rattle.sched_base.specs.declared.sets.Task.{Task}
use Rattle.sched_base.specs.Names.{is_lawful_name, starts_name, continues_name}
use Rattle.sched_base.specs.Sets.{IsFree}
use Rattle.sched_edges.specs.Lines.{number_line, numbers_line}
use Rattle.text_words.specs.Words.{cut_space, after_word, number_of}
use Rattle.text_words.proofs.RoundTrip.{number_of_decimal}
use Rattle.trace_format.specs.declared.versions.Version.TheVariants.{One}
use Rattle.trace_format.specs.Lines.{task_line}
use Rattle.trace_check.specs.declared.head_lines.Head.{Head}
use Rattle.trace_check.specs.Steps.{and_then, step, next_line, within}
use Rattle.trace_check.proofs.ScaleTest.{is_scale_from}
use Rattle.trace_check.proofs.TaskTripLemmas.{tasks_again}
use Rattle.trace_check.proofs.WordLemmas.{IsWord, word_of, name_word, decimal_word, bare, lines_again, line_again, cut_word, word_then, number_again}
use Rattle.trace_check.proofs.WordLemmas.{number_is, next_number, next_any, start_past}
use Rattle.tree_check.specs.declared.written.Member.{Member}
use Rattle.tree_check.specs.declared.written.Member.TheVariants.{Name, Number}
use Rattle.tree_check.specs.Written.{Pack, Written}
use Rattle.tree_reader.specs.Members.{words_of, member_number, member_of, leaf_member, members_from}
use Rattle.tree_reader.specs.Packs.{pack_from, pack_of, number_behind, second_number}
use Rattle.tree_reader.specs.Reading.{tree_head, idles_from, packs_from, level_from, levels_from, ended, is_count, body, reading}
use Rattle.tree_reader.proofs.WordLemmas.{words_cut, words_last}
use Rattle.tree_reader.proofs.ReadingLemmas.{head_is, idles_more, packs_more, levels_more, levels_done, body_levels, reading_tasks, judged}
use Rattle.tree_text_laws.proofs.TreeLines.{word_at, line_of_pack, lines_of_levels, lines_of_idles, last_lines, tree_lines, IsWritable, IsPackLine}
use Rattle.tree_text_laws.proofs.TreeLines.{IsLevelLines, AreLevels, IsText}
use Rattle.text_words.proofs.Parts.{behind, onto_first}

-- ---- words

uncut : (word : List ℕ) → IsWord word → cut_space word ≡ None
uncut [] h = refl
uncut (b ∷ word) h = cond-false _ _ _ (ne_eqb b 32 h.0.0) ∙ ap (option_map (onto_first b)) (uncut word h.1)

-- the words of a line are those that were written
pub words_again : (word : List ℕ) (words : List (List ℕ)) → IsWord word → AllByRecursion IsWord words → words_of (bare word words) ≡ word ∷ words
words_again word [] h hs = words_last word (uncut word h)
words_again word (next ∷ words) h hs =
    words_cut (bare word (next ∷ words)) word (bare next words) (cut_word word next words h) ∙ ap (λ ws. word ∷ ws) (words_again next words hs.0 hs.1)

within_again : (low high n : ℕ) → low ≤ n → n ≤ high → within low high n ≡ Some n
within_again low high n a b = cond-true _ _ _ (and_from _ _ (le-leb low n a) (le-leb n high b))

-- ---- members

number_word : (n : ℕ) → n < 2 ^ 32 → member_number (decimal n) ≡ Some (Number n)
number_word n small =
    ap (λ o. option_map Number (option_and_then (within 0 (2 ^ 32 - 1)) o)) (number_of_decimal n (omega (arith, small)))
    ∙ ap (option_map Number) (within_again 0 (2 ^ 32 - 1) n (omega arith) (omega (arith, small)))

not_dash : (b : ℕ) (bs : List ℕ) → is_lawful_name (b ∷ bs) ≡ true → b ≢ 45
not_dash b bs h e =
    let p = and_parts (starts_name b && leb (length bs) 31) (list_all continues_name bs) h in
    let low = start_past b (and_parts (starts_name b) (leb (length bs) 31) p.0).0 in
    omega (arith, low, e)

leaf_name : (name : List ℕ) → is_lawful_name name ≡ true → leaf_member name ≡ Some (Name name)
leaf_name [] h = cc
leaf_name (b ∷ bs) h =
    cond-false (eqb b 45) _ _ (ne_eqb b 45 (not_dash b bs h)) ∙ cond-true (is_lawful_name (b ∷ bs)) (Some (Name (b ∷ bs))) None h

member_again : (l : ℕ) (m : Member) → IsWritable l m → member_of l (word_at l m) ≡ Some m
member_again zero (Name name) h = leaf_name name h.1
member_again zero (Number k) h = number_word k h
member_again (suc l) (Name name) h = absurd (let e = h.0 in omega (arith, e))
member_again (suc l) (Number j) h = number_word j h

member_word : (l : ℕ) (m : Member) → IsWritable l m → IsWord (word_at l m)
member_word zero (Name name) h = name_word name h.1
member_word zero (Number k) h = (((λ e. omega (arith, e)), (λ e. omega (arith, e))), decimal_word k (omega (arith, h)))
member_word (suc l) (Name name) h = name_word name h.1
member_word (suc l) (Number j) h = (((λ e. omega (arith, e)), (λ e. omega (arith, e))), decimal_word j (omega (arith, h)))

member_words : (l : ℕ) (ms : List Member) → AllByRecursion (IsWritable l) ms → AllByRecursion IsWord (map (word_at l) ms)
member_words l [] h = tt
member_words l (m ∷ ms) h = (member_word l m h.0, member_words l ms h.1)

members_again : (l : ℕ) (ms : List Member) → AllByRecursion (IsWritable l) ms → members_from l (map (word_at l) ms) ≡ Some ms
members_again l [] h = refl
members_again l (m ∷ ms) h = rw (member_again l m h.0, members_again l ms h.1) refl

-- ---- packs

pack_again : (scale l : ℕ) (p : Pack) → scale ≤ 2 ^ 94 → IsPackLine scale l p → pack_of scale l (bare (codes "pack") (decimal p.rate ∷ map (word_at l)
    p.members)) ≡ Some p
pack_again scale l p small h = go p.members h.some h.each (members_again l p.members h.each)
  where
    fits : p.rate < 10 ^ 64
    fits = (let w = h.within in omega (arith, small, w))

    go : (ms : List Member) → 0 < length ms → AllByRecursion (IsWritable l) ms → members_from l (map (word_at l) ms) ≡ Some ms
        → pack_of scale l (bare (codes "pack") (decimal p.rate ∷ map (word_at l) ms)) ≡ Some (record { rate = p.rate; members = ms })
    go [] some each again = absurd (omega (arith, some))
    go (m ∷ ms) some each again =
        let first = word_then (codes "pack") (decimal p.rate) (map (word_at l) (m ∷ ms)) (word_of (codes "pack") refl) in
        let second = cut_word (decimal p.rate) (word_at l m) (map (word_at l) ms) (decimal_word p.rate fits) in
        let words = words_again (word_at l m) (map (word_at l) ms) (member_word l m each.0) (member_words l ms each.1) in
        ap (λ o. option_and_then (λ rest. option_and_then (pack_from scale l) (cut_space rest)) o) first
        ∙ ap (λ o. option_and_then (pack_from scale l) o) second
        ∙ ap (λ o. option_and_then (λ r. option_map (λ xs. record { rate = r; members = xs })
        (members_from l (words_of (bare (word_at l m) (map (word_at l) ms))))) (option_and_then (within 0 scale) o)) (number_of_decimal p.rate fits)
        ∙ ap (λ o. option_and_then (λ r. option_map (λ xs. record { rate = r; members = xs })
        (members_from l (words_of (bare (word_at l m) (map (word_at l) ms))))) o) (within_again 0 scale p.rate (omega arith) h.within)
        ∙ ap (λ ws. option_map (λ xs. record { rate = p.rate; members = xs }) (members_from l ws)) words
        ∙ ap (λ o. option_map (λ xs. record { rate = p.rate; members = xs }) o) again

pack_line_again : (scale l : ℕ) (p : Pack) (lines : List (List ℕ)) → scale ≤ 2 ^ 94 → IsPackLine scale l p
    → lines_again (line_of_pack l p ∷ lines) ≡ bare (codes "pack") (decimal p.rate ∷ map (word_at l) p.members) ∷ lines_again lines
pack_line_again scale l p lines small h =
    let w = h.within in
    line_again (codes "pack") (decimal p.rate ∷ map (word_at l) p.members) lines (word_of (codes "pack") refl)
    (decimal_word p.rate (omega (arith, small, w)), member_words l p.members h.each)

packs_again : (scale l first : ℕ) (done packs : List Pack) (lines : List (List ℕ)) → scale ≤ 2 ^ 94 → AllByRecursion (IsPackLine scale l) packs
    → packs_from scale l first (length packs) done (lines_again (map (line_of_pack l) packs ++ lines)) ≡ Ok (done ++ packs, lines_again lines)
packs_again scale l first done [] lines small h = ap (λ ps. Ok (ps, lines_again lines)) (sym (append-nil done))
packs_again scale l first done (p ∷ packs) lines small h =
    let some : 0 < length (p ∷ packs) = omega arith in
    let rest : length (p ∷ packs) - 1 ≡ length packs = omega arith in
    packs_more scale l first (length (p ∷ packs)) done _ _ _ p some (pack_line_again scale l p (map (line_of_pack l) packs ++ lines) small h.0)
    (pack_again scale l p small h.0)
    ∙ ap (λ n. packs_from scale l first n (done ++ p ∷ []) (lines_again (map (line_of_pack l) packs ++ lines))) rest
    ∙ packs_again scale l first (done ++ p ∷ []) packs lines small h.1
    ∙ ap (λ ps. Ok (ps, lines_again lines)) (append_assoc done (p ∷ []) packs)

-- ---- lines with two numbers

numbers_again : (word : List ℕ) (m n : ℕ) (lines : List (List ℕ)) → IsWord word → m < 10 ^ 64 → n < 10 ^ 64
    → lines_again (numbers_line word m n ∷ lines) ≡ bare word (decimal m ∷ decimal n ∷ []) ∷ lines_again lines
unfolding numbers_line
numbers_again word m n lines h a b = line_again word (decimal m ∷ decimal n ∷ []) lines h (decimal_word m a, (decimal_word n b, tt))

second_again : (word : List ℕ) (k low high n : ℕ) → IsWord word → k < 10 ^ 64 → low ≤ n → n ≤ high → high < 10 ^ 64
    → second_number word k low high (bare word (decimal k ∷ decimal n ∷ [])) ≡ Some n
second_again word k low high n h small above below fits =
    ap (λ o. option_and_then (λ rest. option_and_then (number_behind k low high) (cut_space rest)) o) (word_then word (decimal k) (decimal n ∷ []) h)
    ∙ ap (λ o. option_and_then (number_behind k low high) o) (cut_word (decimal k) (decimal n) [] (decimal_word k small))
    ∙ ap (λ o. option_and_then (λ i. cond (eqb i k) (option_and_then (within low high) (number_of (decimal n))) None) o) (number_of_decimal k small)
    ∙ cond-true (eqb k k) (option_and_then (within low high) (number_of (decimal n))) None (eq-eqb k k refl)
    ∙ ap (option_and_then (within low high)) (number_of_decimal n (omega (arith, below, fits)))
    ∙ within_again low high n above below

-- ---- idle leaves

idles_again : (first scale : ℕ) (done rates : List ℕ) (lines : List (List ℕ)) → scale ≤ 2 ^ 94 → length done + length rates ≤ 1024 →
    AllByRecursion (λ r. (1 ≤ r) × (r ≤ scale)) rates
    → idles_from first scale (length rates) done (lines_again (lines_of_idles (length done) rates ++ lines)) ≡ Ok (done ++ rates, lines_again lines)
idles_again first scale done [] lines small few h = ap (λ rs. Ok (rs, lines_again lines)) (sym (append-nil done))
idles_again first scale done (r ∷ rates) lines small few h =
    let some : 0 < length (r ∷ rates) = omega arith in
    let rest : length (r ∷ rates) - 1 ≡ length rates = omega arith in
    let long = length-append done (r ∷ []) in
    let next : length done + 1 ≡ length (done ++ r ∷ []) = omega (arith, long) in
    let k : length done < 10 ^ 64 = omega (arith, few) in
    let high = h.0.1 in
    let later = lines_of_idles (length done + 1) rates ++ lines in
    let line = numbers_again (codes "idle") (length done) r later (word_of (codes "idle") refl) k (omega (arith, high, small)) in
    let second = second_again (codes "idle") (length done) 1 scale r (word_of (codes "idle") refl) k h.0.0 h.0.1 (omega (arith, small)) in
    let read : next_line (first + length done) (second_number (codes "idle") (length done) 1 scale) (lines_again (numbers_line (codes "idle") (length done)
    r ∷ later)) ≡ Ok (r, lines_again later) =
    ap (next_line (first + length done) (second_number (codes "idle") (length done) 1 scale)) line ∙ ap (λ o. step (first + length done) o
    (lines_again later)) second in
    idles_more first scale (length (r ∷ rates)) (first + length done) (length done) done (lines_again (numbers_line (codes "idle") (length done) r ∷ later))
    (lines_again later) r some refl refl read
    ∙ ap (λ n. idles_from first scale n (done ++ r ∷ []) (lines_again later)) rest
    ∙ ap (λ n. idles_from first scale (length rates) (done ++ r ∷ []) (lines_again (lines_of_idles n rates ++ lines))) next
    ∙ idles_again first scale (done ++ r ∷ []) rates lines small (omega (arith, few, long)) h.1
    ∙ ap (λ rs. Ok (rs, lines_again lines)) (append_assoc done (r ∷ []) rates)

-- ---- levels

-- a line that begins with `level` doesn't begin with `levels`
not_end : (m n : ℕ) → is_some (after_word (codes "levels") (bare (codes "level") (decimal m ∷ decimal n ∷ []))) ≡ false
not_end m n = ap (λ o. is_some (option_and_then (behind (codes "levels")) o)) (cut_word (codes "level") (decimal m) (decimal n ∷ [])
    (word_of (codes "level") refl))

level_again : (scale l at : ℕ) (packs : List Pack) (lines : List (List ℕ)) → scale ≤ 2 ^ 94 → l < 10 ^ 64 → IsLevelLines scale l packs
    → level_from scale l at (bare (codes "level") (decimal l ∷ decimal (length packs) ∷ [])) (lines_again (map (line_of_pack l) packs ++ lines)) ≡ Ok
    (packs, lines_again lines)
level_again scale l at packs lines small fits h =
    let second = second_again (codes "level") l 1 1280 (length packs) (word_of (codes "level") refl) fits h.some h.few (omega arith) in
    let rest = lines_again (map (line_of_pack l) packs ++ lines) in
    ap (λ o. and_then (step at o rest) (λ (n : ℕ × List (List ℕ)). packs_from scale l (at + 1) n.0 [] n.1)) second
    ∙ packs_again scale l (at + 1) [] packs lines small h.each

-- the line of their number, which is the last
end_again : (scale at : ℕ) (levels : List (List Pack)) → 0 < length levels → length levels < 10 ^ 64
    → levels_from scale at 0 levels (lines_again (number_line (codes "levels") (length levels) ∷ [])) ≡ Ok levels
end_again scale at levels some fits =
    let line = number_again (codes "levels") (length levels) [] (word_of (codes "levels") refl) fits in
    let begins : is_some (after_word (codes "levels") (bare (codes "levels") (decimal (length levels) ∷ []))) ≡ true =
    ap is_some (word_then (codes "levels") (decimal (length levels)) [] (word_of (codes "levels") refl)) in
    let counts : is_count levels (Some (length levels)) ≡ true = and_from _ _ (eq-eqb (length levels) (length levels) refl) (le-leb 1 (length levels) some) in
    levels_done scale at levels _ [] _ line begins
    ∙ ap (λ n. ended at levels n []) (number_is (codes "levels") (length levels) (word_of (codes "levels") refl) fits)
    ∙ cond-true _ _ _ counts

levels_again : (scale at : ℕ) (done levels : List (List Pack)) → scale ≤ 2 ^ 94 → 0 < length done + length levels → length done + length levels < 10 ^ 64 →
    AreLevels scale (length done) levels
    → levels_from scale at 0 done (lines_again (lines_of_levels (length done) levels ++ number_line (codes "levels") (length (done ++ levels)) ∷ [])) ≡ Ok
    (done ++ levels)
levels_again scale at done [] small some fits h =
    let all = append-nil done in
    let P : List (List Pack) → Type 0 = λ ls. levels_from scale at 0 done (lines_again (number_line (codes "levels") (length ls) ∷ [])) ≡ Ok ls in
    subst P (sym all) (end_again scale at done (omega (arith, some)) (omega (arith, fits)))
levels_again scale at done (packs ∷ levels) small some fits h =
    let long = length-append done (packs ∷ []) in
    let next : length done + 1 ≡ length (done ++ packs ∷ []) = omega (arith, long) in
    let k : length done < 10 ^ 64 = omega (arith, fits) in
    let few = h.0.few in
    let all = append_assoc done (packs ∷ []) levels in
    let last = number_line (codes "levels") (length (done ++ packs ∷ levels)) ∷ [] in
    let later = lines_of_levels (length done + 1) levels ++ last in
    let joined : (map (line_of_pack (length done)) packs ++ lines_of_levels (length done + 1) levels) ++ last ≡ map (line_of_pack (length done))
    packs ++ later =
    append_assoc (map (line_of_pack (length done)) packs) (lines_of_levels (length done + 1) levels) last in
    let line = numbers_again (codes "level") (length done) (length packs) (map (line_of_pack (length done)) packs ++ later) (word_of (codes "level") refl) k
    (omega (arith, few)) in
    ap (λ ls. levels_from scale at 0 done (lines_again (numbers_line (codes "level") (length done) (length packs) ∷ ls))) joined
    ∙ levels_more scale at done _ _ (lines_again later) _ packs line (not_end (length done) (length packs)) (level_again scale (length done) at packs later
    small k h.0)
    ∙ ap (λ n. levels_from scale (at + (1 + length packs)) 0 (done ++ packs ∷ []) (lines_again (lines_of_levels n levels ++ last))) next
    ∙ ap (λ ls. levels_from scale (at + (1 + length packs)) 0 (done ++ packs ∷ []) (lines_again (lines_of_levels (length (done ++ packs ∷ []))
    levels ++ number_line (codes "levels") (length ls) ∷ []))) (sym all)
    ∙ levels_again scale (at + (1 + length packs)) (done ++ packs ∷ []) levels small (omega (arith, long)) (omega (arith, fits, long))
    (subst (λ n. AreLevels scale n levels) next h.1)
    ∙ ap Ok all

-- ---- the whole

body_again : (w : Written) → IsText w → body w.set w.scale (lines_again (last_lines w)) ≡ Ok w
body_again w h =
    let n = length w.set.tasks in
    let last = number_line (codes "levels") (length w.levels) ∷ [] in
    let levels = lines_of_levels 0 w.levels ++ last in
    let idles = lines_of_idles 0 w.idles ++ levels in
    let few = h.few_idles in
    let some = h.some_level in
    let fits = h.few_levels in
    body_levels w.set w.scale (6 + n) (7 + n) (length w.idles) (7 + n + length w.idles) (lines_again (last_lines w)) (lines_again idles)
    (lines_again levels) w.idles (Ok w.levels)
    refl (next_number (6 + n) (codes "idles") 0 1024 (length w.idles) idles (word_of (codes "idles") refl) (omega arith) few (omega arith))
    refl (idles_again (7 + n) w.scale [] w.idles levels h.scale_fits (omega (arith, few)) h.idles)
    refl (levels_again w.scale (7 + n + length w.idles) [] w.levels h.scale_fits (omega (arith, some)) (omega (arith, fits)) h.levels)

none_done : (tasks : List Task) → AllByRecursion (λ u. IsFree u.name []) tasks
none_done [] = tt
none_done (t ∷ tasks) = (tt, none_done tasks)

head_again : (w : Written) (lines : List (List ℕ)) → IsText w
    → tree_head (lines_again (number_line (codes "run-tree") 1 ∷ (number_line (codes "processors") w.set.processors ∷ (number_line (codes "horizon")
    w.set.horizon
    ∷ (number_line (codes "scale") w.scale ∷ (number_line (codes "tasks") (length w.set.tasks) ∷ lines))))))
    ≡ Ok (record { version = One; processors = w.set.processors; horizon = w.set.horizon; scale = w.scale; tasks = length w.set.tasks }, lines_again lines)
head_again w lines h =
    let lawful = h.lawful in
    let some = lawful.some_processors in
    let few = lawful.few_processors in
    let starts = lawful.some_horizon in
    let ends : w.set.horizon ≤ 2 ^ 32 - 1 = (let z = lawful.horizon_fits in omega (arith, z)) in
    let tasks = lawful.few_tasks in
    let small = h.scale_fits in
    let five = number_line (codes "tasks") (length w.set.tasks) ∷ lines in
    let four = number_line (codes "scale") w.scale ∷ five in
    let three = number_line (codes "horizon") w.set.horizon ∷ four in
    let two = number_line (codes "processors") w.set.processors ∷ three in
    let one = number_line (codes "run-tree") 1 ∷ two in
    head_is (lines_again one) (lines_again two) (lines_again three) (lines_again four) (lines_again five) (lines_again lines) 1 w.set.processors
    w.set.horizon w.scale (length w.set.tasks)
    (next_number 1 (codes "run-tree") 1 1 1 two (word_of (codes "run-tree") refl) (omega arith) (omega arith) (omega arith))
    (next_number 2 (codes "processors") 1 32 w.set.processors three (word_of (codes "processors") refl) some few (omega arith))
    (next_number 3 (codes "horizon") 1 (2 ^ 32 - 1) w.set.horizon four (word_of (codes "horizon") refl) starts ends (omega arith))
    (next_any 4 (codes "scale") w.scale five (word_of (codes "scale") refl) (omega (arith, small)))
    (next_number 5 (codes "tasks") 0 256 (length w.set.tasks) lines (word_of (codes "tasks") refl) (omega arith) tasks (omega arith))

-- the lines of what a text says are read as just that
pub lines_again_read : (w : Written) → IsText w → reading (flat_map (λ line. line) (tree_lines w)) ≡ Ok w
lines_again_read w h =
    let rest = last_lines w in
    let tasks = map (task_line One) w.set.tasks ++ rest in
    let said : Head = record { version = One; processors = w.set.processors; horizon = w.set.horizon; scale = w.scale; tasks = length w.set.tasks } in
    let read = tasks_again One [] w.set.tasks rest h.lawful.each h.on_time h.lawful.names_differ (none_done w.set.tasks) in
    reading_tasks (flat_map (λ line. line) (tree_lines w)) said (lines_again tasks) (head_again w tasks h)
    ∙ ap (λ r. and_then r (judged said)) read
    ∙ cond-true _ _ _ (is_scale_from w.set.tasks w.scale h.is_scale h.scale_fits)
    ∙ body_again w h
