use Rattle.std.proofs.Common.{ℕ, ◌+◌, ◌<◌, ◌≤◌, ◌≡◌, List, [], ◌∷◌, ◌++◌, length, length-append, append_assoc, codes, decimal, ap, le_trans, arith}
use Rattle.trace_writer.proofs.NameLemmas.{short_name}
use Rattle.trace_writer.proofs.lines.start_of_task.Goals as goal

-- a line that a text was added to
longer : (old new text : List ℕ) (n m : ℕ) → new ≡ old ++ text → length old ≤ n → length text ≤ m → length new ≤ n + m
longer old new text n m e a b = (let all = ap length e in omega (arith, all, length-append old text, a, b))

-- the line with its word, and then with the name and the space after it
worded : (none line : List ℕ) → none ≡ [] → line ≡ none ++ codes "task " → length line ≤ 5
worded none line e f = longer none line (codes "task ") 0 5 f (let zero = ap length e in omega (arith, zero)) (omega arith)

named : (none worded_line name line : List ℕ) → none ≡ [] → worded_line ≡ none ++ codes "task " → line ≡ worded_line ++ name → length name ≤ 32 →
    length line ≤ 37
named none worded_line name line e f g h = longer worded_line line name 5 32 g (worded none worded_line e f) h

spaced : (none worded_line name named_line line : List ℕ) → none ≡ [] → worded_line ≡ none ++ codes "task " → named_line ≡ worded_line ++ name →
    length name ≤ 32 → line ≡ named_line ++ 32 ∷ [] → length line ≤ 38
spaced none worded_line name named_line line e f g h i = longer named_line line (32 ∷ []) 37 1 i (named none worded_line name named_line e f g h) (omega arith)

-- and with two numbers
spaced_again : (before numbered line : List ℕ) → length before ≤ 38 → length numbered ≤ length before + 40 → line ≡ numbered ++ 32 ∷ [] → length line ≤ 79
spaced_again before numbered line a b e = longer numbered line (32 ∷ []) 78 1 e (omega (arith, a, b)) (omega arith)

in_pieces : (word name work period : List ℕ) → ((((([] ++ word) ++ name) ++ 32 ∷ []) ++ work) ++ 32 ∷ []) ++ period ≡ word
    ++ (name ++ (32 ∷ (work ++ (32 ∷ period))))
in_pieces word name work period = simp append_assoc

has_word : (n : ℕ) → n ≤ 0 → n + 5 ≤ 256
has_word n h = omega arith

has_name : (n name : ℕ) → n ≤ 5 → name ≤ 32 → n + name ≤ 256
has_name n name a b = omega arith

has_space : (n : ℕ) → n ≤ 37 → n < 256
has_space n h = omega arith

has_number : (n : ℕ) → n ≤ 79 → n ≤ 216
has_number n h = omega arith

has_more : (n m : ℕ) → n ≤ 38 → m ≤ n + 40 → m < 256
has_more n m a b = omega arith

pub text-requires : goal.text-requires
text-requires c = has_word (length c.new-line.result) (let zero = ap length c.new-line.ensures in omega (arith, zero))

pub text-requires-2 : goal.text-requires-2
text-requires-2 c = has_name (length c.text.new.self) (length c.as_slice.result.now) (worded c.new-line.result c.text.new.self c.new-line.ensures
    c.text.ensures) (short_name c.as_slice.result.now c.as_slice.ensures.lawful)

pub space-requires : goal.space-requires
space-requires c =
    has_space (length c.text-2.new.self) (named c.new-line.result c.text.new.self c.as_slice.result.now c.text-2.new.self c.new-line.ensures c.text.ensures
    c.text-2.ensures (short_name c.as_slice.result.now c.as_slice.ensures.lawful))

pub number-requires : goal.number-requires
number-requires c =
    let short = spaced c.new-line.result c.text.new.self c.as_slice.result.now c.text-2.new.self c.space.new.self c.new-line.ensures c.text.ensures
    c.text-2.ensures (short_name c.as_slice.result.now c.as_slice.ensures.lawful) c.space.ensures in
    le_trans short (omega arith)

pub space-requires-2 : goal.space-requires-2
space-requires-2 c =
    let short = spaced c.new-line.result c.text.new.self c.as_slice.result.now c.text-2.new.self c.space.new.self c.new-line.ensures c.text.ensures
    c.text-2.ensures (short_name c.as_slice.result.now c.as_slice.ensures.lawful) c.space.ensures in
    has_more (length c.space.new.self) (length c.number.new.self) short c.number.ensures.short

pub number-requires-2 : goal.number-requires-2
number-requires-2 c =
    let short = spaced c.new-line.result c.text.new.self c.as_slice.result.now c.text-2.new.self c.space.new.self c.new-line.ensures c.text.ensures
    c.text-2.ensures (short_name c.as_slice.result.now c.as_slice.ensures.lawful) c.space.ensures in
    has_number (length c.space-2.new.self) (spaced_again c.space.new.self c.number.new.self c.space-2.new.self short c.number.ensures.short c.space-2.ensures)

all_short : (n m : ℕ) → n ≤ 79 → m ≤ n + 40 → m ≤ 128
all_short n m a b = omega arith

pub returns-clause-short : goal.returns-clause-short
returns-clause-short c =
    let short = spaced c.new-line.result c.text.new.self c.as_slice.result.now c.text-2.new.self c.space.new.self c.new-line.ensures c.text.ensures
    c.text-2.ensures (short_name c.as_slice.result.now c.as_slice.ensures.lawful) c.space.ensures in
    all_short (length c.space-2.new.self) (length c.number-2.new.self) (spaced_again c.space.new.self c.number.new.self c.space-2.new.self short
    c.number.ensures.short c.space-2.ensures) c.number-2.ensures.short

pub returns-clause-text : goal.returns-clause-text
returns-clause-text c =
    rw (
      c.number-2.ensures.text,
      c.from-2.ensures,
      c.space-2.ensures,
      c.number.ensures.text,
      c.from.ensures,
      c.space.ensures,
      c.text-2.ensures,
      c.as_slice.ensures.bytes,
      c.text.ensures,
      c.new-line.ensures,
    )
    (in_pieces (codes "task ") c.args.task.now.name (decimal c.args.task.now.work) (decimal c.args.task.now.period))
