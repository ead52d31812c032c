-- Reading the lines after the row lines by way of a window.
use Rattle.std.proofs.Common.{ℕ, ◌+◌, ◌≤◌, ◌≡◌, Bool, true, false, not, List, [], ◌++◌, length, drop, Option, Some, None, sym, refl, ap, ◌∙◌, arith}
use Rattle.std.proofs.Common.{subst, append_assoc, append-nil, length-append}
use Rattle.std.proofs.KnownBytes.{Consumes-nil, Consumes-trans}
use Rattle.std.specs.Io.KnownBytes.{Consumes, IsAtEnd}
use Rattle.sched_edges.specs.declared.read.TakeFault.{TakeFault}
use Rattle.text_words.specs.Words.{lines_of}
use Rattle.text_window.specs.Windows.{WindowHeld, Fills, GaveRest, StopsFilling}
use Rattle.text_window.proofs.WindowLemmas.{stops_after}
use Rattle.trace_check.specs.Sources.{GaveLast}
use Rattle.trace_check.specs.TailLines.{after, first_other}
use Rattle.trace_check.specs.Tails.{LinesStand, FirstIsOther}
use Rattle.trace_check.proofs.TailLemmas.{stand_none, stand_on, stand_at, stand_all}

true_or : (b : Bool) → (b ≡ true → ⊥) → b ≡ false
true_or true h = absurd (h refl)
true_or false h = refl

pub not_true_is : (b : Bool) → not b ≡ true → b ≡ false
not_true_is true e = (let x : false ≡ true = e in cc)
not_true_is false e = refl

pub false_true : (b : Bool) → b ≡ false → b ≡ true → ⊥
false_true true e f = (let x : true ≡ false = e in cc)
false_true false e f = (let x : false ≡ true = f in cc)

-- since a window stood as `w`, more was read, and n of the expected lines were gone past: now it stands as `u`
pub record TailGoing (a b : Option (List ℕ)) (fa fb : ℕ) (begun now : Bool) (w u : WindowHeld) (all : List (List ℕ)) (n : ℕ) (left : List (List ℕ)) : Type 0
  where
    pub more : List ℕ
    pub gave : Consumes a b more
    pub later : fa ≤ fb
    pub none : begun ≡ true → more ≡ []
    pub still : begun ≡ true → now ≡ true
    pub end : now ≡ true → IsAtEnd b
    pub count : begun ≡ false → u.count ≡ w.count + length more
    pub limit : begun ≡ false → u.limit ≡ w.limit
    pub within : begun ≡ false → u.count ≤ u.limit
    pub stand : LinesStand now all (w.ahead ++ more) n left u.ahead
    pub size : n + length left ≡ length all

pub tail_none : (a : Option (List ℕ)) (fa : ℕ) (begun : Bool) (w : WindowHeld) (all left : List (List ℕ)) → (begun ≡ true → IsAtEnd a) →
    (begun ≡ false → w.count ≤ w.limit) → left ≡ all
    → TailGoing a a fa fa begun begun w w all 0 left
tail_none a fa begun w all left end within same = record {
  more = [];
  gave = Consumes-nil a;
  later = omega arith;
  none = λ _. refl;
  still = λ e. e;
  end = end;
  count = λ _. omega arith;
  limit = λ _. refl;
  within = within;
  stand = subst (λ ls. LinesStand begun all (w.ahead ++ []) 0 ls w.ahead) (sym same) (subst (λ t. LinesStand begun all t 0 all w.ahead)
      (sym (append-nil w.ahead)) (stand_none begun all w.ahead));
  size = (let long : length left ≡ length all = ap length same in omega (arith, long));
}

-- lines were gone past
pub tail_passed : (a b : Option (List ℕ)) (fa fb : ℕ) (begun now : Bool) (w u v : WindowHeld) (all left next : List (List ℕ)) (n m : ℕ) →
    TailGoing a b fa fb begun now w u all n left
    → LinesStand now left u.ahead m next v.ahead → m + length next ≡ length left → v.count ≡ u.count → v.limit ≡ u.limit → TailGoing a b fa fb begun now w v
    all (n + m) next
tail_passed a b fa fb begun now w u v all left next n m g stand size count limit =
    let had = g.size in
    record {
      more = g.more;
      gave = g.gave;
      later = g.later;
      none = g.none;
      still = g.still;
      end = g.end;
      count = λ e. count ∙ g.count e;
      limit = λ e. limit ∙ g.limit e;
      within = λ e. (let within = g.within e in omega (arith, within, count, limit));
      stand = stand_on now all left next (w.ahead ++ g.more) u.ahead v.ahead n m g.stand stand;
      size = omega (arith, had, size);
    }

pub taken_rest : (text ahead rest : List ℕ) (gone : ℕ) → text ≡ ahead → rest ≡ drop gone ahead → drop gone text ≡ rest
taken_rest text ahead rest gone e f = ap (drop gone) e ∙ sym f

-- the lines of what was ahead were taken, and so many bytes gone past
pub tail_taken : (a b : Option (List ℕ)) (fa fb : ℕ) (begun now : Bool) (w u v : WindowHeld) (all left next : List (List ℕ)) (text : List ℕ) (n m gone : ℕ)
    → TailGoing a b fa fb begun now w u all n left
    → text ≡ u.ahead → LinesStand now left text m next (drop gone text) → m + length next ≡ length left → v.ahead ≡ drop gone u.ahead → v.count ≡ u.count →
    v.limit ≡ u.limit
    → TailGoing a b fa fb begun now w v all (n + m) next
tail_taken a b fa fb begun now w u v all left next text n m gone g is stand size ahead count limit =
    tail_passed a b fa fb begun now w u v all left next n m g
    (subst (λ t. LinesStand now left t m next v.ahead) is (subst (λ r. LinesStand now left text m next r) (taken_rest text u.ahead v.ahead gone is ahead)
    stand)) size count limit

pub set_now : (a b : Option (List ℕ)) (fa fb : ℕ) (begun now is : Bool) (w u : WindowHeld) (all left : List (List ℕ)) (n : ℕ) → now ≡ is →
    TailGoing a b fa fb begun now w u all n left
    → TailGoing a b fa fb begun is w u all n left
set_now a b fa fb begun now is w u all left n e g = subst (λ x. TailGoing a b fa fb begun x w u all n left) e g

pub set_other : (now is : Bool) (left : List (List ℕ)) (text ahead rest : List ℕ) (gone : ℕ) → now ≡ is → text ≡ ahead → rest ≡ drop gone ahead →
    FirstIsOther now left (drop gone text) → FirstIsOther is left rest
set_other now is left text ahead rest gone e f h other = subst (λ x. FirstIsOther x left rest) e (subst (λ r. FirstIsOther now left r)
    (taken_rest text ahead rest gone f h) other)

pub not_begun : (a b : Option (List ℕ)) (fa fb : ℕ) (begun : Bool) (w u : WindowHeld) (all left : List (List ℕ)) (n : ℕ) → TailGoing a b fa fb begun false w
    u all n left → begun ≡ false
not_begun a b fa fb begun w u all left n g = true_or begun (λ e. false_true false refl (g.still e))

-- more was read
pub tail_filled : (a b c : Option (List ℕ)) (fa fb fc : ℕ) (begun now : Bool) (w u v : WindowHeld) (all left : List (List ℕ)) (n : ℕ) →
    TailGoing a b fa fb begun false w u all n left → Fills b c u v → fb ≤ fc
    → (now ≡ true → IsAtEnd c) → TailGoing a c fa fc begun now w v all n left
tail_filled a b c fa fb fc begun now w u v all left n g f on end =
    let first = not_begun a b fa fb begun w u all left n g in
    let count = g.count first in
    let m = f.count in
    let later = g.later in
    record {
      more = g.more ++ f.more;
      gave = Consumes-trans a b c g.more f.more g.gave f.gave;
      later = omega (arith, later, on);
      none = λ e. absurd (false_true begun first e);
      still = λ e. absurd (false_true begun first e);
      end = end;
      count = λ _. omega (arith, count, m, length-append g.more f.more);
      limit = λ e. f.limit ∙ g.limit e;
      within = λ _. f.within;
      stand = λ behind may. ap (λ t. first_other all (lines_of t)) (ap (λ t. t ++ behind) (sym (append_assoc w.ahead g.more f.more))
          ∙ append_assoc (w.ahead ++ g.more) f.more behind)
          ∙ g.stand (f.more ++ behind) (λ e. absurd (false_true false refl e))
          ∙ ap (λ t. after n (first_other left (lines_of t))) (sym (append_assoc u.ahead f.more behind) ∙ ap (λ t. t ++ behind) (sym f.ahead));
      size = g.size;
    }

pub tail_stops : (a b c : Option (List ℕ)) (fa fb fc : ℕ) (begun : Bool) (w u : WindowHeld) (all left : List (List ℕ)) (n : ℕ) (fault : TakeFault) →
    TailGoing a b fa fb begun false w u all n left
    → StopsFilling b c fb fc u fault → (begun ≡ false) × StopsFilling a c fa fc w fault
tail_stops a b c fa fb fc begun w u all left n fault g s =
    let first = not_begun a b fa fb begun w u all left n g in
    (first, stops_after a b c fa fb fc w u g.more fault g.gave (g.count first) (g.limit first) (g.within first) g.later s)

-- the source is at its end
gave_last : (a b : Option (List ℕ)) (fa fb : ℕ) (begun : Bool) (w u : WindowHeld) (all left : List (List ℕ)) (n : ℕ) →
    (g : TailGoing a b fa fb begun true w u all n left) → GaveLast a b begun w g.more
gave_last a b fa fb begun w u all left n g = record {
  gave = g.gave;
  at_end = g.end refl;
  none = g.none;
  within = λ e. (let count = g.count e in let limit = g.limit e in let within = g.within e in omega (arith, count, limit, within));
}

abbrev pub TailIs : Option (List ℕ) → Option (List ℕ) → Bool → WindowHeld → List (List ℕ) → Option ℕ → Type 0
TailIs a b begun w all other = (more : List ℕ) × GaveLast a b begun w more × (first_other all (lines_of (w.ahead ++ more)) ≡ other)

pub tail_other : (a b : Option (List ℕ)) (fa fb : ℕ) (begun : Bool) (w u : WindowHeld) (all left : List (List ℕ)) (n : ℕ) → TailGoing a b fa fb begun true w
    u all n left → FirstIsOther true left u.ahead
    → TailIs a b begun w all (Some n)
tail_other a b fa fb begun w u all left n g other = (
  g.more,
  gave_last a b fa fb begun w u all left n g,
  ap (λ t. first_other all (lines_of t)) (sym (append-nil (w.ahead ++ g.more))) ∙ stand_at true all
      left (w.ahead ++ g.more) u.ahead [] n g.stand other (λ _. refl),
)

pub tail_all : (a b : Option (List ℕ)) (fa fb : ℕ) (begun : Bool) (w u : WindowHeld) (all left : List (List ℕ)) (n : ℕ) → TailGoing a b fa fb begun true w u
    all n left → left ≡ [] → u.ahead ≡ []
    → TailIs a b begun w all None
tail_all a b fa fb begun w u all left n g none over =
    (g.more, gave_last a b fa fb begun w u all left n g, stand_all true all left (w.ahead ++ g.more) u.ahead n g.stand none over)

-- another line stands there, and the rest is gone past
pub tail_skipped : (a b c : Option (List ℕ)) (fa fb : ℕ) (begun : Bool) (w u : WindowHeld) (all left : List (List ℕ)) (n : ℕ) → TailGoing a b fa fb begun
    false w u all n left → FirstIsOther false left u.ahead
    → ((more : List ℕ) × GaveRest b c u more) → TailIs a c begun w all (Some n)
tail_skipped a b c fa fb begun w u all left n g other rest =
    let first = not_begun a b fa fb begun w u all left n g in
    let count = g.count first in
    let limit = g.limit first in
    let within = rest.1.within in (
      g.more ++ rest.0,
      record {
        gave = Consumes-trans a b c g.more rest.0 g.gave rest.1.gave;
        at_end = rest.1.ended;
        none = λ e. absurd (false_true begun first e);
        within = λ _. omega (arith, count, limit, within, length-append g.more rest.0);
      },
      ap (λ t. first_other all (lines_of t)) (sym (append_assoc w.ahead g.more rest.0)) ∙ stand_at false all left (w.ahead ++ g.more) u.ahead rest.0 n
          g.stand other (λ e. absurd (false_true false refl e)),
    )
