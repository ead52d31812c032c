-- What `clap` makes of the words of `draw`.
use Rattle.std.proofs.Common.{◌≡◌, inl, inr, ℕ, List, [], ◌∷◌, ◌++◌, codes}
use Rattle.std.proofs.Common.{Option, Some, None, true, option_map, option_and_then, refl, ap, ap₂}
use Rattle.std.proofs.Common.{◌∙◌}
use Rattle.clap.specs.Words.{Row, Text, first_of, subcommand_of, takes}
use Rattle.clap.proofs.OnLiterals.{clap_on_literals}
use Rattle.command_words.specs.declared.asking.Asked.{Asked}
use Rattle.command_words.specs.declared.command.Reading.{Reading}
use Rattle.command_words.specs.declared.command.Reading.TheVariants.{Draw}
use Rattle.sched_base.specs.Limits.{unit_limit}
use Rattle.command_words.specs.Words.{number_in, asked_from, asked_units, drawn}
use Rattle.command_words.specs.CommandLine.{parser, SpellsOption, SpellsDraw}
use Rattle.command_words.proofs.WordLemmas.{mapped, and_then_some}
use Rattle.command_words.proofs.ValueLemmas.{IsBare, in_range_is_bare}
use Rattle.std.specs.Prelude.{if◌then◌else◌, nat_le, ◌&&◌}

-- `draw` from this unit on
abbrev draw_from : ℕ → Option ℕ → Reading
draw_from from units = Draw (record { from = from; units = units })

-- so many units are from 1 to the limit
abbrev as_units : ℕ → Option ℕ
as_units n = if nat_le 1 n && nat_le n unit_limit then Some n else None

-- a unit is at most the limit, as a horizon is
abbrev as_unit : ℕ → Option ℕ
as_unit n = if nat_le 0 n && nat_le n unit_limit then Some n else None

-- the words of `draw` with these options
abbrev drawing : List Text → List Text
drawing options = codes "draw" ∷ options

-- `clap` makes the same of these words
record IsSame (a b : List Text) : Type 0 where
  taken : takes parser a ≡ takes parser b
  read : subcommand_of parser a ≡ subcommand_of parser b

same_words : (a b : List Text) → a ≡ b → IsSame a b
same_words a b e = record { taken = ap (takes parser) e; read = ap (subcommand_of parser) e }

same_through : (a b c : List Text) → IsSame a b → IsSame b c → IsSame a c
same_through a b c x y = record { taken = x.taken ∙ y.taken; read = x.read ∙ y.read }

-- a value as a word of its own is read as the one behind `=`, as long as it doesn't begin with a hyphen
record IsFrom (v : Text) : Type 0 where
  alone : IsSame (drawing (codes "--from" ∷ v ∷ [])) (drawing ((codes "--from=" ++ v) ∷ []))
  apart : (w : Text) → IsSame (drawing (codes "--from" ∷ v ∷ codes "--units" ∷ w ∷ [])) (drawing ((codes "--from=" ++ v) ∷ codes "--units" ∷ w ∷ []))
  joined : (w : Text) → IsSame (drawing (codes "--from" ∷ v ∷ (codes "--units=" ++ w) ∷ [])) (drawing ((codes "--from=" ++ v) ∷ (codes "--units=" ++ w) ∷ []))

record IsUnits (w : Text) : Type 0 where
  alone : IsSame (drawing (codes "--units" ∷ w ∷ [])) (drawing ((codes "--units=" ++ w) ∷ []))
  behind : (v : Text) → IsSame (drawing ((codes "--from=" ++ v) ∷ codes "--units" ∷ w ∷ [])) (drawing ((codes "--from=" ++ v) ∷ (codes "--units=" ++ w) ∷ []))

from_bare : (v : Text) → IsBare v → IsFrom v
unfolding clap_on_literals
from_bare [] bare = absurd bare
from_bare (d ∷ ds) bare = record {
  alone = record { taken = rw (bare, bare) refl; read = rw (bare, bare) refl };
  apart = λ w. record { taken = rw (bare, bare) refl; read = rw (bare, bare) refl };
  joined = λ w. record { taken = rw (bare, bare) refl; read = rw (bare, bare) refl };
}

units_bare : (w : Text) → IsBare w → IsUnits w
unfolding clap_on_literals
units_bare [] bare = absurd bare
units_bare (d ∷ ds) bare = record {
  alone = record { taken = rw (bare, bare) refl; read = rw (bare, bare) refl };
  behind = λ v. record { taken = rw (bare, bare) refl; read = rw (bare, bare) refl };
}

-- what is asked for by the values of the options
pub record IsAskedBy (from units : Option Text) (x : Reading) : Type 0 where
  pub asks : (u : ℕ) × (n : Option ℕ) × (asked_from from ≡ Some u) × (asked_units units ≡ Some n) × (draw_from u n ≡ x)

pub asked_by : (from units : Option Text) (x : Reading) → drawn from units ≡ Some x → IsAskedBy from units x
asked_by from units x e =
    let (u, is, rest) = and_then_some (λ u. option_map (draw_from u) (asked_units units)) (asked_from from) x e in
    let (n, are, same) = mapped (draw_from u) (asked_units units) x rest in
    record { asks = (u, n, is, are, same) }

-- the values, where they are given, are read so
abbrev IsFromIn : Option Text → Type 0
IsFromIn None = Unit {0}
IsFromIn (Some v) = IsFrom v

abbrev IsUnitsIn : Option Text → Type 0
IsUnitsIn None = Unit {0}
IsUnitsIn (Some w) = IsUnits w

from_in : (from : Option Text) (u : ℕ) → asked_from from ≡ Some u → IsFromIn from
from_in None u e = tt
from_in (Some v) u e = from_bare v (in_range_is_bare as_unit v u e)

units_in : (units : Option Text) (n : Option ℕ) → asked_units units ≡ Some n → IsUnitsIn units
units_in None n e = tt
units_in (Some w) n e = let (m, is, same) = mapped (λ m. Some m) (number_in 1 unit_limit w) n e in units_bare w (in_range_is_bare as_units w m is)

-- the option with its value behind `=`
abbrev option_word : Text → Option Text → List Text
option_word name None = []
option_word name (Some v) = (name ++ (codes "=" ++ v)) ∷ []

abbrev drawing_of : Option Text → Option Text → List Text
drawing_of from units = drawing (option_word (codes "--from") from ++ option_word (codes "--units") units)

drawing_is : (a b c d : List Text) → a ≡ b → c ≡ d → IsSame (drawing (a ++ c)) (drawing (b ++ d))
drawing_is a b c d e f = same_words _ _ (ap₂ (λ x y. drawing (x ++ y)) e f)

-- all spellings of the options are read as that with `=`
same_drawing : (from units : Option Text) (first second : List Text) → IsFromIn from → IsUnitsIn units → SpellsOption (codes "--from") from first
    → SpellsOption (codes "--units") units second → IsSame (drawing (first ++ second)) (drawing_of from units)
same_drawing None None first second f u e g = drawing_is first _ second _ e g
same_drawing None (Some w) first second f u e (inl own) = same_through _ _ _ (drawing_is first _ second _ e own) u.alone
same_drawing None (Some w) first second f u e (inr behind) = drawing_is first _ second _ e behind
same_drawing (Some v) None first second f u (inl own) g = same_through _ _ _ (drawing_is first _ second _ own g) f.alone
same_drawing (Some v) None first second f u (inr behind) g = drawing_is first _ second _ behind g
same_drawing (Some v) (Some w) first second f u (inl own) (inl next) =
    same_through _ _ _ (drawing_is first _ second _ own next) (same_through _ _ _ (f.apart w) (u.behind v))
same_drawing (Some v) (Some w) first second f u (inl own) (inr next) = same_through _ _ _ (drawing_is first _ second _ own next) (f.joined w)
same_drawing (Some v) (Some w) first second f u (inr behind) (inl next) = same_through _ _ _ (drawing_is first _ second _ behind next) (u.behind v)
same_drawing (Some v) (Some w) first second f u (inr behind) (inr next) = drawing_is first _ second _ behind next

-- what `clap` makes of the words of `draw`
pub record IsDrawn (from units : Option Text) (words : List Text) : Type 0 where
  pub taken : takes parser words ≡ true
  pub named : option_map (λ p. p.0) (subcommand_of parser words) ≡ Some (codes "draw")
  pub from_is : option_and_then (first_of (codes "from")) (option_map (λ p. p.1) (subcommand_of parser words)) ≡ from
  pub units_is : option_and_then (first_of (codes "units")) (option_map (λ p. p.1) (subcommand_of parser words)) ≡ units

-- the name of the subcommand that was met, and the values of its options
abbrev parts_of : Option (Text × List Row) → Option Text × (Option Text × Option Text)
parts_of o = (
  option_map (λ p. p.0) o,
  (option_and_then (first_of (codes "from")) (option_map (λ p. p.1) o), option_and_then (first_of (codes "units")) (option_map (λ p. p.1) o)),
)

drawn_parts : (from units : Option Text) → parts_of (subcommand_of parser (drawing_of from units)) ≡ (Some (codes "draw"), (from, units))
unfolding clap_on_literals
drawn_parts None None = refl
drawn_parts None (Some w) = refl
drawn_parts (Some v) None = refl
drawn_parts (Some v) (Some w) = refl

drawing_taken : (from units : Option Text) → takes parser (drawing_of from units) ≡ true
unfolding clap_on_literals
drawing_taken None None = refl
drawing_taken None (Some w) = refl
drawing_taken (Some v) None = refl
drawing_taken (Some v) (Some w) = refl

drawn_of : (from units : Option Text) → IsDrawn from units (drawing_of from units)
drawn_of from units =
    let parts = drawn_parts from units in
    record {
      taken = drawing_taken from units;
      named = ap (λ p. p.0) parts;
      from_is = ap (λ p. p.1.0) parts;
      units_is = ap (λ p. p.1.1) parts;
    }

drawn_as : (from units : Option Text) (a b : List Text) → IsSame a b → IsDrawn from units b → IsDrawn from units a
drawn_as from units a b same is = record {
  taken = same.taken ∙ is.taken;
  named = ap (option_map (λ p. p.0)) same.read ∙ is.named;
  from_is = ap (λ o. option_and_then (first_of (codes "from")) (option_map (λ p. p.1) o)) same.read ∙ is.from_is;
  units_is = ap (λ o. option_and_then (first_of (codes "units")) (option_map (λ p. p.1) o)) same.read ∙ is.units_is;
}

-- the words of `draw` are read as its values
pub record ReadsDraw (asked : Asked) (words : List Text) : Type 0 where
  pub reads : (from units : Option Text) × (drawn from units ≡ Some (Draw asked)) × IsDrawn from units words

pub reads_draw : (asked : Asked) (words : List Text) → SpellsDraw asked words → ReadsDraw asked words
reads_draw asked words spells =
    let (from, units, first, second, is, front_is, back_is, words_are) = spells in
    let (u, n, from_given, units_given, same) = (asked_by from units (Draw asked) is).asks in
    let whole = same_drawing from units first second (from_in from u from_given) (units_in units n units_given) front_is back_is in
    record {
      reads = (
        from,
        units,
        is,
        drawn_as from units words (drawing_of from units)
            (same_through _ _ _ (same_words words (drawing (first ++ second)) words_are) whole) (drawn_of from units),
      );
    }
