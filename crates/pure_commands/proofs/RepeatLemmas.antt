-- A set up to the least horizon at which its schedule repeats: what was told of it, and why it wasn't.
use Rattle.std.proofs.Common.{◌≡◌, ℕ, List, Option, Result, subst}
use Rattle.std.specs.Prelude.{OnOk, IfErr}
use Rattle.std.specs.Io.KnownBytes.{Appends}
use Rattle.std.proofs.lemmas.Result.{IfErr-weaker, on_ok_weaker}
use Rattle.sched_base.specs.Sets.{SetContents}
use Rattle.sched_edges.specs.Streams.{TookPart}
use Rattle.rate_scale.proofs.ScaleLemmas.{same_scale}
use Rattle.repeat_laws.specs.Repeats.{up_to}
use Rattle.pure_commands.specs.declared.refusal.Refusal.{Refusal}
use Rattle.pure_commands.specs.declared.refusal.Refusal.TheVariants as why
use Rattle.pure_commands.specs.Commands.{SetText, repeating, text_of, HasRoom}
use Rattle.pure_commands.specs.SetTexts.{IsSchedulable, IsTooLongSet, IsTooWideSet, LacksRepeat}
use Rattle.pure_commands.specs.Input.{IsRefusedSet, IsRepeating, IsNotRepeating, StopsAtSet, WroteSet}
use Rattle.pure_commands.proofs.EndLemmas.{keeps_same}

-- a set that doesn't fit up to one horizon doesn't fit up to another
refused_same : (s : SetContents) (horizon : ℕ) (r : Refusal) → IsRefusedSet (up_to horizon s) r → IsRefusedSet s r
refused_same s horizon why.NoMemory is = tt
refused_same s horizon _ is = is

module _ (what : SetText) (s again : SetContents) (out out' : Option (List ℕ)) (repeats : IsRepeating s again) where
  one_scale : (other : ℕ) → IsSchedulable (up_to repeats.is.0 s) other → other ≡ repeats.is.0
  one_scale other run = same_scale s.tasks other repeats.is.0 run.is_scale repeats.is.1.is_scale

  wrote_is : WroteSet what out out' again → WroteSet (repeating what) out out' s
  wrote_is wrote =
      let scale = repeats.is.0 in
      let (other, run, room, took) = subst (λ (x : SetContents). WroteSet what out out' x) repeats.is.3 wrote in
      let same = one_scale other run in (
        scale,
        repeats.is.1,
        (repeats.is.2, subst (λ (n : ℕ). HasRoom what (up_to scale s) n) same room),
        subst (λ (n : ℕ). Appends out out' (text_of what (up_to scale s) n)) same took,
      )

  -- the text of the set was written
  pub repeated_wrote : {T E : Type 0} (r : Result T E) → OnOk r (WroteSet what out out' again) → OnOk r (WroteSet (repeating what) out out' s)
  repeated_wrote r wrote = on_ok_weaker r wrote_is wrote

  stops_is : (faults faults' : ℕ) → ((r : Refusal) → LacksRepeat what again r → ⊥) → (r : Refusal) → StopsAtSet what out out' faults faults' again r
      → StopsAtSet (repeating what) out out' faults faults' s r
  stops_is faults faults' never why.WriteFault stops =
      let scale = repeats.is.0 in
      let (other, run, room, took, rose) = subst (λ (x : SetContents). StopsAtSet what out out' faults faults' x why.WriteFault) repeats.is.3 stops in
      let same = one_scale other run in (
        scale,
        repeats.is.1,
        (repeats.is.2, subst (λ (n : ℕ). HasRoom what (up_to scale s) n) same room),
        subst (λ (n : ℕ). TookPart out out' (text_of what (up_to scale s) n)) same took,
        rose,
      )
  stops_is faults faults' never (why.TooLong rows) stops =
      ((repeats.is.0, repeats.is.1, repeats.is.2, subst (λ (x : SetContents). IsTooLongSet what x rows) repeats.is.3 stops.0), stops.1)
  stops_is faults faults' never (why.TooWide ticks) stops =
      ((repeats.is.0, repeats.is.1, repeats.is.2, subst (λ (x : SetContents). IsTooWideSet what x ticks) repeats.is.3 stops.0), stops.1)
  stops_is faults faults' never (why.NoRepeat task) stops = absurd (never (why.NoRepeat task) stops.0)
  stops_is faults faults' never (why.WideRepeat units) stops = absurd (never (why.WideRepeat units) stops.0)
  stops_is faults faults' never r stops = (refused_same s repeats.is.0 r (subst (λ (x : SetContents). IsRefusedSet x r) repeats.is.3 stops.0), stops.1)

-- why the text wasn't written
pub repeated_stops : {T : Type 0} (what : SetText) (s again : SetContents) (out out' : Option (List ℕ)) (faults faults' : ℕ) → IsRepeating s again
    → ((r : Refusal) → LacksRepeat what again r → ⊥) → (r : Result T Refusal) → IfErr r (StopsAtSet what out out' faults faults' again)
    → IfErr r (StopsAtSet (repeating what) out out' faults faults' s)
repeated_stops what s again out out' faults faults' repeats never r stops =
    IfErr-weaker r _ _ (λ q h. stops_is what s again out out' repeats faults faults' never q h) stops

-- why there is no such set
pub not_repeating : (what : SetText) (s : SetContents) (out : Option (List ℕ)) (faults : ℕ) (r : Refusal) → IsNotRepeating s r
    → StopsAtSet (repeating what) out out faults faults s r
not_repeating what s out faults (why.NoRepeat task) is = (is, keeps_same out)
not_repeating what s out faults (why.WideRepeat units) is = (is, keeps_same out)
not_repeating what s out faults why.WriteFault is = absurd is
not_repeating what s out faults (why.TooLong rows) is = absurd is
not_repeating what s out faults (why.TooWide ticks) is = absurd is
not_repeating what s out faults _ is = (is, keeps_same out)
