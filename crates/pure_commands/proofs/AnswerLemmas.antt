-- Where nothing fails, the answer for the bytes is given.
use Rattle.std.proofs.Common.{◌≡◌, ◌⊎◌, inl, inr, ℕ, ◌*◌, ◌^◌, ◌≤◌, ◌<◌, List, Result, Ok, Err, Option, Some, None, refl}
use Rattle.std.proofs.Common.{sym, ◌∙◌, ap, subst, arith}
use Rattle.sched_base.specs.Sets.{SetContents}
use Rattle.sched_base.specs.Scale.{IsScale, PassesAt, total_of, room_of}
use Rattle.sched_base.specs.Tables.{row_limit}
use Rattle.repeat_laws.specs.Repeats.{up_to}
use Rattle.repeat_laws.proofs.Repeating.{of_task}
use Rattle.run_tree.specs.Plans.{stop_of}
use Rattle.wrap_sched.specs.Wrapped.{wrapped_rounds}
use Rattle.task_reader.specs.Reading.{set_read_from}
use Rattle.task_reader.specs.declared.refusals.ReadSet.{ReadSet}
use Rattle.trace_check.specs.Traces.{Trace as TraceRead}
use Rattle.trace_check.specs.Reading.{reading}
use Rattle.stat_report.specs.Report.{IsValidTrace}
use Rattle.rate_scale.proofs.ScaleLemmas.{same_scale, PassesAt-whole}
use Rattle.command_words.specs.declared.command.Command.{Command}
use Rattle.command_words.specs.declared.command.Command.TheVariants.{Read, Batch, Execute}
use Rattle.pure_commands.specs.declared.refusal.Refusal.{Refusal}
use Rattle.pure_commands.specs.declared.refusal.Refusal.TheVariants as why
use Rattle.exit_status.specs.declared.Status.{Status}
use Rattle.exit_status.specs.declared.Status.TheVariants.{Done, Invalid, NoMemory, BadInput, TooLong, TooWide}
use Rattle.pure_commands.specs.Commands.{SetText, rates, server_tree, schedule_rows, wrapped_rows, c_table, repeating, Output, of_set, of_trace}
use Rattle.pure_commands.specs.Commands.{of_picture, of_tree, of_batch}
use Rattle.pure_commands.specs.Commands.{output_of, limit_of, plan_of, rows_of, HasRoom, RefusesText}
use Rattle.pure_commands.specs.Commands.{Writes, CallsFor, Refuses}
use Rattle.pure_commands.specs.SetTexts.{IsSchedulable, IsUnfit, IsTooLongSet, IsTooWideSet, IsUnrepeated, LacksRepeat, LacksText, Repeats}
use Rattle.pure_commands.specs.Checks.{TellsTrace, Judges, RefusesTrace}
use Rattle.pure_commands.specs.Refusals.{status_of, set_status}
use Rattle.pure_commands.specs.Ends.{Streams, ErrorStream, IsDone, Stops, Answers, IsAnswered}
use Rattle.pure_commands.specs.Refuse.{IsRefused}
use Rattle.pure_commands.proofs.FollowLemmas.{followed_or_refused, one_follow_status}
use Rattle.pure_commands.proofs.OneAnswerLemmas.{HaveOneAnswer, wanting_asked, done_asked, stops_asked}

same_set : (bytes : List ℕ) (s t : SetContents) → set_read_from bytes ≡ Ok s → set_read_from bytes ≡ Ok t → s ≡ t
same_set bytes s t a b = let e : ◌≡◌ {A = Result SetContents ReadSet} (Ok s) (Ok t) = sym a ∙ b in cc

same_refusal : (bytes : List ℕ) (r q : ReadSet) → set_read_from bytes ≡ Err r → set_read_from bytes ≡ Err q → r ≡ q
same_refusal bytes r q a b = let e : ◌≡◌ {A = Result SetContents ReadSet} (Err r) (Err q) = sym a ∙ b in cc

not_both : (bytes : List ℕ) (s : SetContents) (r : ReadSet) → set_read_from bytes ≡ Ok s → set_read_from bytes ≡ Err r → ⊥
not_both bytes s r a b = let e : ◌≡◌ {A = Result SetContents ReadSet} (Ok s) (Err r) = sym a ∙ b in cc

-- ---- sets

-- a set fits up to each horizon
up_to_fits : (s : SetContents) (horizon scale : ℕ) → IsSchedulable s scale → IsSchedulable (up_to horizon s) scale
up_to_fits s horizon scale run = record { is_scale = run.is_scale; within = run.within; fits = run.fits }

-- a set with a scale within the limit has no task that passes it
no_pass : (s : SetContents) (scale task : ℕ) → IsScale s.tasks scale → scale ≤ 2 ^ 94 → PassesAt (2 ^ 94) s.tasks task → ⊥
no_pass s scale task is within passes = let over = PassesAt-whole (2 ^ 94) s.tasks task passes scale is in absurd (omega (arith, over, within))

-- a set that fits doesn't ask for more than there is
no_overload : (s : SetContents) (scale other total room : ℕ) → IsSchedulable s scale → IsScale s.tasks other → room < total
    → total ≡ total_of other s.tasks → room ≡ room_of other s → ⊥
no_overload s scale other total room run is over is_total is_room =
    let one : other ≡ scale = same_scale s.tasks other scale is run.is_scale in
    let fits : total_of other s.tasks ≤ room_of other s = rw one run.fits in
    absurd (omega (arith, fits, over, is_total, is_room))

fits_or_not : (s : SetContents) (scale : ℕ) (r : Refusal) → IsSchedulable s scale → IsUnfit s r → ⊥
fits_or_not s scale (why.ScaleTooLarge task) run unfit = no_pass s scale task run.is_scale run.within unfit
fits_or_not s scale (why.Overload total room) run unfit =
    let (other, is, within, over, is_total, is_room) = unfit in
    no_overload s scale other total room run is over is_total is_room
fits_or_not s scale _ run unfit = absurd unfit

-- a set has one scale, so what is so of the one is so of the other
moved : (P : ℕ → Type 0) (s : SetContents) (a b : ℕ) → IsSchedulable s a → IsSchedulable s b → P a → P b
moved P s a b x y h = subst P (same_scale s.tasks a b x.is_scale y.is_scale) h

-- a set whose text has room hasn't too many rows
not_too_long : (what : SetText) (s : SetContents) (scale rows : ℕ) → IsSchedulable s scale → HasRoom what s scale → IsTooLongSet what s rows → ⊥
not_too_long rates s scale rows run room long = long
not_too_long server_tree s scale rows run room long = long
not_too_long (schedule_rows met) s scale rows run room long =
    let (other, run', past) = long in
    let over' = moved (λ n. row_limit < rows_of (plan_of s n)) s other scale run' run past.0 in
    absurd (omega (arith, room, over'))
not_too_long wrapped_rows s scale rows run room long =
    let (other, run', past) = long in
    let over' = moved (λ n. row_limit < wrapped_rounds n s * s.processors) s other scale run' run past.0 in
    absurd (omega (arith, room, over'))
not_too_long c_table s scale rows run room long =
    let (other, run', past) = long.1 in
    let over' = moved (λ n. row_limit < rows_of (plan_of s n)) s other scale run' run past.0 in
    let few = room.1 in
    absurd (omega (arith, few, over'))
not_too_long (repeating what) s scale rows run room long =
    let (other, run', repeats, long') = long in
    let here = moved (λ n. IsTooLongSet what (up_to n s) rows) s other scale run' run long' in
    not_too_long what (up_to scale s) scale rows (up_to_fits s scale scale run) room.1 here

-- a schedule with few ticks hasn't too many
few_ticks : (s : SetContents) (scale ticks : ℕ) → IsSchedulable s scale → stop_of (plan_of s scale) < 2 ^ 64 → IsTooWideSet c_table s ticks → ⊥
few_ticks s scale ticks run few wide =
    let (other, run', over, is) = wide in
    let few' = moved (λ n. stop_of (plan_of s n) < 2 ^ 64) s scale other run run' few in
    absurd (omega (arith, few', over, is))

not_too_wide : (what : SetText) (s : SetContents) (scale ticks : ℕ) → IsSchedulable s scale → HasRoom what s scale → IsTooWideSet what s ticks → ⊥
not_too_wide c_table s scale ticks run room wide = few_ticks s scale ticks run room.0 wide
not_too_wide (repeating what) s scale ticks run room wide =
    let (other, run', repeats, wide') = wide in
    let here = moved (λ n. IsTooWideSet what (up_to n s) ticks) s other scale run' run wide' in
    not_too_wide what (up_to scale s) scale ticks (up_to_fits s scale scale run) room.1 here
not_too_wide _ s scale ticks run room wide = absurd wide

not_long_and_wide : (what : SetText) (s : SetContents) (rows ticks : ℕ) → IsTooLongSet what s rows → IsTooWideSet what s ticks → ⊥
not_long_and_wide c_table s rows ticks long wide = few_ticks s long.0.0 ticks long.0.1 long.0.2 wide
not_long_and_wide (repeating what) s rows ticks long wide =
    let here = moved (λ n. IsTooWideSet what (up_to n s) ticks) s wide.0 long.0 wide.1 long.1 wide.3 in
    not_long_and_wide what (up_to long.0 s) rows ticks long.3 here
not_long_and_wide _ s rows ticks long wide = absurd wide

-- a set that has not this text for its many rows, or its many ticks, fits
long_fits : (what : SetText) (s : SetContents) (rows : ℕ) → IsTooLongSet what s rows → (scale : ℕ) × IsSchedulable s scale
long_fits rates s rows long = absurd long
long_fits server_tree s rows long = absurd long
long_fits (schedule_rows met) s rows long = (long.0, long.1)
long_fits wrapped_rows s rows long = (long.0, long.1)
long_fits c_table s rows long = (long.1.0, long.1.1)
long_fits (repeating what) s rows long = (long.0, long.1)

wide_fits : (what : SetText) (s : SetContents) (ticks : ℕ) → IsTooWideSet what s ticks → (scale : ℕ) × IsSchedulable s scale
wide_fits c_table s ticks wide = (wide.0, wide.1)
wide_fits (repeating what) s ticks wide = (wide.0, wide.1)
wide_fits _ s ticks wide = absurd wide

-- a set whose schedule doesn't repeat fits
unrepeated_fits : (what : SetText) (s : SetContents) (r : Refusal) → LacksRepeat what s r → (scale : ℕ) × IsSchedulable s scale
unrepeated_fits (repeating what) s (why.NoRepeat task) without = (without.0, without.1)
unrepeated_fits (repeating what) s (why.WideRepeat units) without = (units, without.0)
unrepeated_fits (repeating what) s _ without = absurd without
unrepeated_fits _ s r without = absurd without

-- a schedule that repeats doesn't lack that
repeats_or_not : (s : SetContents) (scale : ℕ) (r : Refusal) → IsSchedulable s scale → Repeats s scale → IsUnrepeated s r → ⊥
repeats_or_not s scale (why.NoRepeat task) run repeats without =
    without.2.holds (of_task (λ t. t.offset ≡ 0) s.tasks task repeats.no_offset without.2.within)
repeats_or_not s scale (why.WideRepeat units) run repeats without =
    let few = moved (λ n. n < 2 ^ 32) s scale units run without.0 repeats.horizon_fits in
    let many = without.2 in
    absurd (omega (arith, few, many))
repeats_or_not s scale _ run repeats without = absurd without

not_unrepeated : (what : SetText) (s : SetContents) (scale : ℕ) (r : Refusal) → IsSchedulable s scale → HasRoom what s scale → LacksRepeat what s r → ⊥
not_unrepeated (repeating what) s scale r run room without = repeats_or_not s scale r run room.0 without
not_unrepeated _ s scale r run room without = absurd without

not_long_unrepeated : (what : SetText) (s : SetContents) (rows : ℕ) (r : Refusal) → IsTooLongSet what s rows → LacksRepeat what s r → ⊥
not_long_unrepeated (repeating what) s rows r long without = repeats_or_not s long.0 r long.1 long.2 without
not_long_unrepeated _ s rows r long without = absurd without

-- a set doesn't fit, or doesn't have this text for its many rows; or for its many ticks, or since its schedule doesn't repeat
abbrev Lacks : SetText → SetContents → Refusal → Type 0
Lacks what s r =
    IsUnfit s r
    ⊎ (((rows : ℕ) × IsTooLongSet what s rows × (status_of r ≡ TooLong))
    ⊎ ((((ticks : ℕ) × IsTooWideSet what s ticks) ⊎ LacksRepeat what s r) × (status_of r ≡ TooWide)))

lacks : (what : SetText) (s : SetContents) (r : Refusal) → LacksText what s r → Lacks what s r
lacks what s (why.TooLong rows) without = inr (inl (rows, without, refl))
lacks what s (why.TooWide ticks) without = inr (inr (inl (ticks, without), refl))
lacks what s (why.NoRepeat task) without = inr (inr (inr without, refl))
lacks what s (why.WideRepeat units) without = inr (inr (inr without, refl))
lacks what s _ without = inl without

-- a set that lacks a text for such a reason fits
abbrev IsWide : SetText → SetContents → Refusal → Type 0
IsWide what s r = ((ticks : ℕ) × IsTooWideSet what s ticks) ⊎ LacksRepeat what s r

lacking_fits : (what : SetText) (s : SetContents) (r : Refusal) → IsWide what s r → (scale : ℕ) × IsSchedulable s scale
lacking_fits what s r (inl wide) = wide_fits what s wide.0 wide.1
lacking_fits what s r (inr without) = unrepeated_fits what s r without

-- and hasn't got too many rows
not_long_and_lacking : (what : SetText) (s : SetContents) (rows : ℕ) (r : Refusal) → IsTooLongSet what s rows → IsWide what s r → ⊥
not_long_and_lacking what s rows r long (inl wide) = not_long_and_wide what s rows wide.0 long wide.1
not_long_and_lacking what s rows r long (inr without) = not_long_unrepeated what s rows r long without

room_or_lacking : (what : SetText) (s : SetContents) (scale : ℕ) (r : Refusal) → IsSchedulable s scale → HasRoom what s scale → IsWide what s r → ⊥
room_or_lacking what s scale r run room (inl wide) = not_too_wide what s scale wide.0 run room wide.1
room_or_lacking what s scale r run room (inr without) = not_unrepeated what s scale r run room without

-- a set doesn't lack the text that it has
has_or_lacks : (what : SetText) (s : SetContents) (scale : ℕ) (r : Refusal) → IsSchedulable s scale → HasRoom what s scale → LacksText what s r → ⊥
has_or_lacks what s scale r run room without = elim (lacks what s r without) [
  | inl unfit ↦ fits_or_not s scale r run unfit
  | inr (inl long) ↦ not_too_long what s scale long.0 run room long.1
  | inr (inr wide) ↦ room_or_lacking what s scale r run room wide.0
]

-- a set that doesn't fit is refused with one status
one_unfit_status : (s : SetContents) (r q : Refusal) → IsUnfit s r → IsUnfit s q → status_of r ≡ status_of q
one_unfit_status s (why.ScaleTooLarge task) (why.ScaleTooLarge other) a b = refl
one_unfit_status s (why.ScaleTooLarge task) (why.Overload total room) a b = absurd (no_pass s b.0 task b.1 b.2 a)
one_unfit_status s (why.ScaleTooLarge task) _ a b = absurd b
one_unfit_status s (why.Overload total room) (why.ScaleTooLarge task) a b = absurd (no_pass s a.0 task a.1 a.2 b)
one_unfit_status s (why.Overload total room) (why.Overload other more) a b = refl
one_unfit_status s (why.Overload total room) _ a b = absurd b
one_unfit_status s _ q a b = absurd a

-- so is one that lacks a text
one_lack_status : (what : SetText) (s : SetContents) (r q : Refusal) → LacksText what s r → LacksText what s q → status_of r ≡ status_of q
one_lack_status what s r q a b =
    elim (lacks what s r a) [
      | inl unfit ↦ elim (lacks what s q b) [
        | inl other ↦ one_unfit_status s r q unfit other
        | inr (inl long) ↦ let (scale, run) = long_fits what s long.0 long.1 in absurd (fits_or_not s scale r run unfit)
        | inr (inr wide) ↦ let (scale, run) = lacking_fits what s q wide.0 in absurd (fits_or_not s scale r run unfit)
      ]
      | inr (inl long) ↦ elim (lacks what s q b) [
        | inl unfit ↦ let (scale, run) = long_fits what s long.0 long.1 in absurd (fits_or_not s scale q run unfit)
        | inr (inl other) ↦ long.2 ∙ sym other.2
        | inr (inr wide) ↦ absurd (not_long_and_lacking what s long.0 q long.1 wide.0)
      ]
      | inr (inr wide) ↦ elim (lacks what s q b) [
        | inl unfit ↦ let (scale, run) = lacking_fits what s r wide.0 in absurd (fits_or_not s scale q run unfit)
        | inr (inl long) ↦ absurd (not_long_and_lacking what s long.0 r long.1 wide.0)
        | inr (inr other) ↦ wide.1 ∙ sym other.1
      ]
    ]

-- ---- bytes where a text of a set is wanted

-- bytes that are refused are no set, or a set that lacks the text
abbrev AsText : SetText → List ℕ → Refusal → Type 0
AsText what bytes r =
    ((q : ReadSet) × (why.BadSet q ≡ r) × (set_read_from bytes ≡ Err q)) ⊎ ((s : SetContents) × (set_read_from bytes ≡ Ok s) × LacksText what s r)

as_text : (what : SetText) (bytes : List ℕ) (r : Refusal) → RefusesText what bytes r → AsText what bytes r
as_text what bytes (why.BadSet q) refuses = inl (q, refl, refuses)
as_text what bytes _ refuses = inr refuses

-- no text of a set is written for bytes that are refused where it is wanted
pub set_writes_or_refuses : (what : SetText) (bytes text : List ℕ) (status : Status) (r : Refusal) → Writes (of_set what) bytes status text
    → RefusesText what bytes r → ⊥
set_writes_or_refuses what bytes text status r writes refuses =
    let (s, scale, reads, fits, room, is_text) = writes.1 in
    elim (as_text what bytes r refuses) [
      | inl bad ↦ not_both bytes s bad.0 reads.read bad.2
      | inr (t, read, without) ↦
          let same : t ≡ s = same_set bytes t s read reads.read in
          has_or_lacks what s scale r (record { is_scale = reads.is_scale; within = reads.within; fits = fits }) room
          (subst (λ (x : SetContents). LacksText what x r) same without)
    ]

-- bytes where a text of a set is wanted are refused with one status
pub one_text_status : (what : SetText) (bytes : List ℕ) (r q : Refusal) → RefusesText what bytes r → RefusesText what bytes q → status_of r ≡ status_of q
one_text_status what bytes r q a b =
    elim (as_text what bytes r a) [
      | inl bad ↦ elim (as_text what bytes q b) [
        | inl other ↦ sym (ap status_of bad.1) ∙ (ap set_status (same_refusal bytes bad.0 other.0 bad.2 other.2) ∙ ap status_of other.1)
        | inr (s, read, without) ↦ absurd (not_both bytes s bad.0 read bad.2)
      ]
      | inr (s, read, without) ↦ elim (as_text what bytes q b) [
        | inl bad ↦ absurd (not_both bytes s bad.0 read bad.2)
        | inr (t, read', without') ↦
            let same : t ≡ s = same_set bytes t s read' read in
            one_lack_status what s r q without (subst (λ (x : SetContents). LacksText what x q) same without')
      ]
    ]

-- the trace of the bytes that are judged
judged : (bytes : List ℕ) (status : Status) → Judges bytes status → (t : TraceRead) × (reading bytes ≡ Ok t)
judged bytes Done is = (is.0, is.1)
judged bytes Invalid is = (is.0, is.1)
judged bytes _ is = absurd is

-- the line of bytes that are refused as a trace
refused_line : (bytes : List ℕ) (r : Refusal) → RefusesTrace bytes r → ((line : ℕ) × (reading bytes ≡ Err line)) × (status_of r ≡ BadInput)
refused_line bytes (why.BadLine line) is = ((line, is), refl)
refused_line bytes _ is = absurd is

not_both_traces : (bytes : List ℕ) (t : TraceRead) (line : ℕ) → reading bytes ≡ Ok t → reading bytes ≡ Err line → ⊥
not_both_traces bytes t line a b = let e : ◌≡◌ {A = Result TraceRead ℕ} (Ok t) (Err line) = sym a ∙ b in cc

judged_or_refused : (bytes : List ℕ) (status : Status) (r : Refusal) → Judges bytes status → RefusesTrace bytes r → ⊥
judged_or_refused bytes status r is refuses =
    let read = judged bytes status is in
    let line = refused_line bytes r refuses in
    not_both_traces bytes read.0 line.0.0 read.1 line.0.1

same_trace : (bytes : List ℕ) (t u : TraceRead) → reading bytes ≡ Ok t → reading bytes ≡ Ok u → t ≡ u
same_trace bytes t u a b = let e : ◌≡◌ {A = Result TraceRead ℕ} (Ok t) (Ok u) = sym a ∙ b in cc

-- a trace isn't both
one_judgment : (bytes : List ℕ) (a b : Status) → Judges bytes a → Judges bytes b → a ≡ b
one_judgment bytes Done Done x y = refl
one_judgment bytes Invalid Invalid x y = refl
one_judgment bytes Done Invalid x y = absurd (y.2 (subst IsValidTrace (same_trace bytes x.0 y.0 x.1 y.1) x.2))
one_judgment bytes Invalid Done x y = absurd (x.2 (subst IsValidTrace (same_trace bytes y.0 x.0 y.1 x.1) y.2))
one_judgment bytes Done _ x y = absurd y
one_judgment bytes Invalid _ x y = absurd y
one_judgment bytes _ b x y = absurd x

-- what is told of a trace is by its judgment
told_trace : (bytes text : List ℕ) (status : Status) (t : TraceRead) → reading bytes ≡ Ok t → TellsTrace t status text → Judges bytes status
told_trace bytes text Done t read told = (t, read, told.0)
told_trace bytes text Invalid t read told = (t, read, told.0)
told_trace bytes text _ t read told = absurd told

-- a trace that is drawn isn't refused
drawn_or_refused : (bytes : List ℕ) (t : TraceRead) (r : Refusal) → reading bytes ≡ Ok t → RefusesTrace bytes r → ⊥
drawn_or_refused bytes t r read refuses =
    let line = refused_line bytes r refuses in
    not_both_traces bytes t line.0.0 read line.0.1

-- ---- all commands

-- nothing is told of bytes that are refused
told_or_refused : (o : Output) (bytes : List ℕ) (status : Status) (r : Refusal) → CallsFor o bytes status → Refuses o bytes r → ⊥
told_or_refused (of_set what) bytes status r is refuses = set_writes_or_refuses what bytes is.0 status r is.1 refuses
told_or_refused of_trace bytes status r is refuses = judged_or_refused bytes status r is refuses
told_or_refused (of_picture asked) bytes status r is refuses = drawn_or_refused bytes is.1.0 r is.1.1 refuses
told_or_refused of_tree bytes status r is refuses = followed_or_refused bytes is.0 status r is.1 refuses
told_or_refused of_batch bytes status r is refuses = refuses

-- bytes are told of with one status
one_telling : (o : Output) (bytes : List ℕ) (a b : Status) → CallsFor o bytes a → CallsFor o bytes b → a ≡ b
one_telling (of_set what) bytes a b x y = x.1.0 ∙ sym y.1.0
one_telling of_trace bytes a b x y = one_judgment bytes a b x y
one_telling (of_picture asked) bytes a b x y = x.0 ∙ sym y.0
one_telling of_tree bytes a b x y = x.1.0 ∙ sym y.1.0
one_telling of_batch bytes a b x y = x ∙ sym y

-- bytes are refused with one status
one_status : (o : Output) (bytes : List ℕ) (r q : Refusal) → Refuses o bytes r → Refuses o bytes q → status_of r ≡ status_of q
one_status (of_set what) bytes r q a b = one_text_status what bytes r q a b
one_status of_tree bytes r q a b = one_follow_status bytes r q a b
one_status of_batch bytes r q a b = absurd a
one_status of_trace bytes r q a b = (refused_line bytes r a).1 ∙ sym (refused_line bytes q b).1
one_status (of_picture asked) bytes r q a b = (refused_line bytes r a).1 ∙ sym (refused_line bytes q b).1

-- bytes call for the status with which their text is written
called_for : (o : Output) (bytes text : List ℕ) (status : Status) → Writes o bytes status text → CallsFor o bytes status
called_for (of_set what) bytes text status writes = (text, writes)
called_for of_trace bytes text status writes = told_trace bytes text status writes.0 writes.1 writes.2
called_for (of_picture asked) bytes text status writes = (writes.0, (writes.1.0, writes.1.1))
called_for of_tree bytes text status writes = (text, writes)
called_for of_batch bytes text status writes = writes.0

-- so bytes have one answer
one_answer : (o : Output) → HaveOneAnswer (Writes o) (CallsFor o) (Refuses o)
one_answer o =
    record { told_or_refused = told_or_refused o; one_telling = one_telling o; one_status = one_status o; called_for = called_for o }

-- what was done answers
pub done_answers : (o : Output) (status : Status) (old new : Streams) → IsDone o status old new → Answers o old.left old new status
done_answers o status old new done =
    done_asked (limit_of o) (Writes o) (CallsFor o) (Refuses o) (one_answer o) status old.left old new refl done

-- so does what stopped
pub stops_answers : (o : Output) (old new : Streams) (err err' : ErrorStream) (r : Refusal) (status : Status) → Stops o old new r
    → IsRefused r err err' status → Answers o old.left old new status
stops_answers o old new err err' r status stops told =
    stops_asked (limit_of o) (Writes o) (CallsFor o) (Refuses o) (one_answer o) old.left old new err err' r status refl stops told

-- the command that was asked for answers
pub asked_answers : (asked : Option Command) (c : Command) (left : Option (List ℕ)) (old new : Streams) (status : Status) → Some c ≡ asked
    → IsAnswered (Some c) left old new status → IsAnswered asked left old new status
asked_answers asked c left old new status e answers = subst (λ (a : Option Command). IsAnswered a left old new status) e answers

wanting_by : (o : Output) (left : Option (List ℕ)) (old new : Streams) (status : Status) → status ≡ NoMemory → Answers o left old new status
wanting_by o left old new status wanting = wanting_asked (limit_of o) (CallsFor o) (Refuses o) left old new status wanting

-- where there was no memory to read the words, that is told
pub unread_answered : (asked : Option Command) (left : Option (List ℕ)) (old new : Streams) (err err' : ErrorStream) (status : Status)
    → IsRefused why.NoMemory err err' status → IsAnswered asked left old new status
unread_answered None left old new err err' status told = tt
unread_answered (Some (Read reading)) left old new err err' status told = wanting_by (output_of reading) left old new status told.status_is
unread_answered (Some Batch) left old new err err' status told = wanting_by of_batch left old new status told.status_is
unread_answered (Some (Execute e)) left old new err err' status told = tt
