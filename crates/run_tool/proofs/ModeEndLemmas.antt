-- How `modes` ends, part by part: reading the sets, running them, and writing their text.
use Rattle.std.proofs.Common.{◌≡◌, inl, inr, ℕ, zero, suc, ◌+◌, ◌<◌, ◌≤◌, List, [], ◌∷◌, ◌++◌, Option, Some, None, Ok, Err, option_map, map, length, take}
use Rattle.std.proofs.Common.{true, false, get_or, refl, sym, ◌∙◌, ap, subst, arith, add-one}
use Rattle.std.specs.Prelude.{slice_get, codes}
use Rattle.std.specs.Io.KnownBytes.{Appends, Keeps}
use Rattle.std.specs.List.{All, AllByRecursion, AllZip}
use Rattle.std.proofs.lemmas.List.{take_all, length-map}
use Rattle.std.proofs.lemmas.List.Elements.{All-get_or}
use Rattle.sched_base.specs.Sets.{SetContents}
use Rattle.sched_edges.specs.Causes.{Rose}
use Rattle.sched_edges.specs.Streams.{GaveAll, GaveAtMost, GaveCount, TookPart}
use Rattle.sched_edges.specs.declared.read.TakeFault.{TakeFault}
use Rattle.sched_edges.specs.declared.read.TakeFault.TheVariants as take_fault
use Rattle.task_reader.specs.Pieces.{pieces_of, bytes_in, IsWithin}
use Rattle.task_reader.specs.Reading.{set_read_from}
use Rattle.mode_join.specs.declared.mode.Mode.{Mode}
use Rattle.mode_join.specs.declared.faults.ModeFault.{ModeFault}
use Rattle.mode_join.specs.declared.faults.ModeFault.TheVariants as join
use Rattle.mode_join.specs.Joining.{CanBeJoined, SaysOf}
use Rattle.mode_join.specs.Modes.{ModesContents, AreModes, PeriodsEndIn, sets_of}
use Rattle.command_words.specs.declared.command.Command.TheVariants.{Execute}
use Rattle.command_words.specs.declared.command.Execution.TheVariants.{Modes}
use Rattle.pure_commands.specs.declared.mode_refusal.ModeRefusal.TheVariants as mode
use Rattle.pure_commands.specs.declared.refusal.Refusal.{Refusal}
use Rattle.pure_commands.specs.declared.refusal.Refusal.TheVariants as why
use Rattle.exit_status.specs.declared.Status.TheVariants.{Done}
use Rattle.pure_commands.specs.Commands.{set_limit}
use Rattle.pure_commands.specs.Ends.{Streams}
use Rattle.run_tool.specs.Executions.{Crew}
use Rattle.run_tool.specs.Executed.{ToldRun, StopsRun, may_have_run}
use Rattle.pure_commands.specs.Faults.{of_take, of_join}
use Rattle.pure_commands.specs.Refusals.{status_of}
use Rattle.run_tool.specs.ModeInput.{RefusesPiece, RefusesPieces, GaveModes, GaveNoModes}
use Rattle.run_tool.specs.ModeRuns.{RanThrough, StopsInModes}
use Rattle.pure_commands.specs.Numbered.{several}
use Rattle.run_tool.specs.ModeTexts.{ReadsSets, IsFirstBad, mode_part}
use Rattle.run_tool.proofs.ModeTextLemmas.{read_at}

-- ---- the pieces

slice_get-map : {A B : Type 0} (f : A → B) (xs : List A) (i : ℕ) → slice_get (map f xs) i ≡ option_map f (slice_get xs i)
slice_get-map f [] i = refl
slice_get-map f (x ∷ xs) zero = refl
slice_get-map f (x ∷ xs) (suc i) = slice_get-map f xs i

take_next : {A : Type 0} (xs : List A) (i : ℕ) (x : A) → slice_get xs i ≡ Some x → take (suc i) xs ≡ take i xs ++ x ∷ []
take_next [] i x at = absurd (let bad : ◌≡◌ {A = Option _} None (Some x) = at in cc)
take_next (y ∷ xs) zero x at = let is : Some y ≡ Some x = at in let same : y ≡ x = cc in ap (λ z. z ∷ []) same
take_next (y ∷ xs) (suc i) x at = ap (λ zs. y ∷ zs) (take_next xs i x at)

get-take : {A : Type 0} (xs : List A) (j i : ℕ) → i < j → slice_get (take j xs) i ≡ slice_get xs i
get-take [] zero i below = absurd (omega (arith, below))
get-take [] (suc j) i below = refl
get-take (x ∷ xs) zero i below = absurd (omega (arith, below))
get-take (x ∷ xs) (suc j) zero below = refl
get-take (x ∷ xs) (suc j) (suc i) below = get-take xs j i (omega (arith, below))

get_at : {A : Type 0} (xs : List A) (j : ℕ) (x : A) → slice_get xs j ≡ Some x → (j < length xs) × (get_or xs j x ≡ x)
get_at [] j x at = absurd (let bad : ◌≡◌ {A = Option _} None (Some x) = at in cc)
get_at (y ∷ xs) zero x at = let is : Some y ≡ Some x = at in let same : y ≡ x = cc in (omega arith, same)
get_at (y ∷ xs) (suc j) x at = let (below, is) = get_at xs j x at in (omega (arith, below), is)

-- each piece lies within the bytes
pub piece_within : (bytes : List ℕ) (spans : List (ℕ × ℕ)) (j : ℕ) (span : ℕ × ℕ) → All (IsWithin bytes) spans → slice_get spans j ≡ Some span
    → IsWithin bytes span
piece_within bytes spans j span within at =
    let (below, is) = get_at spans j span at in
    subst (IsWithin bytes) is (All-get_or (IsWithin bytes) spans j span below within)

-- the first j pieces of the bytes are these sets
pub record AreRead (bytes : List ℕ) (j : ℕ) (sets : List SetContents) : Type 0 where
  pub read : AllZip (λ piece s. set_read_from piece ≡ Ok s) (take j (pieces_of bytes)) sets

pub none_read : (bytes : List ℕ) → AreRead bytes 0 []
none_read bytes = record { read = tt }

module _ (bytes : List ℕ) (spans : List (ℕ × ℕ)) (each : map (bytes_in bytes) spans ≡ pieces_of bytes) where
  piece_at : (j : ℕ) (span : ℕ × ℕ) → slice_get spans j ≡ Some span → slice_get (pieces_of bytes) j ≡ Some (bytes_in bytes span)
  piece_at j span at =
      ap (λ (ps : List (List ℕ)). slice_get ps j) (sym each) ∙ slice_get-map (bytes_in bytes) spans j ∙ ap (option_map (bytes_in bytes)) at

  pub one_more_read : (j : ℕ) (span : ℕ × ℕ) (piece : List ℕ) (sets : List SetContents) (s : SetContents) → slice_get spans j ≡ Some span
      → piece ≡ bytes_in bytes span → AreRead bytes j sets → set_read_from piece ≡ Ok s → AreRead bytes (j + 1) (sets ++ s ∷ [])
  one_more_read j span piece sets s at is before read =
      let there = piece_at j span at in
      let one = subst (λ (p : List ℕ). set_read_from p ≡ Ok s) is read in
      record {
        read = subst (λ (ps : List (List ℕ)). AllZip (λ p t. set_read_from p ≡ Ok t) ps (sets ++ s ∷ []))
            (sym (ap (λ n. take n (pieces_of bytes)) (add-one j) ∙ take_next (pieces_of bytes) j (bytes_in bytes span) there))
            (zip_push (take j (pieces_of bytes)) sets (bytes_in bytes span) s before.read one);
      }
    where
      zip_push : (ps : List (List ℕ)) (ts : List SetContents) (p : List ℕ) (t : SetContents) → AllZip (λ p t. set_read_from p ≡ Ok t) ps ts
          → set_read_from p ≡ Ok t → AllZip (λ p t. set_read_from p ≡ Ok t) (ps ++ p ∷ []) (ts ++ t ∷ [])
      zip_push [] [] p t zip here = (here, tt)
      zip_push [] (u ∷ ts) p t zip here = absurd zip
      zip_push (q ∷ ps) [] p t zip here = absurd zip
      zip_push (q ∷ ps) (u ∷ ts) p t zip here = (zip.0, zip_push ps ts p t zip.1 here)

  pub piece_refused : (j : ℕ) (span : ℕ × ℕ) (piece : List ℕ) (sets : List SetContents) (r : Refusal) → slice_get spans j ≡ Some span
      → piece ≡ bytes_in bytes span → AreRead bytes j sets → RefusesPiece j piece r → RefusesPieces bytes r
  piece_refused j span piece sets (why.OfMode k (mode.BadSet q)) at is before refused =
      let here : IsFirstBad bytes j q = record {
        bad = (bytes_in bytes span, piece_at j span at, subst (λ (p : List ℕ). set_read_from p ≡ Err q) is refused.1);
        lowest = λ i p below there.
            read_at (take j (pieces_of bytes)) sets i p before.read (get-take (pieces_of bytes) j i below ∙ there);
      } in
      subst (λ n. IsFirstBad bytes n q) (sym refused.0) here
  piece_refused j span piece sets why.NoMemory at is before refused = tt
  piece_refused j span piece sets (why.OfMode k _) at is before refused = absurd refused
  piece_refused j span piece sets _ at is before refused = absurd refused

  spans_are : length (pieces_of bytes) ≡ length spans
  spans_are = ap (λ (ps : List (List ℕ)). length ps) (sym each) ∙ length-map spans (bytes_in bytes)

  pub all_read : (j : ℕ) (sets : List SetContents) → length spans ≤ j → AreRead bytes j sets → ReadsSets bytes sets
  all_read j sets past before =
      let same = spans_are in
      subst (λ (ps : List (List ℕ)). AllZip (λ p t. set_read_from p ≡ Ok t) ps sets)
      (take_all j (pieces_of bytes) (omega (arith, past, same))) before.read

zip_length : {A B : Type 0} (R : A → B → Type 0) (xs : List A) (ys : List B) → AllZip R xs ys → length xs ≡ length ys
zip_length R [] [] zip = refl
zip_length R [] (y ∷ ys) zip = absurd zip
zip_length R (x ∷ xs) [] zip = absurd zip
zip_length R (x ∷ xs) (y ∷ ys) zip = ap suc (zip_length R xs ys zip.1)

pub some_read : (bytes : List ℕ) (sets : List SetContents) (n : ℕ) → length (pieces_of bytes) ≡ n + 1 → ReadsSets bytes sets → 1 ≤ length sets
some_read bytes sets n count reads =
    let same = zip_length (λ p t. set_read_from p ≡ Ok t) (pieces_of bytes) sets reads in
    omega (arith, count, same)

-- ---- reading the sets

-- where the source wasn't read to its end, no modes were read
pub untaken_modes : (left left' : Option (List ℕ)) (limit faults faults' : ℕ) (e : TakeFault)
    → ((count : ℕ) → e ≡ take_fault.TooLong count → (count ≡ limit + 1) × GaveCount left left' count)
    → (e ≡ take_fault.Read → Rose faults faults') → (e ≡ take_fault.Read → GaveAtMost left left' limit)
    → GaveNoModes left left' faults faults' limit (of_take e)
untaken_modes left left' limit faults faults' take_fault.Read long read few = (read refl, few refl)
untaken_modes left left' limit faults faults' (take_fault.TooLong count) long read few = long count refl
untaken_modes left left' limit faults faults' take_fault.NoMemory long read few = tt

-- a piece is no set
pub unread_piece : (left left' : Option (List ℕ)) (limit faults faults' : ℕ) (bytes : List ℕ) (r : Refusal) → GaveAll left left' limit bytes
    → RefusesPieces bytes r → GaveNoModes left left' faults faults' limit r
unread_piece left left' limit faults faults' bytes (why.OfMode j (mode.BadSet q)) all refused = (bytes, all, refused)
unread_piece left left' limit faults faults' bytes (why.OfMode j _) all refused = absurd refused
unread_piece left left' limit faults faults' bytes why.NoMemory all refused = tt
unread_piece left left' limit faults faults' bytes _ all refused = absurd refused

-- the sets can't be joined
pub unjoined : (left left' : Option (List ℕ)) (limit faults faults' : ℕ) (bytes : List ℕ) (sets : List SetContents) (e : ModeFault) →
    GaveAll left left' limit bytes
    → ReadsSets bytes sets → SaysOf sets e → GaveNoModes left left' faults faults' limit (of_join e)
unjoined left left' limit faults faults' bytes sets (join.Refused j k) all reads says = (bytes, all, (sets, reads, says))
unjoined left left' limit faults faults' bytes sets join.NoMemory all reads says = tt

-- the sets are those of modes
pub modes_read : (left left' : Option (List ℕ)) (limit : ℕ) (bytes : List ℕ) (sets : List SetContents) (m : ModesContents) → GaveAll left left' limit bytes
    → ReadsSets bytes sets → sets_of m.modes ≡ sets → CanBeJoined sets → AreModes m → AllByRecursion PeriodsEndIn m.modes → GaveModes left left' limit m
modes_read left left' limit bytes sets m all reads same can lawful ends = record {
  gave = (
    bytes,
    all,
    record {
      read = subst (λ (xs : List SetContents). ReadsSets bytes xs) (sym same) reads;
      joined = subst (λ (xs : List SetContents). CanBeJoined xs) (sym same) can;
      lawful = lawful;
      no_crossing = ends;
    },
  );
}

-- ---- the whole

-- the text of modes
abbrev modes_text : List Mode → List ℕ
modes_text modes = several (codes "run-modes") (codes "modes") mode_part modes

pub modes_done : (old new : Streams) (b n : Crew) (m : ModesContents) → GaveModes old.left new.left set_limit m → RanThrough m.modes b n
    → Appends old.out new.out (modes_text m.modes) → ToldRun Modes old new b n
modes_done old new b n m gave ran took =
    let (bytes, all, reads) = gave.gave in
    record { told = (bytes, modes_text m.modes, all, (refl, (m, reads, refl, ran)), took) }

-- not all was written
pub modes_unwritten : (old new : Streams) (b n : Crew) (m : ModesContents) → GaveModes old.left new.left set_limit m → RanThrough m.modes b n
    → TookPart old.out new.out (modes_text m.modes) → Rose old.out_faults new.out_faults → StopsRun Modes old new b n why.WriteFault
modes_unwritten old new b n m gave ran took rose =
    let (bytes, all, reads) = gave.gave in
    ((bytes, modes_text m.modes, Done, all, (refl, (m, reads, refl, ran)), took, rose), tt)

-- nothing was run
pub modes_unread : (old new : Streams) (b n : Crew) (r : Refusal) → GaveNoModes old.left new.left old.read_faults new.read_faults set_limit r
    → Keeps old.out new.out → n ≡ b → StopsRun Modes old new b n r
modes_unread old new b n why.ReadFault gave keeps kept = ((gave.0, gave.1, keeps), tt)
modes_unread old new b n why.NoMemory gave keeps kept = (keeps, inl kept)
modes_unread old new b n (why.InputTooLong count) gave keeps kept = ((gave.0, gave.1, keeps), tt)
modes_unread old new b n (why.OfMode j (mode.BadSet q)) gave keeps kept = ((gave.0, gave.1, gave.2, keeps), tt)
modes_unread old new b n (why.OfMode j (mode.NotJoined k)) gave keeps kept = ((gave.0, gave.1, gave.2, keeps), tt)
modes_unread old new b n (why.OfMode j _) gave keeps kept = absurd gave.2
modes_unread old new b n _ gave keeps kept = absurd gave

-- not all was run
pub modes_stopped : (old new : Streams) (b n : Crew) (m : ModesContents) (r : Refusal) → GaveModes old.left new.left set_limit m
    → StopsInModes m.modes b n r → Keeps old.out new.out → StopsRun Modes old new b n r
modes_stopped old new b n m (why.OfMode j (mode.GateFault row name)) gave stops keeps =
    let (bytes, all, reads) = gave.gave in
    ((bytes, all, (m, reads, stops), keeps), tt)
modes_stopped old new b n m (why.OfMode j (mode.JobFault row name)) gave stops keeps =
    let (bytes, all, reads) = gave.gave in
    ((bytes, all, (m, reads, stops), keeps), tt)
modes_stopped old new b n m (why.OfMode j (mode.BadSet q)) gave stops keeps = absurd stops.stopped
modes_stopped old new b n m (why.OfMode j (mode.NotJoined k)) gave stops keeps = absurd stops.stopped
modes_stopped old new b n m why.NoMemory gave (inl same) keeps = (keeps, inl same)
modes_stopped old new b n m why.NoMemory gave (inr between) keeps =
    let (bytes, all, reads) = gave.gave in
    (keeps, inr (bytes, m, all, reads, between))
modes_stopped old new b n m _ gave stops keeps = absurd stops

-- where a gate or a job failed, or memory was refused, something may have been done
pub modes_called : {P : Type 0} (ms : List Mode) (old new : Crew) (r : Refusal) → StopsInModes ms old new r
    → may_have_run (Some (Execute Modes)) (status_of r) ≡ false → P
modes_called ms old new (why.OfMode j (mode.GateFault row name)) stops quiet = absurd (let bad : true ≡ false = quiet in cc)
modes_called ms old new (why.OfMode j (mode.JobFault row name)) stops quiet = absurd (let bad : true ≡ false = quiet in cc)
modes_called ms old new (why.OfMode j (mode.BadSet q)) stops quiet = absurd stops.stopped
modes_called ms old new (why.OfMode j (mode.NotJoined k)) stops quiet = absurd stops.stopped
modes_called ms old new why.NoMemory stops quiet = absurd (let bad : true ≡ false = quiet in cc)
modes_called ms old new _ stops quiet = absurd stops
