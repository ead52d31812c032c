-- What contracts see of streams, put together.
use Rattle.std.proofs.Common.{ℕ, List, Option}
use Rattle.pure_commands.specs.Ends.{Streams, ErrorStream}

-- the source and `out`, of which this is seen
abbrev pub streams : Option (List ℕ) → ℕ → Option (List ℕ) → ℕ → Streams
streams left read_faults out out_faults = record {
  left = left;
  read_faults = read_faults;
  out = out;
  out_faults = out_faults;
}

-- `err`, of which this is seen
abbrev pub error_stream : Option (List ℕ) → ℕ → ErrorStream
error_stream taken faults = record { taken = taken; faults = faults }
