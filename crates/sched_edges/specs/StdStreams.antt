-- What the streams over a reader and a writer count.
use Rattle.std.specs.Prelude.{ℕ, List}
use Rattle.std.specs.Io.Buffered.{writer_buffer}
use Rattle.std.specs.declared.io.buffered.BufWriter.{BufWriter}
use Rattle.sched_edges.specs.declared.std_streams.StdSource.{StdSource}
use Rattle.sched_edges.specs.declared.std_streams.StdSink.{StdSink}

-- how often the source has failed
abbrev pub source_faults : {R : Type 0} → StdSource R → ℕ
source_faults s = s.faults

-- how often the sink has failed
abbrev pub sink_faults : {W : Type 0} → StdSink W → ℕ
sink_faults s = s.faults

-- the bytes that the sink took and that its writer has still to hand on
abbrev pub kept_back : {W A : Type 0} → StdSink (BufWriter W A) → List ℕ
kept_back s = writer_buffer s.inner
