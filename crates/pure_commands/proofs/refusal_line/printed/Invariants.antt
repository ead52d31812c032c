use Rattle.std.proofs.Common.{◌≡◌, length, map, take}
use Rattle.pure_commands.specs.Refusals.{printed_byte}
use Rattle.pure_commands.proofs.refusal_line.printed.Given as goal

abbrev pub invariant-loop-byte : goal.invariant-loop-byte
invariant-loop-byte l = record {
  text : l.line ≡ map printed_byte (take l.byte-index l.bytes);
  short : length l.line ≡ l.byte-index;
}
