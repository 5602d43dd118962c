use Rattle.std.proofs.Common.{◌≡◌, ◌^◌, ◌<◌, drop}
use Rattle.zk_save.specs.Reading.{number_behind, number_of}
use Rattle.zk_save.proofs.reading.number.Given as goal

abbrev pub invariant-loop-byte : goal.invariant-loop-byte
invariant-loop-byte l = record {
  whole : number_behind l.number (drop l.byte-index l.bytes) ≡ number_of l.bytes;
  small : l.number < 256 ^ l.byte-index;
}
