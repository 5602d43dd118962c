use Rattle.std.proofs.Common.{◌≡◌, ◌+◌, ◌≤◌, drop}
use Rattle.std.specs.Prelude.{is_some}
use Rattle.zk_save.specs.Unpacking.{unpacked}
use Rattle.zk_save.specs.Counted.{given_after, room}
use Rattle.zk_save.proofs.checks.unpacks.Given as goal

-- what the rest gives after what was given finds room where the whole does
abbrev pub invariant-loop-byte : goal.invariant-loop-byte
invariant-loop-byte l = record {
  rest : room l.most l.at (given_after l.run (drop l.byte-index l.packed)) ≡ is_some (unpacked l.most l.packed);
  low : l.at ≤ l.most + 256;
}
