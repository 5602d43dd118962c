use Rattle.std.proofs.Common.{◌≡◌, take, true}
use Rattle.std.specs.List.{list_all}
use Rattle.zk_blorb.specs.Looks.{is_of_text}
use Rattle.zk_blorb.proofs.looks.is_text.Given as goal

abbrev pub invariant-loop-byte : goal.invariant-loop-byte
invariant-loop-byte l = list_all is_of_text (take l.byte-index l.bytes) ≡ true
