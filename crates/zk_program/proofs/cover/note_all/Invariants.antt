use Rattle.std.proofs.Common.{take}
use Rattle.zk_fast.specs.Covers.{Covers}
use Rattle.zk_program.proofs.cover.note_all.Given as goal

abbrev pub invariant-loop-address : goal.invariant-loop-address
invariant-loop-address l = Covers l.fn.cover l.cover (take l.address-index l.addresses)
