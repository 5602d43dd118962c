use Rattle.std.proofs.Common.{rules, refl}
use Rattle.zk_host.specs.Exports.IsPut.{Whole, NoRoom}
use Rattle.zk_host.proofs.text.put_file.Goals as goal

pub returns-then-file-buffer : goal.returns-then-file-buffer
returns-then-file-buffer c = NoRoom refl (search rules) refl

pub returns : goal.returns
returns c = Whole refl (rw c.copy_from_slice.ensures.after refl)
