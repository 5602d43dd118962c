use Rattle.std.proofs.Common.{◌≡◌, ◌∷◌, [], ◌++◌, rules}
use Rattle.zk_save.specs.Packing.{Zeros, spelled}
use Rattle.zk_save.proofs.Packs.{zero_step, byte_step}
use Rattle.zk_save.proofs.packing.put_byte.Goals as goal

pub returns-then-byte-eq0-clause-value : goal.returns-then-byte-eq0-clause-value
returns-then-byte-eq0-clause-value c =
    λ rest. zero_step c.args.out.now.items c.args.byte c.args.zeros rest c.if-byte-eq0.true

pub returns-clause-value : goal.returns-clause-value
returns-clause-value c =
    let out : c.push.new.self.items ≡ c.args.out.now.items ++ spelled (Zeros c.args.zeros) ++ c.args.byte
    ∷ [] = search rules in
    λ rest. rw out (byte_step c.args.out.now.items c.args.byte c.args.zeros rest c.if-byte-eq0.false)
