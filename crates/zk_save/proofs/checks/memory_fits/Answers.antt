use Rattle.std.proofs.Common.{◌≡◌, true, false, rules}
use Rattle.std.specs.Prelude.{codes}
use Rattle.std.specs.Str.{bytes_eq}
use Rattle.zk_save.proofs.Stories.{plain_fits, packed_fits}
use Rattle.zk_save.proofs.checks.memory_fits.Goals as goal

pub returns-then-eq : goal.returns-then-eq
returns-then-eq c =
    let is : bytes_eq c.args.chunk.now.name.now (codes "UMem") ≡ true = search rules in
    plain_fits c.args.memory.now c.args.chunk.now.name.now c.args.chunk.now.content.now _ is c.dynamic-size.ensures.len

pub returns : goal.returns
returns c =
    let is : bytes_eq c.args.chunk.now.name.now (codes "UMem") ≡ false = search rules in
    packed_fits c.args.memory.now c.args.chunk.now.name.now c.args.chunk.now.content.now _ c.unpacks.result is
    c.dynamic-size.ensures.len c.unpacks.ensures
