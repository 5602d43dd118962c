use Rattle.std.proofs.Common.{◌≡◌, ◌∙◌, true, false, rules, sym, ap}
use Rattle.std.specs.Prelude.{codes}
use Rattle.std.specs.Str.{bytes_eq}
use Rattle.zk_mem.specs.Map.{MemoryMap}
use Rattle.zk_save.proofs.Filling.{plain_length, plain_again, packed_again}
use Rattle.zk_save.proofs.writes.put_memory.Goals as goal

pub put_bytes-requires : goal.put_bytes-requires
put_bytes-requires c =
    let is : bytes_eq c.args.chunk.now.name.now (codes "UMem") ≡ true = search rules in
    plain_length c.args.memory.now c.args.chunk.now.name.now c.args.chunk.now.content.now is c.requires
    ∙ sym (ap (λ (x : MemoryMap). x.static_base) c.reset.ensures)

pub returns-then-eq : goal.returns-then-eq
returns-then-eq c = λ dynamic h.
    let is : bytes_eq c.args.chunk.now.name.now (codes "UMem") ≡ true = search rules in
    plain_again c.args.memory.now c.reset.new.self c.put_bytes.new.memory c.settle.new.self c.flags-flags.result
    c.args.chunk.now.name.now c.args.chunk.now.content.now dynamic is c.flags-flags.ensures c.reset.ensures
    c.put_bytes.ensures c.settle.ensures h

pub returns : goal.returns
returns c = λ dynamic h.
    let is : bytes_eq c.args.chunk.now.name.now (codes "UMem") ≡ false = search rules in
    packed_again c.args.memory.now c.reset.new.self c.turn.new.memory c.settle-2.new.self c.flags-flags.result
    c.args.chunk.now.name.now c.args.chunk.now.content.now dynamic is c.dynamic.ensures.within
    c.flags-flags.ensures c.reset.ensures c.turn.ensures.turned c.settle-2.ensures h
