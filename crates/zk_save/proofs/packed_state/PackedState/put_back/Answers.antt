use Rattle.std.proofs.Common.{◌≡◌, ◌≤◌, ◌∙◌, List, ℕ, Some, length, ap, sym, arith}
use Rattle.zk_mem.specs.Map.{MemoryMap}
use Rattle.zk_mem.specs.Again.{with_bytes}
use Rattle.zk_save.specs.Unpacking.{unpacked, xored}
use Rattle.zk_save.specs.States.{KeptState}
use Rattle.zk_save.specs.Ring.{bytes_in}
use Rattle.zk_save.proofs.Wholes.{unpacks, turned_again, goes_back, put_bounds, settled_base, settled_story}
use Rattle.zk_save.proofs.packed_state.PackedState.put_back.Goals as goal

pub returns-clause-state : goal.returns-clause-state
returns-clause-state c =
    let m : MemoryMap = c.args.memory.now in
    let k : KeptState = c.args.self.now in
    let ds : List ℕ = k.difference in
    let difference : bytes_in c.self.inside.packed.items c.self.inside.length
    ≡ ds = ap (λ (x : KeptState). x.difference) c.self.view_is in
    let packing = rw difference at c.self.invariant.packing in
    let given : unpacked (length ds) c.as_slice.result.now ≡ Some ds = ap (unpacked (length ds))
    c.as_slice.ensures.value ∙ unpacks c.self.inside.packed.items ds packing in
    let base : length ds ≡ c.reset.new.self.static_base = c.requires.dynamic
    ∙ sym (ap (λ (x : MemoryMap). x.static_base) c.reset.ensures) in
    let le : length ds ≤ length m.file = omega (arith, c.requires.dynamic, c.dynamic.ensures.within) in
    let turned : c.turn.new.memory ≡ with_bytes c.reset.new.self (xored c.reset.new.self.bytes ds) =
    c.turn.ensures.turned ds given base in
    let memory = turned_again m c.reset.new.self c.turn.new.memory c.settle.new.self c.flags-flags.result ds le
    c.flags-flags.ensures c.reset.ensures turned c.settle.ensures in
    let frames = ap (λ (x : KeptState). x.frames) c.self.view_is in
    λ others. goes_back m.file k m c.settle.new.self c.args.frames.now c.put_back.new.self c.self.inside.pc others
    memory (rw frames at c.put_back.ensures) (ap (λ (x : KeptState). x.pc) c.self.view_is)

pub returns-clause-base : goal.returns-clause-base
returns-clause-base c = settled_base c.turn.new.memory c.settle.new.self c.flags-flags.result c.settle.ensures
    ∙ c.turn.ensures.base ∙ ap (λ (x : MemoryMap). x.static_base) c.reset.ensures

pub returns-clause-bounds : goal.returns-clause-bounds
returns-clause-bounds c = put_bounds c.args.frames.now c.put_back.new.self c.self.inside.frames c.put_back.ensures

pub returns-clause-story : goal.returns-clause-story
returns-clause-story c =
    let settled = settled_story c.turn.new.memory c.settle.new.self c.flags-flags.result c.settle.ensures in
    let turned = c.turn.ensures.story in (
      settled.0 ∙ turned.0 ∙ ap (λ (x : MemoryMap). x.file) c.reset.ensures,
      settled.1 ∙ turned.1
          ∙ ap (λ (x : MemoryMap). x.setup) c.reset.ensures,
    )
