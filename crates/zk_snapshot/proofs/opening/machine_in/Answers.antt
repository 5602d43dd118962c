use Rattle.std.proofs.Common.{◌∙◌, ap}
use Rattle.zk_mem.specs.Map.{MemoryMap}
use Rattle.zk_save.proofs.Wholes.{same_of}
use Rattle.zk_state.specs.Frames.{bounds_of}
use Rattle.zk_snapshot.proofs.Filled.{same_file, same_setup, same_base, made_bounds}
use Rattle.zk_snapshot.proofs.opening.machine_in.Goals as goal

pub waiting_machine-requires-clause-bounds : goal.waiting_machine-requires-clause-bounds
waiting_machine-requires-clause-bounds c =
    let l = c.args.limits in
    ap bounds_of c.game_of-game.ensures.frames ∙ c.fill_frames-2.ensures ∙ c.fill_states.ensures.bounds
    ∙ c.fill_frames.ensures ∙ made_bounds c.in_ok-frames.frames l.frames l.words c.in_ok-frames.ensures

pub waiting_machine-requires-clause-told : goal.waiting_machine-requires-clause-told
waiting_machine-requires-clause-told c =
    ap (λ (m : MemoryMap). m.setup) c.game_of-game.ensures.memory ∙ same_setup c.fill_states.new.memory
    c.put_bytes.new.memory c.put_bytes.ensures ∙ c.fill_states.ensures.story.1 ∙ c.requires

pub waiting_machine-requires-clause-are_of : goal.waiting_machine-requires-clause-are_of
waiting_machine-requires-clause-are_of c =
    let base = ap (λ (m : MemoryMap). m.static_base) c.game_of-game.ensures.memory
    ∙ same_base c.fill_states.new.memory c.put_bytes.new.memory c.put_bytes.ensures in
    let bounds = ap bounds_of c.game_of-game.ensures.frames ∙ c.fill_frames-2.ensures in
    same_of c.fill_states.new.memory c.game_of-game.result.memory c.fill_states.new.frames
    c.game_of-game.result.frames c.fill_states.new.undo base bounds c.fill_states.ensures.are_of

pub returns : goal.returns
returns c =
    let file = ap (λ (m : MemoryMap). m.file) c.game_of-game.ensures.memory
    ∙ same_file c.fill_states.new.memory c.put_bytes.new.memory c.put_bytes.ensures ∙ c.fill_states.ensures.story.0 in
    rw file at c.waiting_machine.ensures
