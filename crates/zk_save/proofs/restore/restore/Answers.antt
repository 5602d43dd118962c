use Rattle.std.specs.Prelude.{reverse}
use Rattle.zk_save.proofs.Wholes.{put_bounds, again_same}
use Rattle.zk_save.proofs.restore.restore.Goals as goal

pub returns-clause-base : goal.returns-clause-base
returns-clause-base c =
    let ok = c.in_ok-parts.ensures.ok in
    let same = again_same c.args.memory.now c.put_memory.new.memory _ (c.put_memory.ensures ok.dynamic ok.dynamic_is) in
    same.0

pub returns-clause-story : goal.returns-clause-story
returns-clause-story c =
    let ok = c.in_ok-parts.ensures.ok in
    let same = again_same c.args.memory.now c.put_memory.new.memory _ (c.put_memory.ensures ok.dynamic ok.dynamic_is) in
    (same.1, same.2)

pub returns-clause-bounds : goal.returns-clause-bounds
returns-clause-bounds c =
    let ok = c.in_ok-parts.ensures.ok in
    put_bounds c.args.frames.now c.put_stack.new.frames (reverse ok.frames)
    (c.put_stack.ensures ok.frames ok.frames_are)
