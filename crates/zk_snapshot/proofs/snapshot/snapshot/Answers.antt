use Rattle.std.proofs.Common.{◌∙◌, ap, arith}
use Rattle.zk_state.specs.Frames.{bounds_of}
use Rattle.zk_step.specs.declared.state.game_state.GameState.{GameState}
use Rattle.zk_snapshot.specs.Snapshots.{snapshot_of, longest_of}
use Rattle.zk_snapshot.proofs.Fitting.{as_many}
use Rattle.zk_snapshot.proofs.Kept.{are_there}
use Rattle.zk_snapshot.proofs.Longest.{at_longest, short_if}
use Rattle.zk_snapshot.proofs.snapshot.snapshot.Goals as goal

pub fitting-count-requires : goal.fitting-count-requires
fitting-count-requires c =
    let bounds = c.in_ok-frames.ensures ∙ ap (λ (g : GameState). bounds_of g.frames) c.game-game.ensures in
    rw c.game-game.ensures (are_there c.args.machine.now c.undo.result.now c.in_ok-frames.frames c.requires
    c.undo.ensures.are_of bounds)

pub with_states-requires-clause-bounds : goal.with_states-requires-clause-bounds
with_states-requires-clause-bounds c = c.fitting-count.ensures.bounds ∙ c.in_ok-frames.ensures
    ∙ ap (λ (g : GameState). bounds_of g.frames) c.game-game.ensures

pub with_states-requires-clause-count : goal.with_states-requires-clause-count
with_states-requires-clause-count c =
    omega (arith, c.fitting-count.ensures.few, as_many c.args.machine.now c.undo.result.now c.undo.ensures.states)

pub returns-clause-value : goal.returns-clause-value
returns-clause-value c =
    let fit = rw c.game-game.ensures at c.fitting-count.ensures.fit in
    let same = rw (← c.undo.ensures.states) at fit in
    rw same at c.with_states.ensures

pub returns-clause-short : goal.returns-clause-short
returns-clause-short c =
    let s = c.args.machine.now in
    let fit = rw c.game-game.ensures at c.fitting-count.ensures.fit in
    let same = rw (← c.undo.ensures.states) at fit in
    let bounded = rw c.game-game.ensures at c.is_bounded.ensures in
    let few = rw c.game-game.ensures at c.tables.ensures.few in
    short_if c.with_states.result (snapshot_of c.args.most s)
    (longest_of s.limits s.state.game.memory.static_base c.args.most) (rw same at c.with_states.ensures)
    (at_longest c.args.most s bounded few c.is_whole.ensures.bounds)
