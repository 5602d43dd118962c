use Rattle.std.proofs.Common.{◌≡◌, ◌≤◌, length, take, arith}
use Rattle.std.proofs.lemmas.List.{take_all}
use Rattle.zk_snapshot.proofs.Fitting.{as_many}
use Rattle.zk_snapshot.proofs.snapshot.whole_snapshot.Goals as goal

pub with_states-requires-clause-count : goal.with_states-requires-clause-count
with_states-requires-clause-count c =
    omega (arith, c.len.ensures.value, as_many c.args.machine.now c.undo.result.now c.undo.ensures.states)

pub returns : goal.returns
returns c =
    let states = c.args.machine.now.state.undo in
    let all : length states ≤ c.len.result = omega (
      arith,
      c.len.ensures.value,
      as_many c.args.machine.now c.undo.result.now c.undo.ensures.states,
    ) in
    let same : take c.len.result states ≡ states = take_all c.len.result states all in
    rw same at c.with_states.ensures
