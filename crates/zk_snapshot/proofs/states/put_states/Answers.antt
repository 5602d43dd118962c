use Rattle.std.proofs.Common.{◌≡◌, ◌+◌, ◌-◌, ◌++◌, ◌∷◌, [], length, arith}
use Rattle.zk_save.specs.States.{states_in}
use Rattle.zk_snapshot.proofs.Fitting.{many, states_more, states_end}
use Rattle.zk_snapshot.proofs.states.put_states.Goals as goal

pub loop-k-preserved : goal.loop-k-preserved
loop-k-preserved c =
    let file = c.args.memory.now.file in
    let ws = states_in file c.args.undo.now in
    let size = many file c.args.undo.now in
    let first : c.len.result - c.args.count + c.loop-k.k ≡ length ws - c.args.count
    + c.loop-k.k = omega (arith, size, c.len.ensures.value) in
    record {
      written = states_more file ws c.loop-k.out.items c.put_state.new.out.items c.args.count c.loop-k.k
          (omega (arith, size, c.requires.count)) c.loop-k-test.true
          (λ w h. c.in_ok-put_state.ensures.state w (rw first h)) (c.args.out.now.items ++ c.args.count ∷ [])
          c.loop-k.invariant.written;
      are_of = c.put_state.ensures.are_of;
    }

pub returns : goal.returns
returns c =
    let file = c.args.memory.now.file in
    let ws = states_in file c.args.undo.now in
    states_end file ws c.loop-k.out.items c.args.out.now.items c.args.count c.loop-k.k
    (omega (arith, many file c.args.undo.now, c.requires.count)) c.loop-k-test.false c.loop-k.invariant.written
