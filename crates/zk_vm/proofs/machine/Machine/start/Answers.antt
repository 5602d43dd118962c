use Rattle.std.proofs.Common.{◌∙◌, ap, arith}
use Rattle.zk_step.specs.declared.state.game_state.GameState.{GameState}
use Rattle.zk_save.specs.States.{UndoStates}
use Rattle.zk_vm.specs.Bounds.{setup_of}
use Rattle.zk_vm.proofs.Sounds.{first_bounds, first_setup}
use Rattle.zk_vm.proofs.machine.Machine.start.Goals as goal

pub invariant_of-result : goal.invariant_of-result
invariant_of-result c = record {
  steps = omega arith;
  bounds = first_bounds c.in_ok-game.game.frames c.args.limits.frames c.args.limits.words
      (ap (λ (w : GameState). w.frames) c.in_ok-game.ensures);
  reads = omega arith;
  most = ap (λ (u : UndoStates). u.most) c.in_ok-undo.ensures.value;
  story = record {
    are_of = c.in_ok-undo.ensures.are_of c.in_ok-game.game.memory c.in_ok-game.game.frames;
    memory = ap (λ (w : GameState). w.memory.setup) c.in_ok-game.ensures
        ∙ first_setup c.args.story (setup_of c.args.limits);
    cache = c.in_ok-cache.ensures;
  };
  waits = tt;
}
