use Rattle.std.proofs.Common.{◌≡◌, None, false}
use Rattle.zk_vm.specs.Plays.{slot_tells, taken_by}
use Rattle.zk_vm.proofs.LogPlays.{TurnLog}
use Rattle.zk_vm.proofs.Turns.{steps_left}
use Rattle.zk_vm.proofs.play.turn.Given as goal

abbrev pub invariant-loop-event : goal.invariant-loop-event
invariant-loop-event g l = record {
  free : l.machine.waiting ≡ None;
  screen_works : g.S.Target.failed l.screen ≡ false;
  script_works : g.T.Target.failed l.script ≡ false;
  limits : l.machine.limits ≡ l.fn.machine.limits;
  reads : l.machine.stopped ≡ None → l.machine.state.reads ≡ l.fn.machine.state.reads;
  logged : TurnLog (slot_tells g.K.SaveSlot.held g.K.SaveSlot.keeps g.K.SaveSlot.puts g.K.SaveSlot.gets
      g.K.SaveSlot.hears) g.P.Places.noted g.met.P.Places.twice l.fn.machine l.machine l.fn.slot l.slot
      l.fn.places l.places (taken_by (g.S.Target.taken l.fn.screen) (g.T.Target.taken l.fn.script))
      (taken_by (g.S.Target.taken l.screen) (g.T.Target.taken l.script));
}

abbrev pub decreases-loop-event : goal.decreases-loop-event
decreases-loop-event g l = steps_left l.machine.stopped l.machine.state.steps l.machine.limits.steps
