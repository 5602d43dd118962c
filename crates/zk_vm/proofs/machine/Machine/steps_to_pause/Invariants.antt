use Rattle.std.proofs.Common.{◌≡◌, ◌≤◌, false}
use Rattle.zk_vm.proofs.LogSteps.{On}
use Rattle.zk_vm.proofs.machine.Machine.steps_to_pause.Given as goal

abbrev pub invariant-loop-i : goal.invariant-loop-i
invariant-loop-i g l = record {
  logged : On g.S.Screen.shows (g.P.Places.noted l.fn.places l.places) 0 l.fn.screen l.screen l.fn.self l.self;
  reads : l.self.state.reads ≡ l.fn.self.state.reads;
  more : l.fn.self.state.steps ≤ l.self.state.steps;
  count : l._i ≤ l.self.state.steps;
  works : g.S.Screen.failed l.screen ≡ false;
  room : g.S.Screen.full l.screen ≡ false;
  under : l.self.state.steps ≤ l.bound;
  to : l.bound ≤ l.fn.self.limits.steps;
}
