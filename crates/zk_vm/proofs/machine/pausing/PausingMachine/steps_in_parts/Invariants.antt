use Rattle.std.proofs.Common.{◌≡◌, ◌≤◌, ◌+◌, false}
use Rattle.zk_vm.specs.Pausing.{WentOn}
use Rattle.zk_vm.proofs.machine.pausing.PausingMachine.steps_in_parts.Given as goal

abbrev pub invariant-loop-i : goal.invariant-loop-i
invariant-loop-i g l = record {
  went : WentOn g.S.Screen.shows l.parts l.fn.screen l.screen l.fn.self l.self;
  reads : l.self.state.reads ≡ l.fn.self.state.reads;
  more : l.fn.self.state.steps ≤ l.self.state.steps;
  limits : l.self.limits ≡ l.fn.self.limits;
  count : l._i + l.fn.self.state.steps ≤ l.self.state.steps + l.parts;
  few : l.self.state.steps + l.parts ≤ l.fn.self.state.steps + l.most;
  within : l.self.state.steps ≤ l.self.limits.steps;
  part : l.parts ≤ l._i;
  end : l.end ≡ l.fn.self.state.steps + l.most;
  works : g.S.Screen.failed l.screen ≡ false;
  room : g.S.Screen.full l.screen ≡ false;
}
