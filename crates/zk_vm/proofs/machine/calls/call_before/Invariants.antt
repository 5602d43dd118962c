use Rattle.std.proofs.Common.{ℕ, ◌≤◌}
use Rattle.zk_vm.specs.Calls.{StandsCallTo, CodeLeads}
use Rattle.zk_vm.proofs.machine.calls.call_before.Given as goal

abbrev pub invariant-loop-i : goal.invariant-loop-i
invariant-loop-i l =
    (l._i ≤ l.at) × ((a : ℕ) → CodeLeads l.memory l.fn.start a → StandsCallTo l.memory l.fn.routine l.fn.goes_on a
    → CodeLeads l.memory l.at a)
