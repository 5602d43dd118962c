use Rattle.std.proofs.Common.{◌≡◌, take}
use Rattle.std.specs.List.{filter_map}
use Rattle.zk_notes.specs.Calls.{call_in}
use Rattle.zk_notes.proofs.calls.calls_of.Given as goal

abbrev pub invariant-loop-fact : goal.invariant-loop-fact
invariant-loop-fact l =
    l.calls.items ≡ filter_map (call_in l.facts.memory.now) (take l.fact-index l.facts.list.now)
