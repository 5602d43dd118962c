use Rattle.std.proofs.Common.{◌≡◌, take}
use Rattle.std.specs.List.{filter_map}
use Rattle.zk_notes.specs.Calls.{listed_routine}
use Rattle.zk_notes.proofs.calls.listed_routines.Given as goal

abbrev pub invariant-loop-fact : goal.invariant-loop-fact
invariant-loop-fact l = l.routines.items ≡ filter_map listed_routine (take l.fact-index l.facts)
