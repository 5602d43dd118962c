use Rattle.std.proofs.Common.{◌≡◌, take}
use Rattle.std.specs.List.{filter_map}
use Rattle.zk_notes.specs.Marks.{decoded_of}
use Rattle.zk_notes.proofs.cover.instructions_in.Given as goal

abbrev pub invariant-loop-fact : goal.invariant-loop-fact
invariant-loop-fact l = l.addresses.items ≡ filter_map (decoded_of l.facts.memory.now)
    (take l.fact-index l.facts.list.now)
