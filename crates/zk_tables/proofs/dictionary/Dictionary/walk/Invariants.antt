use Rattle.std.proofs.Common.{◌≡◌, ◌-◌}
use Rattle.zk_tables.specs.Dictionaries.{found_from}
use Rattle.zk_tables.proofs.dictionary.Dictionary.walk.Given as goal

abbrev pub invariant-loop-index : goal.invariant-loop-index
invariant-loop-index l = found_from l.memory l.self l.key (l.self.entries - l.index) l.index ≡ found_from l.memory
    l.self l.key l.self.entries 0
