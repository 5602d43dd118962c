use Rattle.std.proofs.Common.{◌≡◌, ◌≤◌, ◌+◌, ◌*◌, ◌-◌}
use Rattle.zk_mem.specs.Map.{readable_end}
use Rattle.zk_tables.specs.Dictionaries.{do_not_fall, keys_from, number_at}
use Rattle.zk_tables.proofs.dictionary.keys_do_not_fall.Given as goal

abbrev pub invariant-loop-index : goal.invariant-loop-index
invariant-loop-index l = record {
  rest : do_not_fall (keys_from l.memory l.address l.entry_length (l.entries + 1 - l.index)) ≡ do_not_fall
      (keys_from l.memory l.first l.entry_length l.entries);
  number : l.before ≡ number_at l.memory.version l.memory.bytes l.address;
  within : l.address + l.entry_length * (l.entries + 1 - l.index) ≤ readable_end l.memory;
  some : 1 ≤ l.index;
}
