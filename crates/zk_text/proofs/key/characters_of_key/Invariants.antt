use Rattle.std.proofs.Common.{◌≡◌, ◌≤◌, ◌-◌, ◌++◌, length, take, drop}
use Rattle.zk_text.specs.Keys.{spellings, fives, key_characters}
use Rattle.zk_text.proofs.key.characters_of_key.Given as goal

abbrev pub invariant-loop-code : goal.invariant-loop-code
invariant-loop-code l = record {
  so_far : take l.most (l.characters.items ++ (spellings l.memory (drop l.code-index l.text) ++ fives l.most))
      ≡ key_characters l.memory l.most l.text;
  room : length l.characters.items ≤ l.most;
}

abbrev pub invariant-loop-i : goal.invariant-loop-i
invariant-loop-i l = record {
  so_far : take l.most (l.characters.items ++ fives (l.most - l._i)) ≡ key_characters l.memory l.most l.text;
  room : length l.characters.items ≤ l.most;
}
