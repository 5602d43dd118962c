use Rattle.std.proofs.Common.{◌≡◌, ◌≤◌, ◌*◌, length, take}
use Rattle.zk_text.specs.Extra.{own_characters}
use Rattle.zk_text.specs.Shown.{shown_all}
use Rattle.zk_step.specs.Status.{code_units}
use Rattle.zk_vm.proofs.transcript.characters_of.Given as goal

abbrev pub invariant-loop-i : goal.invariant-loop-i
invariant-loop-i l = record {
  value : l.characters.items ≡ shown_all (own_characters l.memory) (code_units (take l.i l.codes));
  few : length l.characters.items ≤ 2 * l.i;
}
