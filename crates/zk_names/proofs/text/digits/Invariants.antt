use Rattle.std.proofs.Common.{◌≡◌, ◌<◌, ◌^◌, drop}
use Rattle.zk_names.specs.Nodes.{read_on}
use Rattle.zk_names.proofs.text.digits.Given as goal

abbrev pub invariant-loop-digit : goal.invariant-loop-digit
invariant-loop-digit l = record {
  goes : read_on 0 l.text ≡ read_on l.number (drop l.digit-index l.text);
  small : l.number < 2 ^ 32;
}
