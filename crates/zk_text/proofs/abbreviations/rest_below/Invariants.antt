use Rattle.std.proofs.Common.{◌≡◌, ◌-◌, ◌*◌}
use Rattle.zk_text.specs.Meaning.{no_abbreviation}
use Rattle.zk_text.specs.Sweeps.{IsTextRestBy}
use Rattle.zk_text.proofs.abbreviations.rest_below.Given as goal

abbrev pub invariant-loop-i : goal.invariant-loop-i
invariant-loop-i l = record {
  place : l.at ≡ l.address - 2 * l._i;
  rest : IsTextRestBy no_abbreviation l.memory l.at l.rest;
}
