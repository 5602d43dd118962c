use Rattle.std.proofs.Common.{◌≡◌, ◌+◌, ◌*◌}
use Rattle.zk_text.specs.Meaning.{end_by}
use Rattle.zk_text.proofs.CheckedEnds.{end_from}
use Rattle.zk_text.proofs.checking.check_some.Given as goal

abbrev pub invariant-loop-i : goal.invariant-loop-i
invariant-loop-i g l = record {
  rest : end_by (g.A.Abbreviations.stands l.memory) l.memory l.address ≡ end_from
      (g.A.Abbreviations.stands l.memory) l.memory l.held l.at;
  place : l.at ≡ l.address + 2 * l._i;
  holds : g.A.Abbreviations.holds l.memory l.abbreviations;
}
