use Rattle.std.specs.Str.Lines.{lines}
use Rattle.std.specs.Prelude.{map}
use Rattle.std.proofs.Common.{◌∙◌, ◌++◌, List, ℕ, sym, ap, arith}
use Rattle.zk_suite.specs.Scripts.{checks_after}
use Rattle.zk_suite.specs.Seen.{check_seen}
use Rattle.zk_suite.proofs.LineCuts.{at_end}
use Rattle.zk_suite.proofs.ScriptLines.{checks_on, checks_end, count_small}
use Rattle.zk_suite.proofs.walkthrough.Walkthrough.checks.Goals as goal

pub loop-cut-preserved : goal.loop-cut-preserved
loop-cut-preserved c =
    let before = map check_seen c.loop-cut.checks.items in
    let line = c.in-Some.cut.line.now in
    let rest = lines c.in-Some.cut.rest.now in
    record {
      whole = rw (c.in_ok-commands.ensures.checks, c.in_ok-commands.ensures.commands)
          (checks_on c.loop-cut.commands c.loop-cut.line line rest before
          ∙ ap (λ (ls : List (List ℕ)). before ++ checks_after c.loop-cut.commands c.loop-cut.line ls)
          (sym c.in-Some.ensures.value)
          ∙ c.loop-cut.invariant.whole);
      commands =
          omega (
            arith,
            c.in_ok-commands.ensures.commands,
            count_small line,
            c.in-Some.ensures.shorter,
            c.loop-cut.invariant.commands,
          );
      line = omega (arith, c.in-Some.ensures.shorter, c.loop-cut.invariant.line);
    }

pub returns : goal.returns
returns c = checks_end (map check_seen c.loop-cut.checks.items) c.loop-cut.commands c.loop-cut.line
    (lines c.loop-cut.rest.now) (at_end c.loop-cut.rest.now c.cut_line.result c.in_default.not-Some
    c.cut_line.ensures.value) ∙ c.loop-cut.invariant.whole
