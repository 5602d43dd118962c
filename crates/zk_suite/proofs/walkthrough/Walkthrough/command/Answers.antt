use Rattle.std.specs.Str.Lines.{lines}
use Rattle.std.specs.Prelude.{slice_get}
use Rattle.std.proofs.Common.{◌≡◌, ◌∙◌, ◌-◌, true, false, List, ◌∷◌, ℕ, suc, sym, ap, arith}
use Rattle.zk_suite.specs.Scripts.{commands_after, is_command}
use Rattle.zk_suite.proofs.LineCuts.{at_end}
use Rattle.zk_suite.proofs.ScriptLines.{command_behind, command_here, command_passed, is_command_by, no_command}
use Rattle.zk_suite.proofs.walkthrough.Walkthrough.command.Goals as goal

pub loop-cut-preserved-then-is_some : goal.loop-cut-preserved-then-is_some
loop-cut-preserved-then-is_some c =
    let line = c.in-Some.cut.line.now in
    let rest = lines c.in-Some.cut.rest.now in
    let other : is_command line ≡ false = is_command_by _ _ line true c.asked.ensures
    (sym c.is_some.ensures ∙ c.if-is_some.true) in
    record {
      whole = sym (command_passed c.loop-cut.number c.loop-cut.left line rest other)
          ∙ ap (λ (ls : List (List ℕ)). slice_get (commands_after c.loop-cut.number ls) c.loop-cut.left)
          (sym c.in-Some.ensures.value) ∙ c.loop-cut.invariant.whole;
      number = omega (arith, c.in-Some.ensures.shorter, c.loop-cut.invariant.number);
    }

pub returns-then-left-eq0 : goal.returns-then-left-eq0
returns-then-left-eq0 c =
    let line = c.in-Some.cut.line.now in
    let rest = lines c.in-Some.cut.rest.now in
    let command : is_command line ≡ true = is_command_by _ _ line false c.asked.ensures
    (sym c.is_some.ensures ∙ c.if-is_some.false) in
    rw c.plain_command.ensures (sym (command_here c.loop-cut.number line rest command)
    ∙ ap (λ (ls : List (List ℕ)). slice_get (commands_after c.loop-cut.number ls) 0) (sym c.in-Some.ensures.value)
    ∙ rw c.if-left-eq0.true at c.loop-cut.invariant.whole)

pub loop-cut-preserved : goal.loop-cut-preserved
loop-cut-preserved c =
    let line = c.in-Some.cut.line.now in
    let rest = lines c.in-Some.cut.rest.now in
    let command : is_command line ≡ true = is_command_by _ _ line false c.asked.ensures
    (sym c.is_some.ensures ∙ c.if-is_some.false) in
    let left : suc (c.loop-cut.left - 1) ≡ c.loop-cut.left = omega (arith, c.if-left-eq0.false) in
    record {
      whole = sym (command_behind c.loop-cut.number (c.loop-cut.left - 1) line rest command)
          ∙ ap (λ (i : ℕ). slice_get (commands_after c.loop-cut.number (line ∷ rest)) i) left
          ∙ ap (λ (ls : List (List ℕ)). slice_get (commands_after c.loop-cut.number ls) c.loop-cut.left)
          (sym c.in-Some.ensures.value) ∙ c.loop-cut.invariant.whole;
      number = omega (arith, c.in-Some.ensures.shorter, c.loop-cut.invariant.number);
    }

pub returns : goal.returns
returns c = sym (no_command c.loop-cut.number c.loop-cut.left (lines c.loop-cut.rest.now)
    (at_end c.loop-cut.rest.now c.cut_line.result c.in_default.not-Some c.cut_line.ensures.value))
    ∙ c.loop-cut.invariant.whole
