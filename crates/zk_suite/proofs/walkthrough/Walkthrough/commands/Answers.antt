use Rattle.std.specs.Str.Lines.{lines}
use Rattle.std.proofs.Common.{◌≡◌, ◌∙◌, ◌++◌, [], ◌∷◌, List, ℕ, sym, ap, append_assoc}
use Rattle.zk_suite.specs.Scripts.{typed}
use Rattle.zk_suite.proofs.LineCuts.{at_end}
use Rattle.zk_suite.proofs.ScriptLines.{typed_on, typed_end}
use Rattle.zk_suite.proofs.walkthrough.Walkthrough.commands.Goals as goal

pub loop-cut-preserved : goal.loop-cut-preserved
loop-cut-preserved c =
    let out = c.loop-cut.out.items in
    let line = c.in-Some.cut.line.now in
    let rest = lines c.in-Some.cut.rest.now in
    let on : typed (line ∷ []) ++ typed rest ≡ typed (lines c.loop-cut.rest.now) = sym (typed_on line rest)
    ∙ ap typed (sym c.in-Some.ensures.value) in
    rw c.in_ok-put_command.ensures (append_assoc out (typed (line ∷ [])) (typed rest)
    ∙ ap (λ (xs : List ℕ). out ++ xs) on ∙ c.loop-cut.invariant)

pub returns : goal.returns
returns c = typed_end c.loop-cut.out.items (lines c.loop-cut.rest.now)
    (at_end c.loop-cut.rest.now c.cut_line.result c.in_default.not-Some c.cut_line.ensures.value) ∙ c.loop-cut.invariant
