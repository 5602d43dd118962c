use Rattle.std.proofs.Common.{◌≡◌, ◌∙◌, true, false, ◌++◌, [], ◌∷◌, List, ℕ, sym, ap, append_assoc, append-nil, rules}
use Rattle.std.specs.Prelude.{is_none}
use Rattle.zk_suite.specs.Scripts.{is_command, typed_command}
use Rattle.zk_suite.proofs.ScriptLines.{mapped_none, typed_one, typed_none}
use Rattle.zk_suite.proofs.walkthrough.put_command.Goals as goal

pub returns-in_ok-push : goal.returns-in_ok-push
returns-in_ok-push c =
    let out = c.args.out.now.items in
    let line = typed_command c.args.line.now in
    let command : is_command c.args.line.now ≡ true = ap is_none (sym c.asked.ensures) ∙ mapped_none _ c.asked.result
    ∙ search rules in
    let put : c.push.new.self.items ≡ (out ++ line) ++ 10 ∷ [] = search rules in
    put ∙ append_assoc out line (10 ∷ []) ∙ ap (λ (xs : List ℕ). out ++ xs) (sym (typed_one c.args.line.now command))

pub returns-else-is_none : goal.returns-else-is_none
returns-else-is_none c =
    let other : is_command c.args.line.now ≡ false = ap is_none (sym c.asked.ensures)
    ∙ mapped_none _ c.asked.result ∙ search rules in
    rw (typed_none c.args.line.now other) (sym (append-nil c.args.out.now.items))
