use Rattle.std.specs.List.{filter_map}
use Rattle.std.specs.Prelude.{option_map, option_to_list}
use Rattle.std.specs.Str.Lines.{lines}
use Rattle.std.proofs.Common.{◌≡◌, ◌∙◌, true, false, Bor, List, ℕ, Some, None, sym, ap, rules}
use Rattle.zk_suite.specs.Scripts.{comments, first_of, is_comment, setting_in}
use Rattle.zk_suite.proofs.LineCuts.{at_end}
use Rattle.zk_suite.proofs.ScriptLines.{comments_on, comments_stop, comments_end, setting_nowhere, setting_found}
use Rattle.zk_suite.proofs.ScriptLines.{setting_passed, none_of_some}
use Rattle.zk_suite.proofs.walkthrough.Walkthrough.setting.Goals as goal

pub returns-then-not-is_comment : goal.returns-then-not-is_comment
returns-then-not-is_comment c =
    let other : false ≡ is_comment c.in-Some.cut.line.now = search rules in
    setting_nowhere c.args.name.now (comments (lines c.loop-cut.rest.now))
    (comments_stop (lines c.loop-cut.rest.now) _ c.in-Some.cut.line.now c.in-Some.ensures.value other)
    ∙ c.loop-cut.invariant

pub returns-in-Some-value_in : goal.returns-in-Some-value_in
returns-in-Some-value_in c =
    let line = c.in-Some.cut.line.now in
    let rest = comments (lines c.in-Some.cut.rest.now) in
    let comment : true ≡ is_comment line = search rules in
    let found : Some c.in-Some-value_in.value.now ≡ first_of c.args.name.now
    (option_to_list (setting_in line)) = rw c.as_bytes.ensures.value at c.in-Some-value_in.ensures in
    setting_found c.args.name.now _ (setting_in line) (filter_map setting_in rest) found
    ∙ ap (λ (cs : List (List ℕ)). first_of c.args.name.now (filter_map setting_in cs))
    (sym (comments_on (lines c.loop-cut.rest.now) _ line c.in-Some.ensures.value comment))
    ∙ c.loop-cut.invariant

pub loop-cut-preserved : goal.loop-cut-preserved
loop-cut-preserved c =
    let line = c.in-Some.cut.line.now in
    let rest = comments (lines c.in-Some.cut.rest.now) in
    let comment : true ≡ is_comment line = search rules in
    let none : None ≡ first_of c.args.name.now (option_to_list (setting_in line)) =
    ap (option_map (λ (v : Bor (List ℕ)). v.now))
    (sym (none_of_some c.value_in.result c.in_default-value_in.not-Some))
    ∙ rw c.as_bytes.ensures.value at c.value_in.ensures in
    sym (setting_passed c.args.name.now (setting_in line) (filter_map setting_in rest) none)
    ∙ ap (λ (cs : List (List ℕ)). first_of c.args.name.now (filter_map setting_in cs))
    (sym (comments_on (lines c.loop-cut.rest.now) _ line c.in-Some.ensures.value comment))
    ∙ c.loop-cut.invariant

pub returns : goal.returns
returns c = setting_nowhere c.args.name.now (comments (lines c.loop-cut.rest.now))
    (comments_end (lines c.loop-cut.rest.now) (at_end c.loop-cut.rest.now c.cut_line.result c.in_default.not-Some
    c.cut_line.ensures.value)) ∙ c.loop-cut.invariant
