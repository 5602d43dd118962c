use Rattle.std.specs.List.{filter_map}
use Rattle.std.specs.Prelude.{map}
use Rattle.std.specs.Str.Lines.{lines}
use Rattle.std.proofs.Common.{◌≡◌, ◌∙◌, ◌++◌, true, false, Bor, List, ℕ, sym, ap, rules}
use Rattle.zk_suite.specs.Scripts.{comments, is_comment, setting_in}
use Rattle.zk_suite.proofs.LineCuts.{at_end}
use Rattle.zk_suite.proofs.ScriptLines.{comments_on, comments_stop, comments_end, option_before, settings_end}
use Rattle.zk_suite.proofs.walkthrough.Walkthrough.settings.Goals as goal

pub returns-then-not-is_comment : goal.returns-then-not-is_comment
returns-then-not-is_comment c =
    let other : false ≡ is_comment c.in-Some.cut.line.now = search rules in
    settings_end _ (comments (lines c.loop-cut.rest.now))
    (comments_stop (lines c.loop-cut.rest.now) _ c.in-Some.cut.line.now c.in-Some.ensures.value other)
    ∙ c.loop-cut.invariant

pub loop-cut-preserved : goal.loop-cut-preserved
loop-cut-preserved c =
    let line = c.in-Some.cut.line.now in
    let rest = comments (lines c.in-Some.cut.rest.now) in
    let comment : true ≡ is_comment line = search rules in
    let before = map (λ (s : Bor (List ℕ) × Bor (List ℕ)). (s.0.now, s.1.now)) c.loop-cut.settings.items in
    rw c.in_ok-put_setting.ensures
    (option_before (setting_in line) before (filter_map setting_in rest)
    ∙ ap (λ (cs : List (List ℕ)). before ++ filter_map setting_in cs)
    (sym (comments_on (lines c.loop-cut.rest.now) _ line c.in-Some.ensures.value comment))
    ∙ c.loop-cut.invariant)

pub returns : goal.returns
returns c =
    settings_end _ (comments (lines c.loop-cut.rest.now))
    (comments_end (lines c.loop-cut.rest.now) (at_end c.loop-cut.rest.now c.cut_line.result c.in_default.not-Some
    c.cut_line.ensures.value)) ∙ c.loop-cut.invariant
