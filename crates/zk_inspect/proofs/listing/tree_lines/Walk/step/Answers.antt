use Rattle.std.proofs.Common.{◌∙◌, ap, length}
use Rattle.zk_inspect.specs.TreeLines.{IsUpTo}
use Rattle.zk_inspect.proofs.Rows.{one_row, top_row, up_to}
use Rattle.zk_inspect.proofs.listing.tree_lines.Walk.step.Goals as goal

pub returns-then-again-clause-rows : goal.returns-then-again-clause-rows
returns-then-again-clause-rows g c = one_row g.F.FactWriter.wrote (IsUpTo c.args.self.now.count) _ _ _
    (up_to c.args.self.now.count c.args.object c.if-object-eq0.false c.if-object-self.false) c.write.ensures

pub returns-then-again-clause-top : goal.returns-then-again-clause-top
returns-then-again-clause-top g c = λ none up. top_row g.F.FactWriter.wrote (IsUpTo c.args.self.now.count) _ _ _
    up (c.len-level.ensures ∙ c.args.self.now.above.ok.0 ∙ ap length none) c.write.ensures

pub returns-in_err-go_below-clause-rows : goal.returns-in_err-go_below-clause-rows
returns-in_err-go_below-clause-rows g c =
    one_row g.F.FactWriter.wrote (IsUpTo c.args.self.now.count) _ _ _
    (up_to c.args.self.now.count c.args.object c.if-object-eq0.false c.if-object-self.false) c.write.ensures

pub returns-in_err-go_below-clause-top : goal.returns-in_err-go_below-clause-top
returns-in_err-go_below-clause-top g c =
    λ none up. top_row g.F.FactWriter.wrote (IsUpTo c.args.self.now.count) _ _ _ up
    (c.len-level.ensures ∙ c.args.self.now.above.ok.0 ∙ ap length none) c.write.ensures

pub returns-clause-rows : goal.returns-clause-rows
returns-clause-rows g c = one_row g.F.FactWriter.wrote (IsUpTo c.args.self.now.count) _ _ _
    (up_to c.args.self.now.count c.args.object c.if-object-eq0.false c.if-object-self.false) c.write.ensures

pub returns-clause-top : goal.returns-clause-top
returns-clause-top g c = λ none up. top_row g.F.FactWriter.wrote (IsUpTo c.args.self.now.count) _ _ _ up
    (c.len-level.ensures ∙ c.args.self.now.above.ok.0 ∙ ap length none) c.write.ensures
