use Rattle.std.proofs.Common.{refl, sym, ◌∙◌}
use Rattle.zk_inspect.proofs.Searching.{found_new}
use Rattle.zk_inspect.proofs.reach.Search.find.Goals as goal

pub returns-clause-search : goal.returns-clause-search
returns-clause-search c =
    found_new _ c.args.roots.now c.args.self.now _ c.args.address c.requires.search c.requires.reached
    c.requires.within (sym c.has.ensures ∙ c.if-has.false) c.mark.ensures refl c.in_ok-push.ensures
