use Rattle.std.proofs.Common.{arith, sym}
use Rattle.std.proofs.lemmas.List.{length-take-le, take_all}
use Rattle.zk_inspect.proofs.listing.shortening.shown_of.Goals as goal

pub slice_bounds-result-end : goal.slice_bounds-result-end
slice_bounds-result-end c = sym (length-take-le 60 c.args.beginning.now (omega (arith, c.if-beginning-le-MOST.false)))

pub returns-then-beginning-le-MOST : goal.returns-then-beginning-le-MOST
returns-then-beginning-le-MOST c = sym (take_all 60 c.args.beginning.now c.if-beginning-le-MOST.true)
