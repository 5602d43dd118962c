use Rattle.std.proofs.Common.{[]}
use Rattle.zk_text.specs.Meaning.{text_units}
use Rattle.zk_inspect.specs.Quoted.{units_or_none}
use Rattle.zk_inspect.proofs.Shortening.{has_units}
use Rattle.zk_inspect.proofs.listing.shortening.beginning_of.Goals as goal

pub returns-in-Ok : goal.returns-in-Ok
returns-in-Ok c =
    let r = text_units c.args.memory.now c.args.address in
    let gave = c.in-Ok.ensures.ok (units_or_none r) (has_units r c.requires) in
    rw c.of-extra.ensures at gave.1 [] c.new.ensures
