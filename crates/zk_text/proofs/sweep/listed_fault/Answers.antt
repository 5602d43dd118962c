use Rattle.std.proofs.Common.{◌∙◌, sym}
use Rattle.zk_text.proofs.sweep.listed_fault.Goals as goal

pub returns-in-Some : goal.returns-in-Some
returns-in-Some c = c.requires c.args.number c.in-Some.fault (sym c.listed.ensures ∙ c.in-Some.is)
