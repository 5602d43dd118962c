use Rattle.std.proofs.Common.{◌∙◌, ap}
use Rattle.std.specs.Option.{option_and_then}
use Rattle.zk_names.specs.Nodes.{number_in, number_of}
use Rattle.zk_names.proofs.section.Section.number.Goals as goal

pub returns-in-Some : goal.returns-in-Some
unfolding number_in
returns-in-Some c = c.number_in.ensures ∙ ap (option_and_then number_of) c.in-Some.ensures

pub returns-in-None : goal.returns-in-None
unfolding number_in
returns-in-None c = ap (option_and_then number_of) c.in-None.ensures
