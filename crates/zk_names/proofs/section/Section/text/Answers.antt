use Rattle.std.proofs.Common.{ap, option_map}
use Rattle.zk_names.specs.Nodes.{Node, text_in}
use Rattle.zk_names.proofs.section.Section.text.Goals as goal

pub returns-in-Some : goal.returns-in-Some
unfolding text_in
returns-in-Some c = ap (option_map (λ (n : Node). n.element.text)) c.in-Some.ensures

pub returns-in-None : goal.returns-in-None
unfolding text_in
returns-in-None c = ap (option_map (λ (n : Node). n.element.text)) c.in-None.ensures
