use Rattle.std.proofs.Common.{◌∙◌, ap}
use Rattle.std.proofs.lemmas.Str.Ascii.{trim_ascii_end_is, trim_ascii_start_is}
use Rattle.zk_names.specs.Nodes.{digits, number_of, without_end}
use Rattle.zk_names.proofs.text.number_in.Goals as goal

pub returns : goal.returns
unfolding number_of
returns c =
    c.digits.ensures
    ∙ ap digits (trim_ascii_end_is _ _ c.trim_ascii_end.ensures.value
    ∙ ap without_end (trim_ascii_start_is _ _ c.trim_ascii_start.ensures.value))
