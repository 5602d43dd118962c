use Rattle.std.proofs.Common.{◌∙◌, sym}
use Rattle.zk_notes.proofs.Versions.{read_is_version}
use Rattle.zk_notes.proofs.info_notes.compiler_in.Goals as goal

pub returns : goal.returns
returns c =
    rw c.ok.ensures.value (read_is_version _ c.args.header.now c.from_utf8.result
    (sym c.is_version.ensures ∙ c.if-not-is_version.false) c.from_utf8.ensures.cases)
