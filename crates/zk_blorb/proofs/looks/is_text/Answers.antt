use Rattle.std.proofs.Common.{◌∙◌, add-one, ap, not, sym}
use Rattle.std.proofs.lemmas.List.{take_all}
use Rattle.zk_blorb.specs.Looks.{is_of_text}
use Rattle.zk_blorb.proofs.Texts.{all_more, all_text}
use Rattle.zk_blorb.proofs.looks.is_text.Goals as goal

pub loop-byte-preserved : goal.loop-byte-preserved
loop-byte-preserved c = rw (add-one c.loop-byte.byte-index) (all_more is_of_text c.args.bytes.now
    c.loop-byte.byte-index c.loop-byte-test.true c.loop-byte.invariant
    (sym c.is_of_text.ensures ∙ c.if-not-is_of_text.false))

pub returns : goal.returns
returns c = ap not c.is_empty.ensures ∙ all_text c.args.bytes.now
    (rw (take_all c.loop-byte.byte-index c.args.bytes.now c.loop-byte-test.false) at c.loop-byte.invariant)
