use Rattle.std.proofs.Common.{◌∙◌, sym, subst}
use Rattle.zk_text.specs.Sweeps.{AreKnown}
use Rattle.zk_text.proofs.Abbreviated.{fault_at}
use Rattle.zk_text.proofs.Sweeping.{one_known}
use Rattle.zk_text.proofs.abbreviations.note_at.Goals as goal
use Rattle.zk_text.proofs.abbreviations.note_at.Goals.{then-has_text_at, else-has_text_at}

pub loop-number-preserved : goal.loop-number-preserved
loop-number-preserved c = record {
  known = elim c.if-has_text_at.branch [
    | then-has_text_at w ↦ subst (AreKnown c.args.memory.now) (sym w.known-is)
        (one_known c.args.memory.now c.loop-number.known c.loop-number.number c.args.fault
        c.loop-number.invariant.known (fault_at c.args.memory.now c.loop-number.number c.args.address c.args.fault
        (c.has_text_at.ensures w.if-has_text_at.true) c.requires.fault))
    | else-has_text_at w ↦ subst (AreKnown c.args.memory.now) (sym w.known-is) c.loop-number.invariant.known
  ];
  size = c.if-has_text_at.auto.known ∙ c.loop-number.invariant.size;
}
