use Rattle.zk_text.specs.declared.pieces.Pending.TheVariants as held
use Rattle.zk_text.proofs.Sweeping.{nothing_by, rest_of}
use Rattle.zk_text.proofs.sweep.Rest.none.Goals as goal

pub returns : goal.returns
returns c = λ expand m. rest_of expand m _ _ (nothing_by expand m held.Nothing) (nothing_by expand m held.First)
    (nothing_by expand m held.Second) (nothing_by expand m held.Third) (nothing_by expand m held.ShiftToA1)
    (nothing_by expand m held.ShiftToA2) (nothing_by expand m held.Escape)
    (λ high. nothing_by expand m (held.UpperHalf high))
