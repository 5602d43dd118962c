use Rattle.std.proofs.Common.{List, ℕ, subst, sym}
use Rattle.std.proofs.lemmas.List.{take_more}
use Rattle.zk_fast.specs.Covers.{Covers, covers_twice}
use Rattle.zk_program.proofs.cover.note_all.Goals as goal

pub loop-address-preserved : goal.loop-address-preserved
loop-address-preserved c =
    subst (λ (s : List ℕ). Covers c.args.cover.now c.note.new.self s)
    (sym (take_more c.args.addresses.now c.loop-address.address-index 0 c.loop-address-test.true))
    (covers_twice _ _ _ _ _ c.loop-address.invariant c.note.ensures)
