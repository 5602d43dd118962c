use Rattle.std.proofs.Common.{◌∙◌}
use Rattle.std.proofs.lemmas.Bool.{OnTrue_at}
use Rattle.zk_vm.proofs.LogPlays.{offered}
use Rattle.zk_vm.specs.Plays.{slot_tells}
use Rattle.zk_vm.proofs.play.keep.Goals as goal

pub returns-clause-served : goal.returns-clause-served
returns-clause-served g c =
    let file = c.as_slice.ensures.value ∙ c.in_ok-file.ensures.value in
    let answer = rw file at c.put-kept.ensures.answer in
    let kept = rw file at c.put-kept.ensures.kept in
    let put = rw file at c.put-kept.ensures.put in
    offered (slot_tells g.K.SaveSlot.held g.K.SaveSlot.keeps g.K.SaveSlot.puts g.K.SaveSlot.gets
    g.K.SaveSlot.hears) c.args.slot.now c.put-kept.new.self c.args.machine.now c.answer_save.new.self
    c.put-kept.result c.answer_save.ensures.ran c.requires.waits c.answer_save.ensures.left
    answer (λ e. OnTrue_at e kept) c.put-kept.ensures.refused put
