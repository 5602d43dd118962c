use Rattle.std.proofs.Common.{◌∙◌, Some, None, refl}
use Rattle.zk_vm.proofs.LogPlays.{asked}
use Rattle.zk_vm.specs.Plays.{slot_tells}
use Rattle.zk_vm.proofs.play.bring.Goals as goal

pub returns-in-Some-clause-served : goal.returns-in-Some-clause-served
returns-in-Some-clause-served g c =
    let left = rw c.as_slice-file.ensures.value at c.answer_restore.ensures.left in
    let found = rw c.in-Some.is at c.in_ok-file.ensures.found in
    let got = rw c.in-Some.is at c.in_ok-file.ensures.got in
    let told = rw c.as_slice-file.ensures.value at c.tell_refusal.ensures.told in
    asked (slot_tells g.K.SaveSlot.held g.K.SaveSlot.keeps g.K.SaveSlot.puts g.K.SaveSlot.gets g.K.SaveSlot.hears)
    c.args.slot.now c.get.new.self c.tell_refusal.new.slot c.args.machine.now c.answer_restore.new.self
    (Some c.in-Some.file.items) c.answer_restore.ensures.ran c.requires.waits left
    found (c.tell_refusal.ensures.stays ∙ c.in_ok-file.ensures.stays) got told

pub returns-in-None-clause-served : goal.returns-in-None-clause-served
returns-in-None-clause-served g c =
    let found = rw c.in-None.is at c.in_ok-file.ensures.found in
    let got = rw c.in-None.is at c.in_ok-file.ensures.got in
    asked (slot_tells g.K.SaveSlot.held g.K.SaveSlot.keeps g.K.SaveSlot.puts g.K.SaveSlot.gets g.K.SaveSlot.hears)
    c.args.slot.now c.get.new.self c.get.new.self c.args.machine.now c.answer_restore-in-None.new.self None
    c.answer_restore-in-None.ensures.ran c.requires.waits c.answer_restore-in-None.ensures.left
    found c.in_ok-file.ensures.stays got refl
