-- A play for which no file of a saved game is named.
use Rattle.std.specs.Prelude.{◌≡◌, false, List, None}
use Rattle.std.specs.List.{AllByRecursion}
use Rattle.zk_vm.specs.Log.{Entry}
use Rattle.zk_vm.specs.Log.Entry.{Offered, Asked}
use Rattle.zk_vm.specs.Logged.{SlotDid}
use Rattle.zk_vm.specs.Plays.{SlotTells, slot_tells}
use Rattle.zk_system.specs.declared.save_file.SaveFile.{SaveFile}
use Rattle.zk_system.specs.SaveFiles.{held_in, keeps_in}

-- what a saved game's file tells of itself as a slot
abbrev pub file_tells : SlotTells SaveFile
file_tells = slot_tells (λ s. held_in s.place) (λ s file. keeps_in s.place) (λ before after file kept. Unit {0})
    (λ before after file. Unit {0}) (λ before after error. Unit {0})

-- by what passes between a machine and its world no game is kept, and none is found
abbrev pub KeepsNothing : Entry → Type 0
KeepsNothing (Offered file kept) = kept ≡ false
KeepsNothing (Asked file refusal) = file ≡ None
KeepsNothing _ = Unit {0}

-- where no file is named, all that passes between a play and its slot is such
abbrev pub NothingIsKept : Type 0
NothingIsKept = (before after : SaveFile) (entries : List Entry) → before.place ≡ None
    → SlotDid file_tells entries before after → AllByRecursion KeepsNothing entries
