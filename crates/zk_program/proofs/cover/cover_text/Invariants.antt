use Rattle.std.proofs.Common.{◌≡◌, ◌<◌, ◌^◌, ◌++◌, length, take}
use Rattle.std.specs.Prelude.{codes}
use Rattle.std.specs.List.{flat_map}
use Rattle.zk_program.specs.Covers.{address_line, marked_from}
use Rattle.zk_program.proofs.cover.cover_text.Given as goal

abbrev pub invariant-loop-at : goal.invariant-loop-at
invariant-loop-at l =
    length l.marks < 2 ^ 32 → l.text.items ≡ (l.story ++ codes "\n") ++ flat_map address_line
    (marked_from 0 (take l.at l.marks))
