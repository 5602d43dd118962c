use Rattle.std.proofs.Common.{◌≡◌, ◌++◌, take}
use Rattle.std.specs.List.{flat_map}
use Rattle.zk_page.specs.Pages.{part_text}
use Rattle.zk_page.proofs.page.push_parts.Given as goal

abbrev pub invariant-loop-part : goal.invariant-loop-part
invariant-loop-part l = l.page.items ≡ l.fn.page.items ++ flat_map part_text (take l.part-index l.parts)
