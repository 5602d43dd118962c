-- The digits of numbers are computed.
use Rattle.std.proofs.Common.{refl}
use Rattle.std.specs.Fmt.{digits}
use Rattle.zk_text.specs.Shown.{shown, shown_all}
use Rattle.zk_text.specs.Extra.{own_characters, unicode_table, character}
use Rattle.zk_mem.specs.Header.{header_of}
use Rattle.zk_step.specs.Printing.{units_of, characters_of}
use Rattle.zk_step.proofs.examples.printing_by_example.Goals as goal

pub returns-clause-shows_signed_numbers : goal.returns-clause-shows_signed_numbers
unfolding digits shown shown_all own_characters unicode_table character header_of units_of characters_of
returns-clause-shows_signed_numbers c = (refl, refl)
