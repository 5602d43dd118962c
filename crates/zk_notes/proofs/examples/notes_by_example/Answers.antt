use Rattle.std.proofs.Common.{refl}
use Rattle.std.specs.Char.{encode_utf8}
use Rattle.std.specs.Fmt.{digits}
use Rattle.std.specs.Str.{chars, trim_end, trim_start}
use Rattle.zk_mem.specs.Checksum.{file_sum}
use Rattle.zk_mem.specs.Header.{header_of, unit_length}
use Rattle.zk_term.specs.Numbers.{address_digits, hex_digits, word_digits}
use Rattle.zk_inspect.specs.FindingLines.{finding_line}
use Rattle.zk_inspect.specs.Lines.{fact_line}
use Rattle.zk_notes.specs.Addresses.{address_of}
use Rattle.zk_notes.specs.Marks.{ran_line, was_entered}
use Rattle.zk_notes.specs.Union.{story_line}
use Rattle.zk_notes.proofs.examples.notes_by_example.Goals as goal

pub returns-clause-lists_are_read : goal.returns-clause-lists_are_read
unfolding address_of chars trim_end trim_start encode_utf8
returns-clause-lists_are_read c = (refl, refl, refl)

pub returns-clause-stories_are_told : goal.returns-clause-stories_are_told
unfolding chars trim_end trim_start digits header_of unit_length file_sum hex_digits word_digits story_line address_of
    encode_utf8
returns-clause-stories_are_told c = (refl, refl, refl, refl, refl, refl, refl, refl, refl)

pub returns-clause-findings_are_explained : goal.returns-clause-findings_are_explained
unfolding digits header_of address_digits hex_digits finding_line fact_line
returns-clause-findings_are_explained c = (refl, refl, refl, refl, refl)

pub returns-clause-lines_are_marked : goal.returns-clause-lines_are_marked
unfolding digits ran_line was_entered
returns-clause-lines_are_marked c = (refl, refl, refl)
