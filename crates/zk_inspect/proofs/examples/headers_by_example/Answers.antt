-- The digits of numbers are computed.
use Rattle.std.specs.Prelude.{⊤}
use Rattle.std.proofs.Common.{refl}
use Rattle.std.specs.Fmt.{digits}
use Rattle.zk_mem.specs.Header.{header_of, unit_length}
use Rattle.zk_mem.specs.Checksum.{file_sum, has_right_sum}
use Rattle.zk_term.specs.Numbers.{hex_digits, address_digits, word_digits, byte_digits}
use Rattle.zk_inspect.specs.HeaderLines.{value_text, field_line, header_facts, late_facts}
use Rattle.zk_inspect.specs.MapLines.{count_before, with_places, place_line, map_facts}
use Rattle.zk_inspect.specs.Lines.{fact_line, lines_of}
use Rattle.zk_inspect.proofs.examples.headers_by_example.Goals as goal

-- the definitions that are opened here
unfoldable opened : ⊤
unfolding digits header_of unit_length file_sum has_right_sum hex_digits address_digits word_digits byte_digits
    value_text field_line header_facts late_facts fact_line lines_of count_before with_places place_line map_facts
opened = tt

pub returns-clause-headers_are_lines : goal.returns-clause-headers_are_lines
unfolding opened
returns-clause-headers_are_lines c = (refl, refl)

pub returns-clause-maps_are_in_order : goal.returns-clause-maps_are_in_order
unfolding opened
returns-clause-maps_are_in_order c = (refl, refl)
