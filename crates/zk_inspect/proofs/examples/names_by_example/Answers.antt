-- The digits of numbers are computed.
use Rattle.std.proofs.Common.{refl}
use Rattle.std.specs.Fmt.{digits}
use Rattle.zk_mem.specs.Header.{header_of}
use Rattle.zk_term.specs.Numbers.{hex_digits, word_digits}
use Rattle.zk_inspect.specs.Ifid.{first_name, header_name, ifid_line, name_in_front, name_length}
use Rattle.zk_inspect.proofs.examples.names_by_example.Goals as goal

pub returns-clause-names_by_headers : goal.returns-clause-names_by_headers
unfolding digits header_of hex_digits word_digits first_name header_name ifid_line name_in_front name_length
returns-clause-names_by_headers c = (refl, refl, refl, refl, refl, refl)
