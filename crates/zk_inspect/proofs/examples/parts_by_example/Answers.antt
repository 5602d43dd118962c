-- The digits of numbers are computed.
use Rattle.std.proofs.Common.{refl}
use Rattle.std.specs.Fmt.{digits}
use Rattle.zk_inspect.specs.Listing.{variable_text, operand_text, store_text, branch_text, target_text}
use Rattle.zk_term.specs.Numbers.{hex_digits, address_digits, word_digits, byte_digits}
use Rattle.zk_inspect.proofs.examples.parts_by_example.Goals as goal

pub returns-clause-variables_by_number : goal.returns-clause-variables_by_number
unfolding digits variable_text
returns-clause-variables_by_number c = (refl, refl, refl, refl, refl)

pub returns-clause-operands_by_type : goal.returns-clause-operands_by_type
unfolding digits variable_text operand_text hex_digits word_digits byte_digits
returns-clause-operands_by_type c = (refl, refl, refl, refl, refl, refl)

pub returns-clause-stores_behind_an_arrow : goal.returns-clause-stores_behind_an_arrow
unfolding digits variable_text store_text
returns-clause-stores_behind_an_arrow c = (refl, refl, refl, refl)

pub returns-clause-branches_behind_a_mark : goal.returns-clause-branches_behind_a_mark
unfolding branch_text target_text hex_digits address_digits
returns-clause-branches_behind_a_mark c = (refl, refl, refl, refl, refl, refl, refl)
