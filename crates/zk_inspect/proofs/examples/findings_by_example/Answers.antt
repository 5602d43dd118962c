-- The digits of numbers are computed.
use Rattle.std.proofs.Common.{refl}
use Rattle.std.specs.Fmt.{digits}
use Rattle.zk_inspect.specs.FindingLines.{finding_line}
use Rattle.zk_term.specs.Numbers.{hex_digits, address_digits}
use Rattle.zk_inspect.specs.Lines.{fact_line, lines_of}
use Rattle.zk_inspect.proofs.examples.findings_by_example.Goals as goal

pub returns-clause-findings_of_tables : goal.returns-clause-findings_of_tables
unfolding digits finding_line hex_digits address_digits fact_line lines_of
returns-clause-findings_of_tables c = (refl, refl, refl, refl, refl, refl, refl)

pub returns-clause-findings_of_texts_and_code : goal.returns-clause-findings_of_texts_and_code
unfolding digits finding_line hex_digits address_digits fact_line lines_of
returns-clause-findings_of_texts_and_code c = (refl, refl, refl, refl, refl)

pub returns-clause-findings_are_lines : goal.returns-clause-findings_are_lines
unfolding digits finding_line hex_digits address_digits fact_line lines_of
returns-clause-findings_are_lines c = (refl, refl)
