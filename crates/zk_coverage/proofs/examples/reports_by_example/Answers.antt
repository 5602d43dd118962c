-- The digits of numbers are computed.
use Rattle.std.specs.Prelude.{⊤}
use Rattle.std.proofs.Common.{refl}
use Rattle.std.specs.Fmt.{digits}
use Rattle.zk_coverage.specs.Page.{cell, line_row}
use Rattle.zk_coverage.specs.Reports.{function_records, routine_line, tally_line}
use Rattle.zk_coverage.proofs.examples.reports_by_example.Goals as goal

-- the definitions that are opened here
unfoldable opened : ⊤
unfolding digits cell function_records line_row routine_line tally_line
opened = tt

pub returns-clause-summaries_are_written : goal.returns-clause-summaries_are_written
unfolding opened
returns-clause-summaries_are_written c = (refl, refl, refl, refl, refl)

pub returns-clause-records_are_written : goal.returns-clause-records_are_written
unfolding opened
returns-clause-records_are_written c = (refl, refl, refl, refl, refl, refl, refl, refl, refl)

pub returns-clause-rows_are_written : goal.returns-clause-rows_are_written
unfolding opened
returns-clause-rows_are_written c = (refl, refl, refl, refl, refl)
