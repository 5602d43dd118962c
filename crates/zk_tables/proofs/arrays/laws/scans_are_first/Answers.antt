use Rattle.zk_tables.proofs.ScanLaw.{scans_are_first}
use Rattle.zk_tables.proofs.arrays.laws.scans_are_first.Goals as goal

pub returns : goal.returns
returns c = scans_are_first
