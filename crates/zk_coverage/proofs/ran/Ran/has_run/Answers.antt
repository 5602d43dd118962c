use Rattle.std.proofs.Common.{◌∙◌}
use Rattle.zk_coverage.proofs.Covered.{found_is}
use Rattle.zk_coverage.proofs.ran.Ran.has_run.Goals as goal

pub returns : goal.returns
returns c = λ up. c.is_ok.ensures.value ∙ found_is c.args.self.now.covered.now c.args.address
    c.binary_search.result c.binary_search.ensures.position up.covered
