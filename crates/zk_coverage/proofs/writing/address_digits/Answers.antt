use Rattle.std.specs.Prelude.{string_bytes}
use Rattle.std.proofs.Common.{◌≡◌, ◌∙◌}
use Rattle.zk_coverage.specs.Reports.{address_digits}
use Rattle.zk_coverage.proofs.Hex.{padded_is}
use Rattle.zk_coverage.proofs.Outcomes.{if_ok}
use Rattle.zk_coverage.proofs.writing.address_digits.Goals as goal

pub returns : goal.returns
returns c = if_ok c.format.result _ (λ s. string_bytes s ≡ address_digits c.args.address)
    (λ s p. (rw (c.laid_out.ensures, c.in_radix.ensures) at p) ∙ padded_is _) c.format.ensures.ok
