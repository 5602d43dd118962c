-- Addresses as five hexadecimal digits at least.
use Rattle.std.specs.Fmt.{padded_integral, format_spec, char_count}
use Rattle.std.proofs.Common.{◌≡◌, ◌-◌, ℕ, List, [], false, append-nil, arith}
use Rattle.zk_coverage.specs.Reports.{filled}

no_less : (n : ℕ) → n - 0 ≡ n
no_less n = omega arith

pub padded_is : (ds : List ℕ) → padded_integral (format_spec 32 0 4 5 18446744073709551615) false [] ds ≡ filled ds
unfolding padded_integral char_count
padded_is ds = simp (append-nil, no_less)
