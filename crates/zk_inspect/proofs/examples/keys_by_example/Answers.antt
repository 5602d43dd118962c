-- Keys are computed.
use Rattle.std.proofs.Common.{refl}
use Rattle.zk_inspect.specs.Keys.{comes_before, key_in}
use Rattle.zk_inspect.proofs.examples.keys_by_example.Goals as goal

pub returns-clause-keys_are_in_order : goal.returns-clause-keys_are_in_order
unfolding comes_before
returns-clause-keys_are_in_order c = (refl, refl, refl, refl, refl, refl, refl, refl)

pub returns-clause-keys_begin_entries : goal.returns-clause-keys_begin_entries
unfolding key_in
returns-clause-keys_begin_entries c = (refl, refl, refl, refl)
