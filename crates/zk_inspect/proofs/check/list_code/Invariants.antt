use Rattle.std.proofs.Common.{◌≡◌, take}
use Rattle.std.specs.List.{filter}
use Rattle.zk_inspect.specs.Tests.{code_answer}
use Rattle.zk_inspect.proofs.check.list_code.Given as goal

abbrev pub invariant-loop-address : goal.invariant-loop-address
invariant-loop-address l = l.list ≡ filter (code_answer l.memory l.question) (take l.address-index l.addresses)
