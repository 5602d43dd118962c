use Rattle.std.proofs.Common.{◌∙◌, ◌++◌, ℕ, List, map, ap}
use Rattle.zk_inspect.specs.Findings.{at_address}
use Rattle.zk_inspect.proofs.check.add.Goals as goal

pub returns : goal.returns
returns c = record {
  addresses = c.in_ok-list.list;
  exact = c.in_ok-list.ensures;
  joined =
      c.in_ok-put.ensures ∙ ap (λ (xs : List ℕ). c.args.findings.now.items ++ map (at_address c.args.number) xs)
      c.as_slice.ensures;
}
