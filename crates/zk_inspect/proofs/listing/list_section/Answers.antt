use Rattle.zk_inspect.proofs.Rows.{tree_or_rows}
use Rattle.zk_inspect.proofs.listing.list_section.Goals as goal

pub returns-in-Tree : goal.returns-in-Tree
returns-in-Tree g c =
    rw c.in-Tree.is (tree_or_rows g.F.FactWriter.wrote c.args.memory.now _ _ c.list_tree.result
    c.list_tree.ensures.rows c.list_tree.ensures.roots)
