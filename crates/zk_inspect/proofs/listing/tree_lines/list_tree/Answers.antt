use Rattle.zk_inspect.specs.TreeLines.{HasNoParent, IsRoot, IsUpTo}
use Rattle.zk_inspect.proofs.Rows.{first_objects, object_up_to, on_ok, rows_of_story}
use Rattle.zk_inspect.proofs.listing.tree_lines.list_tree.Goals as goal

pub returns-clause-rows : goal.returns-clause-rows
returns-clause-rows g c =
    let m = c.args.memory.now in
    let count = c.count_objects-count.result in
    rows_of_story g.F.FactWriter.wrote m count (λ o. ⊥) (λ o. ⊥) c.args.facts.now c.list_trees.new.facts
    c.list_trees.ensures.rows (first_objects m count c.count_objects-count.ensures.listed
    c.count_objects-count.ensures.whole) (λ o w. w)

pub returns-clause-roots : goal.returns-clause-roots
returns-clause-roots g c =
    let m = c.args.memory.now in
    let count = c.count_objects-count.result in
    on_ok _ _ c.list_trees.result
    (λ h. rows_of_story g.F.FactWriter.wrote m count (λ o. IsUpTo count o × HasNoParent m o) (IsRoot m)
    c.args.facts.now c.list_trees.new.facts h (first_objects m count c.count_objects-count.ensures.listed
    c.count_objects-count.ensures.whole)
    (λ o root. (object_up_to m count c.count_objects-count.ensures.listed o root.0, root.1)))
    c.list_trees.ensures.top
