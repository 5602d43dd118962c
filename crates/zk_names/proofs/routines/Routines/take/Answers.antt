use Rattle.std.proofs.Common.{rules}
use Rattle.zk_names.specs.Nodes.{as_node}
use Rattle.zk_names.proofs.Taken.{taken_is}
use Rattle.zk_names.proofs.routines.Routines.take.Goals as goal

pub returns : goal.returns
returns c =
    taken_is (as_node c.args.section.now) c.args.self.now _ c.args.head c.len-first_point.result c.saturating_sub.result
    c.len-first_local.result c.saturating_sub-2.result c.requires c.in_ok-put.ensures c.in_ok-put_points.ensures
    c.in_ok-put_locals.ensures (search rules) (search rules) (search rules) (search rules)
