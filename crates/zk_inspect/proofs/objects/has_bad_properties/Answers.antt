use Rattle.std.proofs.Common.{sym}
use Rattle.zk_inspect.proofs.LastLists.{bad_list}
use Rattle.zk_inspect.proofs.objects.has_bad_properties.Goals as goal

pub returns-in-Ok : goal.returns-in-Ok
returns-in-Ok c =
    rw c.is_marked.ensures (bad_list c.args.memory.now c.args.object c.in-Ok.list c.args.objects.now.lists
    c.has_bytes.ensures c.requires.lists (sym c.in-Ok.ensures))
