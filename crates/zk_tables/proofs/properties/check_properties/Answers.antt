use Rattle.std.proofs.Common.{sym}
use Rattle.zk_tables.proofs.ShortLists.{checked_short}
use Rattle.zk_tables.proofs.properties.check_properties.Goals as goal

pub returns-clause-walked : goal.returns-clause-walked
returns-clause-walked c = checked_short c.args.memory.now c.args.object c.in_ok-list.list c.check_list.result
    c.has_bytes.ensures (sym c.in_ok-list.ensures) c.check_list.ensures
