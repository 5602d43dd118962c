use Rattle.std.proofs.Common.{◌≡◌, ◌∙◌, get_or, rules, sym}
use Rattle.zk_inspect.proofs.FarSiblings.{far_decides, no_child}
use Rattle.zk_inspect.proofs.objects.has_bad_tree.Goals as goal

pub returns-in-Ok : goal.returns-in-Ok
returns-in-Ok c =
    let e : c.unwrap_or.result ≡ get_or c.args.objects.now.far_siblings.items c.in-Ok.first 0 = search rules in
    far_decides c.args.memory.now c.args.object c.in-Ok.first c.unwrap_or.result (sym c.in-Ok.ensures)
    (e ∙ c.requires.far.each c.in-Ok.first)

pub returns-in-Err : goal.returns-in-Err
returns-in-Err c = sym (no_child c.args.memory.now c.args.object _ (sym c.in-Err.ensures))
