use Rattle.std.proofs.Common.{[], rules, take}
use Rattle.zk_text.specs.Extra.{own_characters}
use Rattle.zk_text.specs.Shown.{shown_all}
use Rattle.zk_host.specs.Collecting.{CollectsTexts}
use Rattle.zk_host.specs.NameSinks.{whole_name}
use Rattle.zk_host.proofs.name.collect_first.Goals as goal

pub returns-in-Ok : goal.returns-in-Ok
returns-in-Ok c = λ units e.
    let given = c.in-Ok.ensures.ok units e in
    let all = whole_name units 1000 _ given.2 in
    let cut : CollectsTexts c.args.name.now c.print_text.new.sink.name.now
    (shown_all (own_characters c.args.memory.now) (take 1000 units)) [] = rw all (rw c.of-extra.ensures at given.3) in
    search (rules, given.0, cut)
