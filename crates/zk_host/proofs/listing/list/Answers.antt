use Rattle.std.proofs.Common.{rules, ◌<◌, [], length}
use Rattle.zk_host.specs.Listings.{IsPartBy}
use Rattle.zk_host.proofs.Listings.{longer_part}
use Rattle.zk_host.proofs.listing.list.Goals as goal

pub returns-then-most-len-clause-refused : goal.returns-then-most-len-clause-refused
returns-then-most-len-clause-refused c =
    let part = c.write_lines-part.result in
    let after = c.write_lines-part.new.target.text.bytes in
    let longer : c.args.most < length after = search rules in
    let is : IsPartBy part.end c.args.memory.now c.in_ok-facts.facts.items part.lines 1048576 part.words [] after =
    search rules in
    longer_part c.args.listing c.args.memory.now c.in_ok-facts.facts.items part.end part.lines 1048576 part.words
    c.args.most after c.in_ok-facts.ensures.facts is longer
