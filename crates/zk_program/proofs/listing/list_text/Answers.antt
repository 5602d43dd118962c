use Rattle.std.proofs.Common.{rules}
use Rattle.zk_term.specs.LineWriters.{sheet}
use Rattle.zk_program.proofs.Listings.{some_lines, text_written}
use Rattle.zk_program.proofs.listing.list_text.Goals as goal

pub returns-in-Err-clause-written : goal.returns-in-Err-clause-written
returns-in-Err-clause-written g c =
    let some = some_lines _ _ _ _ _ _ _ _ c.list_lines-listed.ensures.written in
    let ended = c.in-Err.ensures.ended (sheet g.T.Target.taken g.T.Target.failed c.new-writer.result.target.now
    c.new-writer.result.waiting.items c.new-writer.result.failed) _ c.new-writer.ensures.waiting
    c.new-writer.ensures.failed some.given.1 in
    search (rules, ended.1, some.given.0)

pub returns-in-Err-listed-clause-written : goal.returns-in-Err-listed-clause-written
returns-in-Err-listed-clause-written g c =
    let some = some_lines _ _ _ _ _ _ _ _ c.list_lines-listed.ensures.written in
    let ended = c.in-Ok.ensures.ended (sheet g.T.Target.taken g.T.Target.failed c.new-writer.result.target.now
    c.new-writer.result.waiting.items c.new-writer.result.failed) _ c.new-writer.ensures.waiting
    c.new-writer.ensures.failed some.given.1 in
    search (rules, ended.1, some.given.0)

pub returns-in-Ok-listed-clause-written : goal.returns-in-Ok-listed-clause-written
returns-in-Ok-listed-clause-written g c =
    let all = c.in-Ok-listed.ensures.written in
    let ended = c.in-Ok.ensures.ended (sheet g.T.Target.taken g.T.Target.failed c.new-writer.result.target.now
    c.new-writer.result.waiting.items c.new-writer.result.failed) _ c.new-writer.ensures.waiting
    c.new-writer.ensures.failed all.given.1 in
    let done = text_written g.T.Target.taken g.T.Target.failed c.args.listing c.args.memory.now
    c.in-Ok-listed.found _ _ _ all.is ended in
    search (rules, done, all.given.0)
