use Rattle.std.proofs.lemmas.List.{take_all}
use Rattle.std.proofs.Common.{arith, length, take, ◌≡◌, rules}
use Rattle.zk_term.specs.LineWriters.{sheet}
use Rattle.zk_term.proofs.WrittenLines.{written_on, written_part}
use Rattle.zk_term.proofs.open_line.Line.write_to.Goals as goal

pub returns-in-Ok-clause-width : goal.returns-in-Ok-clause-width
returns-in-Ok-clause-width g c = c.take_all.ensures.width

pub returns-in-Ok-clause-written : goal.returns-in-Ok-clause-written
returns-in-Ok-clause-written g c shown start text h =
    let ended = c.in-Ok.ensures.ended (sheet g.T.Target.taken g.T.Target.failed c.new-writer.result.target.now
    c.new-writer.result.waiting.items c.new-writer.result.failed) _ c.new-writer.ensures.waiting
    c.new-writer.ensures.failed c.take_all.ensures.taken.given.1 in
    let before : g.T.Target.taken c.args.target.now ≡ g.T.Target.taken c.new-writer.result.target.now = search rules in
    let all : take (length c.args.bytes.now) c.args.bytes.now ≡ c.args.bytes.now = take_all
    (length c.args.bytes.now) c.args.bytes.now (omega arith) in
    let done = written_on shown _ _ start _ _ text _ _ c.take_all.ensures.taken.is ended.0 (rw before at h) in
    rw all (search (rules, done))

pub returns-in-Err-clause-width : goal.returns-in-Err-clause-width
returns-in-Err-clause-width g c = c.take_all.ensures.width

pub returns-in-Err-clause-written : goal.returns-in-Err-clause-written
returns-in-Err-clause-written g c shown start text h =
    let ended = c.in-Err.ensures.ended (sheet g.T.Target.taken g.T.Target.failed c.new-writer.result.target.now
    c.new-writer.result.waiting.items c.new-writer.result.failed) _ c.new-writer.ensures.waiting
    c.new-writer.ensures.failed c.take_all.ensures.taken.given.1 in
    let before : g.T.Target.taken c.args.target.now ≡ g.T.Target.taken c.new-writer.result.target.now = search rules in
    let done = written_part shown _ _ start _ _ text _ _ c.take_all.ensures.taken.is ended.0 (rw before at h) in
    search (rules, done)
