use Rattle.std.proofs.Common.{◌≡◌, ◌<◌, length, arith}
use Rattle.std.proofs.lemmas.Bool.Decides.{nat_tests}
use Rattle.std.proofs.lemmas.List.{take_rest}
use Rattle.zk_term.proofs.Cutting.{coded_on, coded_full}
use Rattle.zk_term.proofs.lines.codes_of.Goals as goal

pub loop-at-preserved : goal.loop-at-preserved
loop-at-preserved c =
    let room : length c.loop-at.codes.items < 255 = grind (arith, nat_tests) in
    let first = rw (take_rest c.args.bytes.now c.loop-at.at) at c.first_character-character.ensures.value in
    coded_on c.args.extra.now c.args.bytes.now c.loop-at.codes.items c.push.new.self.items c.loop-at.at
    c.code_of.result c.width-at.result c.first_character-character.result c.loop-at.invariant (omega arith) room
    first c.code_of.ensures.value c.code_of.ensures.input c.width-at.ensures.value c.push.ensures.items

pub returns-else-not-is_full-clause-value : goal.returns-else-not-is_full-clause-value
returns-else-not-is_full-clause-value c =
    let full : length c.loop-at.codes.items ≡ 255 = grind (arith, nat_tests) in
    coded_full c.args.extra.now c.args.bytes.now c.loop-at.codes.items c.loop-at.at c.loop-at.invariant full
