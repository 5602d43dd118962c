use Rattle.std.proofs.Common.{sym}
use Rattle.zk_text.proofs.WordWalks.{abbreviation_less, abbreviation_passed, abbreviation_refused, inside_ok}
use Rattle.zk_text.proofs.WordWalks.{none_named, word_is_there}
use Rattle.zk_text.proofs.printing.walk_abbreviation_word.Goals as goal

pub unreachable-requires : goal.unreachable-requires
unreachable-requires g c = word_is_there c.args.memory.now _ _ _ _ (sym c.in_default.ensures.value)
    (inside_ok c.args.memory.now c.args.place.now c.args.after c.requires.inside c.requires.means)

pub unreachable-requires-in-Ok-UpTo : goal.unreachable-requires-in-Ok-UpTo
unreachable-requires-in-Ok-UpTo g c =
    none_named g.S.Sink.gave _ _ c.args.memory.now c.args.place.now c.args.after c.in-Some.word _ _
    c.requires.inside (sym c.in-Some.ensures.value) c.requires.means
    (rw c.in-Ok-UpTo.field-0-is at c.in-Ok-UpTo.ensures.ok)

pub returns-in-Ok-Through-clause-ok : goal.returns-in-Ok-Through-clause-ok
returns-in-Ok-Through-clause-ok g c =
    abbreviation_passed g.S.Sink.gave _ _ c.args.memory.now c.args.place.now _ c.args.after c.in-Some.word
    c.in-Ok-Through.held _ c.requires.inside (sym c.in-Some.ensures.value) c.requires.means
    (rw c.in-Ok-Through.field-0-is at c.in-Ok-Through.ensures.ok) c.pass.ensures

pub returns-in-Ok-Through-clause-less : goal.returns-in-Ok-Through-clause-less
returns-in-Ok-Through-clause-less g c = λ on.
    abbreviation_less c.args.memory.now c.args.place.now _ c.args.after c.in-Some.word c.in-Ok-Through.held _
    c.requires.inside (sym c.in-Some.ensures.value) c.requires.means c.pass.ensures

pub returns-in-Err-clause-err : goal.returns-in-Err-clause-err
returns-in-Err-clause-err g c =
    abbreviation_refused g.S.Sink.refused _ _ c.args.memory.now c.args.place.now c.args.after c.in-Some.word
    c.requires.inside (sym c.in-Some.ensures.value) c.requires.means c.in-Err.ensures.err
