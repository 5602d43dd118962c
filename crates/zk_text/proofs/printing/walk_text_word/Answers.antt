use Rattle.std.proofs.Common.{sym, arith}
use Rattle.zk_text.proofs.WordWalks.{enter_less, has_entered, named_ok, outside_ok, text_less, text_passed}
use Rattle.zk_text.proofs.WordWalks.{text_refused, text_up_to, word_is_there}
use Rattle.zk_text.proofs.printing.walk_text_word.Goals as goal

pub unreachable-requires : goal.unreachable-requires
unreachable-requires g c = word_is_there c.args.memory.now _ _ _ _ (sym c.in_default.ensures.value)
    (outside_ok c.args.memory.now c.args.place.now c.requires.outside c.requires.means)

pub enter-requires-clause-means : goal.enter-requires-clause-means
enter-requires-clause-means g c =
    named_ok g.S.Sink.gave _ _ _ _ _ (text_up_to g.S.Sink.gave _ _ c.args.memory.now c.args.place.now
    c.in-Some.word c.in-Ok-UpTo.taken c.in-Ok-UpTo.number c.requires.outside (sym c.in-Some.ensures.value)
    c.requires.means (rw c.in-Ok-UpTo.field-0-is at c.in-Ok-UpTo.ensures.ok)) c.requires.means

pub returns-in-Ok-Through-clause-ok : goal.returns-in-Ok-Through-clause-ok
returns-in-Ok-Through-clause-ok g c =
    text_passed g.S.Sink.gave _ _ c.args.memory.now c.args.place.now _ c.in-Some.word c.in-Ok-Through.held _
    c.requires.outside (sym c.in-Some.ensures.value) c.requires.means
    (rw c.in-Ok-Through.field-0-is at c.in-Ok-Through.ensures.ok) c.pass.ensures

pub returns-in-Ok-Through-clause-less : goal.returns-in-Ok-Through-clause-less
returns-in-Ok-Through-clause-less g c =
    text_less c.args.memory.now c.args.place.now _ c.in-Some.word c.in-Ok-Through.held _ c.requires.outside
    c.requires.stands (sym c.in-Some.ensures.value) c.requires.means c.pass.ensures

pub returns-in-Ok-UpTo-clause-ok : goal.returns-in-Ok-UpTo-clause-ok
returns-in-Ok-UpTo-clause-ok g c =
    has_entered g.S.Sink.gave _ _ c.args.memory.now c.args.place.now _ c.in-Ok-UpTo.taken c.in-Ok-UpTo.number
    c.enter.ensures (text_up_to g.S.Sink.gave _ _ c.args.memory.now c.args.place.now c.in-Some.word
    c.in-Ok-UpTo.taken c.in-Ok-UpTo.number c.requires.outside (sym c.in-Some.ensures.value) c.requires.means
    (rw c.in-Ok-UpTo.field-0-is at c.in-Ok-UpTo.ensures.ok))

pub returns-in-Ok-UpTo-clause-stands : goal.returns-in-Ok-UpTo-clause-stands
returns-in-Ok-UpTo-clause-stands g c = λ on. record {
  taken = omega (arith, c.enter.ensures.taken_is);
  after = rw c.enter.ensures.after_is (rw c.in-Ok-UpTo.field-0-is at c.in-Ok-UpTo.ensures.up_to).1;
}

pub returns-in-Ok-UpTo-clause-less : goal.returns-in-Ok-UpTo-clause-less
returns-in-Ok-UpTo-clause-less g c = λ on.
    enter_less c.args.memory.now c.args.place.now _ c.in-Some.word c.in-Ok-UpTo.taken c.in-Ok-UpTo.number
    c.requires.outside (sym c.in-Some.ensures.value) c.requires.means
    (rw c.in-Ok-UpTo.field-0-is at c.in-Ok-UpTo.ensures.up_to).0
    (rw c.in-Ok-UpTo.field-0-is at c.in-Ok-UpTo.ensures.up_to).1 c.enter.ensures

pub returns-in-Err-clause-err : goal.returns-in-Err-clause-err
returns-in-Err-clause-err g c =
    text_refused g.S.Sink.refused _ _ c.args.memory.now c.args.place.now c.in-Some.word c.requires.outside
    (sym c.in-Some.ensures.value) c.requires.means c.in-Err.ensures.err
