use Rattle.std.proofs.Common.{◌∙◌, ◌∷◌, ap}
use Rattle.zk_text.specs.Alphabets.{letter_of}
use Rattle.zk_text.specs.Meaning.{values}
use Rattle.zk_text.specs.Pieces.{pieces}
use Rattle.zk_text.specs.declared.pieces.Piece.{Piece}
use Rattle.zk_text.proofs.Giving.{gives_none, unit_given, unit_refused, values_first}
use Rattle.zk_text.proofs.printing.give_piece.Goals as goal

pub returns-in-Ok-put-clause-ok : goal.returns-in-Ok-put-clause-ok
returns-in-Ok-put-clause-ok g c = λ expand zs.
    unit_given g.S.Sink.gave _ _ _ c.args.memory.now expand c.args.piece (pieces zs) (c.in-Ok.ensures.code expand)
    c.in-Ok-put.ensures.ok

pub returns-in-Err-put-clause-err : goal.returns-in-Err-put-clause-err
returns-in-Err-put-clause-err g c = λ expand zs.
    unit_refused g.S.Sink.refused _ _ _ c.args.memory.now expand c.args.piece (pieces zs)
    (c.in-Ok.ensures.code expand) c.in-Err-put.ensures.err

pub returns-in-Err-clause-ok : goal.returns-in-Err-clause-ok
returns-in-Err-clause-ok g c = λ expand zs.
    gives_none g.S.Sink.gave c.args.sink.now _ _
    (ap (λ (p : Piece). values (letter_of c.args.memory.now) expand (p ∷ pieces zs)) c.in-Err.ensures.number
    ∙ values_first (letter_of c.args.memory.now) expand _ (pieces zs)) (g.met.S.Sink.nothing _)
