use Rattle.std.proofs.Common.{Some, None, refl}
use Rattle.zk_text.specs.declared.alphabet.Row.TheVariants.{A0}
use Rattle.zk_text.specs.declared.pieces.Pending.TheVariants as held
use Rattle.zk_text.specs.declared.pieces.Piece.TheVariants.{Letter}
use Rattle.zk_text.proofs.Sweeping.{pass_by}
use Rattle.zk_text.proofs.checking.check_character.Goals as goal

pub returns-in-None-clause-ok : goal.returns-in-None-clause-ok
returns-in-None-clause-ok g c = λ zs.
    pass_by (g.A.Abbreviations.stands c.args.memory.now) c.args.memory.now c.args.held c.advance-next.result.0
    c.args.character c.advance-next.result.1 _ zs (c.advance-next.ensures.pieces zs) c.in-None.ensures.value

pub returns-in-Some-clause-err : goal.returns-in-Some-clause-err
returns-in-Some-clause-err g c = λ zs.
    pass_by (g.A.Abbreviations.stands c.args.memory.now) c.args.memory.now c.args.held c.advance-next.result.0
    c.args.character c.advance-next.result.1 _ zs (c.advance-next.ensures.pieces zs) c.in-Some.ensures.value

pub returns-then-is_letter-clause-ok : goal.returns-then-is_letter-clause-ok
returns-then-is_letter-clause-ok g c = λ zs.
    pass_by (g.A.Abbreviations.stands c.args.memory.now) c.args.memory.now c.args.held held.Nothing
    c.args.character (Some (Letter A0 c.args.character)) None zs (c.is_letter.ensures c.if-is_letter.true zs) refl
