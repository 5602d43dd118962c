use Rattle.std.proofs.Common.{◌/◌, ◌%◌, ◌∷◌}
use Rattle.zk_text.specs.declared.pieces.Pending.TheVariants as held
use Rattle.zk_text.specs.Words.{z_characters}
use Rattle.zk_text.proofs.Sweeping.{letters_by}
use Rattle.zk_text.proofs.checking.check_word.Goals as goal

pub returns-then-are_letters-clause-ok : goal.returns-then-are_letters-clause-ok
unfolding z_characters
returns-then-are_letters-clause-ok g c = λ ws.
    letters_by (g.A.Abbreviations.stands c.args.memory.now) c.args.memory.now c.args.held held.Nothing
    (c.args.word / 1024 % 32) (c.args.word / 32 % 32) (c.args.word % 32) (z_characters (c.args.word ∷ ws))
    (z_characters ws) (c.are_letters.ensures c.if-are_letters.true (z_characters ws))
