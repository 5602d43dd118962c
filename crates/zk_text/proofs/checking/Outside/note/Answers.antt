use Rattle.zk_text.proofs.Sweeping.{one_known}
use Rattle.zk_text.proofs.checking.Outside.note.Goals as goal

pub returns-then-number-lt-ABBREVIATIONS : goal.returns-then-number-lt-ABBREVIATIONS
returns-then-number-lt-ABBREVIATIONS c =
    one_known c.args.memory.now _ c.args.number c.args.fault c.requires.known c.requires.one
