use Rattle.std.proofs.Common.{arith, ◌∙◌, sym}
use Rattle.zk_inspect.proofs.Plain.{by_word, plain_text, without_word}
use Rattle.zk_inspect.proofs.listing.abbreviation_lines.abbreviation_text.Goals as goal

pub returns-in-Err-clause-fault : goal.returns-in-Err-clause-fault
returns-in-Err-clause-fault c = without_word c.args.memory.now c.args.number c.in-Err.field-0
    (search (arith, c.word.ensures, c.header.ensures, c.in-Err.is))

pub returns-in-Ok-check_abbreviation-clause-text : goal.returns-in-Ok-check_abbreviation-clause-text
returns-in-Ok-check_abbreviation-clause-text c =
    plain_text c.args.memory.now _ c.in-Ok-check_abbreviation.ensures.meaning
    ∙ sym (by_word c.args.memory.now c.args.number c.in-Ok.word
    (search (arith, c.word.ensures, c.header.ensures, c.in-Ok.is)))

pub returns-in-Ok-check_abbreviation-clause-meaning : goal.returns-in-Ok-check_abbreviation-clause-meaning
returns-in-Ok-check_abbreviation-clause-meaning c =
    rw (plain_text c.args.memory.now _ c.in-Ok-check_abbreviation.ensures.meaning)
    c.in-Ok-check_abbreviation.ensures.meaning

pub returns-in-Err-check_abbreviation-clause-fault : goal.returns-in-Err-check_abbreviation-clause-fault
returns-in-Err-check_abbreviation-clause-fault c =
    by_word c.args.memory.now c.args.number c.in-Ok.word
    (search (arith, c.word.ensures, c.header.ensures, c.in-Ok.is)) ∙ c.in-Err-check_abbreviation.ensures.meaning
