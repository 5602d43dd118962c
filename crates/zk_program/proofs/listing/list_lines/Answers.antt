use Rattle.std.proofs.Common.{rules, ◌∙◌}
use Rattle.zk_inspect.specs.Lines.{lines_given}
use Rattle.zk_program.proofs.listing.list_lines.Goals as goal

pub returns-clause-written : goal.returns-clause-written
returns-clause-written g c = lines_given _ _ _ _ _ _ _ _ _ _ _ c.list.ensures.given
    (λ facts w. let written = rw (c.new-text.ensures.memory, c.new-text.ensures.notes ∙ c.has_notes.ensures) at
    w.3 in search (rules, w.2, written))
