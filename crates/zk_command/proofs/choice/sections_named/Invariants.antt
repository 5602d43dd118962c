use Rattle.std.proofs.Common.{◌≡◌, filter, take}
use Rattle.clap.specs.Words.{first_of, found_of, rows_of}
use Rattle.zk_inspect.specs.Sections.{all_sections, section_name}
use Rattle.zk_command.specs.CommandLine.{flag_said}
use Rattle.zk_command.proofs.choice.sections_named.Given as goal

abbrev pub invariant-loop-section : goal.invariant-loop-section
invariant-loop-section l =
    l.sections.items ≡ filter (λ s. flag_said (first_of (section_name s) (rows_of (found_of l.fn.found))))
    (take l.section-index all_sections)
