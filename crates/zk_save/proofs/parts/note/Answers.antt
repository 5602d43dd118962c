use Rattle.std.proofs.Common.{◌≡◌, ◌||◌, true, false, rules}
use Rattle.std.specs.Prelude.{codes}
use Rattle.std.specs.Str.{bytes_eq}
use Rattle.zk_save.specs.Counted.{found_seen}
use Rattle.zk_save.proofs.Chunks.{story_noted, memory_noted, stack_noted, other_noted, copied_or, cut_or}
use Rattle.zk_save.proofs.parts.note.Goals as goal

pub returns-then-eq : goal.returns-then-eq
returns-then-eq c = λ cs.
    let f = found_seen c.args.found in
    let is : bytes_eq c.args.chunk.name.now (codes "IFhd") ≡ true = search rules in
    rw (c.or.ensures, copied_or c.args.found.story c.args.chunk.content)
    (story_noted f.story f.memory f.stack c.args.chunk.name.now c.args.chunk.content.now cs is)

pub returns-then-is_memory : goal.returns-then-is_memory
returns-then-is_memory c = λ cs.
    let f = found_seen c.args.found in
    let is : (bytes_eq c.args.chunk.name.now (codes "CMem") || bytes_eq c.args.chunk.name.now (codes "UMem"))
    ≡ true = search rules in
    rw (c.or-then-is_memory.ensures, cut_or c.args.found.memory c.args.chunk)
    (memory_noted f.story f.memory f.stack c.args.chunk.name.now c.args.chunk.content.now cs is)

pub returns-then-eq-2 : goal.returns-then-eq-2
returns-then-eq-2 c = λ cs.
    let f = found_seen c.args.found in
    let is : bytes_eq c.args.chunk.name.now (codes "Stks") ≡ true = search rules in
    rw (c.or-then-eq-2.ensures, copied_or c.args.found.stack c.args.chunk.content)
    (stack_noted f.story f.memory f.stack c.args.chunk.name.now c.args.chunk.content.now cs is)

pub returns : goal.returns
returns c = λ cs.
    let name = c.args.chunk.name.now in
    let one : bytes_eq name (codes "IFhd") ≡ false = search rules in
    let two : (bytes_eq name (codes "CMem") || bytes_eq name (codes "UMem")) ≡ false = search rules in
    let three : bytes_eq name (codes "Stks") ≡ false = search rules in
    other_noted (found_seen c.args.found) name c.args.chunk.content.now cs one two three
