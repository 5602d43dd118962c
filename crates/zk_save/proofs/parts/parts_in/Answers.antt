use Rattle.std.proofs.Common.{ap, arith}
use Rattle.std.specs.Prelude.{option_map, option_copied}
use Rattle.zk_save.specs.Counted.{found_seen, chunk_cut}
use Rattle.zk_save.proofs.Chunks.{none_of_some, parts_no_story, parts_short, parts_no_memory, parts_no_stack, parts_all}
use Rattle.zk_save.proofs.parts.parts_in.Goals as goal

pub returns-in_default-story-clause-value : goal.returns-in_default-story-clause-value
returns-in_default-story-clause-value c =
    parts_no_story c.args.form.now (found_seen c.in-Some.found) c.in-Some.ensures
    (ap option_copied (none_of_some c.in-Some.found.story c.in_default-story.not-Some))

pub returns-then-story-lt13-clause-value : goal.returns-then-story-lt13-clause-value
returns-then-story-lt13-clause-value c =
    parts_short c.args.form.now (found_seen c.in-Some.found) c.in-Some-story.story.now c.in-Some.ensures
    (ap option_copied c.in-Some-story.is) c.if-story-lt13.true

pub returns-in_default-memory-clause-value : goal.returns-in_default-memory-clause-value
returns-in_default-memory-clause-value c =
    parts_no_memory c.args.form.now (found_seen c.in-Some.found) c.in-Some-story.story.now c.in-Some.ensures
    (ap option_copied c.in-Some-story.is) (omega (arith, c.if-story-lt13.false))
    (ap (option_map chunk_cut) (none_of_some c.in-Some.found.memory c.in_default-memory.not-Some))

pub returns-in_default-stack-clause-value : goal.returns-in_default-stack-clause-value
returns-in_default-stack-clause-value c =
    parts_no_stack c.args.form.now (found_seen c.in-Some.found) c.in-Some-story.story.now
    (chunk_cut c.in-Some-memory.memory) c.in-Some.ensures (ap option_copied c.in-Some-story.is)
    (omega (arith, c.if-story-lt13.false))
    (ap (option_map chunk_cut) c.in-Some-memory.is)
    (ap option_copied (none_of_some c.in-Some.found.stack c.in_default-stack.not-Some))

pub returns-clause-value : goal.returns-clause-value
returns-clause-value c =
    parts_all c.args.form.now (found_seen c.in-Some.found) c.in-Some-story.story.now
    (chunk_cut c.in-Some-memory.memory) c.in-Some-stack.stack.now c.in-Some.ensures
    (ap option_copied c.in-Some-story.is) (omega (arith, c.if-story-lt13.false))
    (ap (option_map chunk_cut) c.in-Some-memory.is) (ap option_copied c.in-Some-stack.is)
