use Rattle.std.proofs.Common.{sym}
use Rattle.std.specs.Prelude.{option_map}
use Rattle.zk_save.specs.Reading.{chunks_in}
use Rattle.zk_save.specs.Counted.{noted, none_noted, found_seen, chunk_cut}
use Rattle.zk_save.proofs.Chunks.{first_shorter, find_step}
use Rattle.zk_save.proofs.parts.find.Goals as goal

pub loop-rest-smaller : goal.loop-rest-smaller
loop-rest-smaller c =
    first_shorter c.loop-rest.rest.now (chunk_cut c.in-Some.chunk, c.in-Some.chunk.rest.now) (sym c.in-Some.ensures)

pub loop-rest-preserved : goal.loop-rest-preserved
loop-rest-preserved c =
    find_step (option_map (noted none_noted) (chunks_in c.args.form.now)) (found_seen c.loop-rest.found)
    (found_seen c.note-found.result) c.loop-rest.rest.now (chunk_cut c.in-Some.chunk, c.in-Some.chunk.rest.now)
    c.in-Some.ensures c.note-found.ensures c.loop-rest.invariant
