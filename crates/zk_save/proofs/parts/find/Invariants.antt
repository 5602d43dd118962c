use Rattle.std.proofs.Common.{◌≡◌, length}
use Rattle.std.specs.Prelude.{option_map}
use Rattle.zk_save.specs.Reading.{chunks_in}
use Rattle.zk_save.specs.Counted.{noted, none_noted, found_seen}
use Rattle.zk_save.proofs.parts.find.Given as goal

-- what the rest adds to what was found makes the whole
abbrev pub invariant-loop-rest : goal.invariant-loop-rest
invariant-loop-rest l =
    option_map (noted (found_seen l.found)) (chunks_in l.rest) ≡ option_map (noted none_noted) (chunks_in l.form)

abbrev pub decreases-loop-rest : goal.decreases-loop-rest
decreases-loop-rest l = length l.rest
