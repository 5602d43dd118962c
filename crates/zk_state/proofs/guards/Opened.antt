use Rattle.std.specs.Prelude.{⊤}
use Rattle.zk_state.specs.Frames.{bounds_of, sizes_of, within_bounds, pushed, popped, top_of, with_top, local_of}
use Rattle.zk_state.specs.Frames.{with_local, called, left, unwound, taken, given_back}

-- the definitions that are opened in examples
unfoldable pub examples : ⊤
unfolding bounds_of sizes_of within_bounds pushed popped top_of with_top local_of with_local called left unwound
    taken given_back
examples = tt
