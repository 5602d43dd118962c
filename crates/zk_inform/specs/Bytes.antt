-- Bytes in memory.
use Rattle.std.specs.Prelude.{◌≡◌, Bool, true, false, List}
use Rattle.zk_inspect.specs.Facts.{Collected}

-- once memory was short nothing is taken
pub collected_late : {A : Type 0} (short : Bool) (old s : List A) → short ≡ true → Collected short short old old s
collected_late {A} false old s h = absurd cc
collected_late {A} true old s h = h
