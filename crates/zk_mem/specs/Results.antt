-- Steps that may fault, one after another.
use Rattle.std.specs.Prelude.{Result, Ok, Err}
use Rattle.zk_mem.specs.declared.fault.Fault.{Fault}

infixl 10 ◌>>=◌
-- the first fault decides
abbrev pub ◌>>=◌ : {A B : Type 0} → Result A Fault → (A → Result B Fault) → Result B Fault
(Ok x) >>= f = f x
(Err e) >>= f = Err e
