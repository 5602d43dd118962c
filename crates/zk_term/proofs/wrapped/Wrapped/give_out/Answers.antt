use Rattle.std.proofs.KnownBytes.{Appends-kept}
use Rattle.zk_term.proofs.WrittenLines.{all_is_part, ended, ended_none, ended_part}
use Rattle.zk_term.proofs.wrapped.Wrapped.give_out.Goals as goal
use Rattle.zk_term.proofs.wrapped.Wrapped.give_out.Goals.{in-Some+in-Ok, in_default}

pub returns-in-Err-clause-written : goal.returns-in-Err-clause-written
returns-in-Err-clause-written g c shown start text h =
    ended_part shown _ _ start _ _ text c.in-Some.is h c.in-Err.ensures.part

pub returns-in-Ok-flush-clause-written : goal.returns-in-Ok-flush-clause-written
returns-in-Ok-flush-clause-written g c shown start text h =
    elim c.match-self.branch [
      | in-Some+in-Ok w ↦ Appends-kept _ _ _ _
          (rw w.self-is (ended shown _ _ start _ _ text w.in-Some.is h w.in-Ok.ensures.all)) c.flush-2.ensures.bytes
      | in_default w ↦ Appends-kept _ _ _ _ (rw w.self-is (ended_none shown _ start _ text w.in_default.is h))
          c.flush-2.ensures.bytes
    ]

pub returns-in-Err-flush-clause-written : goal.returns-in-Err-flush-clause-written
returns-in-Err-flush-clause-written g c shown start text h =
    elim c.match-self.branch [
      | in-Some+in-Ok w ↦ all_is_part start _ _
          (Appends-kept _ _ _ _ (rw w.self-is (ended shown _ _ start _ _ text w.in-Some.is h w.in-Ok.ensures.all))
          c.flush-2.ensures.bytes)
      | in_default w ↦ all_is_part start _ _
          (Appends-kept _ _ _ _ (rw w.self-is (ended_none shown _ start _ text w.in_default.is h))
          c.flush-2.ensures.bytes)
    ]
