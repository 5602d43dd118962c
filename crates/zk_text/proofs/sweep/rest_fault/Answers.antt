use Rattle.zk_text.proofs.Sweeping.{rest_fault, rest_gone}
use Rattle.zk_text.proofs.sweep.rest_fault.Goals as goal

pub returns-in-Some : goal.returns-in-Some
returns-in-Some c = λ expand m a h. rest_fault expand m a _ c.in-Some.rest c.in-Some.is h

pub returns-in-None : goal.returns-in-None
returns-in-None c = λ expand m a h. rest_gone expand m a _ c.in-None.is h
