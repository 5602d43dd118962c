use Rattle.std.proofs.Common.{take}
use Rattle.zk_step.specs.Routing.{on_script}
use Rattle.zk_vm.proofs.transcript.script_all.Given as goal

abbrev pub invariant-loop-c : goal.invariant-loop-c
invariant-loop-c g l = g.S.Screen.shows l.fn.screen l.screen (on_script (take l.c-index l.characters))
