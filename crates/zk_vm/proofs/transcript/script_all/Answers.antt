use Rattle.zk_vm.proofs.Transcripts.{next_shown}
use Rattle.zk_vm.proofs.transcript.script_all.Goals as goal

pub loop-c-preserved : goal.loop-c-preserved
loop-c-preserved g c = next_shown g.S.Screen.shows g.met.S.Screen.twice _ _ _ c.args.characters.now
    c.loop-c.c-index c.c-item.result c.loop-c-test.true c.c-item.is c.loop-c.invariant c.script.ensures
