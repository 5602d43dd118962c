use Rattle.std.proofs.Common.{◌≡◌, ◌⊎◌, List, None, Some, false}
use Rattle.zk_term.specs.declared.lines.InputEnd.TheVariants.{End}
use Rattle.zk_term.specs.Devices.{HasJust}
use Rattle.zk_vm.specs.Plays.{slot_tells, taken_by}
use Rattle.zk_vm.specs.Log.{Entry, reads_in}
use Rattle.zk_vm.proofs.LogPlays.{PlayLog, SourceSoFar}
use Rattle.zk_vm.proofs.Playing.{turns_left}
use Rattle.zk_vm.proofs.play.play.Given as goal

abbrev pub invariant-loop-event : goal.invariant-loop-event
invariant-loop-event g l = record {
  free : l.machine.waiting ≡ None;
  screen_works : g.S.Target.failed l.screen ≡ false;
  script_works : g.T.Target.failed l.script ≡ false;
  reader_works : g.R.Source.failed l.reader ≡ false;
  over : (l.lines.over ≡ None) ⊎ ((l.lines.over ≡ Some End) × HasJust g.R.Source.ends l.reader);
  logged : (log : List Entry)
      × (PlayLog (slot_tells g.K.SaveSlot.held g.K.SaveSlot.keeps g.K.SaveSlot.puts g.K.SaveSlot.gets
      g.K.SaveSlot.hears) g.P.Places.noted g.met.P.Places.twice l.fn.machine l.machine l.fn.slot l.slot
      l.fn.places l.places (taken_by (g.S.Target.taken l.fn.screen) (g.T.Target.taken l.fn.script))
      (taken_by (g.S.Target.taken l.screen) (g.T.Target.taken l.script)) log
      × SourceSoFar g.R.Source.left g.R.Source.gives l.fn.reader l.reader l.lines.ahead l.lines.over (reads_in log));
  limits : l.machine.limits ≡ l.fn.machine.limits;
}

abbrev pub decreases-loop-event : goal.decreases-loop-event
decreases-loop-event g l = turns_left l.machine.stopped l.machine.state.reads
