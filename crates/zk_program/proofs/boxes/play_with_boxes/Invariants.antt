use Rattle.std.proofs.Common.{◌≡◌, None, false}
use Rattle.zk_program.proofs.boxes.play_with_boxes.Given as goal

abbrev pub invariant-loop-k : goal.invariant-loop-k
invariant-loop-k g l = record {
  free : l.machine.waiting ≡ None;
  screen_works : g.S.Target.failed l.devices.screen.inner.screen ≡ false;
  script_works : g.T.Target.failed l.devices.script ≡ false;
}
