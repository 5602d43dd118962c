use Rattle.std.proofs.Common.{ap}
use Rattle.zk_vm.specs.Sessions.{Session, begun}
use Rattle.zk_program.proofs.boxes.play_with_boxes_and_report.Goals as goal

pub play_with_boxes-stop-requires-clause-free : goal.play_with_boxes-stop-requires-clause-free
unfolding begun
play_with_boxes-stop-requires-clause-free g c = ap (λ (s : Session). s.waiting) c.in-Ok.ensures.3
