use Rattle.std.proofs.Common.{◌≤◌, length, arith}
use Rattle.zk_vm.proofs.Transcripts.{kept_short}
use Rattle.zk_vm.proofs.transcript.show_line.Goals as goal
use Rattle.zk_vm.proofs.transcript.show_line.Goals.{in-Ok, in-Err}

pub characters_of-characters-requires : goal.characters_of-characters-requires
characters_of-characters-requires c =
    let short : length c.match-kept_letters.kept.now ≤ length c.args.codes.now = elim c.match-kept_letters.branch [
      | in-Ok w ↦ rw w.kept-is (kept_short c.args.memory.now c.args.text c.args.codes.now _ w.in-Ok.ensures.value)
      | in-Err w ↦ rw w.kept-is (omega arith)
    ] in
    omega arith

pub push-requires : goal.push-requires
push-requires c =
    let short : length c.match-kept_letters.kept.now ≤ length c.args.codes.now = elim c.match-kept_letters.branch [
      | in-Ok w ↦ rw w.kept-is (kept_short c.args.memory.now c.args.text c.args.codes.now _ w.in-Ok.ensures.value)
      | in-Err w ↦ rw w.kept-is (omega arith)
    ] in
    (omega arith, omega arith)
