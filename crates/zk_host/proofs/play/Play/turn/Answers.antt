use Rattle.std.proofs.Common.{◌≡◌, ◌∙◌, None, sym}
use Rattle.zk_host.specs.Calls.{awaited}
use Rattle.zk_host.proofs.Running.{turned_short}
use Rattle.zk_host.proofs.play.Play.turn.Goals as goal

pub returns-then-not-make_room : goal.returns-then-not-make_room
returns-then-not-make_room c =
    let waits : awaited c.args.self.now ≡ None = rw c.machine.ensures.value at
    (sym c.waiting.ensures ∙ c.in_default.is) in
    let roomy = sym c.has_no_room.ensures ∙ c.if-has_no_room.false in
    let told = sym c.make_room.ensures.told ∙ c.if-not-make_room.true in
    turned_short c.args.self.now c.args.steps c.args.room c.make_room.new.self waits c.in_default-stopped.is roomy
    c.make_room.ensures.value told
