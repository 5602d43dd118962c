use Rattle.std.proofs.Common.{◌≡◌, ◌∙◌, List, ap, length, sym, rules}
use Rattle.zk_save.specs.States.{WholeState}
use Rattle.zk_host.proofs.Seeing.{as_many}
use Rattle.zk_host.proofs.looking.place_of.Goals as goal

pub returns : goal.returns
returns c =
    let states : c.len.result ≡ length c.args.machine.now.state.undo = c.len.ensures.value
    ∙ sym (as_many c.args.machine.now.state.game.memory.file c.undo.result.now)
    ∙ sym (ap (λ (ws : List WholeState). length ws) c.undo.ensures.states) in
    search (rules, states)
