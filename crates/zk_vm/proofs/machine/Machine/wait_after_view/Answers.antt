use Rattle.zk_vm.proofs.Advancing.{sound_viewed, view_settles}
use Rattle.zk_vm.proofs.machine.Machine.wait_after_view.Goals as goal

pub invariant_of-self-2 : goal.invariant_of-self-2
invariant_of-self-2 g c =
    let runs = rw (← c.self.view_is) at c.requires.runs in
    let silent = rw (← c.self.view_is) at c.requires.silent in
    let room = rw (← c.self.view_is) at c.requires.room in
    let inside = rw (← c.self.view_is) at c.requires.inside in
    let there = rw (← c.self.view_is) at c.requires.fetched in
    sound_viewed c.self.inside c.show_view.new.game _
    (record { wait = c.args.event; instruction = c.args.instruction }) c.self.invariant runs silent room
    c.show_view.ensures.state c.show_view.ensures.bounds c.requires.near inside c.if-self-ge-MOST_READS.false there

pub returns-clause-step : goal.returns-clause-step
returns-clause-step g c =
    rw (← c.self.view_is) (view_settles c.self.inside c.show_view.new.game _ c.args.event c.args.instruction
    c.requires.read c.show_view.ensures.state c.if-self-ge-MOST_READS.false)
