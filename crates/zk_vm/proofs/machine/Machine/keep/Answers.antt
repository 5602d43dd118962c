use Rattle.std.proofs.Common.{◌≡◌, ◌∙◌, ap, refl, sym}
use Rattle.zk_state.specs.declared.refusal.Refusal.TheVariants.{Fault}
use Rattle.zk_step.specs.declared.state.ending.Next.TheVariants.{Asks}
use Rattle.zk_step.specs.declared.state.ending.Request.TheVariants.{SaveUndo}
use Rattle.zk_step.specs.Instructions.{carried_out}
use Rattle.zk_step.specs.Limited.{limited_move, text_in}
use Rattle.zk_step.specs.Routing.{Signals, no_signals}
use Rattle.zk_vm.specs.Sessions.{Session}
use Rattle.zk_vm.proofs.Advancing.{carried_fixed, is_keeping, kept_settled, keeps_asks, keeps_refused, sound_back}
use Rattle.zk_vm.proofs.Advancing.{sound_moved, stands_back, stepped_err}
use Rattle.zk_vm.proofs.machine.Machine.keep.Goals as goal

pub invariant_of-self : goal.invariant_of-self
invariant_of-self c =
    let runs = rw (← c.self.view_is) at c.requires.runs in
    let free = rw (← c.self.view_is) at c.requires.free in
    let told = keeps_asks c.self.inside.game c.read_operands.new.game c.args.i.now c.in-Ok.values c.requires.keeps
    c.in-Ok.ensures.value in
    sound_moved c.self.inside _ c.args.i.now (Asks SaveUndo) no_signals c.self.invariant runs refl free
    c.self.invariant.steps refl refl refl told c.in-Ok.ensures.bounds

pub returns-in-Err-clause-step : goal.returns-in-Err-clause-step
returns-in-Err-clause-step c =
    let free = rw (← c.self.view_is) at c.requires.free in
    let fetched = rw (← c.self.view_is) at c.requires.fetched in
    let refused = keeps_refused c.self.inside.game c.args.i.now c.in-Err.fault c.in-Err.ensures.value in
    let shows : Unit {0} → Unit {0} → Signals → Type 0 = λ a b text. text ≡ no_signals in
    let silent : text_in (limited_move (carried_out c.self.inside.game c.args.i.now))
    ≡ no_signals = ap text_in refused in
    rw (← c.self.view_is) (stepped_err shows tt tt c.self.inside _ c.args.i.now (Fault c.in-Err.fault) _ fetched
    refused c.halt.ensures.value free silent)

pub give_back-requires : goal.give_back-requires
give_back-requires c =
    let there : c.self-2.inside.game ≡ c.read_operands.new.game = ap (λ (s : Session). s.state.game)
    (c.self-2.view_is ∙ c.in-Err-save_undo.ensures.short.0) in
    record { found = c.self.inside.game; bounded = c.is_bounded.ensures; operands = rw there c.in-Ok.ensures.value }

pub invariant_of-self-in-Err-save_undo : goal.invariant_of-self-in-Err-save_undo
invariant_of-self-in-Err-save_undo c =
    let runs = rw (← c.self.view_is) at c.requires.runs in
    let free = rw (← c.self.view_is) at c.requires.free in
    let same = c.self-2.view_is ∙ c.in-Err-save_undo.ensures.short.0 in
    let there : c.self-2.inside.game ≡ c.read_operands.new.game = ap (λ (s : Session). s.state.game) same in
    let back : c.give_back.new.game ≡ c.self.inside.game = c.give_back.ensures.value c.self.inside.game
    c.is_bounded.ensures (rw there c.in-Ok.ensures.value) in
    let fixed = carried_fixed c.self.inside.game c.args.i.now c.read_operands.new.game (Asks SaveUndo) no_signals
    (keeps_asks c.self.inside.game c.read_operands.new.game c.args.i.now c.in-Ok.values c.requires.keeps
    c.in-Ok.ensures.value) in
    sound_back c.self-2.inside c.give_back.new.game c.self-2.invariant
    (ap (λ (s : Session). s.stopped) same ∙ runs) (ap (λ (s : Session). s.waiting) same ∙ free)
    (rw (back, there) (sym fixed)) c.give_back.ensures.bounds

pub returns-in-Ok-save_undo-clause-step : goal.returns-in-Ok-save_undo-clause-step
returns-in-Ok-save_undo-clause-step c =
    let fetched = rw (← c.self.view_is) at c.requires.fetched in
    rw (← c.self.view_is) (kept_settled c.self.inside c.save_undo.new.self c.args.i.now c.read_operands.new.game
    c.in-Ok.values c.in-Ok-save_undo.went (λ t. t ≡ no_signals) fetched c.requires.keeps c.in-Ok.ensures.value
    c.in-Ok-save_undo.ensures.step refl)

pub returns-in-Err-save_undo-clause-short : goal.returns-in-Err-save_undo-clause-short
returns-in-Err-save_undo-clause-short c =
    let fetched = rw (← c.self.view_is) at c.requires.fetched in
    let same = c.self-2.view_is ∙ c.in-Err-save_undo.ensures.short.0 in
    let there : c.self-2.inside.game ≡ c.read_operands.new.game = ap (λ (s : Session). s.state.game) same in
    let back : c.give_back.new.game ≡ c.self.inside.game = c.give_back.ensures.value c.self.inside.game
    c.is_bounded.ensures (rw there c.in-Ok.ensures.value) in
    let fixed = carried_fixed c.self.inside.game c.args.i.now c.read_operands.new.game (Asks SaveUndo) no_signals
    (keeps_asks c.self.inside.game c.read_operands.new.game c.args.i.now c.in-Ok.values c.requires.keeps
    c.in-Ok.ensures.value) in
    let keeping = is_keeping c.self.inside c.args.i.now c.read_operands.new.game c.in-Ok.values fetched
    c.requires.keeps c.in-Ok.ensures.value c.in-Err-save_undo.ensures.short.1 in
    rw (← c.self.view_is, back) (stands_back c.self.inside c.self-2.inside c.read_operands.new.game fixed same, keeping)
