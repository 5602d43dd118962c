use Rattle.std.proofs.Common.{◌≡◌, ◌∙◌, [], List, Result, Ok, sym, rules}
use Rattle.zk_mem.specs.declared.fault.Fault.{Fault}
use Rattle.zk_text.specs.declared.unit.Unit.{Unit}
use Rattle.zk_text.specs.Shown.{shown, shown_all}
use Rattle.zk_step.specs.Status.{named, line_units}
use Rattle.zk_tables.proofs.Units.{was_ok}
use Rattle.zk_step.proofs.Viewing.{on_screen-append, streamed_alone}
use Rattle.zk_step.proofs.output.view.show_status_line.Goals as goal

pub unreachable-requires-in-Err : goal.unreachable-requires-in-Err
unreachable-requires-in-Err g c = c.in-Err.ensures.err []

same_units : (a b : List Unit) → ◌≡◌ {A = Result (List Unit) Fault} (Ok a) (Ok b) → a ≡ b
same_units a b h = cc

pub returns : goal.returns
unfolding shown shown_all
returns g c = λ units h.
    let line = c.in-Ok.line in
    let name = was_ok (named c.args.memory.now line.name) c.in-Ok.ensures.ok.named_is in
    let same = same_units units (line_units name.0 line.is_time line.first line.second)
    (sym h ∙ c.in-Ok.ensures.ok.units_are name.0 name.1) in
    let gave = c.give_status.ensures name.0 name.1 in
    let first = rw (c.of-extra.ensures, c.roman.ensures, streamed_alone) at gave.3.1 in
    let second = rw (gave.2, c.roman.ensures, streamed_alone) at c.in-Ok-put.ensures.ok.3.1 in
    let both = g.met.S.Screen.twice _ _ _ _ _ first second in
    rw (same, on_screen-append) (search (rules, both))
