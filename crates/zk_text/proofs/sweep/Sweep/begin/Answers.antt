use Rattle.std.proofs.Common.{◌∙◌, ◌+◌, sym, ap, arith}
use Rattle.std.specs.Prelude.{is_none}
use Rattle.std.specs.List.{list_all}
use Rattle.zk_text.proofs.Faultless.{none_listed}
use Rattle.zk_text.proofs.Sweeping.{none_past}
use Rattle.zk_text.proofs.sweep.Sweep.begin.Goals as goal

pub returns : goal.returns
returns c = λ a past. record {
  faults = c.in_ok-faults.ensures.exact;
  faultless = λ is. none_listed c.args.memory.now _ c.in_ok-faults.ensures.exact c.in_ok-faults.ensures.size
      (sym (ap (list_all is_none) c.as_slice.ensures.value) ∙ sym c.are_faultless-faultless.ensures ∙ is);
  here = none_past c.args.memory.now a past;
  behind = none_past c.args.memory.now (a + 1) (omega (arith, past));
}
