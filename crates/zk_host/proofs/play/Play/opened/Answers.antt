use Rattle.std.proofs.Common.{sym, subst}
use Rattle.std.specs.Prelude.{IsTrue}
use Rattle.zk_vm.specs.declared.limits.Limits.{Limits}
use Rattle.zk_host.specs.Within.{AreWithin}
use Rattle.zk_host.proofs.play.Play.opened.Goals as goal

pub returns-then-not-are_within : goal.returns-then-not-are_within
returns-then-not-are_within c = (
  c.in-Ok-open_snapshot.machine,
  c.in-Ok-open_snapshot.ensures.ok,
  λ within.
      let told : IsTrue c.are_within.result = c.are_within.ensures.1
      (subst (λ (l : Limits). AreWithin l c.args.most) (sym c.limits.ensures) within) in
      let none = rw c.if-not-are_within.true at told in cc,
)
