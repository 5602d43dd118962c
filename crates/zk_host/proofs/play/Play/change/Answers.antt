use Rattle.std.proofs.Common.{refl, inr}
use Rattle.zk_host.specs.Changing.IsUnchangeable.{NoChange, Low, Refused}
use Rattle.zk_host.proofs.play.Play.change.Goals as goal

pub returns-in_default : goal.returns-in_default
returns-in_default c =
    let told = rw (c.if-not-has_snapshot.false, c.machine.ensures.value) at c.has_snapshot.ensures in
    (inr (refl, (told.0 refl, rw c.in_default.is NoChange)), refl)

pub returns-then-is_low : goal.returns-then-is_low
returns-then-is_low c =
    let told = rw (c.if-not-has_snapshot.false, c.machine.ensures.value) at c.has_snapshot.ensures in
    let low = rw (c.if-is_low.true, c.machine-2.ensures.value) at c.is_low.ensures.low in
    (inr (refl, (told.0 refl, rw c.in-Some.is (Low c.in-Some.change (low refl)))), refl)

pub returns-in-Err : goal.returns-in-Err
returns-in-Err c =
    let told = rw (c.if-not-has_snapshot.false, c.machine.ensures.value) at c.has_snapshot.ensures in (
      inr
          (refl, (told.0 refl, rw c.in-Some.is (Refused c.in-Some.change c.in-Err.field-0 c.in-Err.ensures.0))),
      rw c.in-Err.ensures.1 refl,
    )
