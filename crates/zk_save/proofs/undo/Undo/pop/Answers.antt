use Rattle.std.proofs.Common.{◌≡◌, ◌-◌, Some, None, List, [], take, length, refl, ap, sym, ◌∙◌}
use Rattle.std.specs.Prelude.{reverse}
use Rattle.circular_buffer.specs.Buffer.{buffer, last_item}
use Rattle.zk_save.specs.States.{KeptState}
use Rattle.zk_save.proofs.Rings.{ring_take, none_last}
use Rattle.zk_save.proofs.undo.Undo.pop.Goals as goal

pub returns-in-Some-pop_back : goal.returns-in-Some-pop_back
returns-in-Some-pop_back c =
    let last : last_item c.in-Some.ring.items ≡ Some c.in-Some-pop_back.kept = sym c.pop_back.ensures.value
    ∙ c.in-Some-pop_back.is in
    rw (
      ← c.self.view_is,
      c.in-Some.is,
      c.pop_back.ensures.items,
      ring_take c.in-Some.ring.items
          c.in-Some-pop_back.kept last,
    ) refl

pub returns-in-None-pop_back : goal.returns-in-None-pop_back
returns-in-None-pop_back c =
    let xs : List KeptState = c.in-Some.ring.items in
    let last : last_item xs ≡ None = sym c.pop_back.ensures.value ∙ c.in-None-pop_back.is in
    let none : xs ≡ [] = none_last xs last in
    let front : take (length xs - 1) xs ≡ xs = rw none refl in
    let same : c.pop_back.new.self ≡ c.in-Some.ring = c.pop_back.ensures.items
    ∙ ap (λ (l : List KeptState). buffer l c.in-Some.ring.capacity) front in (
      rw (← c.self.view_is, c.in-Some.is) (ap (λ (l : List KeptState). reverse l) none),
      rw same (rw c.in-Some.is at c.self.view_is),
    )
