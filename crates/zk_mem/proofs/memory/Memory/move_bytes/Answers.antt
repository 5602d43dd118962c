use Rattle.std.proofs.Common.{◌≡◌, ◌+◌, ◌-◌, ◌≤◌, ◌∙◌, ℕ, length, drop, ap, arith}
use Rattle.std.proofs.Math.Seq.{paste}
use Rattle.zk_mem.proofs.Moves.{whole_moved}
use Rattle.zk_mem.proofs.memory.Memory.move_bytes.Goals as goal

pub invariant_of-self : goal.invariant_of-self
invariant_of-self c =
    let s = c.self.inside in
    let bytes = s.bytes.items in
    let from = c.args.from in
    let to = c.args.to in
    let count = c.args.count in
    let readable : from + count ≤ length bytes = rw (← c.self.view_is) at c.requires.readable in
    let dynamic : to + count ≤ s.header.static_base = rw (← c.self.view_is) at c.requires.dynamic in
    let amount : from + count - from ≡ count = omega arith in
    let copied = c.copy_within.ensures.items ∙ ap (λ (n : ℕ). paste bytes to (drop from bytes) n) amount in
    let file = s.file.items.value.items in
    rw copied (whole_moved s.header s.readable bytes file from to count c.self.invariant readable dynamic)
