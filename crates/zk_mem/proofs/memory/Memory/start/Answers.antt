use Rattle.std.proofs.Common.{◌≡◌, ◌<◌, ℕ, ◌∙◌, ap, min, arith, rules}
use Rattle.zk_mem.specs.Header.{header_of}
use Rattle.zk_mem.specs.Fresh.{with_fields}
use Rattle.zk_mem.proofs.Bounds.{none_bounds}
use Rattle.zk_mem.proofs.Starts.{whole_start}
use Rattle.zk_mem.proofs.memory.Memory.start.Goals as goal

pub invariant_of-result : goal.invariant_of-result
invariant_of-result c =
    let file = c.story.inside.bytes.items.value.items in
    let header : c.header_at_front-header.result ≡ header_of file = search rules in
    let bytes : c.set_fields.new.bytes.items ≡ with_fields c.header_at_front-header.result.version
    c.args.setup file = search rules in
    let word : c.header_at_front-header.result.static_base < 65536 = omega arith in
    whole_start file c.set_fields.new.bytes.items c.header_at_front-header.result
    c.header_at_front-header.result.version c.args.setup c.min-readable.result
    (none_bounds file c.story.invariant) header word bytes
    (c.min-readable.ensures ∙ ap (λ (n : ℕ). min n 65536) (c.len.ensures ∙ c.set_fields.new.bytes.ok.0))
