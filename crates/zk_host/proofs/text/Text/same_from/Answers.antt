use Rattle.std.proofs.Common.{◌≡◌, ◌≢◌, ◌∙◌, ◌+◌, ◌<◌, ◌≤◌, ℕ, List, ap, arith, drop, get_or, length, rules, sym}
use Rattle.zk_host.specs.Marks.{so_marked}
use Rattle.zk_host.specs.Texts.{Unread}
use Rattle.zk_host.proofs.Marking.{same_end, same_off, same_on}
use Rattle.zk_host.proofs.text.Text.same_from.Goals as goal

pub loop-count-preserved : goal.loop-count-preserved
loop-count-preserved c =
    let bytes = c.args.self.now.bytes in
    let k = c.args.from + c.loop-count.count in
    let low : k < length bytes = search rules in
    let there : c.self.inside.bytes.items ≡ bytes = ap (λ (t : Unread). t.bytes) c.self.view_is in
    let is : c.in-Some.x.now ≡ get_or bytes k c.in-Some.x.now = c.in-Some.ensures.lookup
    ∙ ap (λ (l : List ℕ). get_or l k c.in-Some.x.now) there in
    let same : c.in-Some.x.now ≡ c.args.byte = search rules in
    let after : k + 1 ≡ c.args.from + (c.loop-count.count + 1) = omega arith in
    let next = same_on c.args.byte bytes k c.in-Some.x.now low (sym is ∙ same)
    ∙ ap (λ (n : ℕ). so_marked c.args.byte (drop n bytes) + 1) after in
    record { within = omega (arith, low); same = omega (arith, c.loop-count.invariant.same, next) }

pub returns-then-x-byte-clause-value : goal.returns-then-x-byte-clause-value
returns-then-x-byte-clause-value c =
    let bytes = c.args.self.now.bytes in
    let k = c.args.from + c.loop-count.count in
    let low : k < length bytes = search rules in
    let there : c.self.inside.bytes.items ≡ bytes = ap (λ (t : Unread). t.bytes) c.self.view_is in
    let is : c.in-Some.x.now ≡ get_or bytes k c.in-Some.x.now = c.in-Some.ensures.lookup
    ∙ ap (λ (l : List ℕ). get_or l k c.in-Some.x.now) there in
    let other : c.in-Some.x.now ≢ c.args.byte = search rules in
    let off = same_off c.args.byte bytes k c.in-Some.x.now low (λ (on : get_or bytes k c.in-Some.x.now
    ≡ c.args.byte). other (is ∙ on)) in
    omega (arith, c.loop-count.invariant.same, off)

pub returns : goal.returns
returns c =
    let k = c.args.from + c.loop-count.count in
    let past : length c.args.self.now.bytes ≤ k = search rules in
    let end = same_end c.args.byte c.args.self.now.bytes k past in
    omega (arith, c.loop-count.invariant.same, end)
