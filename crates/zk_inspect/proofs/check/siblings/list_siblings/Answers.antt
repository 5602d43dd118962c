use Rattle.std.proofs.Common.{◌≡◌, ◌∙◌, [], ◌∷◌, subst, arith, rules}
use Rattle.zk_inspect.specs.Siblings.{HasSiblings}
use Rattle.zk_inspect.proofs.FarSiblings.{siblings_begin, siblings_end}
use Rattle.zk_inspect.proofs.check.siblings.list_siblings.Goals as goal

pub loop-before-init : goal.loop-before-init
loop-before-init c =
    subst (HasSiblings c.args.memory.now 0) (let e : 0 ∷ [] ≡ c.push.new.self.items = search rules in e)
    (siblings_begin c.args.memory.now)

pub returns : goal.returns
returns c =
    let a = c.loop-before-test.false in
    let b = c.loop-before.auto.before-end in
    siblings_end c.args.memory.now c.loop-before.before c.loop-before.list.items
    (let e : c.loop-before.before ≡ c.entry_count-before-end.result = omega arith in
    e ∙ c.entry_count-before-end.ensures) c.loop-before.invariant
