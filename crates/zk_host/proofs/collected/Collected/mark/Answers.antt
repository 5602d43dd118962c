use Rattle.std.proofs.Common.{◌≡◌, true, refl, rules}
use Rattle.std.specs.Prelude.{bit_or}
use Rattle.zk_host.specs.Marks.{marked}
use Rattle.zk_host.proofs.Marking.{first_marks}
use Rattle.zk_host.proofs.collected.Collected.mark.Goals as goal

pub returns-in-Ok-clause-marked : goal.returns-in-Ok-clause-marked
unfolding marked
returns-in-Ok-clause-marked c = λ works.
    let kept : c.args.self.now.styled ≡ true = search (rules, c.if-not-self.false) in
    let mark = c.style_mark-mark.result in
    let marks = first_marks c.len_utf8.result (bit_or mark c.args.self.now.before) mark
    c.len_utf8.ensures.lower_bound c.len_utf8.ensures.upper_bound in
    rw (kept, c.in-Ok.ensures.all, marks, c.style_mark-mark.ensures, c.len_utf8.ensures.value) refl
