use Rattle.std.proofs.Common.{arith, rules}
use Rattle.zk_save.proofs.Forms.{form_short, form_other, form_low, form_past, form_whole}
use Rattle.zk_save.proofs.parts.form.Goals as goal
use Rattle.zk_save.proofs.parts.form.Goals.{then-size-lt4-via-then-size-lt4}
use Rattle.zk_save.proofs.parts.form.Goals.{then-size-lt4-via-else-size-lt4+then-file-size}

pub returns-then-file-lt12 : goal.returns-then-file-lt12
returns-then-file-lt12 c = form_short c.args.file.now c.if-file-lt12.true

pub returns-then-not-says_saved_game : goal.returns-then-not-says_saved_game
returns-then-not-says_saved_game c = form_other c.args.file.now (omega (arith, c.if-file-lt12.false)) (search rules)

pub returns-then-size-lt4 : goal.returns-then-size-lt4
returns-then-size-lt4 c = elim c.then-size-lt4.branch [
  | then-size-lt4-via-then-size-lt4 w ↦ form_low c.args.file.now c.number-size.result
      (omega (arith, c.if-file-lt12.false)) (search rules) c.number-size.ensures.value w.if-size-lt4.true
  | then-size-lt4-via-else-size-lt4+then-file-size w ↦ form_past c.args.file.now c.number-size.result
      (omega (arith, c.if-file-lt12.false)) (search rules) c.number-size.ensures.value
      (omega (arith, w.if-size-lt4.false)) w.if-file-size.true
]

pub returns : goal.returns
returns c = form_whole c.args.file.now c.number-size.result (omega (arith, c.if-file-lt12.false)) (search rules)
    c.number-size.ensures.value (omega (arith, c.if-size-lt4.false)) (omega (arith, c.if-file-size.false))
