use Rattle.std.proofs.Common.{◌∙◌, refl, sym}
use Rattle.zk_step.specs.Streams.{newest_of}
use Rattle.zk_step.proofs.HalfDues.{ok_weaker, shows_all, shows_then, text_whole}
use Rattle.zk_step.proofs.HalfEnds.{long_of, long_routed}
use Rattle.zk_step.proofs.Showing.{stopped_there}
use Rattle.zk_step.proofs.instruction.start_part.Goals as goal

pub go_on-requires-clause-taken : goal.go_on-requires-clause-taken
go_on-requires-clause-taken g c =
    let long = c.in-Ok.ensures.long (long_of c.in-Ok.begun.effect.output c.in-Some.rest
    (sym c.of.ensures ∙ c.in-Some.is)) in
    record { found = c.args.game.now; bounded = c.requires.bounded; operands = long.0 }

pub returns-in-Ok-complete-clause-text : goal.returns-in-Ok-complete-clause-text
returns-in-Ok-complete-clause-text g c =
    shows_all g.S.Screen.shows c.args.screen.now c.complete.new.screen _
    (c.in-Ok-complete.ensures.text c.args.game.now c.in-Ok.ensures.ok c.in-Ok.ensures.ready)

pub returns-in-Ok-begin_half-clause-text : goal.returns-in-Ok-begin_half-clause-text
returns-in-Ok-begin_half-clause-text g c =
    let b = c.in-Ok.begun in
    let w = c.begin.new.game in
    let whole = sym c.of.ensures ∙ c.in-Some.is in
    let is_long = long_of b.effect.output c.in-Some.rest whole in
    let long = c.in-Ok.ensures.long is_long in
    let same = long_routed c.args.game.now w c.args.i.now b.values b.effect.output long.0 is_long in
    let way = c.in-Ok-begin_half.ensures.ok in
    let due = text_whole c.args.game.now c.args.i.now b.values w b.effect c.in-Some.rest c.begin_half.new.codes
    c.begin_half.new.draft c.in-Ok-begin_half.half (newest_of w.streams.tables) w.windows.selected
    refl refl c.in-Ok-begin_half.ensures.effect whole c.in-Ok.ensures.ok same way.2 in
    ok_weaker c.go_on.result _ _ _ (λ p h. shows_then g.S.Screen.shows c.args.screen.now c.go_on.new.screen
    c.args.i.now.operands c.args.game.now w b.values _ _ p long.0 (rw c.in-Ok-begin_half.ensures.rest due) h)
    c.go_on.ensures.text

pub returns-in-Err-begin_half-clause-value : goal.returns-in-Err-begin_half-clause-value
returns-in-Err-begin_half-clause-value g c =
    let b = c.in-Ok.begun in
    let is_long = long_of b.effect.output c.in-Some.rest (sym c.of.ensures ∙ c.in-Some.is) in
    let long = c.in-Ok.ensures.long is_long in
    let same = long_routed c.args.game.now c.begin.new.game c.args.i.now b.values b.effect.output long.0 is_long in
    stopped_there c.args.game.now c.args.i.now b.values c.begin.new.game b.effect c.in-Err-begin_half.refusal
    c.in-Ok.ensures.ok (rw same c.in-Err-begin_half.ensures.err)
