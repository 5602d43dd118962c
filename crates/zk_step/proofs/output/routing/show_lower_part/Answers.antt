use Rattle.std.proofs.Common.{◌∙◌, refl}
use Rattle.zk_text.specs.Extra.{own_characters}
use Rattle.zk_step.specs.Halves.{rest_on, rest_units}
use Rattle.zk_step.proofs.HalfScreens.{line_on, shows_some}
use Rattle.zk_step.proofs.output.routing.show_lower_part.Goals as goal

pub returns-then-not-more-clause-text : goal.returns-then-not-more-clause-text
returns-then-not-more-clause-text g c =
    rw c.selected-on.ensures at
    (shows_some g.S.Screen.shows (own_characters c.args.game.now.memory) _ c.args.screen.now
    c.show_part-more.new.screen c.args.half.now.at_line_start c.show_part-more.new.at_line_start
    (rest_units c.args.game.now.memory c.args.half.now.rest)
    (rest_on c.args.game.now.memory c.show_part-more.result c.show_part-more.new.rest)
    c.show_part-more.ensures.text)

pub returns-else-not-more-clause-on : goal.returns-else-not-more-clause-on
returns-else-not-more-clause-on g c = λ more.
    let text = rw more at c.show_part-more.ensures.text in
    let line = rw c.selected-on.ensures at (line_on g.S.Screen.shows (own_characters c.args.game.now.memory) _
    c.args.screen.now c.show_part-more.new.screen c.args.half.now.at_line_start
    c.show_part-more.new.at_line_start (rest_units c.args.game.now.memory c.args.half.now.rest)
    (rest_units c.args.game.now.memory c.show_part-more.new.rest) text) in
    (refl, c.show_part-more.ensures.stands more, line ∙ c.requires.way)

pub returns-else-not-more-clause-text : goal.returns-else-not-more-clause-text
returns-else-not-more-clause-text g c =
    rw c.selected-on.ensures at
    (shows_some g.S.Screen.shows (own_characters c.args.game.now.memory) _ c.args.screen.now
    c.show_part-more.new.screen c.args.half.now.at_line_start c.show_part-more.new.at_line_start
    (rest_units c.args.game.now.memory c.args.half.now.rest)
    (rest_on c.args.game.now.memory c.show_part-more.result c.show_part-more.new.rest)
    c.show_part-more.ensures.text)
