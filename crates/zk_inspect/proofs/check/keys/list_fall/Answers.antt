use Rattle.std.proofs.Common.{◌≡◌, ◌∙◌, ◌+◌, [], ◌∷◌, refl}
use Rattle.zk_tables.specs.Dictionaries.{entry_start}
use Rattle.zk_inspect.proofs.Falling.{first_fall, no_fall, unsorted}
use Rattle.zk_inspect.proofs.check.keys.list_fall.Goals as goal

pub returns-then-not-dictionary : goal.returns-then-not-dictionary
returns-then-not-dictionary c =
    unsorted c.args.memory.now c.args.dictionary _ c.requires.stands c.if-not-dictionary.true c.new-list.ensures

pub returns-in_ok-push-in-Some : goal.returns-in_ok-push-in-Some
returns-in_ok-push-in-Some c =
    let none = c.new-list.ensures in
    let at = c.start_of.ensures.value in
    let list : c.push.new.self ≡ entry_start c.args.dictionary (c.in-Some.index + 1)
    ∷ [] = c.in_ok-push-in-Some.ensures ∙ (rw (none, at) refl) in
    first_fall c.args.memory.now c.args.dictionary c.in-Some.index _ c.requires.named c.requires.stands
    c.if-not-dictionary.false c.in-Some.ensures.0 c.in-Some.ensures.1 list

pub returns-in-None : goal.returns-in-None
returns-in-None c = no_fall c.args.memory.now c.args.dictionary _ c.requires.stands c.in-None.ensures c.new-list.ensures
