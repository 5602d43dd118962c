use Rattle.std.proofs.Common.{◌≡◌, map, take}
use Rattle.zk_notes.specs.ListedTexts.{texts_in}
use Rattle.zk_notes.proofs.listed_texts.texts_in.Given as goal

abbrev pub invariant-loop-fact : goal.invariant-loop-fact
invariant-loop-fact l = map (λ t. t.address) l.texts.items
    ≡ texts_in l.facts.memory.now (take l.fact-index l.facts.list.now)
