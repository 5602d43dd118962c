use Rattle.std.proofs.Common.{[], ◌∷◌, List, ℕ, subst}
use Rattle.zk_host.specs.Collecting.{CollectsTexts, texts_nothing, texts_twice}
use Rattle.zk_host.proofs.name.NameSink.collect.Goals as goal

pub returns-in-Nothing-clause-collected : goal.returns-in-Nothing-clause-collected
returns-in-Nothing-clause-collected c =
    let is = rw c.in-Nothing.is at c.of.ensures in
    subst (λ (cs : List ℕ). CollectsTexts c.args.self.now.name.now c.args.self.now.name.now cs []) is
    (texts_nothing c.args.self.now.name.now)

pub returns-in-TwoSpaces-clause-collected : goal.returns-in-TwoSpaces-clause-collected
returns-in-TwoSpaces-clause-collected c =
    let is = rw c.in-TwoSpaces.is at c.of.ensures in
    subst (λ (cs : List ℕ). CollectsTexts c.args.self.now.name.now c.text-in-TwoSpaces-2.new.self cs []) is
    (texts_twice _ _ _ (32 ∷ []) (32 ∷ []) [] [] c.text-in-TwoSpaces.ensures.texts c.text-in-TwoSpaces-2.ensures.texts)
