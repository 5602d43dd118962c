use Rattle.std.proofs.Common.{◌≡◌, ◌∙◌, ◌<◌, sym, ap, refl, cond, get_or, length, Some, None, List, [], ◌∷◌, ℕ}
use Rattle.std.proofs.Common.{arith}
use Rattle.std.proofs.lemmas.Iterator.Consumers.{YieldsList-turn, YieldsList-end}
use Rattle.std.proofs.lemmas.Iterator.Splits.{YieldsList-from_lines}
use Rattle.zk_notes.specs.Union.{is_of_story, story_of}
use Rattle.zk_notes.proofs.cover.story_of.Goals as goal
use Rattle.zk_notes.proofs.cover.story_of.Goals.{in_default-via-in-Some+else-is_of_story, in_default-via-in_default}

first_is : (ls : List (List ℕ)) (l : List ℕ) → 0 < length ls → l ≡ get_or ls 0 l
    → story_of ls ≡ cond (is_of_story l) (Some l) None
first_is [] l lt e = absurd (omega (arith, lt))
first_is (x ∷ xs) l lt e = rw e refl

none_is : (ls : List (List ℕ)) → length ls ≡ 0 → story_of ls ≡ None
none_is [] e = refl
none_is (x ∷ xs) e = absurd (omega (arith, e))

pub returns-in-Some : goal.returns-in-Some
returns-in-Some c =
    let t = YieldsList-turn (YieldsList-from_lines c.args.text.now cc) [] _ refl _ _ c.in-Some.line c.in-Some.is
    c.next.ensures.steps in
    sym (first_is _ _ t.0 t.1 ∙ ap (λ b. cond b (Some c.in-Some.line.now) None)
    (sym c.is_of_story.ensures ∙ c.if-is_of_story.true))

pub returns-in_default : goal.returns-in_default
returns-in_default c = elim c.in_default.branch [
  | in_default-via-in-Some+else-is_of_story w ↦
      (let t = YieldsList-turn (YieldsList-from_lines c.args.text.now cc) [] _ refl _ _ w.in-Some.line w.in-Some.is
      c.next.ensures.steps in
      sym (first_is _ _ t.0 t.1 ∙ ap (λ b. cond b (Some w.in-Some.line.now) None)
      (sym w.is_of_story.ensures ∙ w.if-is_of_story.false)))
  | in_default-via-in_default w ↦
      (let t = YieldsList-end (YieldsList-from_lines c.args.text.now cc) [] _ refl _ _ w.in_default.is
      c.next.ensures.steps in
      sym (none_is _ (sym t.1)))
]
