use Rattle.std.proofs.Common.{◌∙◌, ◌∷◌, ◌++◌, [], List, ℕ, ap, arith, sym, append_assoc, false, get_or}
use Rattle.zk_program.specs.Covers.{marked_line}
use Rattle.zk_program.proofs.Covers.{more_lines}
use Rattle.zk_program.proofs.cover.cover_text.Goals as goal

pub loop-at-preserved : goal.loop-at-preserved
loop-at-preserved c = λ small.
    let at = c.loop-at.at in
    let marks = c.args.marks.now in
    let head = c.args.story.now ++ 10 ∷ [] in
    let line = marked_line at (get_or marks at false) in
    c.in_ok-add_marked.ensures (omega (arith, small, c.loop-at-test.true))
    ∙ ap (λ (xs : List ℕ). xs ++ line) (c.loop-at.invariant small)
    ∙ append_assoc head _ (line)
    ∙ ap (λ (xs : List ℕ). head ++ xs) (sym (more_lines marks at false c.loop-at-test.true))
