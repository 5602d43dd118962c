use Rattle.std.proofs.Common.{◌≡◌, ◌++◌, refl, arith}
use Rattle.zk_text.specs.Shown.{characters_shown}
use Rattle.zk_text.specs.Extra.{own_characters}
use Rattle.zk_text.proofs.ShownLemmas.{shown_all-nil}
use Rattle.zk_vm.proofs.Transcripts.{none_shown, one_shown, two_shown, codes_next}
use Rattle.zk_vm.proofs.transcript.characters_of.Goals as goal
use Rattle.zk_vm.proofs.transcript.characters_of.Goals.{in-Nothing, in-One, in-TwoSpaces}

pub loop-i-init : goal.loop-i-init
loop-i-init c = rw (c.new-characters.ensures, shown_all-nil (own_characters c.args.memory.now))
    (record { value = refl; few = omega arith })

pub loop-i-preserved : goal.loop-i-preserved
loop-i-preserved c =
    let grown : c.match-of.characters.items ≡ c.loop-i.characters.items ++ characters_shown
    c.of.result = elim c.match-of.branch [
      | in-Nothing w ↦ rw w.characters-is (none_shown _ _ _ w.in-Nothing.is refl)
      | in-One w ↦ rw w.characters-is (one_shown _ _ _ _ w.in-One.is w.push.ensures.items)
      | in-TwoSpaces w ↦ rw w.characters-is (two_shown _ _ _ _ w.in-TwoSpaces.is w.push-in-TwoSpaces.ensures.items
          w.push-in-TwoSpaces-2.ensures.items)
    ] in
    let shows = rw c.of-extra.ensures at c.of.ensures in
    let next = codes_next (own_characters c.args.memory.now) c.args.codes.now c.loop-i.i _ _ c.of.result
    c.loop-i-test.true c.loop-i.invariant.value c.loop-i.invariant.few shows grown in
    record { value = next.0; few = next.1 }
