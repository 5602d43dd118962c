use Rattle.std.proofs.Common.{[], arith, refl}
use Rattle.std.proofs.lemmas.List.Elements.{All-nil}
use Rattle.zk_state.specs.Flat.{IsRecord}
use Rattle.zk_state.proofs.Calls.{first_chain, first_view}
use Rattle.zk_state.proofs.Oldest.{first_alone}
use Rattle.zk_state.proofs.frames.Frames.restart.Goals as goal

pub invariant_of-self : goal.invariant_of-self
invariant_of-self c =
    let i = c.self.invariant in
    rw c.put.ensures (record {
      base = omega arith;
      stack_base = omega arith;
      below = first_chain [] refl;
      top = omega arith;
      size = i.size;
      frames = omega (arith, i.frames);
      frame_room = i.frame_room;
      current = record { short = omega arith; supplied = omega arith; pc = omega arith };
      callers = All-nil IsRecord;
      first = first_alone [] refl;
      few_frames = i.few_frames;
      few_words = i.few_words;
    })

pub returns : goal.returns
returns c =
    let s = c.self.inside in
    rw (← c.self.view_is, c.put.ensures) (first_view [] s.words.items s.most_frames s.most_words refl)
