use Rattle.std.proofs.Common.{◌≡◌, ℕ, List, length, Some, ap, refl, sym, arith}
use Rattle.std.specs.Prelude.{reverse, slice_get}
use Rattle.zk_mem.specs.Map.{MemoryMap}
use Rattle.zk_state.specs.Frames.{FrameList}
use Rattle.zk_save.specs.States.{KeptState, UndoStates, states_in, IsOf, AreOf}
use Rattle.zk_save.proofs.RoundTrip.{packs_short}
use Rattle.zk_save.proofs.Shown.{holds_there, shown_is}
use Rattle.zk_save.proofs.Wholes.{put_bounds, same_of}
use Rattle.zk_save.proofs.undo.Undo.state.Goals as goal

kept_of : (items : List KeptState) (n : ℕ) (k : KeptState) (u : UndoStates) (m : MemoryMap) (f : FrameList)
    → reverse items ≡ u.states → slice_get items n ≡ Some k → AreOf m f u
    → IsOf m.static_base f.most_frames f.most_words k
unfolding AreOf
kept_of items n k u m f e there are =
    holds_there (IsOf m.static_base f.most_frames f.most_words) items n k (rw e are) there

is_kept : (c : goal.After-show-arg-1) → IsOf c.args.memory.now.static_base c.args.frames.now.most_frames
    c.args.frames.now.most_words c.in-Some-get.kept.now
is_kept c =
    let there = rw c.in-Some-get.is at c.get.ensures in
    let view = rw c.in-Some.is at c.self.view_is in
    kept_of c.in-Some.ring.items c.args.number c.in-Some-get.kept.now c.args.self.now c.args.memory.now
    c.args.frames.now (ap (λ (u : UndoStates). u.states) view) (sym there) c.requires.are_of

pub show-requires-clause-frames : goal.show-requires-clause-frames
show-requires-clause-frames c = (is_kept c).frames

pub show-requires-clause-words : goal.show-requires-clause-words
show-requires-clause-words c = (is_kept c).words

pub returns-clause-bounds : goal.returns-clause-bounds
returns-clause-bounds c =
    put_bounds c.args.frames.now c.show.new.frames c.in-Some-get.kept.now.frames c.show.ensures.frames

pub returns-clause-are_of : goal.returns-clause-are_of
returns-clause-are_of c = same_of c.args.memory.now c.args.memory.now c.args.frames.now c.show.new.frames
    c.args.self.now refl (put_bounds c.args.frames.now c.show.new.frames c.in-Some-get.kept.now.frames
    c.show.ensures.frames) c.requires.are_of

pub returns-clause-state : goal.returns-clause-state
unfolding states_in
returns-clause-state c =
    let there = rw c.in-Some-get.is at c.get.ensures in
    let view = rw c.in-Some.is at c.self.view_is in
    let k = c.in-Some-get.kept.now in
    let kept : IsOf c.args.memory.now.static_base c.args.frames.now.most_frames c.args.frames.now.most_words
    k = kept_of c.in-Some.ring.items c.args.number k c.args.self.now c.args.memory.now c.args.frames.now
    (ap (λ (u : UndoStates). u.states) view) (sym there) c.requires.are_of in
    rw (← view) (λ w h. shown_is c.args.memory.now.file c.in-Some.ring.items c.args.number k w
    c.show.result.packed.now c.args.frames.now c.show.new.frames c.show.result.pc (sym there)
    (omega (arith, kept.dynamic, c.dynamic.ensures.within)) kept.some c.show.ensures.packed
    c.show.ensures.frames c.show.ensures.pc h)

pub returns-clause-short : goal.returns-clause-short
returns-clause-short c =
    let there = rw c.in-Some-get.is at c.get.ensures in
    let view = rw c.in-Some.is at c.self.view_is in
    let k = c.in-Some-get.kept.now in
    let kept : IsOf c.args.memory.now.static_base c.args.frames.now.most_frames c.args.frames.now.most_words
    k = kept_of c.in-Some.ring.items c.args.number k c.args.self.now c.args.memory.now c.args.frames.now
    (ap (λ (u : UndoStates). u.states) view) (sym there) c.requires.are_of in
    omega (
      arith,
      packs_short k.difference,
      ap (λ (l : List ℕ). length l) c.show.ensures.packed,
      kept.dynamic,
      c.dynamic.ensures.small,
    )
