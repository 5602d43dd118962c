use Rattle.std.proofs.Common.{ℕ, refl, ap}
use Rattle.std.specs.Prelude.{map}
use Rattle.std.proofs.lemmas.List.Elements.{All-head, All-tail}
use Rattle.zk_state.specs.Frames.{bounds_of}
use Rattle.zk_save.specs.States.{whole_state, states_in, gone_back, IsOf, AreOf}
use Rattle.zk_save.proofs.undo.Undo.take.Goals as goal

pub put_back-requires : goal.put_back-requires
unfolding AreOf
put_back-requires c =
    let m = c.args.memory.now in
    let f = c.args.frames.now in
    let are = rw c.in-Some.ensures at c.requires in
    All-head (IsOf m.static_base f.most_frames f.most_words) c.in-Some.kept c.pop.new.self.states are

pub returns-in-Some-clause-value : goal.returns-in-Some-clause-value
unfolding states_in
returns-in-Some-clause-value c =
    rw c.in-Some.ensures (c.put_back.ensures.state (map (whole_state c.args.memory.now.file) c.pop.new.self.states))

pub returns-in-Some-clause-are_of : goal.returns-in-Some-clause-are_of
unfolding AreOf bounds_of
returns-in-Some-clause-are_of c =
    let m = c.args.memory.now in
    let f = c.args.frames.now in
    let are = rw c.in-Some.ensures at c.requires in
    let bounds = c.put_back.ensures.bounds in
    let frames = ap (λ (p : ℕ × ℕ). p.0) bounds in
    let words = ap (λ (p : ℕ × ℕ). p.1) bounds in
    rw (c.put_back.ensures.base, frames, words) (All-tail (IsOf m.static_base f.most_frames f.most_words)
    c.in-Some.kept c.pop.new.self.states are)

pub returns-in-None-clause-value : goal.returns-in-None-clause-value
unfolding states_in gone_back
returns-in-None-clause-value c =
    let none = c.in-None.ensures.0 in
    (rw none refl, c.in-None.ensures.1, refl, refl)
