use Rattle.std.proofs.Common.{refl, ◌∷◌}
use Rattle.std.specs.Prelude.{reverse}
use Rattle.std.proofs.lemmas.List.Elements.{All-take, All-cons}
use Rattle.zk_save.specs.States.{states_in, state_of, IsOf, AreOf}
use Rattle.zk_save.proofs.Rings.{ring_put}
use Rattle.zk_save.proofs.Wholes.{states_put}
use Rattle.zk_save.proofs.undo.Undo.put.Goals as goal

pub returns-in-None-clause-ok : goal.returns-in-None-clause-ok
unfolding states_in
returns-in-None-clause-ok c =
    let none = rw c.in-None.is at c.self.invariant.fits in
    rw (← c.self.view_is, c.in-None.is, none) refl

pub returns-clause-ok : goal.returns-clause-ok
unfolding states_in
returns-clause-ok c =
    let fits = rw c.in-Some.is at c.self.invariant.fits in
    rw (
      ← c.self.view_is,
      c.in-Some.is,
      c.push_back.ensures.items,
      fits.0,
      ring_put c.in-Some.ring.items c.in_ok-kept.kept c.self.inside.most,
    )
    (states_put c.args.memory.now.file c.self.inside.most c.in_ok-kept.kept
    (state_of c.args.memory.now c.args.frames.now c.args.pc) (reverse c.in-Some.ring.items)
    c.in_ok-kept.ensures.state)

pub returns-clause-are_of : goal.returns-clause-are_of
unfolding AreOf
returns-clause-are_of c = λ are.
    let m = c.args.memory.now in
    let f = c.args.frames.now in
    let fits = rw c.in-Some.is at c.self.invariant.fits in
    let old = rw (← c.self.view_is, c.in-Some.is) at are in
    rw (c.push_back.ensures.items, fits.0, ring_put c.in-Some.ring.items c.in_ok-kept.kept c.self.inside.most)
    (All-take (IsOf m.static_base f.most_frames f.most_words) c.self.inside.most
    (c.in_ok-kept.kept ∷ reverse c.in-Some.ring.items)
    (All-cons (IsOf m.static_base f.most_frames f.most_words) c.in_ok-kept.kept (reverse c.in-Some.ring.items)
    c.in_ok-kept.ensures.is_of old))
