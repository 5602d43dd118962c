use Rattle.std.proofs.Common.{◌≡◌, ℕ, ap, arith}
use Rattle.std.proofs.lemmas.Result.{IfOk-weaker}
use Rattle.zk_state.specs.Frames.{bounds_of}
use Rattle.zk_vm.proofs.machine.Machine.image.Goals as goal

pub returns-clause-len : goal.returns-clause-len
unfolding bounds_of
returns-clause-len c =
    let bounds = c.self.invariant.bounds in
    let frames : c.self.inside.game.frames.most_frames ≡ c.self.inside.limits.frames = ap (λ (p : ℕ × ℕ). p.0) bounds in
    let words : c.self.inside.game.frames.most_words ≡ c.self.inside.limits.words = ap (λ (p : ℕ × ℕ). p.1) bounds in
    rw (← c.self.view_is) (IfOk-weaker c.save.result _ _ (λ r h. omega (arith, h, frames, words)) c.save.ensures.len)
