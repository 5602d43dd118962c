use Rattle.std.proofs.Common.{◌≡◌, ◌∙◌, None, Some, ap, refl, rules, ⊎_elim}
use Rattle.zk_mem.specs.declared.story.OpenError.{OpenError}
use Rattle.zk_mem.specs.declared.story.OpenError.TheVariants.{OutOfMemory}
use Rattle.zk_mem.specs.Story.{refusal}
use Rattle.zk_program.proofs.Stories.{never_memory}
use Rattle.zk_program.proofs.opening.open_story.Goals as goal

pub returns-then-eq : goal.returns-then-eq
returns-then-eq g c =
    let bytes = c.in-Ok.bytes.items in
    let memory : c.in-Err-of.error ≡ OutOfMemory = search rules in
    let none : refusal bytes ≡ None = ⊎_elim
    (λ h. absurd (never_memory bytes (h ∙ ap (λ (e : OpenError). Some e) memory))) (λ h. h.1)
    c.in-Err-of.ensures.err in
    (bytes, c.in-Ok.ensures, none, refl)

pub returns-else-eq : goal.returns-else-eq
returns-else-eq g c =
    let bytes = c.in-Ok.bytes.items in
    let other : c.in-Err-of.error ≡ OutOfMemory → ⊥ = (λ same. search (rules, same)) in
    let why : refusal bytes ≡ Some c.in-Err-of.error = ⊎_elim (λ h. h) (λ h. absurd (other h.0))
    c.in-Err-of.ensures.err in
    (bytes, c.in-Ok.ensures, why, tt)
