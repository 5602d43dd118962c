-- What is told of what fails.
use Rattle.std.proofs.Common.{◌≡◌, ◌⊎◌, ◌∙◌, ℕ, List, Option, Some, None, Result, Ok, Err, refl, sym, ap, subst, inl}
use Rattle.std.proofs.Common.{inr}
use Rattle.std.specs.Global.{Vec}
use Rattle.zk_mem.specs.declared.story.OpenError.{OpenError}
use Rattle.zk_mem.specs.declared.story.OpenError.TheVariants.{OutOfMemory}
use Rattle.zk_mem.specs.Story.{refusal, refusal_number}
use Rattle.zk_step.specs.declared.state.game_state.View.{View}
use Rattle.zk_vm.specs.declared.limits.Limits.{Limits}
use Rattle.zk_vm.specs.Plays.{image_of}
use Rattle.zk_host.specs.declared.play.Play.{Play}
use Rattle.zk_host.specs.declared.play.Refusal.{Refusal}
use Rattle.zk_host.specs.declared.play.SnapshotRefusal.{SnapshotRefusal}
use Rattle.zk_host.specs.declared.play.SnapshotRefusal.TheVariants as snapshot_refused
use Rattle.zk_host.specs.Calls.{IsImage, IsOpenedFrom, IsPlayOpened}
use Rattle.zk_host.specs.Numbers.{refused_number}
use Rattle.zk_host.specs.Exports.{AreLimits, IsOpened, IsImaged, IsPut}
use Rattle.zk_host.specs.Exports.IsOpened.{NoStory, NoMemory}
use Rattle.zk_host.specs.Exports.IsPut.{NoMemory as no_memory}

abbrev err_in : Refusal → Result (Vec ℕ) Refusal → Refusal
err_in other (Ok file) = other
err_in other (Err r) = r

-- a saved game is refused, or there is no memory for it
pub not_imaged : (refused : Option Refusal) (p : Play) (r : Refusal) (buffer : List ℕ) (length n : ℕ)
    → IsImage refused p (Err r) → n ≡ refused_number r → IsImaged refused p p buffer buffer length length n
not_imaged None p r buffer length n h e = (
  refl,
  subst (λ (m : ℕ). IsPut (image_of p.machine) buffer buffer length length m)
      (sym (e ∙ ap refused_number h)) (no_memory refl refl),
)
not_imaged (Some r') p r buffer length n h e = (refl, e ∙ ap refused_number (ap (err_in r) h), refl, refl)

-- the story is refused, or there is no memory for it
pub not_opened : (old : Option Play) (story : List ℕ) (seed : ℕ) (limits : Limits) (view : View) (e : OpenError)
    (n : ℕ) → AreLimits limits → n ≡ refusal_number e
    → (refusal story ≡ Some e) ⊎ ((e ≡ OutOfMemory) × (refusal story ≡ None))
    → IsOpened old old story seed limits view n
not_opened old story seed limits view e n l is (inl r) =
    subst (λ (m : ℕ). IsOpened old old story seed limits view m) (sym is) (NoStory e r refl)
not_opened old story seed limits view e n l is (inr m) =
    subst (λ (m : ℕ). IsOpened old old story seed limits view m) (sym (is ∙ ap refusal_number m.0))
    (NoMemory l m.1 refl)

-- the story is one, and the snapshot or its limits are refused
pub snapshot_refused_by : (story bytes : List ℕ) (most : Limits) (r : SnapshotRefusal) → refusal story ≡ None
    → IsPlayOpened story bytes most (Err r) → IsOpenedFrom story bytes most (Err r)
snapshot_refused_by story bytes most (snapshot_refused.Story e) is h = absurd h
snapshot_refused_by story bytes most (snapshot_refused.Snapshot e) is h = (is, h)
snapshot_refused_by story bytes most snapshot_refused.Limits is h = (is, h)
