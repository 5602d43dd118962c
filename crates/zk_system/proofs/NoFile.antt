-- A play for which no file of a saved game is named keeps and finds nothing.
use Rattle.std.proofs.Common.{◌≡◌, ◌∙◌, true, false, [], ◌∷◌, Option, Some, None, ap, refl}
use Rattle.zk_vm.specs.Log.Entry.{At, Shown, Read, Offered, Asked, Stopped}
use Rattle.zk_vm.specs.Logged.{SlotDid}
use Rattle.zk_system.specs.declared.save_file.SaveFile.{SaveFile}
use Rattle.zk_system.specs.NoFile.{NothingIsKept}
use Rattle.zk_system.specs.SaveFiles.{held_in}

-- a slot that has nothing names no file
no_path : {P : Type 0} (path : Option P) → held_in path ≡ Some None → path ≡ None
no_path None h = refl
no_path (Some path) h = absurd cc

still_none : {P : Type 0} (old new : Option P) → old ≡ None → held_in new ≡ held_in old → new ≡ None
still_none old new none same = no_path new (same ∙ ap held_in none)

pub nothing_is_kept : NothingIsKept
unfolding SlotDid
nothing_is_kept before after [] none h = tt
nothing_is_kept before after (Offered file true ∷ l) none h = let never = rw none at h.1.0.0 in absurd cc
nothing_is_kept before after (Offered file false ∷ l) none h =
    (refl, nothing_is_kept h.0 after l (still_none before.place h.0.place none (h.1.0.2 refl)) h.1.1)
nothing_is_kept before after (Asked file refusal ∷ l) none h =
    (rw none at h.1.0.0, nothing_is_kept h.0 after l (still_none before.place h.0.place none h.1.0.1) h.1.1)
nothing_is_kept before after (At address ∷ l) none h =
    (tt, nothing_is_kept h.0 after l (ap (λ (s : SaveFile). s.place) h.1.0 ∙ none) h.1.1)
nothing_is_kept before after (Shown c ∷ l) none h =
    (tt, nothing_is_kept h.0 after l (ap (λ (s : SaveFile). s.place) h.1.0 ∙ none) h.1.1)
nothing_is_kept before after (Read extra codes ended ∷ l) none h =
    (tt, nothing_is_kept h.0 after l (ap (λ (s : SaveFile). s.place) h.1.0 ∙ none) h.1.1)
nothing_is_kept before after (Stopped stop ∷ l) none h =
    (tt, nothing_is_kept h.0 after l (ap (λ (s : SaveFile). s.place) h.1.0 ∙ none) h.1.1)
