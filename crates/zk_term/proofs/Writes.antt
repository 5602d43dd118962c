-- What a buffered screen's targets took of one character, and of what waits.
use Rattle.std.specs.Prelude.{encode_utf8, encode_utf8_all}
use Rattle.std.proofs.Common.{◌≡◌, ◌∙◌, ◌||◌, ℕ, Bool, true, false, List, [], ◌∷◌, ◌++◌, sym, refl, subst, append-nil}
use Rattle.std.specs.Io.KnownBytes.{Appends}
use Rattle.zk_term.specs.Devices.{PassedOn, TookPart}
use Rattle.zk_term.proofs.Sending.{sends_all, sends_none, sends_on, sends_part, sends_past}
use Rattle.zk_term.specs.BufferedScreens.{Targets, Written, screen_sender, script_sender}

one : (c : ℕ) → encode_utf8_all (c ∷ []) ≡ encode_utf8 c
one c = append-nil (encode_utf8 c)

pub written_past : (old : Targets) (s u : List ℕ) → old.failed ≡ true → Written old old s u
written_past old s u e = record {
  screen_sent = sends_past (screen_sender old) (screen_sender old) s e e refl;
  script_sent = sends_past (script_sender old) (script_sender old) u e e refl;
  known = λ k. k;
}

-- ---- to the screen

pub screen_written : (old new : Targets) (c : ℕ) → old.failed ≡ false → new.failed ≡ old.failed
    → new.either ≡ old.either → new.script ≡ old.script → new.to_script ≡ old.to_script
    → PassedOn old.screen new.screen (old.to_screen ++ encode_utf8 c) new.to_screen → Written old new (c ∷ []) []
screen_written old new c e same either script waits h = record {
  screen_sent = sends_on (screen_sender old) (screen_sender new) (c ∷ []) e
      (subst (λ (b : List ℕ). PassedOn old.screen new.screen (old.to_screen ++ b) new.to_screen) (sym (one c)) h);
  script_sent = sends_none (script_sender old) (script_sender new) (λ _. e) script waits;
  known = λ k. same ∙ k ∙ sym either;
}

pub screen_failed : (old new : Targets) (s : List ℕ) → old.failed ≡ false → new.failed ≡ true → new.either ≡ true
    → new.script ≡ old.script → new.to_script ≡ old.to_script
    → TookPart old.screen new.screen old.to_screen → Written old new s []
screen_failed old new s e f either script waits h = record {
  screen_sent = sends_part (screen_sender old) (screen_sender new) s e f h;
  script_sent = sends_none (script_sender old) (script_sender new) (λ _. e) script waits;
  known = λ k. f ∙ sym either;
}

pub screen_flushed : (old new : Targets) → old.failed ≡ false → new.failed ≡ old.failed → new.either ≡ old.either
    → new.script ≡ old.script → new.to_script ≡ old.to_script
    → Appends old.screen new.screen old.to_screen → new.to_screen ≡ [] → Written old new [] []
screen_flushed old new e same either script waits h none = record {
  screen_sent = sends_all (screen_sender old) (screen_sender new) e h none;
  script_sent = sends_none (script_sender old) (script_sender new) (λ _. e) script waits;
  known = λ k. same ∙ k ∙ sym either;
}

-- ---- to the transcript

pub script_written : (old new : Targets) (c : ℕ) → old.failed ≡ false → new.failed ≡ old.failed
    → new.either ≡ old.either → new.screen ≡ old.screen → new.to_screen ≡ old.to_screen
    → PassedOn old.script new.script (old.to_script ++ encode_utf8 c) new.to_script → Written old new [] (c ∷ [])
script_written old new c e same either screen waits h = record {
  screen_sent = sends_none (screen_sender old) (screen_sender new) (λ _. e) screen waits;
  script_sent = sends_on (script_sender old) (script_sender new) (c ∷ []) e
      (subst (λ (b : List ℕ). PassedOn old.script new.script (old.to_script ++ b) new.to_script) (sym (one c)) h);
  known = λ k. same ∙ k ∙ sym either;
}

pub script_failed : (old new : Targets) (s : List ℕ) → old.failed ≡ false → new.failed ≡ true → new.either ≡ true
    → new.screen ≡ old.screen → new.to_screen ≡ old.to_screen
    → TookPart old.script new.script old.to_script → Written old new [] s
script_failed old new s e f either screen waits h = record {
  screen_sent = sends_none (screen_sender old) (screen_sender new) (λ _. e) screen waits;
  script_sent = sends_part (script_sender old) (script_sender new) s e f h;
  known = λ k. f ∙ sym either;
}

pub script_flushed : (old new : Targets) → old.failed ≡ false → new.failed ≡ old.failed → new.either ≡ old.either
    → new.screen ≡ old.screen → new.to_screen ≡ old.to_screen
    → Appends old.script new.script old.to_script → new.to_script ≡ [] → Written old new [] []
script_flushed old new e same either screen waits h none = record {
  screen_sent = sends_none (screen_sender old) (screen_sender new) (λ _. e) screen waits;
  script_sent = sends_all (script_sender old) (script_sender new) e h none;
  known = λ k. same ∙ k ∙ sym either;
}

pub or-true : (b : Bool) → (b || true) ≡ true
or-true true = refl
or-true false = refl
