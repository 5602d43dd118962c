-- What two targets took of a machine's text.
use Rattle.std.specs.Prelude.{encode_utf8_all}
use Rattle.std.proofs.Common.{◌≡◌, ◌∙◌, ℕ, Bool, true, false, List, [], ◌++◌, Option, append_assoc, append-nil, sym}
use Rattle.std.proofs.Common.{refl, ap}
use Rattle.std.proofs.lemmas.Str.{encodes-append}
use Rattle.std.proofs.KnownBytes.{Appends-nil, Appends-trans}
use Rattle.std.proofs.lemmas.List.Elements.{filter_map-append}
use Rattle.zk_term.specs.Devices.{Sender, Sends, Sent}
use Rattle.zk_term.specs.Signals.{Signal, screen_text, script_in, script_text, text_in}

-- the bytes that the screen's and the transcript's target took and those that wait to go there, whether the screen over
-- them has met a failed write, and whether one of the targets has
pub record Targets : Type 0 where
  pub screen : Option (List ℕ)
  pub to_screen : List ℕ
  pub script : Option (List ℕ)
  pub to_script : List ℕ
  pub failed : Bool
  pub either : Bool

-- the way to the screen, and to the transcript
abbrev pub screen_sender : Targets → Sender
screen_sender t = record { taken = t.screen; waiting = t.to_screen; failed = t.failed }

abbrev pub script_sender : Targets → Sender
script_sender t = record { taken = t.script; waiting = t.to_script; failed = t.failed }

-- Text was sent to two targets: each took a first part of it, and while no write has failed the rest waits. The screen
-- knows of a failure where it knew at first.
pub record Written (old new : Targets) (screen script : List ℕ) : Type 0 where
  pub screen_sent : Sends (screen_sender old) (screen_sender new) screen
  pub script_sent : Sends (script_sender old) (script_sender new) script
  pub known : old.failed ≡ old.either → new.failed ≡ new.either

-- by whether a write has failed in between
sent_by : (x : Bool) (a b c : Sender) (s t : List ℕ) → b.failed ≡ x → Sent a b s → Sent b c t → Sent a c (s ++ t)
sent_by false a b c s t e h k =
    let first : a.waiting ++ s ≡ h.part ++ b.waiting = h.whole ∙ ap (λ (l : List ℕ). h.part ++ l) (h.all e).1 in
    record {
      part = h.part ++ k.part;
      rest = k.rest;
      whole = sym (append_assoc a.waiting s t) ∙ ap (λ (l : List ℕ). l ++ t) first
          ∙ append_assoc h.part b.waiting t ∙ ap (λ (l : List ℕ). h.part ++ l) k.whole
          ∙ sym (append_assoc h.part k.part k.rest);
      takes = Appends-trans a.taken b.taken c.taken h.part k.part h.takes k.takes;
      all = λ f. ((h.all e).0, (k.all f).1);
      none = λ f. let sound = (h.all e).0 in absurd cc;
    }
sent_by true a b c s t e h k =
    let both = Appends-trans a.taken b.taken c.taken h.part k.part h.takes k.takes in
    record {
      part = h.part;
      rest = h.rest ++ t;
      whole = sym (append_assoc a.waiting s t) ∙ ap (λ (l : List ℕ). l ++ t) h.whole ∙ append_assoc h.part h.rest t;
      takes = rw (k.none e, append-nil) at both;
      all = λ f. let sound = (k.all f).0 in absurd cc;
      none = h.none;
    }

sent_nothing : (a : Sender) → Sent a a []
sent_nothing a = record {
  part = [];
  rest = a.waiting;
  whole = append-nil a.waiting;
  takes = Appends-nil a.taken;
  all = λ f. (f, refl);
  none = λ f. refl;
}

sends_twice : (a b c : Sender) (s t : List ℕ) → Sends a b s → Sends b c t → Sends a c (s ++ t)
unfolding Sends
sends_twice a b c s t h k =
    rw (encodes-append s t) (sent_by b.failed a b c (encode_utf8_all s) (encode_utf8_all t) refl h k)

sends_nothing : (a : Sender) → Sends a a []
unfolding Sends
sends_nothing a = sent_nothing a

pub written_nothing : (a : Targets) → Written a a [] []
written_nothing a = record { screen_sent = sends_nothing _; script_sent = sends_nothing _; known = λ e. e }

pub written_twice : (a b c : Targets) (s t u v : List ℕ) → Written a b s u → Written b c t v
    → Written a c (s ++ t) (u ++ v)
written_twice a b c s t u v h k = record {
  screen_sent = sends_twice _ _ _ s t h.screen_sent k.screen_sent;
  script_sent = sends_twice _ _ _ u v h.script_sent k.script_sent;
  known = λ e. k.known (h.known e);
}

-- signals are sent one list after the other
pub signals_written_twice : (a b c : Targets) (s t : List Signal) → Written a b (screen_text s) (script_text s)
    → Written b c (screen_text t) (script_text t) → Written a c (screen_text (s ++ t)) (script_text (s ++ t))
signals_written_twice a b c s t h k =
    rw (filter_map-append text_in s t, filter_map-append script_in s t)
    (written_twice a b c (screen_text s) (screen_text t) (script_text s) (script_text t) h k)
