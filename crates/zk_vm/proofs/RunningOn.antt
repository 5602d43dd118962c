-- A run on two targets, up to where all that waits for them is given out.
use Rattle.std.proofs.Common.{◌≡◌, ◌∙◌, Bool, true, false, [], sym, append-nil}
use Rattle.zk_term.specs.Devices.{Sends, Shows}
use Rattle.zk_term.proofs.Sending.{sends_shows}
use Rattle.zk_step.specs.Routing.{Signals}
use Rattle.zk_term.specs.Signals.{screen_text, script_text}
use Rattle.zk_term.specs.BufferedScreens.{Targets, Written, written_twice, screen_sender, script_sender}

-- targets that nothing waits for, and that no write has failed on
pub record IsFresh (a : Targets) : Type 0 where
  pub screen : a.to_screen ≡ []
  pub script : a.to_script ≡ []
  pub failed : a.failed ≡ false
  pub either : a.either ≡ false

-- nothing waits for targets, while no write has failed
pub record IsFinished (a : Targets) : Type 0 where
  pub screen : a.failed ≡ false → a.to_screen ≡ []
  pub script : a.failed ≡ false → a.to_script ≡ []

-- what the two targets got
abbrev pub BothShow : Targets → Targets → Bool → Signals → Type 0
BothShow a c failed t =
    Shows (record { taken = a.screen; failed = false }) (record { taken = c.screen; failed = failed }) (screen_text t)
    × Shows (record { taken = a.script; failed = false }) (record { taken = c.script; failed = failed }) (script_text t)

pub both_show : (a b c : Targets) (t : Signals) → IsFresh a → IsFinished c → Written a b (screen_text t) (script_text t)
    → Written b c [] [] → BothShow a c c.failed t
both_show a b c t fresh done first rest =
    let x = screen_text t in
    let y = script_text t in
    let all : Written a c x y = rw (append-nil x, append-nil y) at (written_twice a b c x [] y [] first rest) in (
      rw fresh.failed at (sends_shows (screen_sender a) (screen_sender c) x fresh.screen done.screen
          all.screen_sent),
      rw fresh.failed at (sends_shows (script_sender a) (script_sender c) y fresh.script done.script
          all.script_sent),
    )

pub known_failed : (a b c : Targets) (t : Signals) → IsFresh a → Written a b (screen_text t) (script_text t)
    → Written b c [] []
    → c.failed ≡ c.either
known_failed a b c t fresh first rest = rest.known (first.known (fresh.failed ∙ sym fresh.either))

-- ---- a run that shows something shows it to both

false_or_true : (x : Bool) (A : Type 0) → x ≡ true → x ≡ false → A
false_or_true x A h k = absurd cc

-- a console that works now has not been cut off
pub never_cut_off : (A : Type 0) (a b : Targets) → Written a b [] [] → b.failed ≡ false → a.failed ≡ true → A
unfolding Sends
never_cut_off A a b h sound broken = false_or_true a.failed A broken (h.screen_sent.all sound).0
