-- A play whose script is given no bytes first.
use Rattle.std.proofs.Common.{◌≡◌, ◌||◌, ℕ, Bool, true, false, List, [], Option, Some, None, zero, suc, inl, inr, refl}
use Rattle.std.proofs.Common.{sym}
use Rattle.std.proofs.Common.{◌∙◌, append-nil}
use Rattle.std.specs.Prelude.{take, encode_utf8_all}
use Rattle.std.specs.Io.KnownBytes.{Appends, Keeps}
use Rattle.std.proofs.KnownBytes.{Appends-nil}
use Rattle.zk_term.specs.Devices.{Shows}
use Rattle.zk_term.proofs.Shown.{shows_twice}
use Rattle.zk_vm.specs.declared.stop.Stop.{Stop}
use Rattle.zk_vm.specs.declared.stop.Stop.TheVariants.{Memory, Write}
use Rattle.zk_term.specs.Lines.{heard}
use Rattle.zk_vm.specs.Log.{scripted}
use Rattle.zk_vm.specs.Logged.{Plays, SlotDid}
use Rattle.zk_vm.specs.Logged.EndsBy.{Unwritten}
use Rattle.zk_vm.specs.Sessions.{Session}
use Rattle.zk_vm.specs.Plays.{SlotTells, SourceTells, Taken, taken_by}
use Rattle.zk_vm.proofs.Logs.{no_log}
use Rattle.zk_vm.proofs.Playing.{heard_whole}
use Rattle.zk_program.specs.Playing.{EndsBy, EndsPlay, GotNothing, Play}
use Rattle.zk_program.specs.declared.exit.Exit.{Exit}
use Rattle.zk_program.specs.declared.exit.Exit.TheVariants.{Found, Refused, Stopped, Unread}
use Rattle.zk_command.specs.declared.settings.Settings.{Settings}

-- what a write took of no bytes
pub took_none : (n : ℕ) (old new : Option (List ℕ)) → Appends old new (take n []) → Appends old new []
took_none zero old new h = h
took_none (suc n) old new h = h

-- so did one that failed
pub failed_none : (old new : Option (List ℕ)) → Keeps old new → Appends old new []
failed_none None new h = tt
failed_none (Some xs) None h = absurd h
failed_none (Some xs) (Some ys) h = h ∙ sym (append-nil xs)

shows_none : (old new : Option (List ℕ)) → Appends old new [] → Shows (record { taken = old; failed = false })
    (record { taken = new; failed = false }) []
unfolding Shows
shows_none old new h = record {
  part = [];
  rest = [];
  whole = refl;
  takes = h;
  all = λ f. (refl, refl);
  none = λ f. refl;
}

-- a device that failed at once
shows_failed : (old new : Option (List ℕ)) (text : List ℕ) → Appends old new []
    → Shows (record { taken = old; failed = false }) (record { taken = new; failed = true }) text
unfolding Shows
shows_failed old new text h = record {
  part = [];
  rest = encode_utf8_all text;
  whole = refl;
  takes = h;
  all = λ f. absurd cc;
  none = λ f. refl;
}

module _ {K R : Type 0} (t : SlotTells K) (r : SourceTells R) (tells : R → Option (List ℕ))
    (Noted : List ℕ → Type 0) where
  -- a play after a write of no bytes to the script
  pub after_none : (slot0 slot1 : K) (reader0 reader1 : R) (m : Session) (stop : Stop) (unwritten : Bool)
      (screen script0 between : Option (List ℕ)) (new : Taken) → Appends script0 between []
      → Plays t r tells Noted slot0 slot1 reader0 reader1 m stop unwritten (taken_by screen between) new
      → Plays t r tells Noted slot0 slot1 reader0 reader1 m stop unwritten (taken_by screen script0) new
  after_none slot0 slot1 reader0 reader1 m stop unwritten screen script0 between new h p = record {
    log = p.log;
    to = p.to;
    is = p.is;
    ends = p.ends;
    wrote = record {
      first = p.wrote.first;
      last = p.wrote.last;
      whole = p.wrote.whole;
      alone = p.wrote.alone;
      between = p.wrote.between;
      all =
          record {
            screen = p.wrote.all.screen;
            script = shows_twice _ _ _ [] (scripted p.wrote.first)
                (shows_none script0 between h) p.wrote.all.script;
          };
      part = p.wrote.part;
    };
    noted = p.noted;
    slot = p.slot;
    did = p.did;
    left = p.left;
    typed = p.typed;
    heard = p.heard;
  }

  -- a play whose script failed at that write
  pub none_played : (slot : K) (reader : R) (m : Session) (unwritten : Bool)
      (screen script0 script1 : Option (List ℕ)) → unwritten ≡ true → r.failed reader ≡ false
      → Appends script0 script1 [] → Noted [] → Plays t r tells Noted slot slot reader reader m Write unwritten
      (taken_by screen script0) (taken_by screen script1)
  unfolding SlotDid
  none_played slot reader m unwritten screen script0 script1 e works h none = record {
    log = [];
    to = m;
    is = no_log m;
    ends = Unwritten e refl (λ f. refl);
    wrote = record {
      first = [];
      last = [];
      whole = refl;
      alone = refl;
      between = taken_by screen script0;
      all =
          record {
            screen = shows_none screen screen (Appends-nil screen);
            script = shows_none script0 script0 (Appends-nil script0);
          };
      part =
          rw e (record {
            screen = shows_failed screen screen [] (Appends-nil screen);
            script = shows_failed script0 script1 [] h;
          });
    };
    noted = inl none;
    slot = slot;
    did = refl;
    left = inl refl;
    typed = tt;
    heard =
        λ bytes told. (
          bytes,
          (
            told,
            (
              heard bytes,
              (
                (heard bytes).lines,
                (heard_whole bytes bytes (r.failed reader) (heard bytes).lines works, refl, tt),
              ),
            ),
          ),
        );
  }

-- one of two writes has failed
pub failed_or : (a b : Bool) → b ≡ true → (a || b) ≡ true
failed_or true b e = refl
failed_or false b e = e

pub not_true : (x : Bool) (A : Type 0) → x ≡ false → x ≡ true → A
not_true x A h k = absurd cc

-- a play that was not started
pub not_started : (p : Play) (file : Option (List ℕ)) (settings : Settings) (exit : Exit) → GotNothing p
    → EndsBy file (Unit {0}) (λ story ended. ended ≡ Stopped Memory) exit → EndsPlay p file settings exit
not_started p file settings (Unread e) nothing h = nothing
not_started p file settings (Refused e) nothing h = (h.0, h.1, h.2, nothing)
not_started p file settings (Stopped stop) nothing h = (h.0, h.1, h.2, inr (let e = h.3 in cc, nothing))
not_started p file settings Found nothing h = let e = h.3 in absurd cc
