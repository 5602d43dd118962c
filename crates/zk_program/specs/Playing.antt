-- How a file is played.
use Rattle.std.specs.Prelude.{◌≡◌, ◌⊎◌, ◌||◌, ℕ, Bool, true, false, List, [], take, Option, Some, None, IfSome, Result}
use Rattle.std.specs.Prelude.{Ok, Err}
use Rattle.zk_mem.specs.Story.{refusal}
use Rattle.zk_term.specs.Devices.{Device, device}
use Rattle.zk_vm.specs.declared.stop.Stop.{Stop}
use Rattle.zk_vm.specs.declared.stop.Stop.TheVariants.{Memory, Read}
use Rattle.zk_vm.specs.Logged.{Plays}
use Rattle.zk_vm.specs.Sessions.{Session, begun}
use Rattle.zk_vm.specs.Plays.{SlotTells, SourceTells, Taken}
use Rattle.zk_program.specs.LastLine.{TookExplained, last_line}
use Rattle.zk_program.specs.Status.{exit_status}
use Rattle.zk_program.specs.declared.exit.Exit.{Exit}
use Rattle.zk_program.specs.declared.exit.Exit.TheVariants.{Unread, Refused, Stopped}
use Rattle.zk_program.specs.declared.playing.Devices.{Devices}
use Rattle.zk_command.specs.declared.settings.Settings.{Settings}

-- what is read of a file: all of its bytes, or one byte more than the longest story has
abbrev pub bytes_read : List ℕ → List ℕ
bytes_read file = take 524289 file

-- the devices of a play, by what they tell of themselves: whether a read has failed; the screen, and what the
-- transcript goes to
pub record DeviceStates : Type 0 where
  pub unread : Bool
  pub screen : Device
  pub script : Device

-- What became of the devices of a play: what it is that a machine was played on them up to a stop, where a write has
-- failed or not; the addresses that were noted; and what the devices told before it and after it.
pub record Play : Type 1 where
  pub logged : Session → Stop → Bool → Taken → Taken → Type 0
  pub noted : List ℕ → Type 0
  pub old : DeviceStates
  pub new : DeviceStates

abbrev pub states_of : {I S T K : Type 0} → (I → Bool) → (S → Option (List ℕ)) → (S → Bool)
    → (T → Option (List ℕ)) → (T → Bool) → Devices I S T K → DeviceStates
states_of {I} {S} {T} {K} unread seen screen_failed written script_failed d = record {
  unread = unread d.input;
  screen = device seen screen_failed d.screen;
  script = device written script_failed d.script;
}

-- a play on devices, by what an input, a screen, a script and a slot for saved games tell, and by what was noted
abbrev pub play_on : {I S T K : Type 0} → (I → Option (List ℕ)) → SourceTells I → (S → Option (List ℕ))
    → (S → Bool) → (T → Option (List ℕ)) → (T → Bool) → SlotTells K → (List ℕ → Type 0) → Devices I S T K
    → Devices I S T K → Play
play_on {I} {S} {T} {K} left input seen screen_failed written script_failed slot Noted old new = record {
  logged = Plays slot input left Noted old.slot new.slot old.input new.input;
  noted = Noted;
  old = states_of input.failed seen screen_failed written script_failed old;
  new = states_of input.failed seen screen_failed written script_failed new;
}

-- what the screen and the transcript's target took
abbrev pub taken_of : DeviceStates → Taken
taken_of d = record { screen = d.screen.taken; script = d.script.taken }

-- a write to one of them has failed
abbrev pub write_failed : DeviceStates → Bool
write_failed d = d.screen.failed || d.script.failed

-- no device has failed
pub record Work {I S T K : Type 0} (unread : I → Bool) (screen_failed : S → Bool) (script_failed : T → Bool)
    (d : Devices I S T K) : Type 0 where
  pub input : unread d.input ≡ false
  pub screen : screen_failed d.screen ≡ false
  pub script : script_failed d.script ≡ false

-- A machine was played up to its stop: there is a log of it, of which each device has its part, or a first part of it
-- where a write has failed.
pub record IsPlayedBy (p : Play) (machine : Session) (stop : Stop) : Type 0 where
  pub logged : p.logged machine stop (write_failed p.new) (taken_of p.old) (taken_of p.new)
  pub unread : p.new.unread ≡ true → stop ≡ Read

-- the screen and the script got nothing, and nothing was noted
pub record GotNothing (p : Play) : Type 0 where
  pub screen : p.new.screen ≡ p.old.screen
  pub script : p.new.script ≡ p.old.script
  pub noted : p.noted []

-- a story was played with its seed, limits and view, or there was no memory to start it
abbrev pub IsRun : Play → List ℕ → Settings → Stop → Type 0
IsRun p story settings stop =
    IsPlayedBy p (begun story settings.seed settings.limits settings.view) stop ⊎ ((stop ≡ Memory) × GotNothing p)

-- a story's run ends the program
abbrev pub EndsRun : Play → List ℕ → Settings → Exit → Type 0
EndsRun p story settings (Stopped stop) = IsRun p story settings stop
EndsRun p story settings exit = ⊥

-- bytes were read of a file whose bytes may be known
abbrev pub AreRead : Option (List ℕ) → List ℕ → Type 0
AreRead file bytes = IfSome file (λ all. bytes ≡ bytes_read all)

-- a reader's bytes, where it tells them, are a story that has ended so; or nothing was done, since they are refused or
-- it can't be read
abbrev pub EndsBy : Option (List ℕ) → Type 0 → (List ℕ → Exit → Type 0) → Exit → Type 0
EndsBy file Nothing Ended (Unread e) = Nothing
EndsBy file Nothing Ended (Refused e) = (bytes : List ℕ) × AreRead file bytes × (refusal bytes ≡ Some e) × Nothing
EndsBy file Nothing Ended exit = (bytes : List ℕ) × AreRead file bytes × (refusal bytes ≡ None) × Ended bytes exit

-- a reader's bytes end a play
abbrev pub EndsPlay : Play → Option (List ℕ) → Settings → Exit → Type 0
EndsPlay p file settings exit = EndsBy file (GotNothing p) (λ story. EndsRun p story settings) exit

-- the program has ended so; a device for errors, before and after that, was told how, and the status says it
pub record IsReported (Ends : Exit → Type 0) (old new : Device) (status : ℕ) : Type 0 where
  pub exit : Exit
  pub ends : Ends exit
  pub status_is : status ≡ exit_status exit
  pub lines : TookExplained exit (last_line exit) old new

-- the machine of a reader's story stands at its start, or there was no memory for it; or the story is refused or can't
-- be read
abbrev pub IsStarted : Option (List ℕ) → Settings → Result Session Exit → Type 0
IsStarted file settings (Ok machine) = (story : List ℕ) × AreRead file story × (refusal story ≡ None)
    × (machine ≡ begun story settings.seed settings.limits settings.view)
IsStarted file settings (Err exit) = EndsBy file (Unit {0}) (λ story ended. ended ≡ Stopped Memory) exit

-- a reader's story was opened, or there was no memory for it; or it is refused or can't be read
abbrev pub IsOpened : Option (List ℕ) → Result (List ℕ) Exit → Type 0
IsOpened file (Ok story) = AreRead file story × (refusal story ≡ None)
IsOpened file (Err exit) = EndsBy file (Unit {0}) (λ story ended. ended ≡ Stopped Memory) exit
