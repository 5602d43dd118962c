-- A turn: a run up to a read or a stop, with the answers of a slot on its way.
use Rattle.std.proofs.Common.{◌≡◌, ◌≤◌, ◌<◌, ◌||◌, ℕ, ◌+◌, ◌-◌, Bool, true, false, List, [], ◌∷◌, Option, Some, None}
use Rattle.std.proofs.Common.{refl, arith}
use Rattle.zk_step.specs.declared.state.ending.Event.TheVariants as event
use Rattle.zk_vm.specs.declared.stop.Stop.{Stop}
use Rattle.zk_vm.specs.declared.waiting.Waiting.{Waiting}
use Rattle.zk_vm.specs.Answers.{first_code, answered}
use Rattle.zk_vm.specs.Answers.Answer.{Typed}
use Rattle.zk_vm.specs.Halts.{event_waited}
use Rattle.zk_vm.specs.Sessions.{Session, given, given_to}

-- a character is a line's first code
char_to : (w : Waiting) (s : Session) (codes : List ℕ) → w.wait ≡ event.Char
    → given_to (Some w) s (Typed (first_code codes ∷ []) 13) ≡ given_to (Some w) s (Typed codes 13)
unfolding answered
char_to w s codes e = rw e refl

char_by : (w : Option Waiting) (s : Session) (codes : List ℕ) → event_waited w ≡ Some event.Char
    → given_to w s (Typed (first_code codes ∷ []) 13) ≡ given_to w s (Typed codes 13)
char_by None s codes h = absurd cc
char_by (Some w) s codes h = let char : w.wait ≡ event.Char = cc in char_to w s codes char

pub char_given : (s : Session) (codes : List ℕ) → event_waited s.waiting ≡ Some event.Char
    → given s (Typed (first_code codes ∷ []) 13) ≡ given s (Typed codes 13)
unfolding given
char_given s codes h = char_by s.waiting s codes h

pub either_false : (a b : Bool) → (a || b) ≡ false → (a ≡ false) × (b ≡ false)
either_false true b h = absurd cc
either_false false b h = (refl, h)

-- ---- how many answers a slot can still give

abbrev pub steps_left : Option Stop → ℕ → ℕ → ℕ
steps_left None steps most = most - steps
steps_left (Some stop) steps most = 0

fewer_steps_by : (x : Option Stop) (before mid after most : ℕ) → before ≤ mid → mid < most
    → (x ≡ None → after ≡ mid + 1) → steps_left x after most < most - before
fewer_steps_by None before mid after most h k counted = let e = counted refl in omega arith
fewer_steps_by (Some stop) before mid after most h k counted = omega arith

pub fewer_steps : (x y : Option Stop) (before mid after most most' : ℕ) → y ≡ None → most' ≡ most → before ≤ mid
    → mid < most → (x ≡ None → after ≡ mid + 1) → steps_left x after most' < steps_left y before most
fewer_steps x None before mid after most most' e f h k counted =
    rw f (fewer_steps_by x before mid after most h k counted)
fewer_steps x (Some stop) before mid after most most' e f h k counted = absurd cc
