-- What is told of an instruction without a run is told of it in each run.
use Rattle.std.proofs.Common.{◌≡◌, ℕ, List, [], ◌∷◌, Option, Some, None, Result, Ok, Err, refl, ap}
use Rattle.std.specs.Prelude.{option_and_then}
use Rattle.zk_mem.specs.declared.fault.Fault.{Fault}
use Rattle.zk_code.specs.declared.instr.Instr.{Instr}
use Rattle.zk_code.specs.declared.operands.Operand.{Operand}
use Rattle.zk_code.specs.declared.operands.Operand.TheVariants.{Large, Small, Variable}
use Rattle.zk_code.specs.Operands.{constant_of}
use Rattle.zk_code.specs.Reading.{instr_at}
use Rattle.zk_step.specs.declared.state.game_state.GameState.{GameState}
use Rattle.zk_step.specs.Variables.{operand_read}
use Rattle.zk_strict.specs.declared.misuse.Extent.{Extent}
use Rattle.zk_strict.specs.declared.misuse.Misuse.{Misuse}
use Rattle.zk_strict.specs.declared.misuse.Watched.{Watched}
use Rattle.zk_strict.specs.declared.misuse.Watched.TheVariants.{Access, Call, Insert}
use Rattle.zk_strict.specs.Misuses.{constant_at, misuse_at, misuse_by, misuse_next, misuse_of, misuse_of_any}
use Rattle.zk_strict.specs.Misuses.{misuse_of_constants, misuse_of_values, watched_by}
use Rattle.zk_strict.specs.Values.{first_taken, second_taken, taken_after}

constant_read : (w : GameState) (o : Operand) (x : ℕ) → constant_of o ≡ Some x → operand_read w o ≡ Ok (w, x)
unfolding operand_read
constant_read w (Large y) x h = let e : y ≡ x = cc in ap (λ (n : ℕ). let r : GameState × ℕ = (w, n) in Ok r) e
constant_read w (Small y) x h = let e : y ≡ x = cc in ap (λ (n : ℕ). let r : GameState × ℕ = (w, n) in Ok r) e
constant_read w (Variable v) x h = absurd cc

first_told : (w : GameState) (os : List Operand) (x : ℕ) → constant_at os 0 ≡ Some x → first_taken w os ≡ Some x
first_told w [] x h = absurd cc
first_told w (o ∷ os) x h = rw (constant_read w o x h) refl

second_told : (w : GameState) (os : List Operand) (x y : ℕ) → constant_at os 0 ≡ Some x → constant_at os 1 ≡ Some y
    → second_taken w os ≡ Some y
unfolding taken_after
second_told w [] x y h k = absurd cc
second_told w (o ∷ []) x y h k = absurd cc
second_told w (o ∷ p ∷ os) x y h k = rw (constant_read w o x h) (rw (constant_read w p y k) refl)

-- with more values known, what was told is told
told_by : (arrays : List Extent) (what : Watched) (f s g t : Option ℕ) (m : Misuse)
    → ((x : ℕ) → f ≡ Some x → g ≡ Some x) → ((x y : ℕ) → f ≡ Some x → s ≡ Some y → t ≡ Some y)
    → misuse_by arrays what f s ≡ Some m → misuse_by arrays what g t ≡ Some m
told_by arrays (Access operation) None s g t m a b h = absurd cc
told_by arrays (Access operation) (Some x) None g t m a b h = absurd cc
told_by arrays (Access operation) (Some x) (Some y) g t m a b h = rw (a x refl, b x y refl refl) h
told_by arrays Call None s g t m a b h = absurd cc
told_by arrays Call (Some x) s g t m a b h = rw (a x refl) h
told_by arrays Insert None s g t m a b h = absurd cc
told_by arrays Insert (Some x) None g t m a b h = absurd cc
told_by arrays Insert (Some x) (Some y) g t m a b h = rw (a x refl, b x y refl refl) h

watched_told : (arrays : List Extent) (what : Option Watched) (f s g t : Option ℕ) (m : Misuse)
    → ((x : ℕ) → f ≡ Some x → g ≡ Some x) → ((x y : ℕ) → f ≡ Some x → s ≡ Some y → t ≡ Some y)
    → option_and_then (λ what. misuse_by arrays what f s) what ≡ Some m
    → option_and_then (λ what. misuse_by arrays what g t) what ≡ Some m
watched_told arrays None f s g t m a b h = absurd cc
watched_told arrays (Some what) f s g t m a b h = told_by arrays what f s g t m a b h

instr_told : (arrays : List Extent) (w : GameState) (i : Instr) (m : Misuse)
    → misuse_of_constants arrays i ≡ Some m → misuse_of_values arrays w i ≡ Some m
unfolding misuse_of
instr_told arrays w i m h =
    watched_told arrays (watched_by i.opcode) (constant_at i.operands 0) (constant_at i.operands 1)
    (first_taken w i.operands) (second_taken w i.operands) m (first_told w i.operands) (second_told w i.operands) h

any_told : (arrays : List Extent) (w : GameState) (r : Result Instr Fault) (m : Misuse)
    → misuse_of_any (misuse_of_constants arrays) r ≡ Some m → misuse_of_any (misuse_of_values arrays w) r ≡ Some m
any_told arrays w (Ok i) m h = instr_told arrays w i m h
any_told arrays w (Err f) m h = absurd cc

pub told_in_runs : (arrays : List Extent) (w : GameState) (a : ℕ) (m : Misuse)
    → misuse_at w.memory arrays a ≡ Some m → misuse_next w arrays a ≡ Some m
told_in_runs arrays w a m h = any_told arrays w (instr_at w.memory a) m h
