-- Steps that may fault, taken apart.
use Rattle.std.proofs.Common.{◌≡◌, ℕ, Bool, true, false, cond, Option, Some, None, Result, Ok, Err, refl, ◌⊎◌, inl, inr}
use Rattle.std.specs.Prelude.{IsOk}
use Rattle.zk_mem.specs.declared.fault.Fault.{Fault}
use Rattle.zk_mem.specs.Map.{MemoryMap}
use Rattle.zk_mem.specs.Results.{◌>>=◌}

-- the value of a step that did not fail
pub bind_ok : {A B : Type 0} (r : Result A Fault) (f : A → Result B Fault) (y : B) → (r >>= f) ≡ Ok y
    → (x : A) × (r ≡ Ok x) × (f x ≡ Ok y)
bind_ok (Ok x) f y e = (x, refl, e)
bind_ok (Err d) f y e = absurd cc

-- where a step failed
pub bind_err : {A B : Type 0} (r : Result A Fault) (f : A → Result B Fault) (d : Fault) → (r >>= f) ≡ Err d
    → (r ≡ Err d) ⊎ ((x : A) × (r ≡ Ok x) × (f x ≡ Err d))
bind_err (Ok x) f d e = inr (x, refl, e)
bind_err (Err c) f d e = inl (cc)

-- the side that a test chose
pub chosen : {A : Type 0} (b : Bool) (x y z : A) → cond b x y ≡ z → ((b ≡ true) × (x ≡ z)) ⊎ ((b ≡ false) × (y ≡ z))
chosen true x y z e = inl (refl, e)
chosen false x y z e = inr (refl, e)

abbrev done : {A : Type 0} → A → Result A Fault
done x = Ok x

-- the fault of a step, if it failed
abbrev pub fault_in : {A : Type 0} → Result A Fault → Option Fault
fault_in (Ok x) = None
fault_in (Err e) = Some e

pub no_fault : {A : Type 0} (r : Result A Fault) → fault_in r ≡ None → IsOk r
no_fault (Ok x) e = refl
no_fault (Err d) e = absurd cc

pub its_fault : {A : Type 0} (r : Result A Fault) (d : Fault) → fault_in r ≡ Some d → r ≡ Err d
its_fault (Ok x) d e = absurd cc
its_fault (Err c) d e = let same : c ≡ d = cc in cc

-- what did not fail has a value
pub value_of : {A : Type 0} (r : Result A Fault) → IsOk r → (x : A) × (r ≡ Ok x)
value_of (Ok x) h = (x, refl)
value_of (Err d) h = absurd cc

pub is_ok_of : {A : Type 0} (r : Result A Fault) (x : A) → r ≡ Ok x → IsOk r
is_ok_of (Ok y) x e = refl
is_ok_of (Err d) x e = absurd cc

pub not_err : {A : Type 0} (r : Result A Fault) (d : Fault) → IsOk r → r ≡ Err d → ⊥
not_err (Ok y) d h e = cc
not_err (Err c) d h e = cc

-- a value is one
pub same_value : (x y : ℕ) → done x ≡ done y → x ≡ y
same_value x y e = cc

abbrev failed : Fault → Result ℕ Fault
failed d = Err d

pub same_fault : (c d : Fault) → failed c ≡ failed d → c ≡ d
same_fault c d e = cc

pub same_map : (x y : MemoryMap) → done x ≡ done y → x ≡ y
same_map x y e = cc
