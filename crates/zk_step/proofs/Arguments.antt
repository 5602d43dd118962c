-- Arguments and initial values, one local variable after another.
use Rattle.std.proofs.Common.{◌≡◌, ℕ, zero, suc, ◌+◌, ◌-◌, ◌<◌, ◌≤◌, List, [], ◌∷◌, ◌++◌, drop, get_or, refl, sym, ap}
use Rattle.std.proofs.Common.{arith, add-one, append-nil, append_assoc}
use Rattle.zk_mem.specs.Map.{MemoryMap}
use Rattle.zk_step.specs.Routines.{initial_value, initial_values, with_arguments}

with_none : (xs : List ℕ) → with_arguments xs [] ≡ xs
unfolding with_arguments
with_none [] = refl
with_none (x ∷ xs) = refl

with_dropped : (k : ℕ) (args : List ℕ) (x : ℕ) (xs : List ℕ) → with_arguments (x ∷ xs) (drop k args) ≡ get_or args
    k x ∷ with_arguments xs (drop (suc k) args)
unfolding with_arguments
with_dropped zero [] x xs = ap (λ (l : List ℕ). x ∷ l) (sym (with_none xs))
with_dropped zero (a ∷ args) x xs = refl
with_dropped (suc k) [] x xs = ap (λ (l : List ℕ). x ∷ l) (sym (with_none xs))
with_dropped (suc k) (a ∷ args) x xs = with_dropped k args x xs

pub argument_step : (m : MemoryMap) (front args : List ℕ) (at n k v : ℕ) → k < n
    → v ≡ get_or args k (initial_value m at)
    → front ++ with_arguments (initial_values m at (n - k)) (drop k args) ≡ (front ++ v ∷ [])
    ++ with_arguments (initial_values m (at + 2) (n - (k + 1))) (drop (k + 1) args)
unfolding initial_values
argument_step m front args at n k v lt e =
    let more : n - k ≡ suc (n - (k + 1)) = omega arith in
    rw (more, add-one k, e, append_assoc) (ap (λ (l : List ℕ). front ++ l)
    (with_dropped k args (initial_value m at) (initial_values m (at + 2) (n - suc k))))

pub argument_end : (m : MemoryMap) (front args : List ℕ) (at n k : ℕ) → n ≤ k
    → front ++ with_arguments (initial_values m at (n - k)) (drop k args) ≡ front
unfolding initial_values with_arguments
argument_end m front args at n k le = let none : n - k ≡ zero = omega arith in rw none (append-nil front)
