-- What is known of a step that may fault: what it gives, and why it faults.
use Rattle.std.proofs.Common.{◌≡◌, ℕ, ◌+◌, ◌≤◌, Bool, true, false, cond, Option, Some, None, Result, Ok, Err, length}
use Rattle.std.proofs.Common.{refl, sym, subst}
use Rattle.zk_mem.specs.declared.fault.Fault.{Fault}
use Rattle.zk_mem.specs.declared.fault.Fault.TheVariants.{CodePastEnd}
use Rattle.zk_mem.specs.Results.{◌>>=◌}
use Rattle.zk_mem.specs.Map.{MemoryMap, cell_at, code_word_at, HasBytes}
use Rattle.zk_code.specs.Reading.{or_fault, code_byte, code_word}
use Rattle.zk_code.specs.Grammar.{Stands, word}
use Rattle.zk_code.proofs.Standing.{ok_is, err_is, cell_none, word_none, word_stands}

-- a step gives what is so, and faults for a reason
pub record Reads {A : Type 0} (P : A → Type 0) (F : Fault → Type 0) (r : Result A Fault) : Type 0 where
  pub gives : (x : A) → r ≡ Ok x → P x
  pub faults : (d : Fault) → r ≡ Err d → F d

-- a step that gives
pub read_ok : {A : Type 0} {P : A → Type 0} {F : Fault → Type 0} {x : A} → P x → Reads P F (Ok x)
read_ok {A} {P} {F} {x} p = record { gives = λ y e. subst P (ok_is x y e) p; faults = λ d e. absurd cc }

-- a step that faults
pub read_err : {A : Type 0} {P : A → Type 0} {F : Fault → Type 0} {d : Fault} → F d → Reads P F (Err d)
read_err {A} {P} {F} {d} p = record { gives = λ y e. absurd cc; faults = λ c e. subst F (err_is {A = A} d c e) p }

-- steps one after another
pub read_then : {A B : Type 0} {Q : A → Type 0} {P : B → Type 0} {F : Fault → Type 0} (r : Result A Fault)
    (f : A → Result B Fault) → Reads Q F r → ((x : A) → Q x → Reads P F (f x)) → Reads P F (r >>= f)
read_then (Ok x) f h k = k x (h.gives x refl)
read_then (Err d) f h k = read_err (h.faults d refl)

-- the step that a test chooses
pub read_if : {A : Type 0} {P : A → Type 0} {F : Fault → Type 0} (b : Bool) (x y : Result A Fault)
    → (b ≡ true → Reads P F x) → (b ≡ false → Reads P F y) → Reads P F (cond b x y)
read_if true x y h k = h refl
read_if false x y h k = k refl

-- a step that gives more
pub read_more : {A : Type 0} {Q P : A → Type 0} {F : Fault → Type 0} {r : Result A Fault} → Reads Q F r
    → ((x : A) → Q x → P x) → Reads P F r
read_more h k = record { gives = λ x e. k x (h.gives x e); faults = h.faults }

-- a step that is another
pub read_as : {A : Type 0} {P : A → Type 0} {F : Fault → Type 0} {r s : Result A Fault} → r ≡ s → Reads P F s
    → Reads P F r
read_as {A} {P} {F} e h = subst (λ (x : Result A Fault). Reads P F x) (sym e) h

-- a value where there is one
pub read_or : {A : Type 0} {P : A → Type 0} {F : Fault → Type 0} (d : Fault) (o : Option A)
    → ((x : A) → o ≡ Some x → P x) → (o ≡ None → F d) → Reads P F (or_fault d o)
read_or d None g n = read_err (n refl)
read_or d (Some x) g n = read_ok (g x refl)

-- a byte, where one lies inside the story
pub read_byte : {F : Fault → Type 0} (m : MemoryMap) (a : ℕ) → (length m.bytes ≤ a → F CodePastEnd)
    → Reads (λ (v : ℕ). cell_at m a ≡ Some v) F (code_byte m a)
unfolding code_byte
read_byte m a lack = read_or CodePastEnd (cell_at m a) (λ v e. e) (λ none. lack (cell_none m a none))

-- a word, where its two bytes lie inside the story
pub read_word : {F : Fault → Type 0} (m : MemoryMap) (a : ℕ) → HasBytes m
    → (length m.bytes ≤ a + 1 → F CodePastEnd) → Reads (λ (w : ℕ). Stands m a (word w) (a + 2)) F (code_word m a)
unfolding code_word
read_word m a fits lack =
    read_or CodePastEnd (code_word_at m a) (λ w e. word_stands m a w fits e) (λ none. lack (word_none m a none))
