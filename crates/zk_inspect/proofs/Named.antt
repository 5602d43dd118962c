-- Where a search begins, when code and routines are named.
use Rattle.std.proofs.Common.{◌≡◌, ℕ, ◌<◌, ◌≤◌, Bool, true, false, List, [], ◌∷◌, ◌++◌, length, max, nat_lt, Option}
use Rattle.std.proofs.Common.{Some, None, refl, arith, inl, inr, if◌then◌else◌}
use Rattle.std.specs.Prelude.{option_to_list}
use Rattle.std.specs.List.{Contains}
use Rattle.std.proofs.lemmas.Grind.{common_steps}
use Rattle.std.proofs.lemmas.List.Elements.{Contains-append_cases}
use Rattle.zk_mem.specs.Header.{header_of}
use Rattle.zk_mem.specs.Map.{MemoryMap}
use Rattle.zk_code.specs.Routines.{code_start}
use Rattle.zk_code.proofs.Reached.{only_one}
use Rattle.zk_inspect.specs.Beside.{inside, roots_of, starts}
use Rattle.zk_inspect.specs.Codes.{AreNear}
use Rattle.zk_inspect.proofs.Inside.{routine_inside}
use Rattle.zk_inspect.proofs.Searching.{nothing_in}

inside_by : (n a b : ℕ) (t : Bool) → nat_lt a n ≡ t → Contains (if t then a ∷ [] else []) b → b ≤ n
inside_by n a b true e h = only_one (λ x. x ≤ n) a (grind (arith, common_steps)) b h
inside_by n a b false e h = absurd (nothing_in b h)

inside_near : (m : MemoryMap) (xs : List ℕ) (a : ℕ) → Contains (inside m xs) a → a ≤ length m.bytes
unfolding inside
inside_near m [] a h = absurd (nothing_in a h)
inside_near m (x ∷ xs) a h =
    elim (Contains-append_cases (if nat_lt x (length m.bytes) then x ∷ [] else []) (inside m xs) a h) [
      | inl here ↦ inside_by (length m.bytes) x a (nat_lt x (length m.bytes)) refl here
      | inr later ↦ inside_near m xs a later
    ]

start_by : (m : MemoryMap) (r a : ℕ) (o : Option ℕ) → code_start m r ≡ o → Contains (option_to_list o) a
    → a ≤ length m.bytes
start_by m r a (Some c) e h = only_one (λ x. x ≤ length m.bytes) c (routine_inside m r c e).1 a h
start_by m r a None e h = absurd (nothing_in a h)

starts_near : (m : MemoryMap) (rs : List ℕ) (a : ℕ) → Contains (starts m rs) a → a ≤ length m.bytes
unfolding starts
starts_near m [] a h = absurd (nothing_in a h)
starts_near m (r ∷ rs) a h = elim (Contains-append_cases (option_to_list (code_start m r)) (starts m rs) a h) [
  | inl here ↦ start_by m r a (code_start m r) refl here
  | inr later ↦ starts_near m rs a later
]

-- a search begins near
pub roots_near : (m : MemoryMap) (xs rs : List ℕ) → (header_of m.file).first_instruction < 65536
    → AreNear m (roots_of m xs rs)
roots_near m xs rs small a h =
    elim (Contains-append_cases ((header_of m.file).first_instruction ∷ []) (inside m xs ++ starts m rs) a h) [
      | inl first ↦ only_one (λ x. x ≤ max (length m.bytes) 65535) (header_of m.file).first_instruction
          (omega arith) a first
      | inr rest ↦ elim (Contains-append_cases (inside m xs) (starts m rs) a rest) [
        | inl here ↦ (let le = inside_near m xs a here in omega arith)
        | inr later ↦ (let le = starts_near m rs a later in omega arith)
      ]
    ]
