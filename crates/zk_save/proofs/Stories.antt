-- Of which story a saved game is, and whether its memory fits.
use Rattle.std.specs.Prelude.{nat_le, is_some, option_map, codes, replicate, if◌then◌else◌, ◌==◌}
use Rattle.std.specs.Str.{bytes_eq}
use Rattle.std.proofs.Common.{◌≡◌, ◌∙◌, ℕ, zero, suc, ◌+◌, ◌-◌, ◌<◌, ◌≤◌, Bool, true, false, List, [], ◌∷◌, ◌++◌}
use Rattle.std.proofs.Common.{length, take, drop, get_or, Option, Some, None, refl, ap, sym, arith, add-one, drop-cons}
use Rattle.std.proofs.Common.{length-append}
use Rattle.std.proofs.lemmas.Bool.Decides.{nat_tests}
use Rattle.std.proofs.lemmas.List.{drop_all, length-replicate}
use Rattle.zk_save.specs.Unpacking.{before, given, filled, unpacked, xored}
use Rattle.zk_mem.specs.Map.{MemoryMap}
use Rattle.zk_save.specs.Loading.{dynamic_in}
use Rattle.zk_save.specs.Counted.{chunk_seen, given_after, room}

-- ---- packed bytes

room_start_by : (o : Option (List ℕ)) (n : ℕ) → room n 0 o ≡ is_some (filled n o)
room_start_by None n = refl
room_start_by (Some xs) n = let none : 0 + length xs ≡ length xs = omega arith in rw none (by (nat_le (length xs) n))
  where
    by : (b : Bool) → b ≡ is_some (if b then Some (xs ++ replicate (n - length xs) 0) else None)
    by true = refl
    by false = refl

pub room_start : (n : ℕ) (cs : List ℕ) → room n 0 (given_after false (drop 0 cs)) ≡ is_some (unpacked n cs)
unfolding given_after unpacked
room_start n cs = room_start_by (given cs) n

room_before : (o : Option (List ℕ)) (n at : ℕ) (ys : List ℕ) → room n at (before ys o) ≡ room n (at + length ys) o
room_before None n at ys = refl
room_before (Some xs) n at ys = let long : at + length (ys ++ xs) ≡ at + length ys + length
    xs = omega (arith, length-append ys xs) in rw long refl

-- the next byte stands first
here : (cs : List ℕ) (i b : ℕ) → i < length cs → get_or cs i 0 ≡ b → drop i cs ≡ b ∷ drop (i + 1) cs
here cs i b lt e =
    drop-cons cs i 0 lt ∙ ap (λ (x : ℕ). x ∷ drop (suc i) cs) e ∙ ap (λ (k : ℕ). b ∷ drop k cs) (sym (add-one i))

module _ (whole : Bool) (cs : List ℕ) (i n at : ℕ) where
  pub room_run : (b : ℕ) → i < length cs → get_or cs i 0 ≡ b → room n at (given_after true (drop i cs)) ≡ whole
      → room n (at + (b + 1)) (given_after false (drop (i + 1) cs)) ≡ whole
  unfolding given_after
  room_run b lt e h =
      let long : at + length (replicate (b + 1) 0) ≡ at + (b + 1) = ap (λ (k : ℕ). at + k)
      (length-replicate {A = ℕ} (b + 1) 0) in
      ap (λ (k : ℕ). room n k (given (drop (i + 1) cs))) (sym long)
      ∙ sym (room_before (given (drop (i + 1) cs)) n at (replicate (b + 1) 0)) ∙ rw (here cs i b lt e) at h

  zero_given : (xs : List ℕ) → given (0 ∷ xs) ≡ given_after true xs
  unfolding given given_after
  zero_given [] = refl
  zero_given (x ∷ xs) = refl

  pub room_zero : (b : ℕ) → i < length cs → get_or cs i 0 ≡ b → b ≡ 0
      → room n at (given_after false (drop i cs)) ≡ whole → room n at (given_after true (drop (i + 1) cs)) ≡ whole
  unfolding given_after
  room_zero b lt e z h = ap (room n at) (sym (zero_given (drop (i + 1) cs)))
      ∙ ap (λ (k : ℕ). room n at (given (k ∷ drop (i + 1) cs))) (sym z) ∙ rw (here cs i b lt e) at h

  byte_given : (b : ℕ) (xs : List ℕ) → (b ≡ 0 → ⊥) → given (b ∷ xs) ≡ before (b ∷ []) (given xs)
  unfolding given
  byte_given zero xs ne = absurd (ne refl)
  byte_given (suc b) xs ne = refl

  pub room_byte : (b : ℕ) → i < length cs → get_or cs i 0 ≡ b → (b ≡ 0 → ⊥)
      → room n at (given_after false (drop i cs)) ≡ whole
      → room n (at + 1) (given_after false (drop (i + 1) cs)) ≡ whole
  unfolding given_after
  room_byte b lt e ne h = sym (room_before (given (drop (i + 1) cs)) n at (b ∷ []))
      ∙ ap (room n at) (sym (byte_given b (drop (i + 1) cs) ne)) ∙ rw (here cs i b lt e) at h

  room_none : (o : Option (List ℕ)) → n < at → room n at o ≡ false
  room_none None lt = refl
  room_none (Some xs) lt = grind (arith, nat_tests)

  pub room_past : (run : Bool) → n < at → room n at (given_after run (drop i cs)) ≡ whole → false ≡ whole
  room_past run lt h = sym (room_none (given_after run (drop i cs)) lt) ∙ h

  pub room_end : length cs ≤ i → room n at (given_after false (drop i cs)) ≡ whole → nat_le at n ≡ whole
  unfolding given_after given
  room_end le h =
      let none : at + 0 ≡ at = omega arith in
      rw (drop_all i cs le, none) at h

  pub room_lone : length cs ≤ i → room n at (given_after true (drop i cs)) ≡ whole → false ≡ whole
  unfolding given_after
  room_lone le h = rw (drop_all i cs le) at h

-- ---- dynamic memory

some_by : (b : Bool) (xs : List ℕ) → b ≡ is_some (if b then Some xs else None)
some_by true xs = refl
some_by false xs = refl

pub plain_fits : (m : MemoryMap) (name content : List ℕ) (n : ℕ) → bytes_eq name (codes "UMem") ≡ true
    → n ≡ m.static_base → (length content == n) ≡ is_some (dynamic_in m (chunk_seen name content))
unfolding dynamic_in
plain_fits m name content n e h = rw (e, h) (some_by (length content == m.static_base) content)

map_some : (f : List ℕ → List ℕ) (o : Option (List ℕ)) → is_some o ≡ is_some (option_map f o)
map_some f None = refl
map_some f (Some xs) = refl

pub packed_fits : (m : MemoryMap) (name content : List ℕ) (n : ℕ) (b : Bool)
    → bytes_eq name (codes "UMem") ≡ false → n ≡ m.static_base → b ≡ is_some (unpacked n content)
    → b ≡ is_some (dynamic_in m (chunk_seen name content))
unfolding dynamic_in
packed_fits m name content n b e h f =
    rw e (f ∙ ap (λ (k : ℕ). is_some (unpacked k content)) h ∙ map_some (λ ds. xored (take m.static_base m.file) ds)
    (unpacked m.static_base content))
