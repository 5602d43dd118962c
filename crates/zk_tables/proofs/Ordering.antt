-- The order of keys, entry after entry.
use Rattle.std.proofs.Common.{◌≡◌, ◌≤◌, ◌<◌, ℕ, zero, suc, ◌+◌, ◌-◌, true, false, length, refl, ap, arith}
use Rattle.zk_mem.specs.Map.{MemoryMap}
use Rattle.zk_tables.specs.Dictionaries.{key_length, is_above, do_not_fall, bytes_from, keys_from}

pub length_bytes : (m : MemoryMap) (a n : ℕ) → length (bytes_from m a n) ≡ n
unfolding bytes_from
length_bytes m a zero = refl
length_bytes m a (suc n) = ap suc (length_bytes m (a + 1) n)

pub falls_here : (m : MemoryMap) (a l n i : ℕ) → i < n → is_above (bytes_from m a (key_length m.version))
    (bytes_from m (a + l) (key_length m.version)) ≡ true → do_not_fall (keys_from m a l (n + 1 - i)) ≡ false
unfolding do_not_fall keys_from
falls_here m a l n i h test = let e : n + 1 - i ≡ suc (suc (n - (i + 1))) = omega arith in rw (e, test) refl

pub falls_on : (m : MemoryMap) (a l n i : ℕ) → i < n → is_above (bytes_from m a (key_length m.version))
    (bytes_from m (a + l) (key_length m.version)) ≡ false → do_not_fall (keys_from m a l (n + 1 - i)) ≡ do_not_fall
    (keys_from m (a + l) l (n + 1 - (i + 1)))
unfolding do_not_fall keys_from
falls_on m a l n i h test =
    let e : n + 1 - i ≡ suc (suc (n - (i + 1))) = omega arith in
    let f : n + 1 - (i + 1) ≡ suc (n - (i + 1)) = omega arith in
    rw (e, f, test) refl

pub falls_count : (m : MemoryMap) (a l c : ℕ) → c ≤ 1 → do_not_fall (keys_from m a l c) ≡ true
unfolding do_not_fall keys_from
falls_count m a l zero h = refl
falls_count m a l (suc zero) h = refl
falls_count m a l (suc (suc c)) h = absurd (omega (arith, h))

pub falls_end : (m : MemoryMap) (a l n i : ℕ) → n ≤ i → do_not_fall (keys_from m a l (n + 1 - i)) ≡ true
falls_end m a l n i h = falls_count m a l (n + 1 - i) (omega (arith, h))

pub ruleset of_keys_do_not_fall = (falls_end, falls_count)
