-- What putting bytes back leaves, and a second restart.
use Rattle.std.specs.Prelude.{slice_set, slice_index, bit_and, bit_or}
use Rattle.std.proofs.Common.{◌≡◌, ⊎_elim, ◌<◌, ◌∙◌, ℕ, min, List, length, get_or, arith, refl, sym, ap}
use Rattle.std.specs.Int.{bit_at}
use Rattle.std.proofs.lemmas.Bool.{cases_lt}
use Rattle.std.proofs.lemmas.List.{get_or-set_same, set_past, set-get_or}
use Rattle.std.proofs.lemmas.Nat.Bits.{bit_at_and, bit_at_or, same_from_bits, bit_at-zero}
use Rattle.zk_mem.specs.declared.memory.Setup.{Setup}
use Rattle.zk_mem.specs.Fresh.{with_fields}
use Rattle.zk_mem.specs.Again.{with_flags, with_bytes, settled, again, restarted}
use Rattle.zk_mem.specs.Laws.{PutsBack, RestartsOnce, SettlesOnce}
use Rattle.zk_mem.proofs.Again.{keeps_flags, set_again_stays}
use Rattle.zk_mem.proofs.Fields.{length-with_fields, drop-with_fields}
use Rattle.zk_mem.proofs.Settling.{length-with_flags, drop-with_flags}

-- the bits of one number where c has some, and those of another where t has some
abbrev mixed : ℕ → ℕ → ℕ → ℕ → ℕ
mixed a f c t = bit_or (bit_and a c) (bit_and f t)

apart_bits : (c t i : ℕ) → bit_and c t ≡ 0 → min (bit_at c i) (bit_at t i) ≡ bit_at 0 i
apart_bits c t i e = sym (bit_at_and c t i) ∙ ap (λ (n : ℕ). bit_at n i) e

within_bits : (k t i : ℕ) → bit_and k t ≡ t → min (bit_at k i) (bit_at t i) ≡ bit_at t i
within_bits k t i e = sym (bit_at_and k t i) ∙ ap (λ (n : ℕ). bit_at n i) e

bit_none : (i : ℕ) → bit_at 0 i ≡ 0
bit_none i = bit_at-zero i

-- the bits that were put in
low_mixed : (a f c t : ℕ) → bit_and c t ≡ 0 → bit_and (mixed a f c t) t ≡ bit_and f t
low_mixed a f c t e =
    same_from_bits _ _ (λ i. simp (bit_at_or, bit_at_and) (omega (arith, apart_bits c t i e, bit_none i)))

kept_mixed : (a f c t k : ℕ) → bit_and c t ≡ 0 → bit_and k t ≡ t → bit_and (bit_and (mixed a f c t) k) t ≡ bit_and f t
kept_mixed a f c t k e w =
    same_from_bits _ _ (λ i. simp (bit_at_or, bit_at_and)
    (omega (arith, apart_bits c t i e, within_bits k t i w, bit_none i)))

-- put in again
mixed_again : (a f c t : ℕ) → bit_and c t ≡ 0 → mixed (mixed a f c t) f c t ≡ mixed a f c t
mixed_again a f c t e =
    same_from_bits _ _ (λ i. simp (bit_at_or, bit_at_and) (omega (arith, apart_bits c t i e, bit_none i)))

kept_again : (a f c t k : ℕ) → bit_and c t ≡ 0 → bit_and k t ≡ t → mixed (bit_and (mixed a f c t) k) f c
    t ≡ bit_and (mixed a f c t) k
kept_again a f c t k e w =
    same_from_bits _ _ (λ i. simp (bit_at_or, bit_at_and)
    (omega (arith, apart_bits c t i e, within_bits k t i w, bit_none i)))

module _ (version : ℕ) (setup : Setup) (flags : ℕ) (bytes : List ℕ) where
  -- the bytes with flags and fields
  abbrev done : List ℕ
  done = with_fields version setup (with_flags flags bytes)

  length_done : length done ≡ length bytes
  length_done = length-with_fields version setup (with_flags flags bytes) ∙ length-with_flags flags bytes

  flags_put : 0x11 < length bytes → get_or (with_flags flags bytes) 0x11 0 ≡ mixed (slice_index bytes 0x11) flags
      0b11111100 0b11
  flags_put inside = get_or-set_same bytes 0x11 (mixed (slice_index bytes 0x11) flags 0b11111100 0b11) 0 inside

  flags_done : 0x11 < length bytes → bit_and (get_or done 0x11 0) 0b11 ≡ bit_and flags 0b11
  flags_done inside =
      let a = slice_index bytes 0x11 in
      let put = flags_put inside in
      ⊎_elim
      (λ same. ap (λ (n : ℕ). bit_and n 0b11) (same ∙ put) ∙ low_mixed a flags 0b11111100 0b11 refl)
      (λ kept. ap (λ (n : ℕ). bit_and n 0b11) (kept.2 ∙ ap (λ (n : ℕ). bit_and n kept.0) put)
      ∙ kept_mixed a flags 0b11111100 0b11 kept.0 refl kept.1)
      (keeps_flags version setup (with_flags flags bytes) (omega (arith, length_done)))

  again_done : 0x11 < length bytes → mixed (get_or done 0x11 0) flags 0b11111100 0b11 ≡ get_or done 0x11 0
  again_done inside =
      let a = slice_index bytes 0x11 in
      let put = flags_put inside in
      ⊎_elim
      (λ same.
      let is = same ∙ put in
      ap (λ (n : ℕ). mixed n flags 0b11111100 0b11) is ∙ mixed_again a flags 0b11111100 0b11 refl ∙ sym is)
      (λ kept.
      let is = kept.2 ∙ ap (λ (n : ℕ). bit_and n kept.0) put in
      ap (λ (n : ℕ). mixed n flags 0b11111100 0b11) is ∙ kept_again a flags 0b11111100 0b11 kept.0 refl kept.1 ∙ sym is)
      (keeps_flags version setup (with_flags flags bytes) (omega (arith, length_done)))

  flags_again : with_flags flags done ≡ done
  flags_again =
      ⊎_elim
      (λ inside. ap (λ (n : ℕ). slice_set done 0x11 n) (again_done inside) ∙ set-get_or done 0x11 0)
      (λ past. set_past done 0x11 _ (omega (arith, length_done, past)))
      (cases_lt 0x11 (length bytes))

pub settles_once : SettlesOnce
unfolding settled
settles_once flags m =
    let done = with_fields m.version m.setup (with_flags flags m.bytes) in
    ap (with_bytes m) (ap (with_fields m.version m.setup)
    (flags_again m.version m.setup flags m.bytes) ∙ set_again_stays m.version m.setup
    (with_flags flags m.bytes))

pub puts_back : PutsBack
unfolding again settled
puts_back old bytes =
    let flags = slice_index old.bytes 0x11 in
    record {
      version = refl;
      static_base = refl;
      file = refl;
      setup = refl;
      size = length_done old.version old.setup flags bytes;
      others = λ a behind. drop-with_fields a old.version old.setup (with_flags flags bytes) behind
          ∙ drop-with_flags a flags bytes behind;
      flags = λ long. flags_done old.version old.setup flags bytes (omega (arith, long));
    }

-- only two bits are looked at
same_flags : (f g : ℕ) (bytes : List ℕ) → (0x11 < length bytes → bit_and f 0b11 ≡ bit_and g 0b11)
    → with_flags f bytes ≡ with_flags g bytes
same_flags f g bytes same =
    let a = slice_index bytes 0x11 in
    ⊎_elim
    (λ inside. ap (λ (n : ℕ). slice_set bytes 0x11 (bit_or (bit_and a 0b11111100) n)) (same inside))
    (λ past. set_past bytes 0x11 _ past ∙ sym (set_past bytes 0x11 _ past))
    (cases_lt 0x11 (length bytes))

pub restarts_once : RestartsOnce
unfolding restarted again settled
restarts_once m =
    let flags = slice_index m.bytes 0x11 in
    let done = with_fields m.version m.setup (with_flags flags m.file) in
    ap (λ (l : List ℕ). with_bytes m (with_fields m.version m.setup l))
    (same_flags (slice_index done 0x11) flags m.file (flags_done m.version m.setup flags m.file))
