-- Setting the header's fields twice.
use Rattle.std.specs.Prelude.{slice_set, slice_index, if◌then◌else◌, bit_and, bit_or, ◌==◌}
use Rattle.std.proofs.Common.{◌≡◌, ◌⊎◌, inl, inr, ◌<◌, ◌∙◌, ℕ, Bool, true, false, List, [], ◌∷◌, length, get_or, nat_lt}
use Rattle.std.proofs.Common.{nat_eq, arith, refl, sym, ap}
use Rattle.std.proofs.lemmas.Bool.Decides.{nat_tests}
use Rattle.std.proofs.lemmas.List.{get_or-set_same, get_or-set_other, set-get_or, set_past}
use Rattle.std.proofs.lemmas.Nat.Bits.{bit_at_and, bit_at_or, same_from_bits}
use Rattle.std.proofs.Math.ListN.{length-set}
use Rattle.zk_mem.specs.declared.memory.Setup.{Setup}
use Rattle.zk_mem.specs.Fresh.{with_values, standard_fields, screen_fields_3, screen_fields_4, screen_fields_5}
use Rattle.zk_mem.specs.Fresh.{with_group, with_fields, fresh, style_flags}
use Rattle.zk_mem.specs.Laws.{SetAgainStays, FreshAgainStays}

-- bits that are kept and bits that are set, twice
masked_twice : (a m f : ℕ) → bit_or (bit_and (bit_or (bit_and a m) f) m) f ≡ bit_or (bit_and a m) f
masked_twice a m f = same_from_bits _ _ (λ i. simp (bit_at_or, bit_at_and) (omega arith))

kept_twice : (a m : ℕ) → bit_and (bit_and a m) m ≡ bit_and a m
kept_twice a m = same_from_bits _ _ (λ i. simp (bit_at_and) (omega arith))

-- a value stands at an address, where the address is there
abbrev Stands : List ℕ → ℕ → ℕ → Type 0
Stands xs a v = a < length xs → get_or xs a 0 ≡ v

-- what stands at an address after values were put over one that stood there
abbrev last_value : List (ℕ × ℕ) → ℕ → ℕ → ℕ
last_value [] a v = v
last_value (p ∷ ps) a v = last_value ps a (if nat_eq a p.0 then p.1 else v)

put_one : (xs : List ℕ) (i x a v : ℕ) → Stands xs a v → Stands (slice_set xs i x) a (if nat_eq a i then x else v)
put_one xs i x a v h = go (nat_eq a i) refl
  where
    go : (b : Bool) → nat_eq a i ≡ b → a < length (slice_set xs i x)
        → get_or (slice_set xs i x) a 0 ≡ (if b then x else v)
    go true e inside =
        let same : a ≡ i = grind (arith, nat_tests) in
        rw same (get_or-set_same xs i x 0 (omega (arith, length-set xs i x, inside, same)))
    go false e inside =
        let other : a ≡ i → ⊥ = (λ same. grind (arith, nat_tests)) in
        get_or-set_other xs i a x 0 other ∙ h (omega (arith, length-set xs i x, inside))

put_all : (ps : List (ℕ × ℕ)) (xs : List ℕ) (a v : ℕ) → Stands xs a v → Stands (with_values ps xs) a (last_value ps a v)
put_all [] xs a v h = h
put_all (p ∷ ps) xs a v h =
    put_all ps (slice_set xs p.0 p.1) a (if nat_eq a p.0 then p.1 else v) (put_one xs p.0 p.1 a v h)

-- each value stands at its address already
abbrev AllStand : List (ℕ × ℕ) → List ℕ → Type 0
AllStand [] xs = Unit {0}
AllStand (p ∷ ps) xs = Stands xs p.0 p.1 × AllStand ps xs

one_stays : (xs : List ℕ) (a v : ℕ) → Stands xs a v → slice_set xs a v ≡ xs
one_stays xs a v h = go (nat_lt a (length xs)) refl
  where
    go : (b : Bool) → nat_lt a (length xs) ≡ b → slice_set xs a v ≡ xs
    go true e = let inside : a < length xs = grind (arith, nat_tests) in
        ap (λ (w : ℕ). slice_set xs a w) (sym (h inside)) ∙ set-get_or xs a 0
    go false e = set_past xs a v (grind (arith, nat_tests))

all_stay : (ps : List (ℕ × ℕ)) (xs : List ℕ) → AllStand ps xs → with_values ps xs ≡ xs
all_stay [] xs h = refl
all_stay (p ∷ ps) xs h =
    let one = one_stays xs p.0 p.1 h.0 in
    ap (λ (ys : List ℕ). with_values ps ys) one ∙ all_stay ps xs h.1

-- what stands at an address before anything is put
as_it_stands : (xs : List ℕ) (a : ℕ) → Stands xs a (slice_index xs a)
as_it_stands xs a = λ inside. refl

-- bits that were kept and set stand there
set_stands : (xs : List ℕ) (a b m f : ℕ) → Stands xs a (bit_or (bit_and b m) f)
    → Stands xs a (bit_or (bit_and (slice_index xs a) m) f)
set_stands xs a b m f h =
    λ inside. let e = h inside in e ∙ sym (ap (λ (v : ℕ). bit_or (bit_and v m) f) e ∙ masked_twice b m f)

kept_stands : (xs : List ℕ) (a b m : ℕ) → Stands xs a (bit_and b m) → Stands xs a (bit_and (slice_index xs a) m)
kept_stands xs a b m h = λ inside. let e = h inside in e ∙ sym (ap (λ (v : ℕ). bit_and v m) e ∙ kept_twice b m)

-- what stands at an address of a list with values put in
put_in : (ps : List (ℕ × ℕ)) (xs : List ℕ) (a : ℕ) → Stands (with_values ps xs) a (last_value ps a (slice_index xs a))
put_in ps xs a = put_all ps xs a (slice_index xs a) (as_it_stands xs a)

early_twice : (bytes : List ℕ) → with_group screen_fields_3
    (with_values standard_fields (with_group screen_fields_3 (with_values standard_fields bytes))) ≡ with_group
    screen_fields_3 (with_values standard_fields bytes)
early_twice bytes =
    let one = with_values standard_fields bytes in
    let two = with_values (screen_fields_3 one) one in
    let standard : with_values standard_fields two ≡ two = all_stay standard_fields two (
      put_all (screen_fields_3 one) one 0x32 1 (put_in standard_fields bytes 0x32),
      (put_all (screen_fields_3 one) one 0x33 1 (put_in standard_fields bytes 0x33), tt),
    ) in
    ap (with_group screen_fields_3) standard ∙ all_stay (screen_fields_3 two) two
    (set_stands two 0x01 (slice_index one 0x01) 0b10101111 0b00100000 (put_in (screen_fields_3 one) one 0x01), tt)

fourth_twice : (setup : Setup) (bytes : List ℕ) → with_group (screen_fields_4 setup)
    (with_values standard_fields (with_group (screen_fields_4 setup) (with_values standard_fields bytes))) ≡ with_group
    (screen_fields_4 setup) (with_values standard_fields bytes)
fourth_twice setup bytes =
    let one = with_values standard_fields bytes in
    let ps = screen_fields_4 setup one in
    let two = with_values ps one in
    let standard : with_values standard_fields two ≡ two = all_stay standard_fields two (
      put_all ps one 0x32 1 (put_in standard_fields bytes 0x32),
      (put_all ps one 0x33 1 (put_in standard_fields bytes 0x33), tt),
    ) in
    ap (with_group (screen_fields_4 setup)) standard
    ∙ all_stay (screen_fields_4 setup two) two (
      put_in ps one 0x1e,
      (
        put_in ps one 0x1f,
        (
          put_in ps one 0x20,
          (
            put_in ps one 0x21,
            (
              set_stands two 0x01 (slice_index one 0x01) 0b01010000 (style_flags setup)
                  (put_in ps one 0x01),
              tt,
            ),
          ),
        ),
      ),
    )

-- with the fields of version 5 after them
late_twice : (setup : Setup) (bytes : List ℕ) → with_group (screen_fields_5 setup)
    (with_group (screen_fields_4 setup) (with_values standard_fields
    (with_group (screen_fields_5 setup) (with_group (screen_fields_4 setup) (with_values standard_fields bytes)))))
    ≡ with_group (screen_fields_5 setup) (with_group (screen_fields_4 setup) (with_values standard_fields bytes))
late_twice setup bytes =
    let one = with_values standard_fields bytes in
    let ps = screen_fields_4 setup one in
    let two = with_values ps one in
    let qs = screen_fields_5 setup two in
    let three = with_values qs two in
    let kept : ℕ = if setup.undo_states == 0 then 0b00000111 else 0b00010111 in
    let standard : with_values standard_fields three ≡ three = all_stay standard_fields three (
      put_all qs two 0x32 1 (put_all ps one 0x32 1 (put_in standard_fields bytes 0x32)),
      (put_all qs two 0x33 1 (put_all ps one 0x33 1 (put_in standard_fields bytes 0x33)), tt),
    ) in
    let fourth : with_values (screen_fields_4 setup three) three
    ≡ three = all_stay (screen_fields_4 setup three) three (
      put_all qs two 0x1e 6 (put_in ps one 0x1e),
      (
        put_all qs two 0x1f 65 (put_in ps one 0x1f),
        (
          put_all qs two 0x20 255 (put_in ps one 0x20),
          (
            put_all qs two 0x21 setup.screen.columns (put_in ps one 0x21),
            (
              set_stands three 0x01 (slice_index one 0x01) 0b01010000 (style_flags setup)
                  (put_all qs two 0x01 (bit_or (bit_and (slice_index one 0x01) 0b01010000) (style_flags setup))
                  (put_in ps one 0x01)),
              tt,
            ),
          ),
        ),
      ),
    ) in
    let fifth : with_values (screen_fields_5 setup three) three ≡ three = all_stay
    (screen_fields_5 setup three) three (
      put_in qs two 0x22,
      (
        put_in qs two 0x23,
        (
          put_in qs two 0x24,
          (
            put_in qs two 0x25,
            (
              put_in qs two 0x26,
              (
                put_in qs two 0x27,
                (
                  put_in qs two 0x2c,
                  (
                    put_in qs two 0x2d,
                    (
                      kept_stands three 0x11 (slice_index two 0x11) kept (put_in qs two 0x11),
                      (kept_stands three 0x10 (slice_index two 0x10) 0b11111110 (put_in qs two 0x10), tt),
                    ),
                  ),
                ),
              ),
            ),
          ),
        ),
      ),
    ) in
    ap (λ (xs : List ℕ). with_group (screen_fields_5 setup) (with_group (screen_fields_4 setup) xs)) standard
    ∙ ap (with_group (screen_fields_5 setup)) fourth ∙ fifth

by_version : (b c : Bool) (setup : Setup) (fields : List ℕ → List ℕ)
    → ((bytes : List ℕ) → fields bytes ≡ (if b then with_group screen_fields_3 (with_values standard_fields bytes)
    else if c then with_group (screen_fields_4 setup) (with_values standard_fields bytes) else with_group
    (screen_fields_5 setup) (with_group (screen_fields_4 setup) (with_values standard_fields bytes))))
    → (bytes : List ℕ) → fields (fields bytes) ≡ fields bytes
by_version true c setup fields is bytes = ap fields (is bytes) ∙ is _ ∙ early_twice bytes ∙ sym (is bytes)
by_version false true setup fields is bytes = ap fields (is bytes) ∙ is _ ∙ fourth_twice setup bytes ∙ sym (is bytes)
by_version false false setup fields is bytes =
    ap fields (is bytes) ∙ is _ ∙ late_twice setup bytes ∙ sym (is bytes)

pub set_again_stays : SetAgainStays
unfolding with_fields
set_again_stays version setup bytes =
    by_version (nat_lt version 4) (nat_lt version 5) setup (with_fields version setup) (λ xs. refl) bytes

pub fresh_again_stays : FreshAgainStays
unfolding fresh
fresh_again_stays file setup = set_again_stays _ setup file

length-values : (ps : List (ℕ × ℕ)) (bytes : List ℕ) → length (with_values ps bytes) ≡ length bytes
length-values [] bytes = refl
length-values (p ∷ ps) bytes = length-values ps (slice_set bytes p.0 p.1) ∙ length-set bytes p.0 p.1

-- of Flags 2 the low byte stays as it is, or loses bits other than 0 and 1
abbrev pub KeepsFlags : List ℕ → List ℕ → Type 0
KeepsFlags xs ys = 0x11 < length ys → (get_or ys 0x11 0 ≡ get_or xs 0x11 0)
    ⊎ ((k : ℕ) × (bit_and k 0b11 ≡ 0b11) × (get_or ys 0x11 0 ≡ bit_and (get_or xs 0x11 0) k))

flags_3 : (bytes : List ℕ) → KeepsFlags bytes (with_group screen_fields_3 (with_values standard_fields bytes))
flags_3 bytes inside =
    let one = with_values standard_fields bytes in
    inl (put_all (screen_fields_3 one) one 0x11 (slice_index bytes 0x11) (put_in standard_fields bytes 0x11) inside)

flags_4 : (setup : Setup) (bytes : List ℕ)
    → KeepsFlags bytes (with_group (screen_fields_4 setup) (with_values standard_fields bytes))
flags_4 setup bytes inside =
    let one = with_values standard_fields bytes in
    inl (put_all (screen_fields_4 setup one) one 0x11 (slice_index bytes 0x11)
    (put_in standard_fields bytes 0x11) inside)

undo_bits : (b : Bool) → bit_and (if b then 0b00000111 else 0b00010111) 0b11 ≡ 0b11
undo_bits true = refl
undo_bits false = refl

flags_5 : (setup : Setup) (bytes : List ℕ) → KeepsFlags bytes
    (with_group (screen_fields_5 setup) (with_group (screen_fields_4 setup) (with_values standard_fields bytes)))
flags_5 setup bytes inside =
    let one = with_values standard_fields bytes in
    let two = with_values (screen_fields_4 setup one) one in
    let kept : ℕ = if setup.undo_states == 0 then 0b00000111 else 0b00010111 in
    let before : Stands two 0x11 (slice_index bytes 0x11) = put_all (screen_fields_4 setup one) one 0x11
    (slice_index bytes 0x11) (put_in standard_fields bytes 0x11) in
    let long : 0x11 < length two = omega (arith, inside, length-values (screen_fields_5 setup two) two) in
    inr (
      kept,
      undo_bits (setup.undo_states == 0),
      put_in (screen_fields_5 setup two) two 0x11 inside
          ∙ ap (λ (v : ℕ). bit_and v kept) (before long),
    )

flags_by : (b c : Bool) (setup : Setup) (bytes : List ℕ)
    → KeepsFlags bytes (if b then with_group screen_fields_3 (with_values standard_fields bytes) else if c
    then with_group (screen_fields_4 setup) (with_values standard_fields bytes) else with_group
    (screen_fields_5 setup) (with_group (screen_fields_4 setup) (with_values standard_fields bytes)))
flags_by true c setup bytes = flags_3 bytes
flags_by false true setup bytes = flags_4 setup bytes
flags_by false false setup bytes = flags_5 setup bytes

pub keeps_flags : (version : ℕ) (setup : Setup) (bytes : List ℕ) → KeepsFlags bytes (with_fields version setup bytes)
unfolding with_fields
keeps_flags version setup bytes = flags_by (nat_lt version 4) (nat_lt version 5) setup bytes
