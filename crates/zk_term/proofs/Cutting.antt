-- The codes of a line, and the first bytes that they come from.
use Rattle.std.proofs.Common.{◌≡◌, ◌≤◌, ◌<◌, ◌⊎◌, inl, inr, ℕ, zero, suc, ◌+◌, ◌-◌, ◌*◌, true, List, [], ◌∷◌, ◌++◌}
use Rattle.std.proofs.Common.{length, take, drop, map, Option, Some, None, append_assoc, refl, sym, ◌∙◌, ap, arith}
use Rattle.std.proofs.Common.{length-append, length-drop}
use Rattle.std.proofs.lemmas.List.{take-append-drop, take_at, append-nil, drop_all, take_all, take-map, drop-drop}
use Rattle.std.proofs.lemmas.Str.{length-encode, len_utf8_bounds}
use Rattle.std.proofs.Math.Seq.{take-append-add}
use Rattle.std.specs.Char.{len_utf8}
use Rattle.std.specs.List.{AllByRecursion}
use Rattle.std.specs.Prelude.{encode_utf8}
use Rattle.zk_text.specs.Extra.{ExtraTable, is_input_code}
use Rattle.zk_term.specs.Characters.{character_length, character_of, characters_past, characters_of, character_step}
use Rattle.zk_term.specs.Characters.{typed_code, line_codes}
use Rattle.zk_term.proofs.Spelling.{Begins, front, length_of, steps_on, character_on, stray_on, stray_length}

-- ---- the first characters come from the first bytes

cut_stray : (n m b : ℕ) (bytes : List ℕ) → ((rest : List ℕ) (k : ℕ) → n * 4 ≤ k
    → take n (characters_of (take k rest)) ≡ take n (characters_of rest)) → suc n * 4 ≤ suc m
    → character_length (b ∷ bytes) ≡ 0 → take (suc n) (characters_of (take (suc m) (b ∷ bytes))) ≡ take (suc n)
    (characters_of (b ∷ bytes))
cut_stray n m b bytes more w e =
    let none : Begins (b ∷ take m bytes) → ⊥ = λ h.
    let whole : b ∷ bytes ≡ encode_utf8 h.c ++ (h.rest ++ drop m bytes) = ap (λ k. b ∷ k)
    (sym (take-append-drop m bytes)) ∙ ap (λ k. k ++ drop m bytes) h.whole
    ∙ append_assoc (encode_utf8 h.c) h.rest (drop m bytes) in
    omega (
      arith,
      len_utf8_bounds h.c,
      sym e ∙ ap character_length whole ∙ length_of h.c (h.rest ++ drop m bytes)
          h.is_scalar,
    ) in
    ap (take (suc n)) (stray_on b (take m bytes) (stray_length (b ∷ take m bytes) none))
    ∙ ap (λ k. None ∷ k) (more bytes m (omega arith))
    ∙ sym (ap (take (suc n)) (stray_on b bytes e))

cut_character : (n m : ℕ) (bytes : List ℕ) → ((rest : List ℕ) (k : ℕ) → n * 4 ≤ k
    → take n (characters_of (take k rest)) ≡ take n (characters_of rest)) → suc n * 4 ≤ m → Begins bytes
    → take (suc n) (characters_of (take m bytes)) ≡ take (suc n) (characters_of bytes)
cut_character n m bytes more w h =
    let l = len_utf8_bounds h.c in
    let far : m ≡ length (encode_utf8 h.c) + (m - len_utf8 h.c) = omega (arith, length-encode h.c, l) in
    let taken : take m bytes ≡ encode_utf8 h.c ++ take (m - len_utf8 h.c) h.rest = ap (λ k. take k bytes) far
    ∙ ap (λ k. take (length (encode_utf8 h.c) + (m - len_utf8 h.c)) k) h.whole
    ∙ take-append-add (encode_utf8 h.c) h.rest (m - len_utf8 h.c) in
    let inner = more h.rest (m - len_utf8 h.c) (omega (arith, l)) in
    ap (take (suc n)) (character_on (take m bytes) h.c (take (m - len_utf8 h.c) h.rest) h.is_scalar taken)
    ∙ ap (λ k. Some h.c ∷ k) inner
    ∙ sym (ap (take (suc n)) (character_on bytes h.c h.rest h.is_scalar h.whole))

cut_at : (n m b : ℕ) (bytes : List ℕ) → ((rest : List ℕ) (k : ℕ) → n * 4 ≤ k
    → take n (characters_of (take k rest)) ≡ take n (characters_of rest)) → suc n * 4 ≤ m
    → (character_length (b ∷ bytes) ≡ 0) ⊎ Begins (b ∷ bytes)
    → take (suc n) (characters_of (take m (b ∷ bytes))) ≡ take (suc n) (characters_of (b ∷ bytes))
cut_at n zero b bytes more w x = absurd (omega arith)
cut_at n (suc m) b bytes more w (inl e) = cut_stray n m b bytes more w e
cut_at n m b bytes more w (inr h) = cut_character n m (b ∷ bytes) more w h

pub cut_characters : (n : ℕ) (bytes : List ℕ) (m : ℕ) → n * 4 ≤ m → take n (characters_of (take m bytes)) ≡ take n
    (characters_of bytes)
cut_characters zero bytes m w = refl
cut_characters (suc n) [] m w = ap (λ k. take (suc n) (characters_of k)) (take_all m [] (omega arith))
cut_characters (suc n) (b ∷ bytes) m w = cut_at n m b bytes (λ rest k. cut_characters n rest k) w (front (b ∷ bytes))

-- the first 1,020 bytes of a line have all of its codes
pub cut_codes : (t : ExtraTable) (bytes : List ℕ) (m : ℕ) → 1020 ≤ m → line_codes t (take m bytes) ≡ line_codes t bytes
unfolding line_codes
cut_codes t bytes m w = take-map (typed_code t) 255 (characters_of (take m bytes))
    ∙ ap (λ k. map (typed_code t) k) (cut_characters 255 bytes m w)
    ∙ sym (take-map (typed_code t) 255 (characters_of bytes))

-- ---- one code after the other

all_on : (codes : List ℕ) (code : ℕ) → AllByRecursion (λ c. is_input_code c ≡ true) codes
    → is_input_code code ≡ true → AllByRecursion (λ c. is_input_code c ≡ true) (codes ++ code ∷ [])
all_on [] code h e = (e, tt)
all_on (c ∷ codes) code h e = (h.0, all_on codes code h.1 e)

-- these are the first codes of a line, up to a place
pub record Coded (t : ExtraTable) (bytes : List ℕ) (codes : List ℕ) (at : ℕ) : Type 0 where
  pub within : at ≤ length bytes
  pub room : length codes ≤ 255
  pub so_far : take 255 (codes ++ map (typed_code t) (characters_of (drop at bytes))) ≡ line_codes t bytes
  pub typed : AllByRecursion (λ c. is_input_code c ≡ true) codes

pub coded_none : (t : ExtraTable) (bytes : List ℕ) → Coded t bytes [] 0
unfolding line_codes
coded_none t bytes = record { within = omega arith; room = omega arith; so_far = refl; typed = tt }

pub coded_on : (t : ExtraTable) (bytes codes codes' : List ℕ) (at code step : ℕ) (x : Option ℕ)
    → Coded t bytes codes at → at < length bytes → length codes < 255
    → x ≡ character_of (character_length (drop at bytes)) (drop at bytes) → code ≡ typed_code t x
    → is_input_code code ≡ true → step ≡ character_step x → codes' ≡ codes ++ code ∷ []
    → Coded t bytes codes' (at + step)
coded_on t bytes codes codes' at code step x h below room first e input step_is more =
    let s = steps_on (drop at bytes) x (omega (arith, length-drop at bytes)) first in
    let now : map (typed_code t) (characters_of (drop at bytes)) ≡ code ∷ map (typed_code t)
    (characters_of (drop (at + step) bytes)) =
    ap (map (typed_code t)) s.now
    ∙ ap (λ k. k ∷ map (typed_code t) (characters_of (drop (character_step x) (drop at bytes)))) (sym e)
    ∙ ap (λ k. code ∷ map (typed_code t) (characters_of k)) (drop-drop (character_step x) at bytes
    ∙ ap (λ k. drop (at + k) bytes) (sym step_is)) in
    rw more (record {
      within = omega (arith, s.within, length-drop at bytes);
      room = omega (arith, length-append codes (code ∷ []));
      so_far =
          ap (take 255) (append_assoc codes (code ∷ [])
          (map (typed_code t) (characters_of (drop (at + step) bytes))) ∙ ap (λ k. codes ++ k) (sym now)) ∙ h.so_far;
      typed = all_on codes code h.typed input;
    })

pub coded_end : (t : ExtraTable) (bytes codes : List ℕ) (at : ℕ) → Coded t bytes codes at → length bytes ≤ at
    → codes ≡ line_codes t bytes
unfolding characters_of characters_past
coded_end t bytes codes at h past =
    let none : drop at bytes ≡ [] = drop_all at bytes past in
    let so_far : take 255 (codes ++ []) ≡ line_codes t bytes = rw none at h.so_far in
    sym (take_all 255 codes h.room) ∙ ap (take 255) (sym (append-nil codes)) ∙ so_far

pub coded_full : (t : ExtraTable) (bytes codes : List ℕ) (at : ℕ) → Coded t bytes codes at → length codes ≡ 255
    → codes ≡ line_codes t bytes
coded_full t bytes codes at h full =
    sym (take_at codes (map (typed_code t) (characters_of (drop at bytes))) 255 full) ∙ h.so_far

-- ---- the bytes of a line that are kept

pub keep_all : (kept : List ℕ) (b : ℕ) → length kept < 1024 → kept ++ b ∷ [] ≡ take 1024 (kept ++ b ∷ [])
keep_all kept b h = sym (take_all 1024 (kept ++ b ∷ []) (omega (arith, length-append kept (b ∷ []))))

pub keep_full : (kept : List ℕ) (b : ℕ) → length kept ≡ 1024 → kept ≡ take 1024 (kept ++ b ∷ [])
keep_full kept b h = sym (take_at kept (b ∷ []) 1024 h)

pub ruleset of_codes_of = (coded_none, coded_on, coded_end, coded_full)
