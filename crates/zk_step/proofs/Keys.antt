-- A key of some letters is that of the first nine.
use Rattle.std.proofs.Common.{◌≡◌, ◌≤◌, ◌<◌, ℕ, ◌+◌, ◌-◌, List, [], ◌∷◌, ◌++◌, length, take, drop, Option, Some, None}
use Rattle.std.proofs.Common.{Bool, true, false, ◌==◌, nat_lt, refl, sym, ◌∙◌, ap, arith, inl, inr, append_assoc}
use Rattle.std.proofs.Common.{length-append, Ok, Err}
use Rattle.std.specs.Prelude.{if◌then◌else◌}
use Rattle.std.proofs.lemmas.Bool.{cases_Bool}
use Rattle.std.proofs.lemmas.Bool.Decides.{nat_tests}
use Rattle.std.proofs.lemmas.List.{take_all, length-take, take-append-le, take-append-drop}
use Rattle.zk_mem.specs.declared.fault.Fault.{Fault}
use Rattle.zk_mem.specs.Map.{MemoryMap, byte_at}
use Rattle.zk_text.specs.declared.alphabet.Row.TheVariants.{A0, A1}
use Rattle.zk_text.specs.Keys.{place, a2_place, spelled, spelling, spellings, fives, key_characters, key_of}
use Rattle.zk_text.proofs.Spells.{take_full}
use Rattle.zk_tables.specs.Parsing.{letters_counted}
use Rattle.zk_code.specs.declared.opcode.Words.TheVariants.{EncodeText}
use Rattle.zk_tables.specs.Runs.{bytes_put}
use Rattle.zk_step.specs.Values.{first, second, third, fourth}
use Rattle.zk_step.specs.Words.{words_changed}
use Rattle.zk_tables.proofs.Dividing.{after, after_none, counted_on, counted_faults, counted_ends}

spelled_some : (lower upper sign : Option ℕ) (c : ℕ) → 1 ≤ length (spelled lower upper sign c)
spelled_some (Some z) upper sign c = omega arith
spelled_some None (Some z) sign c = omega arith
spelled_some None None (Some z) c = omega arith
spelled_some None None None c = omega arith

spelling_if : (b : Bool) (xs ys : List ℕ) → 1 ≤ length xs → 1 ≤ length ys → 1 ≤ length (if b then xs else ys)
spelling_if true xs ys h k = h
spelling_if false xs ys h k = k

spelling_some : (m : MemoryMap) (c : ℕ) → 1 ≤ length (spelling m c)
unfolding spelling
spelling_some m c =
    spelling_if (c == 32) _ _ (omega arith) (spelled_some (place m A0 c) (place m A1 c) (a2_place m c) c)

spellings_long : (m : MemoryMap) (cs : List ℕ) → length cs ≤ length (spellings m cs)
unfolding spellings
spellings_long m [] = omega arith
spellings_long m (c ∷ cs) =
    omega (arith, length-append (spelling m c) (spellings m cs), spelling_some m c, spellings_long m cs)

spellings_join : (m : MemoryMap) (cs ds : List ℕ) → spellings m (cs ++ ds) ≡ spellings m cs ++ spellings m ds
unfolding spellings
spellings_join m [] ds = refl
spellings_join m (c ∷ cs) ds = ap (λ (zs : List ℕ). spelling m c ++ zs) (spellings_join m cs ds)
    ∙ sym (append_assoc (spelling m c) (spellings m cs) (spellings m ds))

longer : (n : ℕ) (cs : List ℕ) (h : n ≤ length cs) → n ≤ length (take n cs)
longer n cs h = let short = length-take n cs in omega arith

-- the Z-characters of a key are those of the first nine letters
characters_of_nine : (m : MemoryMap) (most : ℕ) (cs : List ℕ) → most ≤ 9
    → key_characters m most (take 9 cs) ≡ key_characters m most cs
characters_of_nine m most cs h = elim (cases_Bool (nat_lt (length cs) 9)) [
  | inl t ↦ (let short : length cs ≤ 9 = grind (arith, nat_tests) in rw (take_all 9 cs short) refl)
  | inr t ↦ (let long : 9 ≤ length cs = grind (arith, nat_tests) in
      let enough : most ≤ length (spellings m (take 9 cs)) = omega (
        arith,
        spellings_long m (take 9 cs),
        longer 9 cs long,
      ) in
      let whole : spellings m cs ≡ spellings m (take 9 cs) ++ spellings m (drop 9 cs) = ap (spellings m)
      (sym (take-append-drop 9 cs)) ∙ spellings_join m (take 9 cs) (drop 9 cs) in
      rw (whole, append_assoc (spellings m (take 9 cs)) (spellings m (drop 9 cs)) (fives most))
      (take_full most (spellings m (take 9 cs)) (fives most) (spellings m (drop 9 cs) ++ fives most) enough))
]

pub key_of_nine : (m : MemoryMap) (cs : List ℕ) → key_of m (take 9 cs) ≡ key_of m cs
unfolding key_of
key_of_nine m cs = rw (characters_of_nine m 6 cs (omega arith), characters_of_nine m 9 cs (omega arith)) refl

-- ---- reading them

-- the first i of n letters from an address on were read, and of these the first nine are kept
pub record Seen (m : MemoryMap) (a n i : ℕ) (items : List ℕ) : Type 0 where
  pub seen : List ℕ
  pub so_far : letters_counted m a n ≡ after seen (letters_counted m (a + i) (n - i))
  pub first : items ≡ take 9 seen
  pub count : length seen ≡ i

pub seen_none : (m : MemoryMap) (a n : ℕ) → Seen m a n 0 []
seen_none m a n =
    record {
      seen = [];
      so_far = let here : a + 0 ≡ a = omega arith in let all : n - 0 ≡ n = omega arith in
          rw (here, all) (after_none (letters_counted m a n));
      first = refl;
      count = refl;
    }

pub seen_first : (m : MemoryMap) (a n i c : ℕ) (items : List ℕ) → i < n → byte_at m (a + i) ≡ Ok c
    → length items < 9 → Seen m a n i items → Seen m a n (i + 1) (items ++ c ∷ [])
seen_first m a n i c items h there room s = record {
  seen = s.seen ++ c ∷ [];
  so_far = s.so_far ∙ counted_on m a n i c s.seen h there;
  first = let short : length s.seen ≤ 8 = omega (arith, ap length s.first, length-take 9 s.seen) in
      let all : take 9 s.seen ≡ s.seen = take_all 9 s.seen (omega arith) in
      let more : length (s.seen ++ c ∷ []) ≤ 9 = omega (arith, length-append s.seen (c ∷ [])) in
      ap (λ (xs : List ℕ). xs ++ c ∷ []) (s.first ∙ all) ∙ sym (take_all 9 (s.seen ++ c ∷ []) more);
  count = omega (arith, length-append s.seen (c ∷ []), s.count);
}

pub seen_past : (m : MemoryMap) (a n i c : ℕ) (items : List ℕ) → i < n → byte_at m (a + i) ≡ Ok c
    → 9 ≤ length items → Seen m a n i items → Seen m a n (i + 1) items
seen_past m a n i c items h there full s = record {
  seen = s.seen ++ c ∷ [];
  so_far = s.so_far ∙ counted_on m a n i c s.seen h there;
  first = let long : 9 ≤ length s.seen = omega (arith, ap length s.first, length-take 9 s.seen) in
      s.first ∙ sym (take-append-le 9 s.seen (c ∷ []) long);
  count = omega (arith, length-append s.seen (c ∷ []), s.count);
}

pub seen_faults : (m : MemoryMap) (a n i : ℕ) (items : List ℕ) (e : Fault) → i < n → byte_at m (a + i) ≡ Err e
    → Seen m a n i items → letters_counted m a n ≡ Err e
seen_faults m a n i items e h there s = s.so_far ∙ counted_faults m a n i s.seen e h there

pub seen_all : (m : MemoryMap) (a n i : ℕ) (items : List ℕ) → n ≤ i → Seen m a n i items
    → (letters : List ℕ) × (letters_counted m a n ≡ Ok letters) × (items ≡ take 9 letters)
seen_all m a n i items h s = (s.seen, s.so_far ∙ counted_ends m a n i s.seen h, s.first)

pub encoded : (m : MemoryMap) (vs letters items : List ℕ) → letters_counted m (first vs + third vs)
    (second vs) ≡ Ok letters → items ≡ take 9 letters → words_changed EncodeText m vs ≡ bytes_put m (fourth vs)
    (key_of m items)
unfolding words_changed
encoded m vs letters items counted nine = rw (counted, nine, key_of_nine m letters) refl
