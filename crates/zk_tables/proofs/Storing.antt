-- Storing words in a parse buffer.
use Rattle.std.proofs.Common.{◌≡◌, ◌≤◌, ◌<◌, ℕ, ◌+◌, ◌*◌, Bool, false, nat_lt, List, length, take, min, drop, get_or}
use Rattle.std.proofs.Common.{drop-cons, add-one, Result, Ok, Err, refl, ◌∙◌, arith, ◌⊎◌, inl, inr}
use Rattle.std.specs.Prelude.{MatchResult}
use Rattle.std.proofs.lemmas.List.{drop_all, take_all}
use Rattle.std.proofs.lemmas.Bool.{cases_Bool}
use Rattle.std.proofs.lemmas.Bool.Decides.{nat_tests}
use Rattle.zk_mem.specs.declared.fault.Fault.{Fault}
use Rattle.zk_mem.specs.declared.fault.Fault.TheVariants.{BadAddress}
use Rattle.zk_mem.specs.Map.{MemoryMap, readable_end, byte_at, byte_put, word_put}
use Rattle.zk_mem.specs.Laws.{IsSameBut}
use Rattle.zk_tables.specs.declared.words.Word.{Word}
use Rattle.zk_tables.specs.Parsing.{block_put, blocks_put, letters_to_zero, letters_of, words_put}
use Rattle.zk_mem.proofs.Writes.{byte_is_written, word_is_written}

-- nothing has changed
pub same_here : (m : MemoryMap) (a b : ℕ) → IsSameBut m m a b
same_here m a b = record {
  version = refl;
  static_base = refl;
  file = refl;
  setup = refl;
  size = refl;
  others = λ c out. refl;
}

-- one change after the other
pub same_on : (m n o : MemoryMap) (a b : ℕ) → IsSameBut m n a b → IsSameBut n o a b → IsSameBut m o a b
same_on m n o a b first then = record {
  version = then.version ∙ first.version;
  static_base = then.static_base ∙ first.static_base;
  file = then.file ∙ first.file;
  setup = then.setup ∙ first.setup;
  size = then.size ∙ first.size;
  others = λ c out. then.others c out ∙ first.others c out;
}

wider : (a b low high c : ℕ) → low ≤ a → b ≤ high → (c < low) ⊎ (high ≤ c) → (c < a) ⊎ (b ≤ c)
wider a b low high c from to (inl below) = inl (omega arith)
wider a b low high c from to (inr above) = inr (omega arith)

-- a part of what may change
pub same_within : (m n : MemoryMap) (a b low high : ℕ) → IsSameBut m n a b → low ≤ a → b ≤ high → IsSameBut m n low high
same_within m n a b low high same from to = record {
  version = same.version;
  static_base = same.static_base;
  file = same.file;
  setup = same.setup;
  size = same.size;
  others = λ c out. same.others c (wider a b low high c from to out);
}

pub same_by_byte : (m n : MemoryMap) (a v low high : ℕ) → byte_put m a v ≡ Ok n → low ≤ a → a < high
    → IsSameBut m n low high
same_by_byte m n a v low high put from to =
    same_within m n a (a + 1) low high (byte_is_written m n a v put).alone from (omega arith)

pub same_by_word : (m n : MemoryMap) (a v low high : ℕ) → word_put m a v ≡ Ok n → low ≤ a → a + 1 < high
    → IsSameBut m n low high
same_by_word m n a v low high put from to =
    same_within m n a (a + 2) low high (word_is_written m n a v put).alone from (omega arith)

-- a write that may be refused
pub byte_beside : (r : Result (Unit {0}) Fault) (m n : MemoryMap) (a v low high : ℕ)
    → MatchResult r (λ _. byte_put m a v ≡ Ok n) (λ e. (byte_put m a v ≡ Err e) × (n ≡ m)) → low ≤ a → a < high
    → IsSameBut m n low high
byte_beside (Ok x) m n a v low high put from to = same_by_byte m n a v low high put from to
byte_beside (Err e) m n a v low high put from to = rw put.1 (same_here m low high)

pub word_beside : (r : Result (Unit {0}) Fault) (m n : MemoryMap) (a v low high : ℕ)
    → MatchResult r (λ _. word_put m a v ≡ Ok n) (λ e. (word_put m a v ≡ Err e) × (n ≡ m)) → low ≤ a → a + 1 < high
    → IsSameBut m n low high
word_beside (Ok x) m n a v low high put from to = same_by_word m n a v low high put from to
word_beside (Err e) m n a v low high put from to = rw put.1 (same_here m low high)

-- ---- one block after the other

pub blocks_on : (m n : MemoryMap) (a i : ℕ) (leaves_unknown : Bool) (words : List Word) (d : Word)
    → i < length words → block_put m (a + 4 * i) leaves_unknown (get_or words i d) ≡ Ok n
    → blocks_put m (a + 4 * i) leaves_unknown (drop i words) ≡ blocks_put n (a + 4 * (i + 1)) leaves_unknown
    (drop (i + 1) words)
unfolding blocks_put
blocks_on m n a i leaves_unknown words d h put =
    let next : a + 4 * (i + 1) ≡ (a + 4 * i) + 4 = omega arith in
    rw (next, drop-cons words i d, put, add-one i) refl

pub blocks_fault : (m : MemoryMap) (a i : ℕ) (leaves_unknown : Bool) (words : List Word) (d : Word) (e : Fault)
    → i < length words → block_put m (a + 4 * i) leaves_unknown (get_or words i d) ≡ Err e
    → blocks_put m (a + 4 * i) leaves_unknown (drop i words) ≡ Err e
unfolding blocks_put
blocks_fault m a i leaves_unknown words d e h put = rw (drop-cons words i d, put) refl

pub blocks_end : (m : MemoryMap) (a i : ℕ) (leaves_unknown : Bool) (words : List Word) → length words ≤ i
    → blocks_put m (a + 4 * i) leaves_unknown (drop i words) ≡ Ok m
unfolding blocks_put
blocks_end m a i leaves_unknown words h = rw (drop_all i words h) refl

-- ---- past data

pub byte_past : (m : MemoryMap) (a : ℕ) → 65536 ≤ a → byte_at m a ≡ Err BadAddress
unfolding byte_at
byte_past m a h = let test : nat_lt a (readable_end m) ≡ false = grind (arith, nat_tests) in rw test refl

pub letters_past : (m : MemoryMap) (text : ℕ) → 65536 ≤ text → letters_of m text ≡ Err BadAddress
unfolding letters_of letters_to_zero
letters_past m text h =
    let gone = byte_past m (text + 1) (omega arith) in
    elim (cases_Bool (nat_lt m.version 5)) [ inl t ↦ rw (t, gone) refl | inr t ↦ rw (t, gone) refl ]

pub words_past : (m : MemoryMap) (parse : ℕ) (leaves_unknown : Bool) (words : List Word) → 65536 ≤ parse
    → words_put m parse leaves_unknown words ≡ Err BadAddress
unfolding words_put
words_past m parse leaves_unknown words h = rw (byte_past m parse h) refl

-- ---- the first words

pub take_most : (words : List Word) (most : ℕ) → take (min (length words) most) words ≡ take most words
take_most words most = elim (cases_Bool (nat_lt (length words) most)) [
  | inl t ↦ (let below : length words ≤ most = grind (arith, nat_tests) in
      let least : min (length words) most ≡ length words = omega arith in
      rw (least, take_all (length words) words (omega arith), take_all most words below) refl)
  | inr t ↦ (let above : most ≤ length words = grind (arith, nat_tests) in
      let least : min (length words) most ≡ most = omega arith in
      rw least refl)
]

pub ruleset of_put_block = (same_here, same_on)

pub ruleset of_put_blocks = (blocks_on, blocks_fault, blocks_end, same_here, same_on)

pub ruleset of_put_words = (words_past, byte_past, same_here, same_on)
