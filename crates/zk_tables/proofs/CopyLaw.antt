-- What copying changes.
use Rattle.std.proofs.Common.{◌≡◌, ◌≢◌, ◌<◌, ◌≤◌, ◌⊎◌, ℕ, zero, suc, ◌+◌, ◌%◌, List, [], ◌∷◌, length, get_or, replicate}
use Rattle.std.proofs.Common.{min, true, false, nat_lt, nat_eq, Result, Ok, Err, refl, sym, ap, subst, ◌∙◌, arith, inl}
use Rattle.std.proofs.Common.{inr}
use Rattle.std.proofs.lemmas.Bool.{cases_lt, lt-ltb, le-ltb, ne_eqb}
use Rattle.std.proofs.lemmas.Bool.Decides.{nat_tests}
use Rattle.std.proofs.lemmas.List.{length-replicate, get_or-replicate}
use Rattle.std.proofs.lemmas.Option.{slice_get-get_or}
use Rattle.zk_mem.specs.declared.fault.Fault.{Fault}
use Rattle.zk_mem.specs.Map.{MemoryMap, byte_at, byte_put, cell_at, readable_end, with_byte}
use Rattle.zk_mem.specs.Results.{◌>>=◌}
use Rattle.zk_mem.specs.Laws.{WritesByte}
use Rattle.zk_mem.proofs.Writes.{byte_is_written}
use Rattle.zk_tables.specs.Runs.{places, bytes_read, bytes_stored}
use Rattle.zk_tables.specs.Copying.{byte_copied, copied_at_once, copied_forwards, table_copied}
use Rattle.zk_tables.specs.CopyLaws.{IsSameBeside, IsCopied, CopiesAreWhole, ClearsAreWhole, ForwardsIsAtOnce}
use Rattle.zk_tables.proofs.Units.{read_at, read_length}
use Rattle.zk_tables.proofs.Copies.{IsReadFirst, forwards_at_once, put_is, rest_kept, first_on}
use Rattle.zk_tables.specs.Signed.{magnitude}

-- where a cell is as before, so is the byte
byte_from_cell : (m n : MemoryMap) (c : ℕ) → length n.bytes ≡ length m.bytes → cell_at n c ≡ cell_at m c
    → byte_at n c ≡ byte_at m c
unfolding byte_at cell_at
byte_from_cell m n c size same =
    let end : readable_end n ≡ readable_end m = ap (λ (k : ℕ). min k 65536) size in
    elim (cases_lt c (readable_end m)) [
      | inl inside ↦ (let before = slice_get-get_or m.bytes c 0 (omega arith) in
          let after = slice_get-get_or n.bytes c 0 (omega arith) in
          let item : get_or n.bytes c 0 ≡ get_or m.bytes c 0 = cc in
          rw (end, lt-ltb c (readable_end m) inside, item) refl)
      | inr outside ↦ rw (end, le-ltb c (readable_end m) outside) refl
    ]

both_parts : {A B : Type 0} (r : Result A Fault) (f : A → Result B Fault) (y : B) → (r >>= f) ≡ Ok y
    → (x : A) × (r ≡ Ok x) × (f x ≡ Ok y)
both_parts (Ok x) f y h = (x, refl, h)
both_parts (Err e) f y h = cc

same_self : (m n : MemoryMap) (a : ℕ) → m ≡ n → IsSameBeside m n a 0
same_self m n a e = subst (λ (k : MemoryMap). IsSameBeside m k a 0) e (record {
  version = refl;
  static_base = refl;
  file = refl;
  setup = refl;
  length_is = refl;
  others = λ c out. refl;
})

-- what was stored
pub record IsStored (m n : MemoryMap) (a size : ℕ) (bs : List ℕ) : Type 0 where
  pub bytes : (k : ℕ) → k < size → byte_at n ((a + k) % 65536) ≡ Ok (get_or bs k 0)
  pub beside : IsSameBeside m n a size

-- outside of one address
outside_of : (a c : ℕ) → c ≢ a → (c < a) ⊎ (a + 1 ≤ c)
outside_of a c other = elim (cases_lt c a) [
  | inl below ↦ inl below
  | inr above ↦ inr (let apart : c ≢ a = other in omega arith)
]

beside_on : (m k n : MemoryMap) (a b size : ℕ) → WritesByte m k (a % 65536) b → IsSameBeside k n (a + 1) size
    → IsSameBeside m n a (suc size)
beside_on m k n a b size first rest =
    let alone = first.alone in
    record {
      version = rest.version ∙ alone.version;
      static_base = rest.static_base ∙ alone.static_base;
      file = rest.file ∙ alone.file;
      setup = rest.setup ∙ alone.setup;
      length_is = rest.length_is ∙ alone.size;
      others = λ c out.
          let later : (j : ℕ) → j < size → c ≢ (a + 1 + j) % 65536 = λ j below.
          (let next : a + 1 + j ≡ a + suc j = omega arith in rw next (out (suc j) (omega arith))) in
          let here : c ≢ a % 65536 = (let same : a + 0 ≡ a = omega arith in rw same at (out 0 (omega arith))) in
          rest.others c later ∙ alone.others c (outside_of (a % 65536) c here);
    }

bytes_on : (m k n : MemoryMap) (a b size : ℕ) (bs : List ℕ) → size < 65536 → WritesByte m k (a % 65536) b
    → IsStored k n (a + 1) size bs → (j : ℕ) → j < suc size → byte_at n ((a + j) % 65536) ≡ Ok (get_or (b ∷ bs) j 0)
bytes_on m k n a b size bs few first rest zero below =
    let beside = rest.beside in
    let same : a + 0 ≡ a = omega arith in
    let kept = beside.others (a % 65536) (λ j lower e. omega arith) in
    rw same (byte_from_cell k n (a % 65536) beside.length_is kept ∙ first.written)
bytes_on m k n a b size bs few first rest (suc j) below =
    let next : a + suc j ≡ a + 1 + j = omega arith in
    rw next (rest.bytes j (omega arith))

stored_all : (m n : MemoryMap) (a size : ℕ) (bs : List ℕ) → size ≤ 65536 → length bs ≡ size
    → bytes_stored m (places a size) bs ≡ Ok n → IsStored m n a size bs
unfolding places bytes_stored
stored_all m n a zero bs few long h = record {
  bytes = λ k below. absurd (omega arith);
  beside = same_self m n a cc;
}
stored_all m n a (suc size) [] few long h = absurd (omega arith)
stored_all m n a (suc size) (b ∷ bs) few long h =
    let p = both_parts (byte_put m (a % 65536) b) (λ (k : MemoryMap). bytes_stored k (places (a + 1) size) bs) n h in
    let first = byte_is_written m p.0 (a % 65536) b p.1 in
    let rest = stored_all p.0 n (a + 1) size bs (omega arith) (omega arith) p.2 in
    record {
      bytes = bytes_on m p.0 n a b size bs (omega arith) first rest;
      beside = beside_on m p.0 n a b size first rest.beside;
    }

at_once_whole : (m n : MemoryMap) (first second size : ℕ) → size ≤ 65536
    → copied_at_once m (places first size) (places second size) ≡ Ok n → IsCopied m n first second size
at_once_whole m n first second size few h =
    let p = both_parts (bytes_read m (places first size))
    (λ (bs : List ℕ). bytes_stored m (places second size) bs) n h in
    let stored = stored_all m n second size p.0 few (read_length m first size p.0 p.1) p.2 in
    record {
      bytes = λ k below. stored.bytes k below ∙ sym (read_at m first size k p.0 p.1 below);
      beside = stored.beside;
    }

pub copies_are_whole : CopiesAreWhole
unfolding table_copied
copies_are_whole m n first second size some small h =
    let other : nat_eq second 0 ≡ false = ne_eqb second 0 some in
    let positive : nat_lt size 32768 ≡ true = lt-ltb size 32768 small in
    at_once_whole m n first second size (omega arith) (rw (other, positive) at h)

magnitude_below : (size : ℕ) → size < 65536 → magnitude size ≤ 65536
magnitude_below size h = grind (arith, nat_tests)

pub clears_are_whole : ClearsAreWhole
unfolding table_copied
clears_are_whole m n first size word h =
    let few = magnitude_below size word in
    let stored = stored_all m n first (magnitude size) (replicate (magnitude size) 0) few
    (length-replicate (magnitude size) 0) h in
    record {
      bytes = λ k below. stored.bytes k below ∙ ap Ok (get_or-replicate (magnitude size) k 0 0 below);
      beside = stored.beside;
    }

-- what was copied forwards, where no byte is read after another was stored over it, was copied at once
at_once_from : (m n : MemoryMap) (a b size : ℕ) → IsReadFirst a b size
    → copied_forwards m (places a size) (places b size) ≡ Ok n → copied_at_once m (places a size) (places b size) ≡ Ok n
unfolding places bytes_read bytes_stored copied_forwards
at_once_from m n a b zero first h = h
at_once_from m n a b (suc size) first h =
    let p = both_parts (byte_copied m (a % 65536) (b % 65536))
    (λ (k : MemoryMap). copied_forwards k (places (a + 1) size) (places (b + 1) size)) n h in
    let q = both_parts (byte_at m (a % 65536)) (λ (x : ℕ). byte_put m (b % 65536) x) p.0 p.1 in
    let rest = at_once_from p.0 n (a + 1) (b + 1) size (first_on a b size first) p.2 in
    let r = both_parts (bytes_read p.0 (places (a + 1) size))
    (λ (xs : List ℕ). bytes_stored p.0 (places (b + 1) size) xs) n rest in
    let after : bytes_read (with_byte m (b % 65536) q.0) (places (a + 1) size) ≡ Ok
    r.0 = subst (λ (k : MemoryMap). bytes_read k (places (a + 1) size) ≡ Ok r.0)
    (sym (put_is m p.0 (b % 65536) q.0 q.2)) r.1 in
    let reads : bytes_read m (places (a + 1) size) ≡ Ok r.0 = sym (rest_kept m a b size q.0 first) ∙ after in
    rw (q.1, reads, q.2) r.2

pub forwards_is_at_once : ForwardsIsAtOnce
forwards_is_at_once m n first second size apart =
    let order : IsReadFirst first second size = λ i j lower below. apart j i below (omega arith) in
    (λ h. at_once_from m n first second size order h, λ h. forwards_at_once m first second size order (rw h refl) ∙ h)
