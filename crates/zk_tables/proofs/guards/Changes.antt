-- What a link that is written changes, and several, one after another.
use Rattle.std.proofs.Common.{◌≡◌, ℕ, ◌+◌, ◌%◌, ◌<◌, ◌≤◌, List, [], ◌∷◌, ◌++◌, Ok, refl, sym, ap, ◌∙◌, arith, inl, inr}
use Rattle.std.proofs.Common.{⊎_elim, ◌⊎◌}
use Rattle.std.specs.List.{Contains}
use Rattle.std.proofs.lemmas.List.Elements.{Contains-append_left, Contains-append_right, Contains-append_cases}
use Rattle.std.proofs.lemmas.List.Elements.{Contains-push_cases}
use Rattle.std.proofs.lemmas.Bool.{cases_lt}
use Rattle.zk_mem.specs.Laws.{IsSameBut}
use Rattle.zk_mem.proofs.Writes.{byte_is_written, word_is_written}
use Rattle.zk_mem.specs.Map.{MemoryMap}
use Rattle.zk_tables.specs.declared.links.LinkPlace.{LinkPlace}
use Rattle.zk_tables.specs.Layout.{layout_of}
use Rattle.zk_tables.specs.Links.{number_put, link_put}
use Rattle.zk_tables.specs.guards.TreeLaws.{IsByteOf, ChangesOnly}
use Rattle.zk_tables.proofs.Writes.{IsSameShape, layouts}
use Rattle.zk_tables.proofs.guards.LinkLaw.{address_same, written, link_other}

-- ---- elements

pub first_of : {X : Type 0} (x : X) (xs : List X) → Contains (x ∷ xs) x
first_of x xs = (0, omega arith, refl)

pub later_of : {X : Type 0} (x y : X) (xs : List X) → Contains xs y → Contains (x ∷ xs) y
later_of x y xs h = Contains-append_right (x ∷ []) xs y h

pub none_of : {X : Type 0} (y : X) → Contains [] y → ⊥
none_of y h = let low = h.1 in omega arith

pub one_of : {X : Type 0} (x y : X) (xs : List X) → Contains (x ∷ xs) y → (x ≡ y) ⊎ Contains xs y
one_of x y xs h =
    ⊎_elim (λ front. ⊎_elim (λ none. absurd (none_of y none)) (λ same. inl same) (Contains-push_cases [] x y front))
    (λ more. inr more)
    (Contains-append_cases (x ∷ []) xs y h)

-- ---- bytes

-- a number that is put changes its bytes alone
number_alone : (m n : MemoryMap) (a v : ℕ) → number_put m a v ≡ Ok n
    → IsSameBut m n a (a + (layout_of m.version).link_bytes)
unfolding number_put
number_alone m n a v h = elim (layouts m.version) [
  | inl e ↦ (let w = byte_is_written m n a (v % 256) (rw e at h) in rw e w.alone)
  | inr e ↦ (let w = word_is_written m n a v (rw e at h) in rw e w.alone)
]

outside : (a b c : ℕ) → (a ≤ c → c < b → ⊥) → (c < a) ⊎ (b ≤ c)
outside a b c h =
    ⊎_elim (λ low. inl low) (λ high. ⊎_elim (λ within. absurd (h high within)) (λ past. inr past) (cases_lt c b))
    (cases_lt c a)

-- ---- links

-- a link that is written changes nothing else
pub put_changes : (m n : MemoryMap) (place : LinkPlace) (v : ℕ) → link_put m place v ≡ Ok n
    → ChangesOnly m n (place ∷ [])
put_changes m n place v h =
    let w = written m n place v h in
    let alone = number_alone m n w.0 v w.2 in
    record {
      links = λ q other. link_other m n place q v (λ e. other (rw e (first_of place []))) h;
      others =
          λ a out. alone.others a (outside w.0 (w.0 + (layout_of m.version).link_bytes) a
          (λ low high. out place (first_of place [])
          (record { start = w.0; address = w.1; low = low; high = high })));
      version = alone.version;
      static_base = alone.static_base;
      file = alone.file;
      setup = alone.setup;
      size = alone.size;
    }

pub changes_shape : (m n : MemoryMap) (places : List LinkPlace) → ChangesOnly m n places → IsSameShape m n
changes_shape m n places c = record { version = c.version; static_base = c.static_base; file = c.file; long = c.size }

byte_back : (m n : MemoryMap) (place : LinkPlace) (a : ℕ) → IsSameShape m n → IsByteOf n place a → IsByteOf m place a
byte_back m n place a s b =
    let width : (layout_of n.version).link_bytes ≡ (layout_of m.version).link_bytes =
    ap (λ (v : ℕ). (layout_of v).link_bytes) s.version in
    let high = b.high in
    record { start = b.start; address = sym (address_same m n place s) ∙ b.address; low = b.low; high = omega arith }

-- one change after another
pub changes_join : (l m n : MemoryMap) (ps qs : List LinkPlace) → ChangesOnly l m ps → ChangesOnly m n qs
    → ChangesOnly l n (ps ++ qs)
changes_join l m n ps qs c d = record {
  links = λ q out. d.links q (λ h. out (Contains-append_right ps qs q h)) ∙ c.links q
      (λ h. out (Contains-append_left ps qs q h));
  others = λ a out.
      d.others a (λ place h b. out place (Contains-append_right ps qs place h)
      (byte_back l m place a (changes_shape l m ps c) b))
      ∙ c.others a (λ place h b. out place (Contains-append_left ps qs place h) b);
  version = d.version ∙ c.version;
  static_base = d.static_base ∙ c.static_base;
  file = d.file ∙ c.file;
  setup = d.setup ∙ c.setup;
  size = d.size ∙ c.size;
}

-- of more links nothing else changes either
pub changes_more : (m n : MemoryMap) (ps qs : List LinkPlace) → ((q : LinkPlace) → Contains ps q → Contains qs q)
    → ChangesOnly m n ps → ChangesOnly m n qs
changes_more m n ps qs more c = record {
  links = λ q out. c.links q (λ h. out (more q h));
  others = λ a out. c.others a (λ place h b. out place (more place h) b);
  version = c.version;
  static_base = c.static_base;
  file = c.file;
  setup = c.setup;
  size = c.size;
}
