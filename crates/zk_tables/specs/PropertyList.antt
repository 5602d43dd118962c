-- The property list at an address (Standard, section 12.4).
use Rattle.std.specs.Prelude.{◌≡◌, ◌≢◌, ℕ, zero, suc, ◌+◌, ◌*◌, ◌-◌, ◌/◌, ◌%◌, ◌<◌, ◌≤◌, List, [], ◌∷◌, length, Option}
use Rattle.std.specs.Prelude.{Some, None, Result, Ok, Err, nat_lt, ◌==◌, ◌⊎◌, ◌↔◌, if◌then◌else◌}
use Rattle.zk_mem.specs.declared.fault.Fault.{Fault}
use Rattle.zk_mem.specs.declared.fault.Fault.TheVariants.{BadAddress, BadProperty}
use Rattle.zk_mem.specs.Results.{◌>>=◌}
use Rattle.zk_mem.specs.Map.{MemoryMap, readable_end, byte_at, HasBytes}
use Rattle.zk_tables.specs.declared.lists.Property.{Property}

-- these bytes of data stand from a up to b (section 12.4)
abbrev pub Stands : MemoryMap → ℕ → List ℕ → ℕ → Type 0
Stands m a [] b = a ≡ b
Stands m a (x ∷ xs) b = (byte_at m a ≡ Ok x) × Stands m (a + 1) xs b

-- how the size and the number of a property are spelled: up to version 3 in a byte (section 12.4.1),
-- from version 4 on in two or in one (sections 12.4.2.1 and 12.4.2.2), where bits that are not looked
-- at may be anything
pub data Spelling : Type 0 where
  Early : Spelling
  One : Spelling
  Two : (first_spare second_spare : ℕ) → Spelling

-- a length of 64 is written as 0 (section 12.4.2.1.1)
abbrev pub size_bytes : Spelling → Property → List ℕ
size_bytes Early p = (32 * (p.length - 1) + p.number) ∷ []
size_bytes One p = (64 * (p.length - 1) + p.number) ∷ []
size_bytes (Two x y) p = (128 + 64 * x + p.number) ∷ (64 * y + p.length % 64) ∷ []

-- the spelling is there in a version, and has room for the length and the number (sections 12.4.1 and
-- 12.4.2)
abbrev pub IsWithin : ℕ → Spelling → Property → Type 0
IsWithin v Early p = (v < 4) × (p.number < 32) × (1 ≤ p.length) × (p.length ≤ 8)
IsWithin v One p = (4 ≤ v) × (p.number < 64) × (1 ≤ p.length) × (p.length ≤ 2)
IsWithin v (Two x y) p = (4 ≤ v) × (p.number < 64) × (1 ≤ p.length) × (p.length ≤ 64) × (x < 2)

-- at a stand the size bytes of a property, which a byte 0 does not begin, and its data after them
pub record IsProperty (m : MemoryMap) (a : ℕ) (p : Property) : Type 0 where
  pub spelling : Spelling
  pub within : IsWithin m.version spelling p
  pub bytes : Stands m a (size_bytes spelling p) p.address
  pub more : byte_at m a ≢ Ok 0

-- properties one after the other from a up to b
abbrev pub AreProperties : MemoryMap → ℕ → List Property → ℕ → Type 0
AreProperties m a [] b = a ≡ b
AreProperties m a (p ∷ ps) b = IsProperty m a p × AreProperties m (p.address + p.length) ps b

-- a property list: properties one after the other, then a zero byte (section 12.4.1)
abbrev pub IsPropertyList : MemoryMap → ℕ → List Property → Type 0
IsPropertyList m a ps = (b : ℕ) × AreProperties m a ps b × (byte_at m b ≡ Ok 0)

-- size bytes would begin at a, and one of them lies outside data
abbrev pub LacksSize : MemoryMap → ℕ → Type 0
LacksSize m a =
    (byte_at m a ≡ Err BadAddress) ⊎ ((first : ℕ) × (4 ≤ m.version) × (byte_at m a ≡ Ok first) × (128 ≤ first)
    × (byte_at m (a + 1) ≡ Err BadAddress))

-- the properties leave data before a zero byte
abbrev pub LeavesData : MemoryMap → ℕ → Type 0
LeavesData m a = (ps : List Property) × (b : ℕ) × AreProperties m a ps b × LacksSize m b

-- ---- the list, read from its front on

-- a byte of a property list
unfoldable pub list_byte : MemoryMap → ℕ → Result ℕ Fault
list_byte m a = if nat_lt a (readable_end m) then byte_at m a else Err BadProperty

-- the length in a second size byte
abbrev pub long_length : ℕ → ℕ
long_length second = if second % 64 == 0 then 64 else second % 64

-- the property whose first size byte stands at a
unfoldable pub property_by : MemoryMap → ℕ → ℕ → Result (Option Property) Fault
property_by m a first =
    if first == 0 then Ok None
    else if nat_lt m.version 4 then Ok (Some (record { number = first % 32; address = a + 1; length = first / 32 + 1 }))
    else if nat_lt first 128 then Ok (Some (record { number = first % 64; address = a + 1; length = first / 64 + 1 }))
    else (list_byte m (a + 1) >>= λ second. Ok
    (Some (record { number = first % 64; address = a + 2; length = long_length second })))

-- the property at a, or none at the end of a list
unfoldable pub property_at : MemoryMap → ℕ → Result (Option Property) Fault
property_at m a = list_byte m a >>= property_by m a

-- the number in a first size byte
abbrev pub number_in : ℕ → ℕ → ℕ
number_in version first = if nat_lt version 4 then first % 32 else first % 64

-- the property whose first size byte stands at a, and where its data ends
pub record EndsAt (m : MemoryMap) (a first end : ℕ) : Type 0 where
  pub property : Property
  pub read : property_by m a first ≡ Ok (Some property)
  pub number : property.number ≡ number_in m.version first
  pub behind : property.address + property.length ≡ end

-- a property and those after it, where the list has not ended
abbrev pub with_rest : Option Property → (ℕ → Result (List Property) Fault) → Result (List Property) Fault
with_rest None rest = Ok []
with_rest (Some p) rest = rest (p.address + p.length) >>= λ ps. Ok (p ∷ ps)

-- the properties from a on, where there may be so many
unfoldable pub properties_from : MemoryMap → ℕ → ℕ → Result (List Property) Fault
properties_from m zero a = Err BadProperty
properties_from m (suc n) a = property_at m a >>= λ p. with_rest p (λ b. properties_from m n b)

-- the properties from a on: each takes two bytes, so there are no more than data has addresses
unfoldable pub properties_at : MemoryMap → ℕ → Result (List Property) Fault
properties_at m a = properties_from m (readable_end m) a

-- ---- what is looked for in a list

-- the number of the first property, or 0
abbrev pub first_number : List Property → ℕ
first_number [] = 0
first_number (p ∷ ps) = p.number

-- the first property of a number
abbrev pub first_with : ℕ → List Property → Option Property
first_with n [] = None
first_with n (p ∷ ps) = if p.number == n then Some p else first_with n ps

-- the number of the property after the first one of a number
abbrev pub number_after : ℕ → List Property → Result ℕ Fault
number_after n [] = Err BadProperty
number_after n (p ∷ ps) = if p.number == n then Ok (first_number ps) else number_after n ps

-- the first property of a number in the list at a
unfoldable pub found_at : MemoryMap → ℕ → ℕ → Result (Option Property) Fault
found_at m a n = properties_at m a >>= λ ps. Ok (first_with n ps)

-- the number of the first property, or 0, where there may be so many
unfoldable pub first_number_from : MemoryMap → ℕ → ℕ → Result ℕ Fault
first_number_from m n a = properties_from m n a >>= λ ps. Ok (first_number ps)

-- the same in the list at a
unfoldable pub first_number_at : MemoryMap → ℕ → Result ℕ Fault
first_number_at m a = first_number_from m (readable_end m) a

-- the number of the property after the first one of a number in the list at a
unfoldable pub number_after_at : MemoryMap → ℕ → ℕ → Result ℕ Fault
number_after_at m a n = properties_at m a >>= λ ps. number_after n ps

-- ---- laws

-- what is read is the list that the bytes spell, and it is refused where they leave data: an address has
-- a list or leaves data, and not both; each property takes two bytes at least
pub record IsReading (m : MemoryMap) (a : ℕ) : Type 0 where
  pub list : (ps : List Property) → (properties_at m a ≡ Ok ps) ↔ IsPropertyList m a ps
  pub leaves : (properties_at m a ≡ Err BadProperty) ↔ LeavesData m a
  pub one : ((ps : List Property) × IsPropertyList m a ps) ⊎ LeavesData m a
  pub not_both : (ps : List Property) → IsPropertyList m a ps → LeavesData m a → ⊥
  pub bounded : (ps : List Property) → IsPropertyList m a ps → 2 * length ps ≤ readable_end m

-- at each address, where memory holds bytes
abbrev pub ListsAreRead : Type 0
ListsAreRead = (m : MemoryMap) (a : ℕ) → HasBytes m → IsReading m a

-- an address has at most one property list
abbrev pub AtMostOneList : Type 0
AtMostOneList =
    (m : MemoryMap) (a : ℕ) (ps qs : List Property) → IsPropertyList m a ps → IsPropertyList m a qs → ps ≡ qs
