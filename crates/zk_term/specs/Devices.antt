-- What a device took of the bytes that it was given.
use Rattle.std.specs.Prelude.{◌≡◌, ℕ, Bool, true, false, List, [], ◌++◌, Option, encode_utf8_all}
use Rattle.std.specs.Io.KnownBytes.{Appends}

-- the last that a device did was this
abbrev pub HasJust : {D : Type 0} → (D → D → Type 0) → D → Type 0
HasJust {D} does now = (before : D) × does before now

-- a first part of some bytes was taken
pub record TookPart (old new : Option (List ℕ)) (bytes : List ℕ) : Type 0 where
  pub part : List ℕ
  pub rest : List ℕ
  pub whole : bytes ≡ part ++ rest
  pub takes : Appends old new part

-- the bytes that a device took, where it tells them, and whether a write has failed
pub record Device : Type 0 where
  pub taken : Option (List ℕ)
  pub failed : Bool

-- a device, by what it tells of itself
abbrev pub device : {D : Type 0} → (D → Option (List ℕ)) → (D → Bool) → D → Device
device {D} taken failed d = record { taken = taken d; failed = failed d }

-- a device that was given some bytes took a first part: all where no write has failed by now, and none
-- where one had failed before
pub record Took (old new : Device) (bytes : List ℕ) : Type 0 where
  pub part : List ℕ
  pub rest : List ℕ
  pub whole : bytes ≡ part ++ rest
  pub takes : Appends old.taken new.taken part
  pub all : new.failed ≡ false → (old.failed ≡ false) × (rest ≡ [])
  pub none : old.failed ≡ true → part ≡ []

-- a device was given some characters, as UTF-8
unfoldable pub Shows : Device → Device → List ℕ → Type 0
Shows old new characters = Took old new (encode_utf8_all characters)

-- ---- bytes that wait

-- a device took the first of some bytes, and the others wait
pub record PassedOn (old new : Option (List ℕ)) (bytes waiting : List ℕ) : Type 0 where
  pub part : List ℕ
  pub whole : bytes ≡ part ++ waiting
  pub takes : Appends old new part

-- a device, with the bytes that wait to be given to it
pub record Sender : Type 0 where
  pub taken : Option (List ℕ)
  pub waiting : List ℕ
  pub failed : Bool

-- bytes were sent to a device: after those that waited before, it took a first part of all, and while no write has
-- failed the others wait; none, where a write had failed before
pub record Sent (old new : Sender) (bytes : List ℕ) : Type 0 where
  pub part : List ℕ
  pub rest : List ℕ
  pub whole : old.waiting ++ bytes ≡ part ++ rest
  pub takes : Appends old.taken new.taken part
  pub all : new.failed ≡ false → (old.failed ≡ false) × (rest ≡ new.waiting)
  pub none : old.failed ≡ true → part ≡ []

-- characters were sent to a device, as UTF-8
unfoldable pub Sends : Sender → Sender → List ℕ → Type 0
Sends old new characters = Sent old new (encode_utf8_all characters)
