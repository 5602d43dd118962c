-- What a writer does with the bytes that it is given.
use Rattle.std.specs.Prelude.{◌≡◌, ℕ, Bool, true, false, List, [], ◌++◌, Option}
use Rattle.std.proofs.Common.{◌∙◌, append_assoc, append-nil, refl, sym, ap}
use Rattle.std.proofs.KnownBytes.{Appends-nil, Appends-trans}
use Rattle.std.specs.Io.KnownBytes.{Appends}
use Rattle.zk_term.specs.Devices.{PassedOn, TookPart}

-- by whether a write has failed: all of it, or a first part
abbrev pub Wrote : Bool → Option (List ℕ) → Option (List ℕ) → List ℕ → Type 0
Wrote false old new text = Appends old new text
Wrote true old new text = TookPart old new text

-- what a writer tells of itself: the bytes that its target took, where it tells them, those that wait to go there,
-- whether a write to the target has failed, and whether the writer has met one that failed
pub record Sheet : Type 0 where
  pub taken : Option (List ℕ)
  pub waiting : List ℕ
  pub broken : Bool
  pub failed : Bool

abbrev pub sheet : {S : Type 0} → (S → Option (List ℕ)) → (S → Bool) → S → List ℕ → Bool → Sheet
sheet {S} taken has_failed target waiting failed =
    record { taken = taken target; waiting = waiting; broken = has_failed target; failed = failed }

-- bytes were given to a writer, by whether it has met a failed write before and after that: its target took the first
-- of them after those that waited, and the others wait; or it took a first part; or nothing was done
abbrev pub GivenBy : Bool → Bool → Sheet → Sheet → List ℕ → Type 0
GivenBy false false old new bytes =
    PassedOn old.taken new.taken (old.waiting ++ bytes) new.waiting × (new.broken ≡ old.broken)
GivenBy false true old new bytes = TookPart old.taken new.taken (old.waiting ++ bytes) × (new.broken ≡ true)
GivenBy true now old new bytes = (now ≡ true) × (new.taken ≡ old.taken) × (new.broken ≡ old.broken)

pub record Given (old new : Sheet) (bytes : List ℕ) : Type 0 where
  pub by : GivenBy old.failed new.failed old new bytes

by_nothing : (x : Bool) (a : Sheet) → GivenBy x x a a []
by_nothing false a = (record { part = []; whole = append-nil a.waiting; takes = Appends-nil a.taken }, refl)
by_nothing true a = (refl, refl, refl)

-- what waited, two texts, and how much of the first was taken
after : (w s t p v : List ℕ) → w ++ s ≡ p ++ v → w ++ (s ++ t) ≡ p ++ (v ++ t)
after w s t p v h = sym (append_assoc w s t) ∙ ap (λ (l : List ℕ). l ++ t) h ∙ append_assoc p v t

by_twice : (x y z : Bool) (a b c : Sheet) (s t : List ℕ) → GivenBy x y a b s → GivenBy y z b c t
    → GivenBy x z a c (s ++ t)
by_twice false false false a b c s t h k = (
  record {
    part = h.0.part ++ k.0.part;
    whole = after a.waiting s t h.0.part b.waiting h.0.whole ∙ ap (λ (l : List ℕ). h.0.part ++ l) k.0.whole
        ∙ sym (append_assoc h.0.part k.0.part c.waiting);
    takes = Appends-trans a.taken b.taken c.taken h.0.part k.0.part h.0.takes k.0.takes;
  },
  k.1 ∙ h.1,
)
by_twice false false true a b c s t h k = (
  record {
    part = h.0.part ++ k.0.part;
    rest = k.0.rest;
    whole = after a.waiting s t h.0.part b.waiting h.0.whole ∙ ap (λ (l : List ℕ). h.0.part ++ l) k.0.whole
        ∙ sym (append_assoc h.0.part k.0.part k.0.rest);
    takes = Appends-trans a.taken b.taken c.taken h.0.part k.0.part h.0.takes k.0.takes;
  },
  k.1,
)
by_twice false true true a b c s t h k = (
  record {
    part = h.0.part;
    rest = h.0.rest ++ t;
    whole = after a.waiting s t h.0.part h.0.rest h.0.whole;
    takes = rw k.1 h.0.takes;
  },
  k.2 ∙ h.1,
)
by_twice false true false a b c s t h k = let no = k.0 in absurd cc
by_twice true true z a b c s t h k = (k.0, k.1 ∙ h.1, k.2 ∙ h.2)
by_twice true false z a b c s t h k = let no = h.0 in absurd cc

pub given_nothing : (a : Sheet) → Given a a []
given_nothing a = record { by = by_nothing a.failed a }

by_late : (x : Bool) (a : Sheet) (bytes : List ℕ) → x ≡ true → GivenBy x x a a bytes
by_late true a bytes is = (refl, refl, refl)
by_late false a bytes is = absurd cc

-- once a write has failed nothing is done with what is given
pub given_late : (a : Sheet) (bytes : List ℕ) → a.failed ≡ true → Given a a bytes
given_late a bytes is = record { by = by_late a.failed a bytes is }

pub given_twice : (a b c : Sheet) (s t : List ℕ) → Given a b s → Given b c t → Given a c (s ++ t)
given_twice a b c s t h k = record { by = by_twice a.failed b.failed c.failed a b c s t h.by k.by }

-- a writer was given some text of which something holds
pub record WroteSome {S : Type 0} (P : List ℕ → Type 0) (wrote : S → S → List ℕ → Type 0) (old new : S) : Type 0 where
  pub text : List ℕ
  pub is : P text
  pub given : wrote old new text
