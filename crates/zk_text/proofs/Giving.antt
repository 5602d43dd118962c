-- What a sink was given, and what is still to come.
use Rattle.std.proofs.Common.{◌≡◌, ◌∙◌, ℕ, List, [], ◌∷◌, ◌++◌, IsOk, Ok, Err, append_assoc, append-nil, refl, sym, ap}
use Rattle.std.proofs.Common.{subst}
use Rattle.zk_text.specs.declared.unit.Unit.{Unit}
use Rattle.zk_text.specs.declared.alphabet.Row.{Row}
use Rattle.zk_text.specs.declared.pieces.Piece.{Piece}
use Rattle.zk_text.specs.Alphabets.{letter_of}
use Rattle.zk_text.specs.Meaning.{Units, joined, value, values}
use Rattle.zk_text.specs.Places.{Gives, Refuses}
use Rattle.zk_mem.specs.Map.{MemoryMap}

-- ---- units before others

pub joined_none : (r : Units) → joined (Ok []) r ≡ r
joined_none (Ok us) = refl
joined_none (Err f) = refl

pub joined_twice : (us vs : List Unit) (r : Units) → joined (Ok us) (joined (Ok vs) r) ≡ joined (Ok (us ++ vs)) r
joined_twice us vs (Ok ws) = ap Ok (sym (append_assoc us vs ws))
joined_twice us vs (Err f) = refl

pub values_first : (letter : Row → ℕ → ℕ) (expand : ℕ → Units) (p : Piece) (ps : List Piece)
    → values letter expand (p ∷ ps) ≡ joined (value letter expand p) (values letter expand ps)
unfolding values
values_first letter expand p ps = refl

-- ---- steps of a walk

pub gives_none : {S : Type 0} (gave : S → S → List Unit → Type 0) (a : S) (whole rest : Units) → whole ≡ rest
    → gave a a [] → Gives gave a a whole rest
gives_none gave a whole rest e h = record { units = []; gives = h; is = e ∙ sym (joined_none rest) }

pub gives_twice : {S : Type 0} (gave : S → S → List Unit → Type 0) (twice : (a b c : S) (s t : List Unit)
    → gave a b s → gave b c t → gave a c (s ++ t)) (a b c : S) (x y z : Units) → Gives gave a b x y
    → Gives gave b c y z → Gives gave a c x z
gives_twice gave twice a b c x y z h k = record {
  units = h.units ++ k.units;
  gives = twice a b c h.units k.units h.gives k.gives;
  is = h.is ∙ ap (joined (Ok h.units)) k.is ∙ joined_twice h.units k.units z;
}

split_ok : (us : List Unit) (r : Units) (all : List Unit) → joined (Ok us) r ≡ Ok all
    → (vs : List Unit) × (r ≡ Ok vs) × (all ≡ us ++ vs)
split_ok us (Ok vs) all e = (vs, refl, cc)
split_ok us (Err f) all e = absurd cc

pub refuses_late : {S : Type 0} (gave refused : S → S → List Unit → Type 0) (late : (a b c : S) (s t : List Unit)
    → gave a b s → refused b c t → refused a c (s ++ t)) (a b c : S) (x y : Units) → Gives gave a b x y
    → Refuses refused b c y → Refuses refused a c x
refuses_late gave refused late a b c x y h k us more e =
    let s = split_ok h.units y us (sym h.is ∙ e) in
    rw (s.2, append_assoc) (late a b c h.units (s.0 ++ more) h.gives (k s.0 more s.1))

-- a unit is put
pub unit_given : {S : Type 0} (gave : S → S → List Unit → Type 0) (a b : S) (u : Unit) (m : MemoryMap)
    (expand : ℕ → Units) (p : Piece) (ps : List Piece) → value (letter_of m) expand p ≡ Ok (u ∷ [])
    → gave a b (u ∷ []) → Gives gave a b (values (letter_of m) expand (p ∷ ps)) (values (letter_of m) expand ps)
unit_given gave a b u m expand p ps e h = record {
  units = u ∷ [];
  gives = h;
  is = values_first (letter_of m) expand p ps ∙ ap (λ (v : Units). joined v (values (letter_of m) expand ps)) e;
}

pub unit_refused : {S : Type 0} (refused : S → S → List Unit → Type 0) (a b : S) (u : Unit) (m : MemoryMap)
    (expand : ℕ → Units) (p : Piece) (ps : List Piece) → value (letter_of m) expand p ≡ Ok (u ∷ [])
    → ((more : List Unit) → refused a b (u ∷ more)) → Refuses refused a b (values (letter_of m) expand (p ∷ ps))
unit_refused refused a b u m expand p ps e h us more all =
    let whole = sym (values_first (letter_of m) expand p ps
    ∙ ap (λ (v : Units). joined v (values (letter_of m) expand ps)) e) ∙ all in
    let s = split_ok (u ∷ []) (values (letter_of m) expand ps) us whole in
    rw s.2 (h (s.0 ++ more))

only_units : (us vs : List Unit) → joined (Ok us) (Ok []) ≡ Ok vs → us ≡ vs
only_units us vs e =
    let s = split_ok us (Ok []) vs e in let none : [] ≡ s.0 = cc in rw (s.2, ← none, append-nil us) refl

-- a whole text was given
pub all_given : {S : Type 0} (gave : S → S → List Unit → Type 0) (a b : S) (whole : Units) (us : List Unit)
    → Gives gave a b whole (Ok []) → whole ≡ Ok us → gave a b us
all_given gave a b whole us h e = subst (gave a b) (only_units h.units us (sym h.is ∙ e)) h.gives

-- what comes after a text comes after its rest
pub gives_before : {S : Type 0} (gave : S → S → List Unit → Type 0) (a b : S) (x y after : Units)
    → Gives gave a b x y → Gives gave a b (joined x after) (joined y after)
gives_before gave a b x y after h = record {
  units = h.units;
  gives = h.gives;
  is = ap (λ (u : Units). joined u after) h.is ∙ joined_again h.units y after;
}
  where
    joined_again : (us : List Unit) (y after : Units) → joined (joined (Ok us) y) after ≡ joined (Ok us)
        (joined y after)
    joined_again us (Ok vs) after = sym (joined_twice us vs after)
    joined_again us (Err f) after = refl

pub refuses_before : {S : Type 0} (refused : S → S → List Unit → Type 0) (a b : S) (x after : Units)
    → Refuses refused a b x → Refuses refused a b (joined x after)
refuses_before refused a b (Ok us) after h all more e =
    let s = split_ok us after all e in
    rw (s.2, append_assoc) (h us (s.0 ++ more) refl)
refuses_before refused a b (Err f) after h all more e = absurd cc

-- the rest of what has a meaning has one
pub rest_means : {S : Type 0} (gave : S → S → List Unit → Type 0) (a b : S) (x y : Units) → Gives gave a b x y
    → IsOk x → IsOk y
rest_means gave a b x (Ok vs) h k = refl
rest_means gave a b x (Err f) h k = let whole = h.is in absurd cc
