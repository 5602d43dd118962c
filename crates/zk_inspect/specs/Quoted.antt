-- Units of text between quotes, one after another.
use Rattle.std.specs.Prelude.{◌≡◌, ℕ, List, [], ◌∷◌, ◌++◌, map, encode_utf8_all, Ok, Err}
use Rattle.std.proofs.Common.{◌∙◌, sym, ap, subst}
use Rattle.std.proofs.lemmas.Str.{encodes-append}
use Rattle.std.proofs.lemmas.List.{map-append}
use Rattle.zk_text.specs.declared.unit.Unit.{Unit}
use Rattle.zk_text.specs.Extra.{ExtraTable}
use Rattle.zk_text.specs.Meaning.{Units}
use Rattle.zk_text.specs.Shown.{shown, shown_all}
use Rattle.zk_text.proofs.ShownLemmas.{shown_all-append, shown_all-one}
use Rattle.zk_inspect.specs.Listing.{quoted_bytes, quoted_character}

-- the units of a text that has a meaning
abbrev pub units_or_none : Units → List Unit
units_or_none (Ok us) = us
units_or_none (Err f) = []

-- what units show, between quotes
unfoldable pub quoted_units : ExtraTable → List Unit → List ℕ
quoted_units t us = quoted_bytes (shown_all t us)

pub quoted-append : (xs ys : List ℕ) → quoted_bytes (xs ++ ys) ≡ quoted_bytes xs ++ quoted_bytes ys
unfolding quoted_bytes
quoted-append xs ys = ap encode_utf8_all (map-append quoted_character xs ys)
    ∙ encodes-append (map quoted_character xs) (map quoted_character ys)

pub quoted_units-append : (t : ExtraTable) (us vs : List Unit) → quoted_units t (us ++ vs) ≡ quoted_units t us
    ++ quoted_units t vs
unfolding quoted_units
quoted_units-append t us vs =
    ap quoted_bytes (shown_all-append t us vs) ∙ quoted-append (shown_all t us) (shown_all t vs)

pub quoted_nothing : {S : Type 0} (wrote : S → S → List ℕ → Type 0) (t : ExtraTable) (a : S) → wrote a a []
    → wrote a a (quoted_units t [])
unfolding quoted_units shown_all quoted_bytes
quoted_nothing {S} wrote t a h = h

pub quoted_twice : {S : Type 0} (wrote : S → S → List ℕ → Type 0) (twice : (a b c : S) (s t : List ℕ)
    → wrote a b s → wrote b c t → wrote a c (s ++ t)) (t u : ExtraTable) (a b c : S) (us vs : List Unit) → u ≡ t
    → wrote a b (quoted_units t us) → wrote b c (quoted_units u vs) → wrote a c (quoted_units t (us ++ vs))
quoted_twice {S} wrote twice t u a b c us vs same h k =
    let k' = subst (λ (x : ExtraTable). wrote b c (quoted_units x vs)) same k in
    rw (quoted_units-append t us vs) (twice a b c (quoted_units t us) (quoted_units t vs) h k')

-- one unit
pub quoted_one : {S : Type 0} (wrote : S → S → List ℕ → Type 0) (t : ExtraTable) (a b : S) (u : Unit)
    (cs : List ℕ) → cs ≡ shown t u → wrote a b (quoted_bytes cs) → wrote a b (quoted_units t (u ∷ []))
unfolding quoted_units
quoted_one {S} wrote t a b u cs is h =
    subst (λ (x : List ℕ). wrote a b (quoted_bytes x)) (is ∙ sym (shown_all-one t u)) h
