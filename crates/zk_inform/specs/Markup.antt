-- Texts of a story as XML has them (Standard, section 3; XML 1.0, sections 2.2 and 4.6).
use Rattle.std.specs.Prelude.{◌≡◌, ℕ, ◌==◌, List, [], ◌∷◌, ◌++◌, codes, encode_utf8_all, if◌then◌else◌}
use Rattle.std.specs.List.{flat_map}
use Rattle.std.proofs.Common.{◌∙◌, sym, ap, subst}
use Rattle.std.proofs.lemmas.Grind.{flat_map-append}
use Rattle.zk_mem.specs.Map.{MemoryMap}
use Rattle.zk_text.specs.declared.unit.Unit.{Unit}
use Rattle.zk_text.specs.Extra.{ExtraTable, own_characters}
use Rattle.zk_text.specs.Meaning.{text_units}
use Rattle.zk_text.specs.Shown.{shown, shown_all}
use Rattle.zk_text.proofs.ShownLemmas.{shown_all-append, shown_all-one}
use Rattle.zk_inspect.specs.Quoted.{units_or_none}

-- a new line is a space, and a question mark stands for what is no character of XML
abbrev pub plain : ℕ → ℕ
plain c = if c == 10 then 32 else if c == 0xfffe then 63 else if c == 0xffff then 63 else c

-- a character, or the entity that stands for it
unfoldable pub markup : ℕ → List ℕ
markup c =
    if c == 38 then codes "&amp;"
    else if c == 60 then codes "&lt;"
    else if c == 62 then codes "&gt;"
    else if c == 34 then codes "&quot;"
    else encode_utf8_all (plain c ∷ [])

-- what units show
unfoldable pub marked_units : ExtraTable → List Unit → List ℕ
marked_units t us = flat_map markup (shown_all t us)

-- what the text at an address prints, or nothing where it has no meaning
unfoldable pub text_of : MemoryMap → ℕ → List ℕ
text_of m a = marked_units (own_characters m) (units_or_none (text_units m a))

marked_units-append : (t : ExtraTable) (us vs : List Unit) → marked_units t (us ++ vs) ≡ marked_units t us
    ++ marked_units t vs
unfolding marked_units
marked_units-append t us vs =
    ap (flat_map markup) (shown_all-append t us vs) ∙ flat_map-append markup (shown_all t us) (shown_all t vs)

pub marked_nothing : {S : Type 0} (wrote : S → S → List ℕ → Type 0) (t : ExtraTable) (a : S) → wrote a a []
    → wrote a a (marked_units t [])
unfolding marked_units shown_all
marked_nothing {S} wrote t a h = h

pub marked_twice : {S : Type 0} (wrote : S → S → List ℕ → Type 0) (twice : (a b c : S) (s t : List ℕ)
    → wrote a b s → wrote b c t → wrote a c (s ++ t)) (t u : ExtraTable) (a b c : S) (us vs : List Unit) → u ≡ t
    → wrote a b (marked_units t us) → wrote b c (marked_units u vs) → wrote a c (marked_units t (us ++ vs))
marked_twice {S} wrote twice t u a b c us vs same h k =
    let k' = subst (λ (x : ExtraTable). wrote b c (marked_units x vs)) same k in
    rw (marked_units-append t us vs) (twice a b c (marked_units t us) (marked_units t vs) h k')

-- one unit
pub marked_one : {S : Type 0} (wrote : S → S → List ℕ → Type 0) (t : ExtraTable) (a b : S) (u : Unit)
    (cs : List ℕ) → cs ≡ shown t u → wrote a b (flat_map markup cs) → wrote a b (marked_units t (u ∷ []))
unfolding marked_units
marked_one {S} wrote t a b u cs is h =
    subst (λ (x : List ℕ). wrote a b (flat_map markup x)) (is ∙ sym (shown_all-one t u)) h
