-- What is heard of a line without a new line.
use Rattle.std.proofs.Common.{◌≡◌, ◌⊎◌, ◌&&◌, ℕ, Bool, true, false, not, ◌==◌, List, [], ◌∷◌, ◌++◌, length, Option}
use Rattle.std.proofs.Common.{refl, sym, ◌∙◌, ap, subst, inl, inr, nat_lt, rules}
use Rattle.zk_term.proofs.Hearing.{are_lines}
use Rattle.zk_term.specs.declared.lines.InputEnd.{InputEnd}
use Rattle.zk_term.specs.declared.lines.InputEnd.TheVariants as over
use Rattle.arrayvec.specs.ArrayVec.{ArrayVec}
use Rattle.zk_term.specs.declared.lines.Input.{Input}
use Rattle.zk_term.specs.declared.lines.Input.TheVariants as input
use Rattle.zk_term.specs.Characters.{line_codes, characters_of, characters_past}
use Rattle.zk_term.specs.Lines.{heard, nothing_more, is_new_line, IsPlain, IsNextLine, Heard, Hears}
use Rattle.zk_text.specs.Extra.{ExtraTable}
use Rattle.zk_host.specs.Typing.{is_line, is_plain}

plain_by : (b : ℕ) (x : Bool) (rest : Bool) → (b == 10) ≡ x → (not x && rest) ≡ true
    → (is_new_line b ≡ false) × (rest ≡ true)
plain_by b true rest e h = cc
plain_by b false rest e h = (e, h)

pub plain : (bytes : List ℕ) → is_plain bytes ≡ true → IsPlain bytes
plain [] h = tt
plain (b ∷ bytes) h = let p = plain_by b (b == 10) (is_plain bytes) refl h in (p.0, plain bytes p.1)

-- a new line stands in no line
pub no_new_line : (part later : List ℕ) → IsPlain (part ++ 10 ∷ later) → ⊥
no_new_line [] later h = cc
no_new_line (b ∷ part) later h = no_new_line part later h.1

-- what comes next of a line's bytes alone is the line
pub next_is : (bytes later line : List ℕ) (how : Option InputEnd) → IsPlain bytes
    → IsNextLine bytes later line how → line ≡ bytes
next_is bytes later line how h (inl e) = absurd (no_new_line e.0.part later (subst IsPlain e.0.whole h))
next_is bytes later line how h (inr l) = sym l.0.whole

-- it is a line, and so not too many bytes
abbrev IsNone : List (List ℕ) → Type 0
IsNone [] = Unit {0}
IsNone (x ∷ xs) = ⊥

one_is_some : (line : List ℕ) (more : List (List ℕ)) → line ∷ more ≡ [] → ⊥
one_is_some line more e = subst IsNone (sym e) tt

pub is_heard : (b : ℕ) (bytes : List ℕ) → IsPlain (b ∷ bytes) → nat_lt (length (b ∷ bytes)) 65536 ≡ true
    → heard (b ∷ bytes) ≡ nothing_more over.Failed → ⊥
is_heard b bytes h short e =
    one_is_some (b ∷ bytes) [] (ap (λ (k : Heard). k.lines) (sym (are_lines.last b bytes h short) ∙ e))

-- ---- what `codes_of` needs

Holds : Bool → Type 0
Holds true = Unit {0}
Holds false = ⊥

pub true-false : true ≡ false → ⊥
unfolding Holds
true-false e = subst Holds e tt

pub both_true : (x y : Bool) → (x && y) ≡ true → (x ≡ true) × (y ≡ true)
both_true true y h = (refl, h)
both_true false y h = cc

pub line_plain : (bytes : List ℕ) → is_line bytes ≡ true → IsPlain bytes
line_plain bytes h = plain bytes (both_true (nat_lt (length bytes) 65536) (is_plain bytes) h).1

-- no bytes have no codes
pub no_codes : (t : ExtraTable) (bytes : List ℕ) → (length bytes == 0) ≡ true → line_codes t bytes ≡ []
unfolding line_codes characters_of characters_past
no_codes t [] e = refl
no_codes t (b ∷ bytes) e = absurd (search (rules, e))

heard_line : (t : ExtraTable) (bytes later : List ℕ) (how : Option InputEnd) (failed sound : Type 0)
    (codes : ArrayVec ℕ) → IsPlain bytes
    → Hears t bytes later how failed sound (input.Line codes) → codes.items ≡ line_codes t bytes
heard_line t bytes later how failed sound codes p h =
    h.2 ∙ ap (λ (l : List ℕ). line_codes t l) (next_is bytes later h.0 how p h.1)

pub codes_heard : (t : ExtraTable) (ahead bytes later : List ℕ) (how : Option InputEnd) (failed sound : Type 0)
    (result : Input) (codes : ArrayVec ℕ) → ahead ≡ [] → is_line bytes ≡ true
    → result ≡ input.Line codes → Hears t (ahead ++ bytes) later how failed sound result
    → codes.items ≡ line_codes t bytes
codes_heard t ahead bytes later how failed sound result codes ea is er h =
    heard_line t bytes later how failed sound codes (line_plain bytes is)
    (subst (λ (a : List ℕ × Input). Hears t (a.0 ++ bytes) later how failed sound a.1) (λ i. (ea i, er i)) h)

not_end : (bytes : List ℕ) → (length bytes == 0) ≡ false → bytes ≡ [] → ⊥
not_end bytes some e = let x : true ≡ false = subst (λ (l : List ℕ). (length l == 0) ≡ false) e some in true-false x

not_too_long : (bytes : List ℕ) → is_line bytes ≡ true → (length bytes == 0) ≡ false
    → heard bytes ≡ nothing_more over.Failed → ⊥
not_too_long [] is some e = true-false some
not_too_long (b ∷ bytes) is some e =
    is_heard b bytes (line_plain (b ∷ bytes) is) (both_true (nat_lt (length (b ∷ bytes)) 65536)
    (is_plain (b ∷ bytes)) is).0 e

not_heard_by : (t : ExtraTable) (bytes later : List ℕ) (how : Option InputEnd) (failed sound : Type 0)
    (result : Input) → is_line bytes ≡ true → (length bytes == 0) ≡ false → (failed → ⊥)
    → (result ≡ input.End) ⊎ (result ≡ input.Failed) → Hears t bytes later how failed sound result → ⊥
not_heard_by t bytes later how failed sound result is some never (inl e) h =
    not_end bytes some (subst (λ (r : Input). Hears t bytes later how failed sound r) e h).0
not_heard_by t bytes later how failed sound result is some never (inr e) h =
    elim (subst (λ (r : Input). Hears t bytes later how failed sound r) e h) [
      | inl x ↦ never x.0
      | inr x ↦ not_too_long bytes is some
          (ap heard x.1.whole ∙ are_lines.too_long x.1.part later x.1.plain x.1.long)
    ]

pub not_heard : (t : ExtraTable) (ahead bytes later : List ℕ) (how : Option InputEnd) (failed sound : Type 0)
    (result : Input) → ahead ≡ [] → is_line bytes ≡ true → (length bytes == 0) ≡ false → (failed → ⊥)
    → (result ≡ input.End) ⊎ (result ≡ input.Failed) → Hears t (ahead ++ bytes) later how failed sound result → ⊥
not_heard t ahead bytes later how failed sound result ea is some never how_over h =
    not_heard_by t bytes later how failed sound result is some never how_over
    (subst (λ (a : List ℕ). Hears t (a ++ bytes) later how failed sound result) ea h)
