-- Where a text occurs.
use Rattle.std.specs.List.{starts_with}
use Rattle.std.proofs.Common.{◌≡◌, ◌∙◌, ℕ, ◌+◌, ◌<◌, ◌==◌, true, false, List, ◌++◌, length, take, drop, refl, ap, sym}
use Rattle.std.proofs.Common.{arith, append_assoc, length-append}
use Rattle.std.proofs.lemmas.Bool.Decides.{Decides-eqb}
use Rattle.std.proofs.lemmas.List.{drop_at, take-append-drop}
use Rattle.std.proofs.lemmas.Slice.Eq.{starts_is}
use Rattle.zk_suite.specs.Texts.{Occurs}

-- a text that bytes begin with from a place on occurs
pub occurs_at : (text bytes : List ℕ) (i : ℕ) → starts_with ◌==◌ (drop i bytes) text ≡ true → Occurs text bytes
occurs_at text bytes i h =
    let here = starts_is Decides-eqb (drop i bytes) text (starts_with ◌==◌ (drop i bytes) text) refl in (
      take i bytes,
      (
        drop (length text) (drop i bytes),
        sym (take-append-drop i bytes)
            ∙ ap (λ (xs : List ℕ). take i bytes ++ xs) (here.0 h)
            ∙ sym (append_assoc (take i bytes) text (drop (length text) (drop i bytes))),
      ),
    )

-- a text that occurs is begun with from a place on
pub occurs_nowhere : (text bytes : List ℕ) → ((i : ℕ) → i < length bytes + 1
    → starts_with ◌==◌ (drop i bytes) text ≡ false) → Occurs text bytes → ⊥
occurs_nowhere text bytes none (front, (back, e)) =
    let whole : bytes ≡ front ++ (text ++ back) = e ∙ append_assoc front text back in
    let here : drop (length front) bytes ≡ text ++ back = ap (drop (length front)) whole
    ∙ drop_at front (text ++ back) (length front) refl in
    let begun = starts_is Decides-eqb (drop (length front) bytes) text
    (starts_with ◌==◌ (drop (length front) bytes) text) refl in
    let low : length front < length bytes + 1 = omega (arith, ap length whole, length-append front (text ++ back)) in
    let yes : starts_with ◌==◌ (drop (length front) bytes) text ≡ true = begun.1 back here in
    let no : starts_with ◌==◌ (drop (length front) bytes) text ≡ false = none (length front) low in
    cc
