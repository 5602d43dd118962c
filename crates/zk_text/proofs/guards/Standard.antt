-- The tables of the Standard.
use Rattle.std.proofs.Common.{◌≡◌, ◌≤◌, ◌<◌, ◌⊎◌, inl, inr, ℕ, ◌+◌, ◌-◌, get_or, slice_get, Option, Some, None, true}
use Rattle.std.proofs.Common.{nat_le, refl, arith}
use Rattle.std.proofs.lemmas.Bool.Decides.{nat_tests}
use Rattle.std.proofs.lemmas.Option.{slice_get_within, get_or_from_slice_get}
use Rattle.zk_text.specs.declared.alphabet.Row.TheVariants.{A0, A1, A2}
use Rattle.zk_text.specs.Standard.{standard_letters, standard_characters}
use Rattle.zk_text.specs.Alphabets.{letter_by}
use Rattle.zk_text.specs.Extra.{character, is_ascii, code_from, code_of}
use Rattle.zk_text.specs.guards.TableLaws.{A0IsSmall, A1IsCapital, A2HasDigits, A2HasNewLine, ExtraIsBeyondAscii}
use Rattle.zk_text.specs.guards.TableLaws.{CodesDiffer}
use Rattle.zk_mem.proofs.Below.{all_below, each_below, same_below, same_between}
use Rattle.zk_text.proofs.Tables.{character_cases}

pub a0_is_small : A0IsSmall
unfolding all_below letter_by standard_letters
a0_is_small m z low high = same_between (letter_by m None A0) (λ k. 97 + (k - 6)) 6 26 refl z low (omega arith)

pub a1_is_capital : A1IsCapital
unfolding all_below letter_by standard_letters
a1_is_capital m z low high = same_between (letter_by m None A1) (λ k. 65 + (k - 6)) 6 26 refl z low (omega arith)

pub a2_has_digits : A2HasDigits
unfolding all_below letter_by standard_letters
a2_has_digits m z low high = same_between (letter_by m None A2) (λ k. 48 + (k - 8)) 8 10 refl z low (omega arith)

pub a2_has_new_line : A2HasNewLine
unfolding letter_by
a2_has_new_line m table = refl

beyond_ascii : (i : ℕ) → i < 69 → nat_le 127 (get_or standard_characters i 0) ≡ true
unfolding all_below standard_characters
beyond_ascii i h = each_below (λ k. nat_le 127 (get_or standard_characters k 0)) 69 refl i h

within : (i c : ℕ) → slice_get standard_characters i ≡ Some c → i < 69
unfolding standard_characters
within i c h = slice_get_within standard_characters i c h

pub extra_is_beyond_ascii : ExtraIsBeyondAscii
extra_is_beyond_ascii i c h =
    let near = within i c h in
    let here : get_or standard_characters i 0 ≡ c = get_or_from_slice_get standard_characters i c 0 h in
    let test = rw here at (beyond_ascii i near) in
    grind (arith, nat_tests)

-- an extra character has its own code
code_number : Option ℕ → ℕ
code_number None = 0
code_number (Some code) = code

some_code : (o : Option ℕ) (code : ℕ) → 155 ≤ code → code_number o ≡ code → o ≡ Some code
unfolding code_number
some_code None code h e = absurd (omega arith)
some_code (Some n) code h e = cc

extra_code : (i : ℕ) → i < 69 → code_of None (get_or standard_characters i 0) ≡ Some (155 + i)
unfolding all_below code_number code_of code_from standard_characters
extra_code i h =
    some_code (code_of None (get_or standard_characters i 0)) (155 + i) (omega arith)
    (same_below (λ k. code_number (code_of None (get_or standard_characters k 0))) (λ k. 155 + k) 69 refl i h)

-- a code's character has that code and no other
code_is : (code c : ℕ) → ((is_ascii code ≡ true) × (code ≡ c))
    ⊎ ((155 ≤ code) × (slice_get standard_characters (code - 155) ≡ Some c)) → code_of None c ≡ Some code
unfolding code_of
code_is code c (inl p) = let ascii = rw p.1 at p.0 in rw (ascii, p.1) refl
code_is code c (inr p) =
    let near = within (code - 155) c p.1 in
    let here : get_or standard_characters (code - 155) 0 ≡ c = get_or_from_slice_get standard_characters
    (code - 155) c 0 p.1 in
    let place : 155 + (code - 155) ≡ code = omega (arith, p.0) in
    rw (here, place) at (extra_code (code - 155) near)

pub code_of_character : (code c : ℕ) → character None code ≡ Some c → code_of None c ≡ Some code
code_of_character code c h = code_is code c (character_cases None code c h)

pub codes_differ : CodesDiffer
codes_differ a b c h k =
    let first = code_of_character a c h in
    let second = code_of_character b c k in
    cc

pub ruleset of_alphabets_are_standard = (a0_is_small, a1_is_capital, a2_has_digits, a2_has_new_line)

pub ruleset extra_characters = (extra_is_beyond_ascii, codes_differ)
