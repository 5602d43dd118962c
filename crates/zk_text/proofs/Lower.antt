-- Codes in lower case.
use Rattle.std.specs.Prelude.{⊤}
use Rattle.std.proofs.Common.{◌≡◌, ◌≤◌, ◌<◌, ℕ, List, ◌+◌, ◌-◌, get_or, Some, None, refl, arith}
use Rattle.zk_text.specs.declared.extra.TheConstants.{DEFAULT_LOWER}
use Rattle.zk_text.specs.Standard.{standard_characters, ascii_capitals, extra_capitals}
use Rattle.zk_text.specs.Extra.{ExtraTable, character, code_from, code_of, small_letter, lower_code}
use Rattle.zk_mem.proofs.Below.{all_below, same_between}

-- the definitions that are opened here
unfoldable opened : ⊤
unfolding all_below lower_code small_letter code_of code_from character standard_characters ascii_capitals
    extra_capitals
opened = tt

pub lower_capital : (t : ExtraTable) (code : ℕ) → 65 ≤ code → code ≤ 90 → lower_code t code ≡ code + 32
unfolding opened
lower_capital None code low high = same_between (lower_code None) (λ k. k + 32) 65 26 refl code low (omega arith)
lower_capital (Some words) code low high =
    same_between (lower_code (Some words)) (λ k. k + 32) 65 26 refl code low (omega arith)

pub below_capitals : (t : ExtraTable) (code : ℕ) → code < 65 → lower_code t code ≡ code
unfolding opened
below_capitals None code h = same_between (lower_code None) (λ k. k) 0 65 refl code (omega arith) h
below_capitals (Some words) code h = same_between (lower_code (Some words)) (λ k. k) 0 65 refl code (omega arith) h

pub above_capitals : (t : ExtraTable) (code : ℕ) → 91 ≤ code → code < 155 → lower_code t code ≡ code
unfolding opened
above_capitals None code low high = same_between (lower_code None) (λ k. k) 91 64 refl code low high
above_capitals (Some words) code low high = same_between (lower_code (Some words)) (λ k. k) 91 64 refl code low high

pub lower_extra : (code : ℕ) → 155 ≤ code → code < 256 → lower_code None code ≡ get_or DEFAULT_LOWER (code - 155) code
unfolding opened
lower_extra code low high =
    same_between (lower_code None) (λ k. get_or DEFAULT_LOWER (k - 155) k) 155 101 refl code low high

pub lower_own : (t : ExtraTable) (words : List ℕ) (code : ℕ) → t ≡ Some words → 155 ≤ code → code < 256
    → lower_code t code ≡ code
unfolding opened
lower_own None words code some low high = absurd cc
lower_own (Some own) words code some low high = same_between (lower_code (Some own)) (λ k. k) 155 101 refl code low high

pub ruleset of_lower = (lower_capital, below_capitals, above_capitals, lower_own)
