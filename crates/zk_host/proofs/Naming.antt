-- The units of a short name that are collected.
use Rattle.std.proofs.Common.{◌≡◌, ◌<◌, ◌≤◌, ℕ, List, [], take, None, Bool, true, false, nat_lt, min, refl, arith}
use Rattle.std.proofs.Common.{if◌then◌else◌}
use Rattle.std.proofs.lemmas.Bool.Decides.{nat_tests}
use Rattle.zk_mem.specs.Map.{MemoryMap}
use Rattle.zk_text.specs.declared.unit.Unit.{Unit as TextUnit}
use Rattle.zk_text.specs.Extra.{own_characters}
use Rattle.zk_text.specs.Shown.{shown_all}
use Rattle.zk_text.specs.Walked.{words_walked}
use Rattle.zk_host.specs.declared.collected.Collected.{Collected}
use Rattle.zk_host.specs.Collecting.{CollectsTexts, texts_nothing, nothing_collected}
use Rattle.zk_host.specs.Names.{IsNameOf, first_units}

-- those of a text of few words, and of one of many
pub of_few : (m : MemoryMap) (a w : ℕ) (us : List TextUnit) → w ≡ min (words_walked m a) 65537 → w ≤ 65536
    → first_units m a us ≡ take 1000 us
of_few m a w us is few = go (nat_lt 65536 (words_walked m a)) refl
  where
    go : (b : Bool) → nat_lt 65536 (words_walked m a) ≡ b → (if b then [] else take 1000 us) ≡ take 1000 us
    go true e = let more : 65536 < words_walked m a = grind (arith, nat_tests) in absurd (omega (arith, is, few, more))
    go false e = refl

pub of_many : (m : MemoryMap) (a w : ℕ) (us : List TextUnit) → w ≡ min (words_walked m a) 65537 → 65536 < w
    → first_units m a us ≡ []
of_many m a w us is many = go (nat_lt 65536 (words_walked m a)) refl
  where
    go : (b : Bool) → nat_lt 65536 (words_walked m a) ≡ b → (if b then [] else take 1000 us) ≡ []
    go true e = refl
    go false e =
        let fewer : words_walked m a ≤ 65536 = grind (arith, nat_tests) in absurd (omega (arith, is, many, fewer))

pub nothing_named : (m : MemoryMap) (c : Collected) → CollectsTexts c c (shown_all (own_characters m) []) []
unfolding shown_all
nothing_named m c = texts_nothing c

-- an object without a short name
pub no_name : (m : MemoryMap) → IsNameOf m None nothing_collected
no_name m units e = nothing_named m nothing_collected
