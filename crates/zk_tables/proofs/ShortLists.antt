-- The list that a property call has walked, and how long it is.
use Rattle.std.proofs.Common.{◌≡◌, ◌≢◌, ℕ, List, Option, Result, Ok, Err, sym}
use Rattle.std.specs.Prelude.{IsOk, MatchResult, OnOk}
use Rattle.zk_mem.specs.declared.fault.Fault.{Fault}
use Rattle.zk_mem.specs.Map.{MemoryMap, HasBytes}
use Rattle.zk_tables.specs.declared.lists.Property.{Property}
use Rattle.zk_tables.specs.PropertyList.{properties_at, found_at, first_number_from, first_number_at, number_after_at}
use Rattle.zk_tables.specs.Properties.{list_of, properties_of, HasShortList}
use Rattle.zk_tables.proofs.ListLaw.{lists_are_read}
use Rattle.zk_tables.proofs.Steps.{bind_ok, value_of}

-- a list that was read is short
read_short : (m : MemoryMap) (o a : ℕ) (ps : List Property) → HasBytes m → list_of m o ≡ Ok a
    → properties_at m a ≡ Ok ps → HasShortList m o
unfolding properties_of
read_short m o a ps fits at list =
    let law = lists_are_read m a fits in
    record { list = ps; is = rw at list; short = law.bounded ps ((law.list ps).0 list) }

pub checked_short : (m : MemoryMap) (o a : ℕ) (r : Result (Unit {0}) Fault) → HasBytes m → list_of m o ≡ Ok a
    → MatchResult r (λ _. IsOk (properties_at m a)) (λ e. properties_at m a ≡ Err e) → OnOk r (HasShortList m o)
checked_short m o a (Ok u) fits at list =
    let there = value_of (properties_at m a) list in read_short m o a there.0 fits at there.1
checked_short m o a (Err e) fits at list = tt

pub found_short : (m : MemoryMap) (o n a : ℕ) (r : Result (Option Property) Fault) → HasBytes m
    → list_of m o ≡ Ok a → r ≡ found_at m a n → OnOk r (HasShortList m o)
unfolding found_at
found_short m o n a (Ok p) fits at found =
    let there = bind_ok (properties_at m a) _ p (sym found) in read_short m o a there.0 fits at there.1
found_short m o n a (Err e) fits at found = tt

pub first_short : (m : MemoryMap) (o a : ℕ) (r : Result ℕ Fault) → HasBytes m → list_of m o ≡ Ok a
    → r ≡ first_number_at m a → OnOk r (o ≢ 0 → HasShortList m o)
unfolding first_number_at first_number_from properties_at
first_short m o a (Ok x) fits at found =
    λ some. (let there = bind_ok (properties_at m a) _ x (sym found) in read_short m o a there.0 fits at there.1)
first_short m o a (Err e) fits at found = tt

pub next_short : (m : MemoryMap) (o n a : ℕ) (r : Result ℕ Fault) → HasBytes m → list_of m o ≡ Ok a
    → r ≡ number_after_at m a n → OnOk r (o ≢ 0 → HasShortList m o)
unfolding number_after_at
next_short m o n a (Ok x) fits at found =
    λ some. (let there = bind_ok (properties_at m a) _ x (sym found) in read_short m o a there.0 fits at there.1)
next_short m o n a (Err e) fits at found = tt

-- what comes of the list that was walked
pub walked_by : {A : Type 0} (m : MemoryMap) (o : ℕ) (r : Result A Fault) → HasShortList m o
    → OnOk r (o ≢ 0 → HasShortList m o)
walked_by m o (Ok x) short = λ some. short
walked_by m o (Err e) short = tt

pub ruleset of_next_property = (first_short, next_short)
