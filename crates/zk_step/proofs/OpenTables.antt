-- The open tables of stream 3, the newest apart.
use Rattle.std.proofs.Common.{◌≡◌, ℕ, ◌<◌, ◌+◌, ◌^◌, IfSome, List, [], ◌∷◌, length, Option, Some, None, refl, arith}
use Rattle.std.specs.Prelude.{remove, slice_index_or}
use Rattle.zk_step.specs.declared.output.streams.OpenTable.{OpenTable}
use Rattle.zk_step.specs.Streams.{newest_of, tables_of, tables_below, counted, NewestIsFirst}

pub newest_is : (n : Option OpenTable) (below : List OpenTable) → n ≡ newest_of (tables_of n below)
unfolding newest_of
newest_is None below = refl
newest_is (Some t) below = refl

pub last_closed : (n : Option OpenTable) (below : List OpenTable) → length below ≡ 0
    → tables_of None below ≡ tables_below (tables_of n below)
unfolding tables_below
last_closed None below h = refl
last_closed (Some t) [] h = refl
last_closed (Some t) (u ∷ us) h = absurd (omega (arith, h))

pub newest_closed : (n : Option OpenTable) (below : List OpenTable) (x : OpenTable) → NewestIsFirst n below
    → 0 < length below → tables_of (Some (slice_index_or below 0 x)) (remove below 0) ≡ tables_below (tables_of n below)
unfolding tables_below
newest_closed None below x h k = let e : length below ≡ 0 = cc in absurd (omega (arith, e, k))
newest_closed (Some t) [] x h k = absurd (omega (arith, k))
newest_closed (Some t) (u ∷ us) x h k = refl

pub one_counted : (n : Option OpenTable) (below : List OpenTable) (t : OpenTable) (k : ℕ) → n ≡ Some t
    → tables_of (Some (record { address = t.address; count = t.count + k })) below ≡ counted k (tables_of n below)
unfolding counted
one_counted n below t k h = rw h refl

pub none_counted : (n : Option OpenTable) (below : List OpenTable) (k : ℕ) → ((t : OpenTable) → n ≡ Some t → ⊥)
    → tables_of n below ≡ counted k (tables_of n below)
unfolding counted
none_counted None below k h = refl
none_counted (Some t) below k h = absurd (h t refl)

pub room_counted : (n : Option OpenTable) (below : List OpenTable) (t : OpenTable) (k : ℕ) → n ≡ Some t
    → IfSome (newest_of (tables_of n below)) (λ u. u.count + k < 2 ^ 16) → t.count + k < 2 ^ 16
unfolding newest_of
room_counted n below t k h room = let there = rw h at room in there
