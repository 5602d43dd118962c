-- Where lists of properties and class numbers end.
use Rattle.std.proofs.Common.{◌≡◌, ◌+◌, ◌-◌, ◌<◌, ◌≤◌, ◌==◌, nat_lt, ℕ, zero, suc, List, ◌∷◌, Some, None, Bool, true}
use Rattle.std.proofs.Common.{false}
use Rattle.std.proofs.Common.{refl, arith, sym}
use Rattle.std.specs.Prelude.{Result, Ok, Err}
use Rattle.std.specs.List.{list_all, range_with_len}
use Rattle.zk_mem.specs.declared.fault.Fault.{Fault}
use Rattle.zk_mem.specs.Map.{MemoryMap, readable_end, word_at}
use Rattle.zk_mem.specs.Results.{◌>>=◌}
use Rattle.zk_tables.specs.declared.lists.Property.{Property}
use Rattle.std.proofs.lemmas.Bool.Decides.{nat_tests}
use Rattle.zk_tables.specs.PropertyList.{properties_at, properties_from, property_at}
use Rattle.zk_inform.specs.Tables.{class_end, end_of_list, list_end}

behind_first : (a : ℕ) (p : Property) (r : Result (List Property) Fault)
    → end_of_list a (r >>= λ ps. Ok (p ∷ ps)) ≡ end_of_list (p.address + p.length) r
behind_first a p (Ok ps) = refl
behind_first a p (Err f) = refl

-- a list of which one property was read
pub list_goes_on : (m : MemoryMap) (n k a b : ℕ) (p : Property) → n ≡ suc k → b ≡ p.address + p.length
    → property_at m a ≡ Ok (Some p)
    → end_of_list b (properties_from m k b) ≡ end_of_list a (properties_from m n a)
unfolding properties_from
list_goes_on m n k a b p size behind there =
    rw (size, behind, there) (sym (behind_first a p (properties_from m k (p.address + p.length))))

-- a list that has ended
pub list_stops : (m : MemoryMap) (n k a : ℕ) → n ≡ suc k → property_at m a ≡ Ok None
    → end_of_list a (properties_from m n a) ≡ Some (a + 1)
unfolding properties_from
list_stops m n k a size there = rw (size, there) refl

-- a list that goes out of data
pub list_fails : (m : MemoryMap) (n k a : ℕ) (f : Fault) → n ≡ suc k → property_at m a ≡ Err f
    → end_of_list a (properties_from m n a) ≡ None
unfolding properties_from
list_fails m n k a f size there = rw (size, there) refl

pub list_lacks : (m : MemoryMap) (n a : ℕ) → n ≡ zero → end_of_list a (properties_from m n a) ≡ None
unfolding properties_from
list_lacks m n a size = rw size refl

pub list_begins : (m : MemoryMap) (n a : ℕ) → n ≡ readable_end m
    → end_of_list a (properties_from m n a) ≡ list_end m a
unfolding list_end properties_at
list_begins m n a size = rw size refl

-- ---- class numbers

pub class_on : (m : MemoryMap) (objects most i a w : ℕ) → i < most → word_at m a ≡ Ok w → (w ≡ 0 → ⊥) → w ≤ objects
    → class_end m objects (most - i) a ≡ class_end m objects (most - (i + 1)) (a + 2)
unfolding class_end
class_on m objects most i a w few there some within =
    let e : most - i ≡ suc (most - (i + 1)) = omega arith in
    let z : (w == 0) ≡ false = grind (arith, nat_tests) in
    let l : nat_lt objects w ≡ false = grind (arith, nat_tests) in
    rw (e, there, z, l) refl

pub class_here : (m : MemoryMap) (objects most i a w : ℕ) → i < most → word_at m a ≡ Ok w → w ≡ 0
    → class_end m objects (most - i) a ≡ Some (a + 2)
unfolding class_end
class_here m objects most i a w few there none =
    let e : most - i ≡ suc (most - (i + 1)) = omega arith in rw (e, there, none) refl

pub class_other : (m : MemoryMap) (objects most i a w : ℕ) → i < most → word_at m a ≡ Ok w → (w ≡ 0 → ⊥) → objects < w
    → class_end m objects (most - i) a ≡ None
unfolding class_end
class_other m objects most i a w few there some past =
    let e : most - i ≡ suc (most - (i + 1)) = omega arith in
    let z : (w == 0) ≡ false = grind (arith, nat_tests) in
    let l : nat_lt objects w ≡ true = grind (arith, nat_tests) in
    rw (e, there, z, l) refl

pub class_fails : (m : MemoryMap) (objects most i a : ℕ) (f : Fault) → i < most → word_at m a ≡ Err f
    → class_end m objects (most - i) a ≡ None
unfolding class_end
class_fails m objects most i a f few there =
    let e : most - i ≡ suc (most - (i + 1)) = omega arith in rw (e, there) refl

pub class_past : (m : MemoryMap) (objects most i a : ℕ) → most ≤ i → class_end m objects (most - i) a ≡ None
unfolding class_end
class_past m objects most i a past = let e : most - i ≡ zero = omega arith in rw e refl

pub ruleset of_class_end = (class_on, class_here, class_other, class_fails, class_past)

-- ---- entries

pub right_on : (p : ℕ → Bool) (n i : ℕ) → i < n → p (i + 1) ≡ true
    → list_all p (range_with_len (i + 1) (n - i)) ≡ list_all p (range_with_len (i + 1 + 1) (n - (i + 1)))
right_on p n i few test = let e : n - i ≡ suc (n - (i + 1)) = omega arith in rw (e, test) refl

pub right_fails : (p : ℕ → Bool) (n i : ℕ) → i < n → p (i + 1) ≡ false
    → list_all p (range_with_len (i + 1) (n - i)) ≡ false
right_fails p n i few test = let e : n - i ≡ suc (n - (i + 1)) = omega arith in rw (e, test) refl

pub right_past : (p : ℕ → Bool) (n i : ℕ) → n ≤ i → list_all p (range_with_len (i + 1) (n - i)) ≡ true
right_past p n i past = let e : n - i ≡ zero = omega arith in rw e refl

pub ruleset of_are_right = (right_on, right_fails, right_past)
