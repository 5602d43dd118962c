-- Sorted addresses, each once, are a union.
use Rattle.std.specs.List.{filter_map, Contains, dedup}
use Rattle.std.specs.List.Sorted.{IsPermutation, IsSorted}
use Rattle.std.specs.Ordering.{nat_cmp}
use Rattle.std.proofs.Common.{◌≡◌, ℕ, List, eqb, subst, sym}
use Rattle.std.proofs.lemmas.List.Kept.{Contains-dedup_nat, Contains-from_dedup}
use Rattle.std.proofs.lemmas.List.Sorted.{Contains-permutation, IsPermutation-sym}
use Rattle.std.proofs.lemmas.Map.Keys.{IsStrictlyIncreasing-dedup}
use Rattle.zk_notes.specs.Union.{IsUnion, address_on}

pub union_is : (xs ys : List ℕ) (ls : List (List ℕ)) → xs ≡ filter_map address_on ls → IsPermutation xs ys
    → IsSorted nat_cmp ys → IsUnion (dedup eqb ys) ls
union_is xs ys ls e p s = record {
  ascend = IsStrictlyIncreasing-dedup ys s;
  listed =
      λ a h. subst (λ (zs : List ℕ). Contains zs a) e (Contains-permutation ys xs a (IsPermutation-sym xs ys p)
      (Contains-from_dedup eqb ys a h));
  whole =
      λ a h. Contains-dedup_nat ys a (Contains-permutation xs ys a p
      (subst (λ (zs : List ℕ). Contains zs a) (sym e) h));
}
