-- What holds of the bytes of a story.
use Rattle.std.specs.Prelude.{get_or}
use Rattle.std.proofs.Common.{◌≡◌, ◌≤◌, ◌<◌, ℕ, List, length, Option, Some, None, slice_index, arith, refl}
use Rattle.std.proofs.lemmas.Grind.{common_steps}
use Rattle.std.proofs.lemmas.Option.{get_or_from_slice_get}
use Rattle.zk_mem.specs.Map.{MemoryMap, cell_at, HasBytes}
use Rattle.zk_mem.specs.Story.{refusal, greatest_length, IsBounded}

greatest_bound : (v most : ℕ) → greatest_length v ≡ Some most → most ≤ 524288
greatest_bound v most h = grind (arith, common_steps)

by_length : (file : List ℕ) (o : Option ℕ) → greatest_length (slice_index file 0) ≡ o → refusal file ≡ None
    → length file ≤ 524288
unfolding refusal
by_length file None e h = grind (arith, common_steps)
by_length file (Some most) e h =
    let m : most ≤ 524288 = greatest_bound (slice_index file 0) most e in grind (arith, common_steps)

pub none_bounds : (file : List ℕ) → refusal file ≡ None → IsBounded file
unfolding refusal
none_bounds file h = record {
  header = grind (arith, common_steps);
  longest = by_length file _ refl h;
  static_low = grind (arith, common_steps);
  static_high = grind (arith, common_steps);
  start = grind (arith, common_steps);
}

pub bytes_fit : (m : MemoryMap) → ((i : ℕ) → get_or m.bytes i 0 < 256) → HasBytes m
unfolding cell_at
bytes_fit m h = record { below = λ a v e. rw (get_or_from_slice_get m.bytes a v 0 e) at (h a) }
