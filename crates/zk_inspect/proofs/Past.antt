-- Past a story's end nothing stands.
use Rattle.std.proofs.Common.{◌≡◌, ◌≤◌, ◌+◌, ℕ, arith, length, refl, None, true, false, Bool}
use Rattle.std.specs.Prelude.{if◌then◌else◌, nat_lt, unwrap_or, Some}
use Rattle.std.proofs.lemmas.Option.{slice_get_past}
use Rattle.zk_mem.specs.Map.{MemoryMap, cell_at, code_word_at}

pub no_cell : (m : MemoryMap) (a : ℕ) → length m.bytes ≤ a → unwrap_or (cell_at m a) 0 ≡ 0
unfolding cell_at
no_cell m a past = rw (slice_get_past m.bytes a past) refl

none_or : (b : Bool) (v : ℕ) → b ≡ false → unwrap_or (if b then Some v else None) 0 ≡ 0
none_or false v e = refl
none_or true v e = absurd cc

pub no_code_word : (m : MemoryMap) (a : ℕ) → length m.bytes ≤ a → unwrap_or (code_word_at m a) 0 ≡ 0
unfolding code_word_at
no_code_word m a past = none_or (nat_lt (a + 1) (length m.bytes)) _ (search (arith, past))
