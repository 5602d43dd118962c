-- Chunks and frames that bytes begin with.
use Rattle.std.specs.Prelude.{nat_lt, slice_index, min}
use Rattle.std.proofs.Common.{◌≡◌, ◌∙◌, ℕ, ◌+◌, ◌-◌, ◌*◌, ◌%◌, ◌<◌, ◌≤◌, true, false, List, length, take, drop, Option}
use Rattle.std.proofs.Common.{Some, None, refl, arith, length-drop}
use Rattle.std.proofs.lemmas.Bool.Decides.{nat_tests}
use Rattle.std.proofs.lemmas.List.{take_all, take_rest, drop_min}
use Rattle.zk_save.specs.Reading.{number_of, bytes_behind, first_chunk, word_count, result_in, arguments_in}
use Rattle.zk_save.specs.Reading.{first_of_frames}
use Rattle.zk_save.specs.Counted.{chunk_seen, frame_seen}

pub is_below : (a b : ℕ) → a < b → nat_lt a b ≡ true
is_below a b h = grind (arith, nat_tests)

pub not_below : (a b : ℕ) → b ≤ a → nat_lt a b ≡ false
not_below a b h = grind (arith, nat_tests)

pub chunk_short : (bs : List ℕ) → length bs < 8 → None ≡ first_chunk bs
unfolding first_chunk
chunk_short bs h = rw (is_below (length bs) 8 h) refl

pub chunk_cut : (bs : List ℕ) (n : ℕ) → 8 ≤ length bs → n ≡ number_of (bytes_behind 4 4 bs) → length bs < 8 + n
    → None ≡ first_chunk bs
unfolding first_chunk
chunk_cut bs n le e h = rw (not_below (length bs) 8 le, ← e, is_below (length bs) (8 + n) h) refl

rest_min : (bs : List ℕ) (n : ℕ) → take (length bs - min n (length bs)) (drop (min n (length bs)) bs) ≡ drop n bs
rest_min bs n = take_rest bs (min n (length bs)) ∙ drop_min n bs

pub chunk_whole : (bs : List ℕ) (n m : ℕ) → 8 ≤ length bs → n ≡ number_of (bytes_behind 4 4 bs)
    → 8 + n ≤ length bs → m ≡ min (8 + n + n % 2) (length bs)
    → Some (chunk_seen (take 4 bs) (take (8 + n - 8) (drop 8 bs)), take (length bs - m) (drop m bs)) ≡ first_chunk bs
unfolding first_chunk
chunk_whole bs n m le e h f =
    let long : 8 + n - 8 ≡ n = omega arith in
    rw (not_below (length bs) 8 le, ← e, not_below (length bs) (8 + n) h, long, f, rest_min bs (8 + n + n % 2)) refl

pub frame_short : (bs : List ℕ) → length bs < 8 → None ≡ first_of_frames bs
unfolding first_of_frames
frame_short bs h = rw (is_below (length bs) 8 h) refl

pub frame_flags : (bs : List ℕ) → 8 ≤ length bs → 31 < slice_index bs 3 → None ≡ first_of_frames bs
unfolding first_of_frames
frame_flags bs le h = rw (not_below (length bs) 8 le, is_below 31 (slice_index bs 3) h) refl

pub frame_bits : (bs : List ℕ) → 8 ≤ length bs → slice_index bs 3 ≤ 31 → 127 < slice_index bs 5
    → None ≡ first_of_frames bs
unfolding first_of_frames
frame_bits bs le h b =
    rw (not_below (length bs) 8 le, not_below 31 (slice_index bs 3) h, is_below 127 (slice_index bs 5) b) refl

pub frame_cut : (bs : List ℕ) (w : ℕ) → 8 ≤ length bs → slice_index bs 3 ≤ 31 → slice_index bs 5 ≤ 127
    → w ≡ word_count bs → length bs < 8 + 2 * (slice_index bs 3 % 16) + 2 * w → None ≡ first_of_frames bs
unfolding first_of_frames
frame_cut bs w le h b e cut =
    rw (
      not_below (length bs) 8 le,
      not_below 31 (slice_index bs 3) h,
      not_below 127 (slice_index bs 5) b,
      ← e,
      is_below (length bs) (8 + 2 * (slice_index bs 3 % 16) + 2 * w) cut,
    ) refl

pub frame_whole : (bs : List ℕ) (w pc supplied : ℕ) (result : Option ℕ) → 8 ≤ length bs → slice_index bs 3 ≤ 31
    → slice_index bs 5 ≤ 127 → w ≡ word_count bs → 8 + 2 * (slice_index bs 3 % 16) + 2 * w ≤ length bs
    → pc ≡ number_of (take 3 bs) → result ≡ result_in (slice_index bs 3) (slice_index bs 4)
    → supplied ≡ arguments_in 7 (slice_index bs 5)
    → Some (
      frame_seen (take (8 + 2 * (slice_index bs 3 % 16) - 8) (drop 8 bs))
          (take (8 + 2 * (slice_index bs 3 % 16) + 2 * w - (8 + 2 * (slice_index bs 3 % 16)))
          (drop (8 + 2 * (slice_index bs 3 % 16)) bs)) pc result supplied,
      take (length bs - (8 + 2 * (slice_index bs 3 % 16) + 2 * w))
          (drop (8 + 2 * (slice_index bs 3 % 16) + 2 * w) bs),
    ) ≡ first_of_frames bs
unfolding first_of_frames
frame_whole bs w pc supplied result le h b e fits p r s =
    let l : ℕ = slice_index bs 3 % 16 in
    let one : 8 + 2 * l - 8 ≡ 2 * l = omega arith in
    let two : 8 + 2 * l + 2 * w - (8 + 2 * l) ≡ 2 * w = omega arith in
    let rest : take (length bs - (8 + 2 * l + 2 * w)) (drop (8 + 2 * l + 2 * w) bs) ≡ drop (8 + 2 * l + 2 * w)
    bs = take_all (length bs - (8 + 2 * l + 2 * w)) (drop (8 + 2 * l + 2 * w) bs)
    (omega (arith, length-drop (8 + 2 * l + 2 * w) bs)) in
    rw (
      not_below (length bs) 8 le,
      not_below 31 (slice_index bs 3) h,
      not_below 127 (slice_index bs 5) b,
      ← e,
      not_below (length bs) (8 + 2 * l + 2 * w) fits,
      one,
      two,
      rest,
      p,
      r,
      s,
    ) refl
