-- A story's memory at its start keeps to what memories keep to.
use Rattle.std.proofs.Common.{◌≡◌, ◌≤◌, ◌<◌, ◌∙◌, ℕ, List, length, drop, min, ap, arith}
use Rattle.zk_mem.specs.declared.header.Header.{Header}
use Rattle.zk_mem.specs.Header.{header_of, word_in}
use Rattle.zk_mem.specs.Story.{IsBounded}
use Rattle.zk_mem.specs.declared.memory.Setup.{Setup}
use Rattle.zk_mem.specs.Fresh.{with_fields}
use Rattle.zk_mem.specs.Map.{IsWhole}
use Rattle.zk_mem.proofs.Fields.{length-with_fields, drop-with_fields}

base_is : (file : List ℕ) (header : Header) → header ≡ header_of file → header.static_base ≡ word_in file 0x0e
unfolding header_of
base_is file header e = ap (λ (h : Header). h.static_base) e

pub whole_start : (file bytes : List ℕ) (header : Header) (version : ℕ) (setup : Setup) (readable : ℕ) → IsBounded file
    → header ≡ header_of file → header.static_base < 65536
    → bytes ≡ with_fields version setup file → readable ≡ min (length bytes) 65536
    → IsWhole header readable bytes file
whole_start file bytes header version setup readable bounded h word b r =
    let base = base_is file header h in
    let long : length bytes ≡ length file = ap length b ∙ length-with_fields version setup file in
    let low : 64 ≤ header.static_base = omega (arith, bounded.static_low) in
    record {
      header_is = h;
      readable_is = r;
      length_is = long;
      shortest = omega (arith, bounded.header);
      longest = omega (arith, bounded.longest);
      static_low = low;
      static_high = omega (arith, bounded.static_high);
      static_is = ap (drop header.static_base) b ∙ drop-with_fields header.static_base version setup file low;
    }
