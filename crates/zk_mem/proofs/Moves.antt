-- Bytes that are copied within memory.
use Rattle.std.proofs.Common.{◌≡◌, ◌≤◌, ◌∙◌, ℕ, ◌+◌, ◌-◌, List, length, drop, min, sym, ap, arith}
use Rattle.std.proofs.lemmas.List.{drop-drop, length-drop}
use Rattle.std.proofs.lemmas.List.Edits.{length-paste, drop-paste}
use Rattle.std.proofs.Math.Seq.{paste}
use Rattle.zk_mem.specs.declared.header.Header.{Header}
use Rattle.zk_mem.specs.Map.{IsWhole}

-- after what was copied, bytes are as before
behind : (bytes : List ℕ) (from to count base : ℕ) → from + count ≤ length bytes → to + count ≤ base
    → base ≤ length bytes → drop base (paste bytes to (drop from bytes) count) ≡ drop base bytes
behind bytes from to count base inside dynamic within =
    let rest : to + count + (base - (to + count)) ≡ base = omega arith in
    let end = drop-paste bytes to (drop from bytes) count (omega arith) (omega (arith, length-drop from bytes)) in
    ap (λ (n : ℕ). drop n (paste bytes to (drop from bytes) count)) (sym rest)
    ∙ sym (drop-drop (base - (to + count)) (to + count) (paste bytes to (drop from bytes) count))
    ∙ ap (drop (base - (to + count))) end
    ∙ drop-drop (base - (to + count)) (to + count) bytes
    ∙ ap (λ (n : ℕ). drop n bytes) rest

pub whole_moved : (header : Header) (readable : ℕ) (bytes file : List ℕ) (from to count : ℕ)
    → IsWhole header readable bytes file → from + count ≤ length bytes → to + count ≤ header.static_base
    → IsWhole header readable (paste bytes to (drop from bytes) count) file
whole_moved header readable bytes file from to count whole inside dynamic =
    let high = whole.static_high in
    let end = whole.readable_is in
    let within : header.static_base ≤ length bytes = omega arith in
    let size = length-paste bytes to (drop from bytes) count (omega arith) (omega (arith, length-drop from bytes)) in
    record {
      header_is = whole.header_is;
      readable_is = whole.readable_is ∙ ap (λ (n : ℕ). min n 65536) (sym size);
      length_is = size ∙ whole.length_is;
      shortest = rw size whole.shortest;
      longest = rw size whole.longest;
      static_low = whole.static_low;
      static_high = whole.static_high;
      static_is = behind bytes from to count header.static_base inside dynamic within ∙ whole.static_is;
    }
