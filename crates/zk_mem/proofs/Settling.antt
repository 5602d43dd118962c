-- Memory that is settled keeps to what memories keep to.
use Rattle.std.proofs.Common.{◌≡◌, ◌≤◌, ◌∙◌, ℕ, List, length, drop, min, ap, arith}
use Rattle.std.proofs.lemmas.List.{drop-set-lt}
use Rattle.std.proofs.Math.ListN.{length-set}
use Rattle.zk_mem.specs.declared.header.Header.{Header}
use Rattle.zk_mem.specs.declared.memory.Setup.{Setup}
use Rattle.zk_mem.specs.Fresh.{with_fields}
use Rattle.zk_mem.specs.Again.{with_flags}
use Rattle.zk_mem.specs.Map.{IsWhole}
use Rattle.zk_mem.proofs.Fields.{length-with_fields, drop-with_fields}

pub length-with_flags : (flags : ℕ) (bytes : List ℕ) → length (with_flags flags bytes) ≡ length bytes
length-with_flags flags bytes = length-set bytes 0x11 _

pub drop-with_flags : (n flags : ℕ) (bytes : List ℕ) → 64 ≤ n → drop n (with_flags flags bytes) ≡ drop n bytes
drop-with_flags n flags bytes h = drop-set-lt n bytes 0x11 _ (omega arith)

pub whole_settled : (header : Header) (readable : ℕ) (bytes file new : List ℕ) (version : ℕ) (setup : Setup) (flags : ℕ)
    → IsWhole header readable bytes file
    → new ≡ with_fields version setup (with_flags flags bytes) → IsWhole header readable new file
whole_settled header readable bytes file new version setup flags w e =
    let long : length new ≡ length bytes = ap length e ∙ length-with_fields version setup
    (with_flags flags bytes) ∙ length-with_flags flags bytes in
    let base = header.static_base in
    record {
      header_is = w.header_is;
      readable_is = w.readable_is ∙ ap (λ (n : ℕ). min n 65536) (omega (arith, long));
      length_is = long ∙ w.length_is;
      shortest = omega (arith, w.shortest);
      longest = omega (arith, w.longest);
      static_low = w.static_low;
      static_high = w.static_high;
      static_is = ap (drop base) e ∙ drop-with_fields base version setup (with_flags flags bytes)
          w.static_low ∙ drop-with_flags base flags bytes w.static_low ∙ w.static_is;
    }
