use Rattle.std.proofs.Common.{◌≡◌, ◌≤◌, ◌∙◌, List, ℕ, length, refl, ap, sym, arith}
use Rattle.zk_save.specs.Unpacking.{xored}
use Rattle.zk_save.specs.Ring.{bytes_in}
use Rattle.zk_save.proofs.Packs.{length-xored}
use Rattle.zk_save.proofs.Rings.{bytes_back}
use Rattle.zk_save.proofs.Wholes.{bytes_again}
use Rattle.zk_save.proofs.packed_state.PackedState.new.Goals as goal

pub invariant_of-result : goal.invariant_of-result
invariant_of-result c =
    let bytes : List ℕ = c.dynamic-dynamic.result.now in
    let file : List ℕ = c.original.result.now in
    let le : length bytes ≤ length file = omega (
      arith,
      c.dynamic-dynamic.ensures.len,
      c.dynamic-dynamic.ensures.within,
      ap length c.original.ensures,
    ) in
    let back = bytes_back c.in_ok-packed.packed.items bytes file le c.in_ok-packed.ensures.value in
    record { packing = rw back (sym c.in_ok-packed.ensures.value); long = ap length back ∙ length-xored bytes file le }

pub returns-clause-state : goal.returns-clause-state
returns-clause-state c =
    let bytes : List ℕ = c.dynamic-dynamic.result.now in
    let file : List ℕ = c.original.result.now in
    let le : length bytes ≤ length file = omega (
      arith,
      c.dynamic-dynamic.ensures.len,
      c.dynamic-dynamic.ensures.within,
      ap length c.original.ensures,
    ) in
    let back : bytes_in c.in_ok-packed.packed.items (length bytes) ≡ xored bytes file = bytes_back
    c.in_ok-packed.packed.items bytes file le c.in_ok-packed.ensures.value in
    rw (
      back,
      ← c.original.ensures,
      bytes_again bytes file le,
      c.dynamic-dynamic.ensures.value,
      c.in_ok-frames.ensures,
    ) refl

pub returns-clause-is_of : goal.returns-clause-is_of
returns-clause-is_of c =
    let bytes : List ℕ = c.dynamic-dynamic.result.now in
    let file : List ℕ = c.original.result.now in
    let le : length bytes ≤ length file = omega (
      arith,
      c.dynamic-dynamic.ensures.len,
      c.dynamic-dynamic.ensures.within,
      ap length c.original.ensures,
    ) in
    let back : bytes_in c.in_ok-packed.packed.items (length bytes) ≡ xored bytes file = bytes_back
    c.in_ok-packed.packed.items bytes file le c.in_ok-packed.ensures.value in
    record {
      dynamic = ap length back ∙ length-xored bytes file le ∙ c.dynamic-dynamic.ensures.len;
      some = rw c.in_ok-frames.ensures (omega arith);
      frames = rw c.in_ok-frames.ensures c.is_bounded.ensures.frames;
      words = rw c.in_ok-frames.ensures c.is_bounded.ensures.words;
    }
