use Rattle.std.proofs.Common.{◌+◌, ◌∷◌, ◌≡◌, ◌≤◌, ◌∙◌, List, ℕ, arith, true, false, take, drop, get_or, length}
use Rattle.std.proofs.Common.{length-set, sym, refl, ap}
use Rattle.std.proofs.lemmas.List.{length-take}
use Rattle.std.specs.Prelude.{bit_xor}
use Rattle.zk_mem.specs.Map.{MemoryMap, with_byte}
use Rattle.zk_mem.specs.Again.{with_bytes}
use Rattle.zk_save.specs.Unpacking.{xored}
use Rattle.zk_save.proofs.Turns.{Rest, rest_start, rest_next, rest_skip, rest_run, rest_byte, rest_past, rest_all}
use Rattle.zk_save.proofs.packing.turn.Goals as goal

pub loop-byte-init : goal.loop-byte-init
loop-byte-init c =
    let m = c.args.memory.now in
    let n = c.dynamic-end.ensures in
    let long : length (take m.static_base m.bytes) ≡ m.static_base = ap length (sym n.value) ∙ n.len in
    let high : m.static_base ≤ length m.bytes = omega (arith, long, length-take m.static_base m.bytes) in
    record {
      within = omega arith;
      base = sym n.len;
      high = omega (arith, high, n.len);
      small = omega (arith, n.len, n.small);
      same = refl;
      rest = λ ds h e. rest_start c.args.packed.now m.bytes ds (length c.dynamic-end.result.now) h (e ∙ sym n.len)
          (omega (arith, high, n.len));
    }

pub loop-byte-preserved-then-run : goal.loop-byte-preserved-then-run
loop-byte-preserved-then-run c = record {
  within = omega (arith, c.min-at.ensures, c.loop-byte.invariant.within);
  base = c.loop-byte.invariant.base;
  high = c.loop-byte.invariant.high;
  small = c.loop-byte.invariant.small;
  same = c.loop-byte.invariant.same;
  rest = λ ds h e.
      let l = c.loop-byte in
      let i = l.byte-index in
      let cs = c.args.packed.now in
      let end = length c.dynamic-end.result.now in
      let whole = xored c.args.memory.now.bytes ds in
      let r : Rest true (get_or cs i 0 ∷ drop (i + 1) cs) l.at end l.memory.bytes whole = rest_next l.run true cs
      i l.at end l.memory.bytes whole c.if-run.true c.loop-byte-test.true (l.invariant.rest ds h e) in
      rest_skip (get_or cs i 0) (drop (i + 1) cs) l.at (l.at + c.min-at.result) end l.memory.bytes whole
      (omega (arith, c.min-at.ensures)) l.invariant.high r;
}

pub loop-byte-preserved-then-byte-eq0 : goal.loop-byte-preserved-then-byte-eq0
loop-byte-preserved-then-byte-eq0 c = record {
  within = c.loop-byte.invariant.within;
  base = c.loop-byte.invariant.base;
  high = c.loop-byte.invariant.high;
  small = c.loop-byte.invariant.small;
  same = c.loop-byte.invariant.same;
  rest = λ ds h e.
      let l = c.loop-byte in
      let i = l.byte-index in
      let cs = c.args.packed.now in
      let end = length c.dynamic-end.result.now in
      let whole = xored c.args.memory.now.bytes ds in
      let r : Rest false (get_or cs i 0 ∷ drop (i + 1) cs) l.at end l.memory.bytes whole = rest_next l.run false
      cs i l.at end l.memory.bytes whole c.if-run.false c.loop-byte-test.true (l.invariant.rest ds h e) in
      rest_run (get_or cs i 0) (drop (i + 1) cs) l.at end l.memory.bytes whole c.if-byte-eq0.true r;
}

pub loop-byte-preserved-then-at-end : goal.loop-byte-preserved-then-at-end
loop-byte-preserved-then-at-end c = record {
  within = c.loop-byte.invariant.within;
  base = c.loop-byte.invariant.base;
  high = c.loop-byte.invariant.high;
  small = c.loop-byte.invariant.small;
  same = c.loop-byte.invariant.same;
  rest = λ ds h e.
      let l = c.loop-byte in
      let i = l.byte-index in
      let cs = c.args.packed.now in
      let end = length c.dynamic-end.result.now in
      let whole = xored c.args.memory.now.bytes ds in
      let r : Rest false (get_or cs i 0 ∷ drop (i + 1) cs) l.at end l.memory.bytes whole = rest_next l.run false
      cs i l.at end l.memory.bytes whole c.if-run.false c.loop-byte-test.true (l.invariant.rest ds h e) in
      absurd (rest_past (get_or cs i 0) (drop (i + 1) cs) l.at end l.memory.bytes whole c.if-byte-eq0.false
      c.if-at-end.true r);
}

pub loop-byte-preserved : goal.loop-byte-preserved
loop-byte-preserved c =
    let l = c.loop-byte in
    let i = l.byte-index in
    let cs = c.args.packed.now in
    let end = length c.dynamic-end.result.now in
    let m : MemoryMap = l.memory in
    let v : ℕ = bit_xor (get_or m.bytes l.at 0) (get_or cs i 0) in
    let turned : c.flip.new.self ≡ with_byte m l.at v = c.flip.ensures in
    record {
      within = omega (arith, c.if-at-end.false);
      base = ap (λ (n : MemoryMap). n.static_base) turned ∙ l.invariant.base;
      high = omega (arith, ap (λ (n : MemoryMap). length n.bytes) turned, length-set m.bytes l.at v, l.invariant.high);
      small = l.invariant.small;
      same = turned ∙ ap (λ (n : MemoryMap). with_byte n l.at v) l.invariant.same
          ∙ sym (ap (λ (n : MemoryMap). with_bytes c.args.memory.now n.bytes) turned);
      rest = λ ds h e.
          let whole = xored c.args.memory.now.bytes ds in
          let r : Rest false (get_or cs i 0 ∷ drop (i + 1) cs) l.at end m.bytes whole = rest_next l.run false cs i
          l.at end m.bytes whole c.if-run.false c.loop-byte-test.true (l.invariant.rest ds h e) in
          rw (c.if-run.false, turned) (rest_byte (get_or cs i 0) (drop (i + 1) cs) l.at end m.bytes whole
          c.if-byte-eq0.false (omega (arith, c.if-at-end.false, l.invariant.high)) r);
    }

pub returns-clause-turned : goal.returns-clause-turned
returns-clause-turned c = λ ds h e.
    let l = c.loop-byte in
    let bytes = rest_all l.run c.args.packed.now l.byte-index l.at (length c.dynamic-end.result.now)
    l.memory.bytes (xored c.args.memory.now.bytes ds) c.loop-byte-test.false (l.invariant.rest ds h e) in
    l.invariant.same ∙ ap (λ (b : List ℕ). with_bytes c.args.memory.now b) bytes
