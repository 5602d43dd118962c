use Rattle.std.proofs.Common.{◌≡◌, ◌∙◌, ◌+◌, ◌*◌, ◌/◌, ℕ, List, length, arith, ap}
use Rattle.zk_save.specs.Packing.{packed}
use Rattle.zk_save.specs.Unpacking.{xored}
use Rattle.zk_save.proofs.Packs.{pack_start, pack_end, alike_wait, length-xored}
use Rattle.zk_save.proofs.RoundTrip.{packs_short}
use Rattle.zk_save.proofs.packing.pack_difference.Goals as goal
use Rattle.zk_save.proofs.packing.pack_difference.Goals.{then-is_alike, else-is_alike+in_ok-zeros}

pub loop-block-init : goal.loop-block-init
loop-block-init c =
    record {
      whole = pack_start (xored c.args.bytes.now c.args.file.now) c.new-out.result.items
          c.new-out.ensures.items;
      few = omega arith;
    }

pub loop-block-preserved : goal.loop-block-preserved
loop-block-preserved c =
    let start : ℕ = c.loop-block.block * 64 in
    let next : (c.loop-block.block + 1) * 64 ≡ start + 64 = omega arith in
    elim c.if-is_alike.branch [
      | then-is_alike w ↦ record {
        whole =
            rw (w.out-is, w.zeros-is, next) (alike_wait c.args.bytes.now c.args.file.now c.loop-block.out.items 64
            start c.loop-block.zeros (omega arith) c.requires (c.is_alike.ensures w.if-is_alike.true)
            ∙ c.loop-block.invariant.whole);
        few = omega (arith, w.zeros-is, c.loop-block.invariant.few);
      }
      | else-is_alike+in_ok-zeros w ↦ record {
        whole = rw (w.out-is, w.zeros-is, next) (w.in_ok-zeros.ensures.value ∙ c.loop-block.invariant.whole);
        few = omega (arith, w.zeros-is, w.in_ok-zeros.ensures.few);
      }
    ]

pub returns-clause-value : goal.returns-clause-value
returns-clause-value c =
    let xs : List ℕ = xored c.args.bytes.now c.args.file.now in
    let long : length xs ≡ length c.args.bytes.now = length-xored c.args.bytes.now c.args.file.now c.requires in
    let end : c.loop-block.block ≡ length c.args.bytes.now / 64 = omega (
      arith,
      c.loop-block-test.false,
      c.loop-block.auto.block-end,
    ) in
    pack_end xs c.put_part-2.new.out.items (packed xs) c.in_ok-put_part.field-0 (length c.args.bytes.now)
    (omega (arith, long)) (c.in_ok-put_part.ensures.value ∙ rw end at c.loop-block.invariant.whole)

pub returns-clause-short : goal.returns-clause-short
returns-clause-short c =
    let xs : List ℕ = xored c.args.bytes.now c.args.file.now in
    let long : length xs ≡ length c.args.bytes.now = length-xored c.args.bytes.now c.args.file.now c.requires in
    let end : c.loop-block.block ≡ length c.args.bytes.now / 64 = omega (
      arith,
      c.loop-block-test.false,
      c.loop-block.auto.block-end,
    ) in
    let whole = pack_end xs c.put_part-2.new.out.items (packed xs) c.in_ok-put_part.field-0
    (length c.args.bytes.now) (omega (arith, long)) (c.in_ok-put_part.ensures.value
    ∙ rw end at c.loop-block.invariant.whole) in
    omega (arith, ap length whole, packs_short xs, long)
