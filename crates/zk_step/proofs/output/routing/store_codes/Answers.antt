use Rattle.std.proofs.Common.{◌≡◌, ◌+◌, length, arith, refl, ap}
use Rattle.zk_step.proofs.Filling.{few_stored, all_stored, all_refused}
use Rattle.zk_step.proofs.output.routing.store_codes.Goals as goal

pub overflow_cast-as_slice : goal.overflow_cast-as_slice
overflow_cast-as_slice c =
    let t = c.args.table in
    let stored = rw c.as_slice.ensures.value at c.in-Ok.ensures in
    let few = few_stored c.args.game.now.memory c.put_bytes.new.memory t.address t.count c.args.codes.now
    (omega arith) stored in
    let same : length c.as_slice-in-Ok.result.now ≡ length c.args.codes.now = ap length
    c.as_slice-in-Ok.ensures.value in
    omega (arith, few, same)

pub count-requires : goal.count-requires
count-requires c =
    let t = c.args.table in
    let stored = rw c.as_slice.ensures.value at c.in-Ok.ensures in
    rw (c.requires, c.as_slice-in-Ok.ensures.value) (few_stored c.args.game.now.memory c.put_bytes.new.memory
    t.address t.count c.args.codes.now (omega arith) stored)

pub returns-in-Ok-clause-value : goal.returns-in-Ok-clause-value
returns-in-Ok-clause-value c = λ all collected.
    let t = c.args.table in
    let m = c.args.game.now.memory in
    let stored = rw c.as_slice.ensures.value at c.in-Ok.ensures in
    let same = all_stored m c.put_bytes.new.memory (t.address + 2 + t.count) c.args.codes.now all collected
    (omega arith) stored in
    rw (← same, stored, c.count.ensures, c.as_slice-in-Ok.ensures.value) refl

pub returns-in-Err-clause-value : goal.returns-in-Err-clause-value
returns-in-Err-clause-value c = λ all collected.
    let t = c.args.table in
    let m = c.args.game.now.memory in
    let refused = rw c.as_slice.ensures.value at c.in-Err.ensures in
    rw (all_refused m (t.address + 2 + t.count) c.args.codes.now all c.in-Err.fault collected refused) refl
