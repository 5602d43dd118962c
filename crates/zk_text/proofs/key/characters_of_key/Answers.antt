use Rattle.std.proofs.Common.{◌++◌, ◌+◌, ◌∙◌, drop, get_or, append_assoc, arith, ap, length}
use Rattle.zk_text.specs.Keys.{spelling, spellings, fives}
use Rattle.zk_text.proofs.Spells.{spell_on, filled, key_length}
use Rattle.zk_text.proofs.key.characters_of_key.Goals as goal

pub loop-code-preserved : goal.loop-code-preserved
loop-code-preserved c =
    let text = c.args.text.now in
    let i = c.loop-code.code-index in
    let on = spell_on c.args.memory.now text i (omega arith) in
    record {
      so_far = c.put_letter.ensures.next (spellings c.args.memory.now (drop (i + 1) text) ++ fives c.args.most)
          ∙ rw (
            ← append_assoc (spelling c.args.memory.now (get_or text i 0))
                (spellings c.args.memory.now (drop (i + 1) text)) (fives c.args.most),
            ← on,
          ) c.loop-code.invariant.so_far;
      room = c.put_letter.ensures.room;
    }

pub returns-clause-value : goal.returns-clause-value
returns-clause-value c = filled c.args.memory.now c.args.most c.loop-i._i c.loop-i.characters.items
    c.args.text.now (omega arith) c.loop-i.invariant.room c.loop-i.invariant.so_far

pub returns-clause-length : goal.returns-clause-length
returns-clause-length c =
    let whole = filled c.args.memory.now c.args.most c.loop-i._i c.loop-i.characters.items c.args.text.now
    (omega arith) c.loop-i.invariant.room c.loop-i.invariant.so_far in
    ap length whole ∙ key_length c.args.memory.now c.args.most c.args.text.now
