use Rattle.zk_step.proofs.Keys.{encoded}
use Rattle.zk_step.proofs.opcodes.words.change_words.Goals as goal

pub returns-in_ok-letters-in-EncodeText : goal.returns-in_ok-letters-in-EncodeText
returns-in_ok-letters-in-EncodeText c =
    let found = c.in_ok-letters-in-EncodeText.ensures in
    let counted = rw (
      c.first-in-EncodeText.ensures,
      c.second-in-EncodeText.ensures,
      c.third-in-EncodeText.ensures,
    ) at found.1 in
    let stored = rw (
      c.as_slice-in-EncodeText.ensures.value,
      c.key-spelled.ensures.value,
      c.as_slice.ensures.value,
      c.fourth.ensures,
    ) at c.put_bytes.ensures in
    rw (
      c.in-EncodeText.is,
      encoded c.args.memory.now c.args.values.now found.0
          c.in_ok-letters-in-EncodeText.letters.items counted found.2,
    ) stored
