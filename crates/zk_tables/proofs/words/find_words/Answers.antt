use Rattle.std.proofs.Common.{◌∙◌, arith}
use Rattle.zk_tables.proofs.Dividing.{words_on, words_end}
use Rattle.zk_tables.proofs.words.find_words.Goals as goal

pub loop-position-preserved : goal.loop-position-preserved
loop-position-preserved c = record {
  so_far = words_on c.args.memory.now c.args.dictionary.now c.args.letters.now c.loop-position.position
      c.loop-position.inside c.as_slice-separators.result.now c.token_at-token.result c.is_of_word-inside.result
      c.loop-position.words.items _ c.put_word.new.words.items (c.as_slice-separators.ensures.value
      ∙ c.read_separators-separators.ensures) c.loop-position-test.true c.token_at-token.ensures.value
      c.is_of_word-inside.ensures c.put_word.ensures.value c.loop-position.invariant.so_far;
  room = omega (arith, c.put_word.ensures.room, c.loop-position.invariant.room);
}

pub returns : goal.returns
returns c = words_end c.args.memory.now c.args.dictionary.now c.args.letters.now c.loop-position.position
    c.loop-position.inside c.loop-position.words.items _ c.loop-position-test.false c.loop-position.invariant.so_far
