use Rattle.std.proofs.Common.{◌≡◌, ◌++◌, take}
use Rattle.zk_save.specs.Quetzal.{words_bytes}
use Rattle.zk_snapshot.proofs.writing.put_words.Given as goal

abbrev pub invariant-loop-word : goal.invariant-loop-word
invariant-loop-word l = l.out.items ≡ l.fn.out.items ++ words_bytes (take l.word-index l.words)
