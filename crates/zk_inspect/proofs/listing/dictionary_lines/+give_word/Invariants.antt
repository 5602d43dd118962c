use Rattle.std.proofs.Common.{length}
use Rattle.zk_inspect.proofs.listing.dictionary_lines.+give_word.Given as goal

abbrev pub decreases-give_word : goal.decreases-give_word
decreases-give_word g l = length l.characters.now
