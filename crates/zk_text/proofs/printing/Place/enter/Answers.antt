use Rattle.std.proofs.Common.{◌∙◌, sym, refl}
use Rattle.zk_text.proofs.WordWalks.{entered, no_entry}
use Rattle.zk_text.proofs.printing.Place.enter.Goals as goal

pub unreachable-requires : goal.unreachable-requires
unreachable-requires c =
    no_entry c.args.memory.now c.args.number _
    (rw c.header-table.ensures at (sym c.word.ensures ∙ c.in_default.is)) c.requires.means

pub returns : goal.returns
returns c = record {
  there = entered c.args.memory.now c.args.number _ (rw c.header-table.ensures at (sym c.word.ensures ∙ c.in-Ok.is));
  taken_is = refl;
  held_is = refl;
  after_is = refl;
}
