use Rattle.std.proofs.Common.{◌∙◌, arith, sym}
use Rattle.std.proofs.lemmas.List.{length-take-le}
use Rattle.zk_names.proofs.Pieces.{piece_is}
use Rattle.zk_names.proofs.document.cut_tag.Goals as goal

pub returns : goal.returns
returns c = record {
  whole = piece_is 62 c.args.piece.now c.length_before-end.result c.length_before-end.ensures.value
      (omega (arith, c.length_before-end.ensures.within, c.if-end-piece.false));
  first = sym c.length_before-end.ensures.value
      ∙ sym (length-take-le c.length_before-end.result c.args.piece.now c.length_before-end.ensures.within);
}
