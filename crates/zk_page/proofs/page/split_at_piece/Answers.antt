use Rattle.std.proofs.Common.{◌∙◌, ◌++◌, ◌-◌, List, ℕ, ap, drop, length, sym, take}
use Rattle.std.proofs.lemmas.Bool.Decides.{Decides-eqb}
use Rattle.std.proofs.lemmas.List.{take-append-drop, take_rest}
use Rattle.std.proofs.lemmas.Slice.Eq.{strip_prefix_is}
use Rattle.zk_page.proofs.page.split_at_piece.Goals as goal

pub returns-in-Some : goal.returns-in-Some
returns-in-Some c =
    let bytes = c.args.bytes.now in
    let at = c.loop-at.at in
    let behind = take (length bytes - at) (drop at bytes) in
    let here = rw c.in-Some.is at (strip_prefix_is Decides-eqb behind c.args.piece.now
    c.strip_prefix.result c.strip_prefix.ensures.cases) in
    sym (take-append-drop at bytes) ∙ ap (λ (l : List ℕ). take at bytes ++ l) (sym (take_rest bytes at) ∙ here)
