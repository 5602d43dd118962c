use Rattle.std.proofs.Common.{◌∙◌, ◌++◌, ◌∷◌, [], take, sym, ap, subst, List, ℕ}
use Rattle.std.proofs.lemmas.List.{take_more}
use Rattle.zk_inspect.specs.Listing.{quoted_bytes}
use Rattle.zk_inspect.specs.Quoted.{quoted-append}
use Rattle.zk_inspect.proofs.listing.shortening.write_characters.Goals as goal

pub loop-c-init : goal.loop-c-init
unfolding quoted_bytes
loop-c-init g c = g.met.P.LineWriter.nothing c.args.writer.now

pub loop-c-preserved : goal.loop-c-preserved
loop-c-preserved g c =
    let xs = c.args.characters.now in
    let i = c.loop-c.c-index in
    let x = c.c-item.result in
    let more = take_more xs i x c.loop-c-test.true ∙ ap (λ (y : ℕ). take i xs ++ y ∷ []) (sym c.c-item.is) in
    let all = ap quoted_bytes more ∙ quoted-append (take i xs) (x ∷ []) in
    subst (λ (l : List ℕ). g.P.LineWriter.wrote c.args.writer.now c.write_character.new.writer l) (sym all)
    (g.met.P.LineWriter.twice _ _ _ _ _ c.loop-c.invariant c.write_character.ensures)
