use Rattle.std.proofs.Common.{◌∙◌, ◌++◌, ◌∷◌, [], take, append-nil, append_assoc, refl, sym, ap}
use Rattle.zk_inspect.proofs.Shortening.{kept_unit}
use Rattle.zk_inspect.proofs.listing.shortening.BeginningSink.put.Goals as goal

pub returns-in-Nothing-clause-ok : goal.returns-in-Nothing-clause-ok
returns-in-Nothing-clause-ok c =
    let s = c.args.self.now in
    let is = rw c.in-Nothing.is at c.of.ensures in (
      refl,
      λ all h. kept_unit s.extra.now all c.args.unit [] s.characters.items is
          (h ∙ ap (take 61) (sym (append-nil all))),
    )

pub returns-in-One-clause-ok : goal.returns-in-One-clause-ok
returns-in-One-clause-ok c =
    let s = c.args.self.now in
    let is = rw c.in-One.is at c.of.ensures in (
      c.keep.ensures.kept,
      λ all h. kept_unit s.extra.now all c.args.unit (c.in-One.c ∷ []) _ is
          (c.keep.ensures.first all h),
    )

pub returns-in-TwoSpaces-clause-ok : goal.returns-in-TwoSpaces-clause-ok
returns-in-TwoSpaces-clause-ok c =
    let s = c.args.self.now in
    let is = rw c.in-TwoSpaces.is at c.of.ensures in (
      c.keep-in-TwoSpaces-2.ensures.kept ∙ c.keep-in-TwoSpaces.ensures.kept,
      λ all h. kept_unit s.extra.now all c.args.unit (32 ∷ 32 ∷ []) _ is
          (c.keep-in-TwoSpaces-2.ensures.first (all ++ 32 ∷ []) (c.keep-in-TwoSpaces.ensures.first all h)
          ∙ ap (take 61) (append_assoc all (32 ∷ []) (32 ∷ []))),
    )
