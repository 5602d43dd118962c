use Rattle.std.proofs.Common.{◌∙◌, ◌++◌, List, ℕ, ap}
use Rattle.zk_page.proofs.Parts.{in_order}
use Rattle.zk_page.specs.Pages.{title_place}
use Rattle.zk_page.proofs.page.page_of.Goals as goal

pub returns : goal.returns
returns c = record {
  before = c.in-Some.before.now;
  between = c.in-Some-split_at_piece.between.now;
  after = c.in-Some-split_at_piece.after.now;
  template_is = c.in-Some.ensures
      ∙ ap (λ (l : List ℕ). c.in-Some.before.now ++ (title_place ++ l)) c.in-Some-split_at_piece.ensures;
  page_is =
      in_order _ _ _ _ _ _ _ _ _ _ _ c.new-page.ensures.items c.in_ok-extend_from_slice.ensures.items
      c.in_ok-push_title.ensures c.in_ok-extend_from_slice-2.ensures.items c.in_ok-push_parts.ensures
      c.in_ok-extend_from_slice-3.ensures.items;
}
