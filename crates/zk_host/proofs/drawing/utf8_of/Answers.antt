use Rattle.std.specs.Prelude.{encode_utf8}
use Rattle.std.proofs.Common.{◌≡◌, ◌<◌, ◌∙◌, ◌++◌, ℕ, List, ap, arith, get_or, length, map, sym}
use Rattle.std.proofs.lemmas.List.{get_or-map, length-map}
use Rattle.zk_term.specs.declared.windows.Cell.{Cell}
use Rattle.zk_term.specs.Styles.{roman}
use Rattle.zk_term.specs.Windows.{character_of}
use Rattle.zk_host.proofs.Encoding.{next_encoded}
use Rattle.zk_host.proofs.drawing.utf8_of.Goals as goal

pub loop-cell-preserved : goal.loop-cell-preserved
loop-cell-preserved c =
    let cells = c.args.cells.now in
    let i = c.loop-cell.cell-index in
    let any : Cell = record { character = 0; style = roman } in
    let d : ℕ = character_of (get_or cells i any) in
    let there : d ≡ get_or (map character_of cells) i d =
    sym (get_or-map character_of cells i any d c.loop-cell-test.true) in
    let within : i < length (map character_of cells) = omega (
      arith,
      length-map cells character_of,
      c.loop-cell-test.true,
    ) in
    let bytes = c.as_bytes.ensures.value ∙ c.encode_utf8.ensures.value ∙ ap encode_utf8 there in
    let added = c.in-Ok.ensures.ok ∙ ap (λ (b : List ℕ). c.loop-cell.bytes.items ++ b) bytes in
    record {
      bytes = added ∙ next_encoded (map character_of cells) i d c.loop-cell.bytes.items within
          c.loop-cell.invariant.bytes;
      few = omega (
        arith,
        c.in-Ok.ensures.len,
        c.as_bytes.ensures.len,
        c.encode_utf8.ensures.upper_bound,
        c.loop-cell.invariant.few,
      );
    }
