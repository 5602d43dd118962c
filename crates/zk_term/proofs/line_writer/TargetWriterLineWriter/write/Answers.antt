use Rattle.std.proofs.Common.{◌≡◌, ◌∙◌, ap, refl}
use Rattle.zk_term.proofs.LineWriters.{sent_all, sent_first, sent_part}
use Rattle.zk_term.proofs.line_writer.TargetWriterLineWriter.write.Goals as goal

pub returns-in-Err-write_all : goal.returns-in-Err-write_all
returns-in-Err-write_all g c =
    let same : c.as_slice.result.now ≡ c.args.self.now.waiting.items = c.as_slice.ensures.value
    ∙ ap (λ (v : _). v.items) c.in-Err.ensures.err in (
      refl,
      sent_part _ _ _ c.args.bytes.now same c.if-self.false refl c.in-Err-write_all.ensures.part
          c.in-Err-write_all.ensures.failed,
    )

pub returns-in-Ok-write_all-2 : goal.returns-in-Ok-write_all-2
returns-in-Ok-write_all-2 g c =
    let same : c.as_slice.result.now ≡ c.args.self.now.waiting.items = c.as_slice.ensures.value
    ∙ ap (λ (v : _). v.items) c.in-Err.ensures.err in (
      refl,
      sent_all _ _ _ _ _ same c.if-self.false c.if-self.false c.clear.ensures c.in-Ok-write_all.ensures.all
          c.in-Ok-write_all-2.ensures.all (c.in-Ok-write_all-2.ensures.failed ∙ c.in-Ok-write_all.ensures.failed),
    )

pub returns-in-Err-write_all-2 : goal.returns-in-Err-write_all-2
returns-in-Err-write_all-2 g c =
    let same : c.as_slice.result.now ≡ c.args.self.now.waiting.items = c.as_slice.ensures.value
    ∙ ap (λ (v : _). v.items) c.in-Err.ensures.err in (
      refl,
      sent_first _ _ _ _ _ same c.if-self.false refl c.in-Ok-write_all.ensures.all
          c.in-Err-write_all-2.ensures.part c.in-Err-write_all-2.ensures.failed,
    )
