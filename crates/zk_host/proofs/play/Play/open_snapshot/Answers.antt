use Rattle.std.proofs.Common.{◌≡◌, ℕ, List, None, Err, subst, rules}
use Rattle.zk_mem.specs.Story.{refusal}
use Rattle.zk_host.specs.Calls.{IsPlayOpened}
use Rattle.zk_host.proofs.Exporting.{snapshot_refused_by}
use Rattle.zk_host.proofs.play.Play.open_snapshot.Goals as goal

pub returns-in-Err-opened : goal.returns-in-Err-opened
returns-in-Err-opened c =
    let is : refusal c.args.story.now ≡ None = search rules in
    let same : c.in-Ok.story ≡ c.args.story.now = search rules in
    snapshot_refused_by c.args.story.now c.args.bytes.now c.args.most c.in-Err-opened.refusal is
    (subst (λ (s : List ℕ). IsPlayOpened s c.args.bytes.now c.args.most (Err c.in-Err-opened.refusal)) same
    c.in-Err-opened.ensures)
