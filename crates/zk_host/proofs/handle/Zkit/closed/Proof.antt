-- `closed` makes a handle that owns nothing.
use Rattle.std.proofs.Common.{◌≡◌, false, [], ◌∷◌, None, refl, lit<}
use mir.Val.{Val}
use base.Logic.{SProp, emp}
use types.Kit.{raw, ◌$◌, ◌∵◌, !, qed, by, drop, use0}
use types.Run.{lit, false_lit, no_more, and_then, returns, enter}
use types.ByLocal.{alloc_all, free_all, look_at, pass_all, sets}
use types.Part.{agg}
use contract.Monad.{fact, fact_i}
use contract.Running.{tables}
use denote.RawPtr.{null_ptr}
use denote.Steps.{nothing}
use denote.Triple.Entry.{on_entry}
use denote.Triple.Walked.{walk_of}
use Rattle.std.proofs.raw_atomic.Walks.{proved, leaves}
use Rattle.std.specs.Prelude.{Option}
use Rattle.zk_host.specs.declared.play.Play.{Play}
use Rattle.zk_host.proofs.Handling.{word, zkit_in}
use Rattle.zk_host.specs.contracts.handle.Zkit.closed as f
use Rattle.zk_host.proofs.handle.Zkit.closed.Statement.{statement}
use Rattle.zk_host.proofs.handle.Zkit.closed.Code as code

pub closed_spec : {M : Type 1} → statement M
closed_spec 𝓤 𝓛 𝓜 𝓡 wired =
    let c = f.clauses 𝓛 𝓜.mem 𝓡.returns in let 𝓣 = tables 𝓤 𝓛.H 𝓜 𝓡 𝓡.env in
    proved 𝓛 f.ended tt c 𝓜 𝓡 tt f.Key.name code.function (code.unfolded 𝓤 𝓛.H 𝓜 𝓡 wired) (λ κs. tt) (λ κs. tt)
    (λ κs qs bounds a g are.
    let y : (walk_of 𝓛 f.ended tt c).Ghost = ((κs, qs, bounds, a, tt), g) in let Post : Val
    → SProp 𝓤 = (walk_of 𝓛 f.ended tt c).post y in let v : Val = word null_ptr false in
    let play : Option Play = None in
    qed 𝓛 (raw (on_entry 𝓛 f.signature κs qs a tt) ∷ raw ((c κs a).requires g) ∷ []) ∵ drop ! $ drop ! $
    enter ! 𝓣.C 𝓣.Λ code.function [] Post $ alloc_all ! (λ l. pass_all ! refl tt $
    sets ! (agg ! (and_then ! (lit ! tt) (and_then ! (false_lit !) (no_more !))))
    refl (tt, (record { fits = lit< tt }, (tt, tt))) $
    returns ! (look_at ! 0 refl) $ free_all ! refl $
    use0 𝓛 (raw (fact 𝓤 (play ≡ None))) (fact_i 𝓤 (play ≡ None) (emp 𝓤) refl) $ nothing ! $ zkit_in ! null_ptr
    false None $
    nothing ! $ nothing ! $ by ! (leaves 𝓛 f.ended tt c y v
    (record { at = null_ptr; is_open = false; play = None }) tt tt)))
