-- `loosen` gives what an open handle owns.
use Rattle.std.proofs.Common.{◌≡◌, ℕ, Bool, true, false, List, [], ◌∷◌, ◌++◌, Option, Some, None, option_map, refl, sym}
use Rattle.std.proofs.Common.{subst, lit<}
use lib.Dec.{T}
use mathlib.Core.Bool.{◌&&◌}
use seplogic.Ra.Ura.{Ura}
use mir.Raw.{raw as bare}
use mir.Syntax.{ty_ptr}
use mir.Val.{Val, vptr, has_ty, WT, of_list}
use base.Logic.{SProp, ent, sep, emp, never, via, id⊢, fst∗, never_e}
use base.Fml.{ftrue}
use contract.Monad.{Fun, fact, fact_i}
use contract.Running.{tables}
use prog.Memory.{Memory}
use prog.Routine.{Routine}
use prog.Wp.{Calls, Loops, WpFn}
use types.Logic.{Logic, sem}
use types.Kit.{‵, raw, ◌⊛◌, at_ret, ◌$◌, ◌∵◌, !, qed, by, move, keep, split, fsplit, fjoin, suffices, use0, use1}
use types.Match.{live}
use types.Run.{fld, stop, of_opd, lit, no_more, and_then, first, branches, skips, exec, returns, returns_within, enter}
use types.ByLocal.{alloc_all, pass_all, free_all, look_at, get, get_in, sets, env}
use types.Part.{agg, sub, whole}
use denote.Exit.{yes}
use denote.RattleType.{RattleType, owns}
use denote.Memory.{lone}
use denote.RawPtr.{Ptr, block_ptr, null_ptr, ptr_val, rawptr_Lawful}
use denote.Signature.{types_at, plain}
use denote.Steps.{nothing}
use denote.Param.{layout}
use denote.Triple.Walked.{Stays, stay_dropped, walk_of, Goes-dropped}
use Rattle.core.proofs.alloc.Calls.{Al, handle_tells, Goes-blank}
use Rattle.core.proofs.cell.Inside.{Good}
use Rattle.core.proofs.option.Made.{Some-of, none_of}
use Rattle.core.specs.contracts.option.Option.{the_row as OptionOf}
use Rattle.std.proofs.raw_atomic.Walks.{proved_at, leaves}
use Rattle.std_alloc.proofs.ResultValues.{and_tt}
use Rattle.std.specs.Box.Ownership.{box_owns}
use Rattle.std.specs.contracts.alloc.Global.{the_row as Heap}
use Rattle.std.proofs.alloc.Global.TheLaws.{the_row_laws as heap_laws}
use Rattle.std.specs.contracts.impls.GlobalAllocator.TheImpl.{ghosts}
use Rattle.zk_host.specs.Owning.{holds, token}
use Rattle.zk_host.specs.contracts.play.Play.{the_row as Inner}
use Rattle.zk_host.proofs.Looseness.{Loose, both, al, loose_good, loose_in}
use Rattle.zk_host.proofs.Handling.{Zkit, word, zkit_out}
use Rattle.zk_host.specs.contracts.handle.Zkit.loosen as f
use Rattle.zk_host.proofs.handle.Zkit.loosen.Statement.{statement}
use Rattle.zk_host.proofs.handle.Zkit.loosen.Code as code

abbrev Loosened : RattleType
Loosened = Loose Inner Heap heap_laws ghosts

abbrev heap : Al
heap = al Inner Heap heap_laws ghosts

abbrev stayed : Stays f.ended.signature.params f.ended.kept
stayed = (stay_dropped (plain (λ _. Zkit)) yes, (stay_dropped (plain (λ _. Heap)) yes, tt))

module _ {M : Type 1} {𝓤 : Ura M} (𝓛 : Logic 𝓤) (at_mem : Memory → SProp 𝓤) (run : Routine → Fun 𝓤)
    (C : Calls 𝓤 𝓛.H) (Λ : Loops 𝓤 𝓛.H)
    (z : (walk_of 𝓛 f.ended stayed (f.clauses 𝓛 at_mem run)).Ghost) (h : Val) (fits : Good (layout Heap) h) where
  abbrev Post : Val → SProp 𝓤
  Post = (walk_of 𝓛 f.ended stayed (f.clauses 𝓛 at_mem run)).post z

  abbrev Run : List Val → SProp 𝓤
  Run ws = WpFn 𝓤 𝓛.H C Λ code.function ws Post

  abbrev Played : Option Inner.Denot → Type 0
  Played x = z.0.3.0.play ≡ x

  abbrev Handle : SProp 𝓤
  Handle = sem 𝓛 (Heap.own_val z.0.3.1.0 (h ∷ []))

  -- a handle's machine value is one
  word_good : (p : Ptr) (is_open : Bool) → T (has_ty ty_ptr (ptr_val p) && true) × WT (word p is_open)
  word_good p is_open = let is = ((rawptr_Lawful 𝓛).typed p (ptr_val p ∷ []) refl).0 in
      (and_tt (has_ty ty_ptr (ptr_val p)) is.0, (is.1, (tt, tt)))

  opened : (b o : ℕ) (x : Inner.Denot) → Played (Some x)
      → ent 𝓤 (sep 𝓤 (sem 𝓛 (box_owns token Inner (block_ptr b o) x)) Handle) (Run (word (block_ptr b o) true ∷ h ∷ []))
  opened b o x e =
      let a = z.0.3.1.0 in let l : Loosened.Denot = record { at = block_ptr b o; alloc = a; value = x } in
      let w : Val = both (vptr b o) h in
      let good = loose_good Inner Heap heap_laws ghosts b o h fits in let v : Val = live 1 (of_list (w ∷ [])) in
      let Is : Type 0 = option_map (λ (k : Loosened.Denot). k.value) (Some l) ≡ z.0.3.0.play in
      qed 𝓛 (‵ (box_owns token Inner (block_ptr b o) x) ∷ ‵ (Heap.own_val a (h ∷ [])) ∷ []) ∵
      enter ! C Λ code.function (word (block_ptr b o) true ∷ h ∷ []) Post $ alloc_all !
      (λ ls. pass_all ! refl (word_good (block_ptr b o) true, (fits, tt)) $
      sets ! (of_opd ! (get_in ! (fld ! refl (stop !)) (sub ! 0 refl (whole !)))) refl (tt, tt) $
      sets ! (of_opd ! (get_in ! (fld ! refl (stop !)) (sub ! 1 refl (whole !)))) refl (tt, tt) $
      sets ! (of_opd ! (get ! refl)) refl (tt, tt) $
      first ! $ branches ! (get ! refl)
      (λ big. sets ! (of_opd ! (get ! refl)) refl (tt, tt) $
      sets ! (agg ! (and_then ! (get ! refl) (and_then ! (get ! refl) (no_more !)))) refl good $
      sets ! (agg ! (and_then ! (lit ! tt) (and_then ! (get ! refl) (no_more !))))
      refl (and_tt (has_ty (layout Heap) h && true) good.0, (record { fits = lit< tt }, (good.1, tt))) $
      returns_within ! Post refl (look_at ! 0 refl) $ free_all ! refl $
      loose_in Inner Heap heap_laws ghosts ! b o h a x $ use1 𝓛
      (‵ ((OptionOf Loosened).own_val (Some l) (v ∷ []))) (Some-of 𝓛 Loosened l w) $
      use0 𝓛 (raw (fact 𝓤 Is)) (fact_i 𝓤 Is (emp 𝓤) (sym e)) $ move ! (1 ∷ []) $
      nothing ! $ nothing ! $ fjoin ! $ nothing ! $ fjoin ! $ nothing ! $
      by ! (leaves 𝓛 f.ended stayed (f.clauses 𝓛 at_mem run) z v (Some l) (tt, (tt, tt)) (tt, (tt, tt))))
      (λ small. absurd small))

  closed : (p : Ptr) → Played None → ent 𝓤 (sep 𝓤 (sem 𝓛 ftrue) Handle) (Run (word p false ∷ h ∷ []))
  closed p e =
      let v : Val = live 0 (of_list []) in let Is : Type 0 = option_map (λ (k : Loosened.Denot). k.value)
      None ≡ z.0.3.0.play in
      qed 𝓛 (‵ ftrue ∷ ‵ (Heap.own_val z.0.3.1.0 (h ∷ [])) ∷ []) ∵
      enter ! C Λ code.function (word p false ∷ h ∷ []) Post $ alloc_all !
      (λ ls. pass_all ! refl (word_good p false, (fits, tt)) $
      sets ! (of_opd ! (get_in ! (fld ! refl (stop !)) (sub ! 0 refl (whole !))))
      refl ((rawptr_Lawful 𝓛).typed p (ptr_val p ∷ []) refl).0 $
      sets ! (of_opd ! (get_in ! (fld ! refl (stop !)) (sub ! 1 refl (whole !)))) refl (tt, tt) $
      sets ! (of_opd ! (get ! refl)) refl (tt, tt) $
      first ! $ branches ! (get ! refl)
      (λ big. absurd big)
      (λ small. skips ! $ exec ! C Λ (env code.Mir.locals ls) code.Mir.t-5 (at_ret (env code.Mir.locals ls) Post) $
      sets ! (agg ! (and_then ! (lit ! tt) (no_more !))) refl (tt, (record { fits = lit< tt }, tt)) $
      returns ! (look_at ! 0 refl) $ free_all ! refl $ keep ! [] $
      use0 𝓛 (‵ ((OptionOf Loosened).own_val None (v ∷ []))) (none_of 𝓛 Loosened) $
      use0 𝓛 (raw (fact 𝓤 Is)) (fact_i 𝓤 Is (emp 𝓤) (sym e)) $ move ! (1 ∷ []) $
      nothing ! $ nothing ! $ fjoin ! $ nothing ! $ fjoin ! $ nothing ! $
      by ! (leaves 𝓛 f.ended stayed (f.clauses 𝓛 at_mem run) z v None (tt, (tt, tt)) (tt, (tt, tt)))))

  each : (p : Ptr) (is_open : Bool) (x : Option Inner.Denot) → Played x
      → ent 𝓤 (sep 𝓤 (sem 𝓛 (holds token Inner is_open p x)) Handle) (Run (word p is_open ∷ h ∷ []))
  each (block_ptr b o) true (Some x) e = opened b o x e
  each null_ptr true (Some x) e = via 𝓤 _ (fst∗ 𝓤 (sem 𝓛 (box_owns token Inner null_ptr x)) Handle)
      (via 𝓤 _ (fst∗ 𝓤 (never 𝓤) (sem 𝓛 (token (bare (lone Inner.mir)) null_ptr))) (never_e 𝓤 _))
  each p true None e = via 𝓤 _ (fst∗ 𝓤 (never 𝓤) Handle) (never_e 𝓤 _)
  each p false (Some x) e = via 𝓤 _ (fst∗ 𝓤 (never 𝓤) Handle) (never_e 𝓤 _)
  each p false None e = closed p e

pub loosen_spec : {M : Type 1} → statement M
loosen_spec 𝓤 𝓛 𝓜 𝓡 wired =
    let H = 𝓛.H in let 𝓣 = tables 𝓤 H 𝓜 𝓡 𝓡.env in let c = f.clauses 𝓛 𝓜.mem 𝓡.returns in let fn = code.function in
    proved_at 𝓛 f.ended stayed c 𝓜 𝓡 (
      Goes-blank 𝓛 0 (plain (λ _. Zkit)) yes (λ κs x f. tt),
      (Goes-dropped 𝓛 0 (plain (λ _. Heap)) yes (λ κs x f. refl), tt),
    ) f.Key.name fn
    (code.unfolded 𝓤 H 𝓜 𝓡 wired) (λ z are.
    let d = z.0.3.0 in let a = z.0.3.1.0 in let R = Run 𝓛 𝓜.mem 𝓡.returns 𝓣.C 𝓣.Λ z in
    qed 𝓛 ((‵ ftrue ⊛ ‵ (owns (types_at f.signature.params z.0.0) z.0.3 z.0.4))
    ∷ raw ((c z.0.0 z.0.3).requires z.1) ∷ []) ∵ split ! $ move ! (1 ∷ []) $ fsplit ! $ move ! (1 ∷ []) $ fsplit ! $
    handle_tells heap ! a z.0.4.1.0 (λ h eh fits. move ! (2 ∷ []) $ zkit_out ! d z.0.4.0 (λ ew. keep ! (0 ∷ 1 ∷ []) $
    suffices ! (R h fits (word d.at d.is_open ∷ h ∷ []))
    (subst (λ (us : List Val). ent 𝓤 (R h fits (word d.at d.is_open ∷ h ∷ [])) (R h fits us))
    (sym (λ i. ew i ++ (eh i ++ []))) (id⊢ 𝓤 (R h fits (word d.at d.is_open ∷ h ∷ [])))) $
    by ! (each 𝓛 𝓜.mem 𝓡.returns 𝓣.C 𝓣.Λ z h fits d.at d.is_open d.play refl))))
