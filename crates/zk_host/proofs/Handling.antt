-- The machine value of a `Zkit`, and what it owns. Assumes `Logic`.
use Rattle.std.proofs.Common.{◌≡◌, ◌∙◌, Bool, List, [], ◌∷◌, ◌++◌, Option, refl}
use seplogic.Ra.Ura.{Ura}
use mir.Val.{Val, vbool, vstruct, vcons, vnil, of_list}
use types.Logic.{Logic}
use types.Kit.{Item, Goal, Seq, Step, step, ‵, ◌$◌, drop, fsplit, fjoin, fpick, fpack, feq_i, feq_l}
use denote.RattleType.{RattleType, Valss}
use denote.Builtin.{bool}
use denote.RawPtr.{Ptr, RawPtr, ptr_val}
use denote.Steps.{nothing}
use denote.Struct.Struct.{within}
use denote.Struct.Owning.{shape}
use Rattle.zk_host.specs.Owning.{holds, token}
use Rattle.zk_host.specs.declared.play.Play.{Play}
use Rattle.zk_host.specs.contracts.play.Play as play
use Rattle.zk_host.specs.contracts.handle.Zkit as zkit

abbrev pub Zkit : RattleType
Zkit = zkit.the_row

-- a pointer and whether it is open
abbrev pub word : Ptr → Bool → Val
word p is_open = vstruct (vcons (ptr_val p) (vcons (vbool is_open) vnil))

module _ {M : Type 1} {𝓤 : Ura M} {𝓛 : Logic 𝓤} {K : Type 0} {Γ : List (Item 𝓤)} {G : Goal 𝓤 𝓛.H} where
  pub zkit_out : K → (d : Zkit.Denot) (vs : List Val)
      → (vs ≡ word d.at d.is_open ∷ [] → Seq K 𝓛 (‵ (holds token play.the_row d.is_open d.at d.play) ∷ Γ) G)
      → Seq K 𝓛 (‵ (Zkit.own_val d vs) ∷ Γ) G
  zkit_out t d vs k =
      fsplit t $ fpick t (λ vss. fsplit t $ feq_l t (λ ev. fsplit t $ feq_l t (λ ep. fsplit t $ feq_l t (λ eb. drop t $
      k (ev ∙ (λ i. vstruct (of_list (ep i ++ (eb i ++ []))) ∷ []))))))

  pub zkit_in : K → (p : Ptr) (is_open : Bool) (x : Option Play)
      → Step K 𝓛 (‵ (Zkit.own_val (record { at = p; is_open = is_open; play = x }) (word p is_open ∷ [])) ∷ Γ) G
      (‵ (holds token play.the_row is_open p x) ∷ Γ) G
  zkit_in t p is_open x = step (λ s. let v : Val = word p is_open in
      nothing t $ feq_i t (List Val) (vbool is_open ∷ []) (vbool is_open ∷ []) refl $ fjoin t $ feq_i t (List Val)
      (ptr_val p ∷ []) (ptr_val p ∷ []) refl $ fjoin t $
      feq_i t (List Val) (v ∷ []) (v ∷ []) refl $ fjoin t $
      fpack t (Valss (RawPtr ∷ bool ∷ [])) (within (shape zkit.the_type) (p, (is_open, tt)) (v ∷ []))
      (ptr_val p ∷ [], (vbool is_open ∷ [], tt)) $ fjoin t $ s)
