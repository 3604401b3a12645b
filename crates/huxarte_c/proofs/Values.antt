-- The machine values of a `Handle`. Assumes `Logic`.
use Rattle.std.proofs.Common.{◌≡◌, List, [], ◌∷◌, ◌++◌, refl, subst}
use Rattle.std.specs.Prelude.{Option}
use seplogic.Ra.Ura.{Ura}
use lib.Dec.{T, lit<}
use mir.Syntax.{ty_ptr}
use mir.Val.{Val, vstruct, of_list, has_ty, WT}
use types.Logic.{Logic}
use types.Kit.{Item, Goal, Seq, Step, step, ‵, ◌$◌, drop, fsplit, fjoin, fpick, fpack, feq_i, feq_l}
use denote.RattleType.{Valss}
use denote.Builtin.{RawPtr}
use denote.RawPtr.{Ptr, block_ptr, null_ptr, ptr_val}
use denote.Steps.{nothing}
use denote.Struct.Struct.{within}
use denote.Struct.Owning.{shape}
use Rattle.huxarte_c_boxes.specs.Keeping.{keeps}
use Rattle.huxarte_c_boxes.proofs.Keeps.{one}
use Rattle.huxarte_c.specs.PlayedSets.{PlayedSet as Seen}
use Rattle.huxarte_c.specs.contracts.kept_set.KeptSet.{the_row as R}
use Rattle.huxarte_c.specs.contracts.hux_set.HuxSet as handle

-- a pointer is a value of the type of pointers
pub pointer_good : (p : Ptr) → T (has_ty ty_ptr (ptr_val p)) × WT (ptr_val p)
pointer_good (block_ptr b o) = (tt, tt)
pointer_good null_ptr = (tt, record { fits = lit< tt })

module _ {M : Type 1} {𝓤 : Ura M} {𝓛 : Logic 𝓤} {K : Type 0} {Γ : List (Item 𝓤)} {G : Goal 𝓤 𝓛.H} where
  pub handle_out : K → (d : handle.the_row.Denot) (vs : List Val)
      → (vs ≡ one d.at ∷ [] → Seq K 𝓛 (‵ (keeps R d.at d.kept) ∷ Γ) G) → Seq K 𝓛 (‵ (handle.the_row.own_val d vs) ∷ Γ) G
  handle_out t d vs k =
      fsplit t $ fpick t (λ vss. fsplit t $ feq_l t (λ ev. fsplit t $ feq_l t (λ ep. drop t $
      k (subst (λ (ps : List Val). vs ≡ vstruct (of_list (ps ++ [])) ∷ []) ep ev))))

  pub handle_in : K → (p : Ptr) (x : Option Seen)
      → Step K 𝓛 (‵ (handle.the_row.own_val (record { at = p; kept = x }) (one p ∷ [])) ∷ Γ) G (‵ (keeps R p x) ∷ Γ) G
  handle_in t p x = step (λ s.
      nothing t $ feq_i t (List Val) (ptr_val p ∷ []) (ptr_val p ∷ []) refl $ fjoin t $ feq_i t (List Val) (one p ∷ []) (one p ∷ []) refl $ fjoin t $
      fpack t (Valss (RawPtr ∷ [])) (within (shape handle.the_type) (p, tt) (one p ∷ [])) (ptr_val p ∷ [], tt) $ fjoin t $ s)
