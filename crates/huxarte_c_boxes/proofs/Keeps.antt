-- The machine values of a `Kept`, and the two cases of what it keeps. Assumes `Logic`.
use Rattle.std.proofs.Common.{◌≡◌, ℕ, List, [], ◌∷◌, ◌++◌, refl, subst}
use Rattle.std.specs.Prelude.{Option, Some, None}
use seplogic.Ra.Ura.{Ura}
use mir.Raw.{raw as bare}
use mir.Val.{Val, vstruct, vcons, vnil, of_list}
use base.Logic.{ent, guard, guard_i, never, via, fst∗, snd∗}
use base.Fml.{Fml}
use base.Fraction.{full_share}
use types.Logic.{Logic, sem}
use types.Kit.{Item, Goal, Seq, Step, step, ‵, given, ◌$◌, drop, fsplit, fjoin, fpick, fpack, feq_i, feq_l, use1, learn}
use contract.Monad.{fact_use}
use denote.RattleType.{RattleType, Valss}
use denote.Builtin.{RawPtr}
use denote.Memory.{lone}
use denote.RawPtr.{Ptr, block_ptr, null_ptr, ptr_val, lies_at, in_a_block, Testable}
use denote.Steps.{nothing}
use denote.Struct.Struct.{within}
use denote.Struct.Owning.{shape}
use Rattle.std.specs.Box.Ownership.{box_owns}
use Rattle.std.specs.Global.{Global}
use Rattle.std.specs.contracts.impls.GlobalAllocator.TheImpl.{ghosts}
use Rattle.std.proofs.GlobalToken.{dealloc_token-Testable}
use Rattle.huxarte_c_boxes.specs.Keeping.{keeps}
use Rattle.huxarte_c_boxes.specs.contracts.kept.Kept as kept

abbrev pub one : Ptr → Val
one p = vstruct (vcons (ptr_val p) vnil)

module _ (R : RattleType) (heap : Global) where
  abbrev pub in_heap : Ptr → R.Denot → Fml
  in_heap = box_owns (ghosts.dealloc_token heap) R

  module _ {M : Type 1} {𝓤 : Ura M} (𝓛 : Logic 𝓤) where
    pub tested : (p : Ptr) (x : R.Denot) → ent 𝓤 (sem 𝓛 (in_heap p x)) (guard 𝓤 (Testable p) (sem 𝓛 (in_heap p x)))
    tested p x = fact_use 𝓤 (Testable p) (via 𝓤 _ (snd∗ 𝓤 (sem 𝓛 (lies_at R full_share p x)) (sem 𝓛 (ghosts.dealloc_token heap (bare (lone R.mir)) p))) (dealloc_token-Testable 𝓛 heap (bare (lone R.mir)) p)) (guard_i 𝓤 (Testable p) (sem 𝓛 (in_heap p x)))

module _ (R : RattleType) where
  module _ {M : Type 1} {𝓤 : Ura M} {𝓛 : Logic 𝓤} {K : Type 0} {Γ : List (Item 𝓤)} {G : Goal 𝓤 𝓛.H} where
    pub kept_out : K → (d : (kept.the_row R).Denot) (vs : List Val)
        → (vs ≡ one d.at ∷ [] → Seq K 𝓛 (‵ (keeps R d.at d.value) ∷ Γ) G) → Seq K 𝓛 (‵ ((kept.the_row R).own_val d vs) ∷ Γ) G
    kept_out t d vs k =
        fsplit t $ fpick t (λ vss. fsplit t $ feq_l t (λ ev. fsplit t $ feq_l t (λ ep. drop t $
        k (subst (λ (ps : List Val). vs ≡ vstruct (of_list (ps ++ [])) ∷ []) ep ev))))

    pub kept_in : K → (p : Ptr) (x : Option R.Denot)
        → Step K 𝓛 (‵ ((kept.the_row R).own_val (record { at = p; value = x }) (one p ∷ [])) ∷ Γ) G (‵ (keeps R p x) ∷ Γ) G
    kept_in t p x = step (λ s.
        nothing t $ feq_i t (List Val) (ptr_val p ∷ []) (ptr_val p ∷ []) refl $ fjoin t $ feq_i t (List Val) (one p ∷ []) (one p ∷ []) refl $ fjoin t $
        fpack t (Valss (RawPtr ∷ [])) (within (shape (kept.the_type R)) (p, tt) (one p ∷ [])) (ptr_val p ∷ [], tt) $ fjoin t $ s)

    pub either_keeps : K → (p : Ptr) (x : Option R.Denot)
        → (x ≡ None → p ≡ null_ptr → Seq K 𝓛 Γ G)
        → ((heap : Global) (b o : ℕ) (y : R.Denot) → x ≡ Some y → p ≡ block_ptr b o → Testable (block_ptr b o) → Seq K 𝓛 (‵ (in_heap R heap (block_ptr b o) y) ∷ Γ) G)
        → Seq K 𝓛 (‵ (keeps R p x) ∷ Γ) G
    either_keeps t p None none some = fpick t (λ e. drop t $ none refl e)
    either_keeps t p (Some y) none some = fpick t (λ heap.
        use1 𝓛 (given (Testable p) (‵ (in_heap R heap p y))) (tested R heap 𝓛 p y) $ learn t (λ is.
        in_a_block t p (λ q. in_heap R heap q y) (fst∗ 𝓤 (never 𝓤) (sem 𝓛 (ghosts.dealloc_token heap (bare (lone R.mir)) null_ptr))) (λ b o e. some heap b o y refl e (subst Testable e is))))
