-- The laws of whole texts.
use Rattle.std.proofs.Common.{◌≡◌, ℕ, List, [], ◌∷◌, ◌++◌, length, Result, Ok, Err, refl, sym, ap, subst, ◌∙◌, append-nil}
use Rattle.std.specs.Prelude.{IfOk, ◌↔◌}
use Rattle.cm_types.specs.Types.{Ty}
use Rattle.cm_types.specs.Values.{Val}
use Rattle.cm_values.specs.declared.value_fault.Fault.{Fault}
use Rattle.cm_values.specs.declared.value_fault.ValueFault.{ValueFault}
use Rattle.cm_values.specs.Grammar.{first}
use Rattle.cm_values.specs.Values.{value}
use Rattle.cm_values.specs.Whole.{Answers, placed, spaced, Spells, text_value, to_end, whole}
use Rattle.cm_values.proofs.Tools.{then_ok}
use Rattle.cm_values.proofs.ValueLaws.{spaced_lawful}
use Rattle.cm_lemmas.proofs.Equations.{ok_is}
use Rattle.cm_lemmas.proofs.Results.{ok_of}

end_ok : (v w : Val) (rest : List ℕ) → to_end v rest ≡ Ok w → (rest ≡ []) × (v ≡ w)
end_ok v w [] e = (refl, ok_is Fault v w e)
end_ok v w (b ∷ rest) e = absurd cc

whole_spelled : (t : Ty) (text : List ℕ) (v : Val) → whole t text ≡ Ok v → Spells t text v
whole_spelled t text v e =
    let q = then_ok ((spaced (value t)).reads text) (λ (p : Val × List ℕ). to_end p.0 p.1) v e in
    let k = end_ok q.0.0 v q.0.1 q.2 in
    let f = (spaced_lawful t).takes text q.0.0 q.0.1 q.1 in
    let all : text ≡ f.front = f.parts ∙ (ap (λ (z : List ℕ). f.front ++ z) k.0 ∙ append-nil f.front) in
    subst (λ (z : Val). Spells t text z) k.1 (subst (λ (z : List ℕ). Spells t z q.0.0) (sym all) (subst (λ n. (spaced (value t)).Spells q.0.0 f.front n) (ap first k.0) f.spells))

spelled_whole : (t : Ty) (text : List ℕ) (v : Val) → Spells t text v → whole t text ≡ Ok v
spelled_whole t text v s =
    let again : (spaced (value t)).reads text ≡ ok_of {A = Val × List ℕ} Fault (v, []) = subst (λ (z : List ℕ). (spaced (value t)).reads z ≡ ok_of {A = Val × List ℕ} Fault (v, [])) (append-nil text) ((spaced_lawful t).again v text [] s) in
    rw again refl

placed_ok : (size : ℕ) (r : Result Val Fault) (v : Val) → placed size r ≡ Ok v → r ≡ Ok v
placed_ok size (Ok w) v e = ap (λ (z : Val). ok_of Fault z) (ok_is ValueFault w v e)
placed_ok size (Err f) v e = absurd cc

-- what is read is spelled
pub accepted_from : {X : Type 0} (view : X → Val) (t : Ty) (text : List ℕ) (r : Result X ValueFault) → Answers view (text_value t text) r → IfOk r (λ x. Spells t text (view x))
accepted_from view t text (Ok x) h = whole_spelled t text (view x) (placed_ok (length text) (whole t text) (view x) h)
accepted_from view t text (Err e) h = tt

-- what is spelled is read
pub complete_from : {X : Type 0} (view : X → Val) (t : Ty) (text : List ℕ) (r : Result X ValueFault) (v : Val) → Answers view (text_value t text) r → Spells t text v → Answers view (Ok v) r
complete_from view t text r v h s =
    let read : text_value t text ≡ Ok v = ap (placed (length text)) (spelled_whole t text v s) in
    subst (λ (w : Result Val ValueFault). Answers view w r) read h

-- both
pub read_as_spelled : (t : Ty) (text : List ℕ) (v : Val) → (text_value t text ≡ Ok v) ↔ Spells t text v
read_as_spelled t text v =
    (λ e. whole_spelled t text v (placed_ok (length text) (whole t text) v e), λ s. ap (placed (length text)) (spelled_whole t text v s))
