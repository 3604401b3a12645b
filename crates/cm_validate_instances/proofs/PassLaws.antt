-- Declarations are read one after another, by sketches.
use Rattle.std.proofs.Common.{◌≡◌, ℕ, ◌+◌, ◌<◌, List, ◌∷◌, length, get_or, map, drop, Option, Result, Ok, IfOk, refl, sym, ap, subst, ◌∙◌, add-one, drop-cons}
use Rattle.cm_types.specs.DefTypes.{DeclarationTree}
use Rattle.cm_validate_model.specs.declared.fault.ValidReason.{ValidReason}
use Rattle.cm_validate_model.specs.Definitions.{TypeDef}
use Rattle.cm_validate_model.specs.Reasons.{least, lesser}
use Rattle.cm_validate_instances.specs.SketchScopes.{SketchScope, after_all_sketched, after_sketched, declaration_faults, declarations_faults}
use Rattle.cm_validate_model.proofs.SharedLaws.{LeastOfBoth}
use Rattle.cm_validate_model.proofs.ReasonsLaws.{lesser_assoc}

module _ {A : Type 0} (tree : A → DeclarationTree) (around : List TypeDef) (xs : List A) (i : ℕ) (x : A) (lt : i < length xs) (is : x ≡ get_or xs i x) where
  split : map tree (drop i xs) ≡ tree x ∷ map tree (drop (i + 1) xs)
  split = rw (add-one, drop-cons xs i x lt, ← is) refl

  -- the faults of the next declaration, and those behind it
  pub fault_on : LeastOfBoth → (s t : SketchScope) (so_far now all : Option ValidReason) → t ≡ after_sketched around s (tree x) → now ≡ lesser so_far (least (declaration_faults around s (tree x)))
      → lesser so_far (least (declarations_faults around s (map tree (drop i xs)))) ≡ all → lesser now (least (declarations_faults around t (map tree (drop (i + 1) xs)))) ≡ all
  fault_on both s t so_far now all next e before =
      let ys = map tree (drop (i + 1) xs) in
      let here = least (declaration_faults around s (tree x)) in
      let behind = least (declarations_faults around (after_sketched around s (tree x)) ys) in
      let rest : least (declarations_faults around s (map tree (drop i xs))) ≡ lesser here behind =
      ap (λ zs. least (declarations_faults around s zs)) split ∙ both (declaration_faults around s (tree x)) (declarations_faults around (after_sketched around s (tree x)) ys) in
      ap (λ v. lesser v (least (declarations_faults around t ys))) e
      ∙ ap (λ u. lesser (lesser so_far here) (least (declarations_faults around u ys))) next
      ∙ sym (lesser_assoc both so_far here behind)
      ∙ sym (ap (lesser so_far) rest)
      ∙ before

  -- what it leads to
  pub scope_on : (s t all : SketchScope) → t ≡ after_sketched around s (tree x) → after_all_sketched around s (map tree (drop i xs)) ≡ all → after_all_sketched around t (map tree (drop (i + 1) xs)) ≡ all
  scope_on s t all next before =
      ap (λ v. after_all_sketched around v (map tree (drop (i + 1) xs))) next ∙ sym (ap (after_all_sketched around s) split) ∙ before

-- what an answer is, where it is one
pub answer_told : {E : Type 0} (r : Result (Option ValidReason) E) (o x : Option ValidReason) → r ≡ Ok o → IfOk r (λ q. q ≡ x) → o ≡ x
answer_told r o x e h = subst (λ v. IfOk v (λ q. q ≡ x)) e h
