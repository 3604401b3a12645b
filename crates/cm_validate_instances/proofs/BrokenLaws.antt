-- Declarations break nothing exactly where none is the first that does.
use Rattle.std.proofs.Common.{◌≡◌, List, [], ◌∷◌, Option, Some, None, refl, sym, ap, ◌∙◌}
use Rattle.std.specs.Option.{option_or}
use Rattle.cm_types.specs.DefTypes.{DeclarationTree}
use Rattle.cm_validate_model.specs.declared.fault.ValidReason.{ValidReason}
use Rattle.cm_validate_model.specs.Declarations.{Scope, after_declaration, declaration_broken, declarations_broken}
use Rattle.cm_validate_model.specs.Reasons.{least}
use Rattle.cm_validate_instances.specs.FirstFaults.{first_reason}
use Rattle.cm_lemmas.proofs.Lists.{nil_front, nil_rest}
use Rattle.cm_validate_model.proofs.ReasonsLaws.{none_broken}

first_none : {A : Type 0} (p q : Option A) → option_or p q ≡ None → p ≡ None
first_none None q e = refl
first_none (Some x) q e = absurd cc

then_none : {A : Type 0} (p q : Option A) → option_or p q ≡ None → q ≡ None
then_none None q e = e
then_none (Some x) q e = absurd cc

pub none_first : (s : Scope) (ds : List DeclarationTree) → first_reason s ds ≡ None → declarations_broken s ds ≡ []
none_first s [] e = refl
none_first s (d ∷ ds) e =
    let here = none_broken (declaration_broken s d) (first_none (least (declaration_broken s d)) (first_reason (after_declaration s d) ds) e) in
    let rest = none_first (after_declaration s d) ds (then_none (least (declaration_broken s d)) (first_reason (after_declaration s d) ds) e) in
    rw (here, rest) refl

pub some_first : (s : Scope) (ds : List DeclarationTree) (r : ValidReason) → first_reason s ds ≡ Some r → declarations_broken s ds ≡ [] → ⊥
some_first s [] r e h = cc
some_first s (d ∷ ds) r e h =
    let here = nil_front (declaration_broken s d) (declarations_broken (after_declaration s d) ds) h in
    let rest = nil_rest (declaration_broken s d) (declarations_broken (after_declaration s d) ds) h in
    let later = ap (λ rs. option_or (least rs) (first_reason (after_declaration s d) ds)) (sym here) ∙ e in
    some_first (after_declaration s d) ds r later rest
