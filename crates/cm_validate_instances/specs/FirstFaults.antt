-- The first of several declarations that violates a rule.
use Rattle.std.specs.Prelude.{List, [], ◌∷◌, Option, None}
use Rattle.std.specs.Option.{option_or}
use Rattle.cm_types.specs.DefTypes.{DeclarationTree}
use Rattle.cm_validate_model.specs.declared.fault.ValidReason.{ValidReason}
use Rattle.cm_validate_model.specs.Declarations.{Scope, after_declaration, declaration_broken}
use Rattle.cm_validate_model.specs.Reasons.{least}

-- the least reason to refuse the first faulty declaration, if one is faulty
abbrev pub first_reason : Scope → List DeclarationTree → Option ValidReason
first_reason s [] = None
first_reason s (d ∷ ds) =
    option_or (least (declaration_broken s d)) (first_reason (after_declaration s d) ds)
