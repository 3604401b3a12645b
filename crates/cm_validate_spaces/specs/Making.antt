-- What a canonical definition makes.
use Rattle.std.specs.Prelude.{◌≡◌, true, Option, length, IfSome}
use Rattle.std.specs.Option.{option_map}
use Rattle.cm_binary_model.specs.Trees.{CanonTree}
use Rattle.cm_validate_model.specs.declared.fault.ValidReason.{ValidReason}
use Rattle.cm_validate_model.specs.Items.{canon_item}
use Rattle.cm_validate_model.specs.Reasons.{least}
use Rattle.cm_validate_model.specs.Rules.{broken}
use Rattle.cm_validate_model.specs.Spaces.{Spaces, canon_core_func}
use Rattle.cm_validate_core.specs.CoreSpaces.{count_made}
use Rattle.cm_validate_entries.specs.ComponentSpaces.{StaysAfter}
use Rattle.cm_validate_spaces.specs.IndexSpaces.{IsAt, funcs_in}
use Rattle.cm_validate_spaces.specs.Made.{made_def, is_made_there}
use Rattle.cm_validate_spaces.specs.declared.made.MadeFunc.{MadeFunc}
use Rattle.cm_validate_spaces.specs.declared.spaces.IndexSpaces.{IndexSpaces}

-- A canonical definition that makes a core function is refused for this, at least; and this is what
-- it makes, if the function or the resource is there of which it is made. It adds nothing else.
pub record Makes (w : IndexSpaces) (c : CanonTree) (fault : Option ValidReason)
    (made : Option MadeFunc) : Type 0 where
  pub fault_is : (s : Spaces) → IsAt w s → fault ≡ least (broken s (canon_item c))
  pub made_is : (s : Spaces) → IsAt w s
      → option_map (made_def (funcs_in w)) made ≡ canon_core_func s c
  pub there : (s : Spaces) → IsAt w s
      → IfSome made (λ m. is_made_there (length (funcs_in w)) m ≡ true)
  pub makes : count_made c ≡ 1
  pub others : StaysAfter (canon_item c)
