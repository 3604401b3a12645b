-- What code that passes over what is left out says of itself.
use Rattle.std.specs.Prelude.{◌≡◌, ℕ, List, Result, Err}
use Rattle.cm_wit_tokens.specs.declared.fault.ReadError.{ReadError}
use Rattle.cm_wit_tokens.specs.declared.fault.ReadError.TheVariants as errors
use Rattle.cm_wit_tokens.specs.declared.fault.WitReason.{WitReason}
use Rattle.cm_wit_tokens.specs.declared.operator.Operator.{Operator}
use Rattle.cm_wit_tokens.specs.declared.token.Token.{Token}
use Rattle.cm_wit_tokens.specs.Faults.{Gives}
use Rattle.cm_wit_projects_reading.specs.LeftOut.{passed}

-- Behind a fault of this reason, what was left out was passed over, or the fault is the answer.
abbrev pub PassesWord :
    Operator → WitReason → List Token → List Token → Result ℕ ReadError → Type 0
PassesWord closing r old new result = Gives (λ n. n) new result (passed closing old r)

-- Behind a fault, what was left out was passed over, where the fault is at a word that is left out.
abbrev pub Passes :
    Operator → ReadError → List Token → List Token → Result ℕ ReadError → Type 0
Passes closing errors.Memory old new result = result ≡ Err errors.Memory
Passes closing (errors.Fault r) old new result = PassesWord closing r old new result
