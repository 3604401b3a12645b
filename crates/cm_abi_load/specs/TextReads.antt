-- What a reader of one text answers.
use Rattle.std.specs.Prelude.{◌≡◌, ℕ, List, ⊤}
use Rattle.cm_text.specs.Text.{IsText}
use Rattle.cm_abi_model.specs.declared.fault.AbiFault.TheVariants as fault
use Rattle.cm_abi_load.specs.declared.stop.Stop.{Stop}
use Rattle.cm_abi_load.specs.declared.stop.Stop.TheVariants as stop

-- it stops for want of memory, or since bytes are no text
abbrev pub StopsAtText : (ℕ → Type 0) → (ℕ → List ℕ) → List ℕ → Stop → Type 0
StopsAtText has spell bytes stop.Memory = ⊤
StopsAtText has spell bytes (stop.Fault f) =
    (f ≡ fault.BadText) × ((cs : List ℕ) → IsText has spell cs bytes → ⊥)
