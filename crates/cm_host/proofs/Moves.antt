-- Moves that write and return, one behind the other.
use Rattle.std.proofs.Common.{◌≡◌, ◌⊎◌, inl, inr, ℕ, List, [], ◌∷◌, ◌++◌, refl, sym, subst}
use Rattle.cm_host_values.specs.declared.lowering.Lowered.{Lowered}
use Rattle.cm_machine.specs.cm_machine_guests.Moves.{IsNext}
use Rattle.cm_machine.specs.cm_machine_model.Moves.{WritesAt}
use Rattle.cm_machine.specs.cm_machine_model.declared.moves.Move.{Move}
use Rattle.cm_machine.specs.cm_machine_model.declared.moves.Move.TheVariants as move
use Rattle.cm_types.specs.Values.{Val}
use Rattle.cm_host_values.specs.HostTypes.{types_in, way_in}
use Rattle.cm_host_values.specs.declared.host_types.HostTypes.{HostTypes}
use Rattle.cm_host_values.specs.Lowering.{DenoteThere}
use Rattle.cm_host.specs.Passing.{AreGrowths, AreWrites, IsReturnOf, Returns}

-- growths, and then what is written
pub growths_before : (bytes : List ℕ) (gs ws : List Move) → AreGrowths gs → AreWrites bytes ws → AreWrites bytes (gs ++ ws)
growths_before bytes [] ws h w = w
growths_before bytes (g ∷ gs) ws h w = inl (h.0, growths_before bytes gs ws h.1 w)

-- a write of the bytes alone
pub one_write : (bytes : List ℕ) (w : Move) → WritesAt 0 bytes w → AreWrites bytes (w ∷ [])
one_write bytes w h = inr (h, refl)

-- the first of the moves by which values are returned
pub gives_back : (types : HostTypes) (v : Val) (l : Lowered) (moves : List Move) (made : Move) (left : List Move) → DenoteThere (way_in types) (types_in types) v l → IsReturnOf l moves → IsNext moves made left
    → (made ≡ move.Unreachable) ⊎ Returns types v (made ∷ left)
gives_back types v l [] made left d r n = inl n.0
gives_back types v l (m ∷ ms) made left d r n =
    inr (record { lowered = l; denote = d; is_return = subst (λ x. IsReturnOf l (x ∷ left)) (sym n.0) (subst (λ xs. IsReturnOf l (m ∷ xs)) (sym n.1) r) })
