-- The world of a full name.
use Rattle.std.proofs.Common.{◌≡◌, ◌∙◌, ◌<◌, ◌≤◌, ℕ, List, Result, Ok, Err, IfErr, Some, None, length, map, slice_get, get_or, sym, ap, subst}
use Rattle.std.specs.Option.{option_map, option_and_then}
use Rattle.std.specs.List.{position_from}
use Rattle.std.proofs.lemmas.Option.{slice_get-map, slice_get_past, slice_get-get_or}
use Rattle.cm_types_arena.specs.declared.signatures.Signature.{Signature}
use Rattle.cm_wit_reading.specs.Trees.{File}
use Rattle.cm_wit_worlds.specs.Interfaces.{PlacedWorld, worlds, is_world}
use Rattle.cm_wit_worlds.specs.InterfaceViews.{placed_world}
use Rattle.cm_wit_worlds.specs.declared.placed.PlacedWorld as code_world
use Rattle.cm_wit_worlds.specs.declared.fault.WorldFault.{WorldFault}
use Rattle.cm_wit_worlds.specs.declared.fault.WorldFault.TheVariants as fault
use Rattle.cm_wit_signature.specs.Faults.{IsFaultIn, IsFaultOfWorld, world_of}

module _ (fs : List File) (name : List ℕ) (ws : List code_world.PlacedWorld) (n : ℕ) (e : map placed_world ws ≡ worlds fs) (at : position_from (is_world fs name) 0 (map placed_world ws) ≡ Some n) where
  world_there : world_of fs name ≡ slice_get (worlds fs) n
  world_there = ap (option_and_then (slice_get (worlds fs))) (subst (λ (l : List PlacedWorld). position_from (is_world fs name) 0 l ≡ Some n) e at)

  shown : slice_get (worlds fs) n ≡ option_map placed_world (slice_get ws n)
  shown = sym (ap (λ (l : List PlacedWorld). slice_get l n) e) ∙ slice_get-map placed_world ws n

  pub world_found : (x : code_world.PlacedWorld) → n < length ws → x ≡ get_or ws n x → world_of fs name ≡ Some (placed_world x)
  world_found x lt is = world_there ∙ (shown ∙ ap (option_map placed_world) (slice_get-get_or ws n x lt ∙ ap Some (sym is)))

  pub none_found : length ws ≤ n → world_of fs name ≡ None
  none_found le = world_there ∙ (shown ∙ ap (option_map placed_world) (slice_get_past ws n le))

pub fault_of_found : (fs : List File) (name : List ℕ) (w : PlacedWorld) → world_of fs name ≡ Some w → (r : Result Signature WorldFault) → IfErr r (IsFaultIn fs w) → IfErr r (IsFaultOfWorld fs name)
fault_of_found fs name w is (Ok s) h = tt
fault_of_found fs name w is (Err fault.NoSuchWorld) h = absurd h
fault_of_found fs name w is (Err fault.NoSuchInterface) h = (w, is, h)
fault_of_found fs name w is (Err fault.NoSuchType) h = (w, is, h)
fault_of_found fs name w is (Err fault.Cycle) h = (w, is, h)
fault_of_found fs name w is (Err fault.TooLarge) h = (w, is, h)
fault_of_found fs name w is (Err fault.Memory) h = tt
