-- A guest whose allocator is written already (this project's own choice).
use Rattle.std.specs.Prelude.{◌≡◌, ◌⊎◌, Bool, true, false, ◌&&◌, ◌||◌, if◌then◌else◌, List, [], ◌∷◌}
use Rattle.cm_machine_model.specs.declared.event.Event.{Event}
use Rattle.cm_machine_model.specs.declared.event.Event.TheVariants as event
use Rattle.cm_machine_model.specs.declared.moves.Move.{Move}
use Rattle.cm_machine_model.specs.declared.moves.Move.TheVariants as move
use Rattle.cm_machine_guests.specs.Sights.{Sight}

-- an allocator is asked for a region
abbrev pub is_request : Event → Bool
is_request (event.Realloc instance func args) = true
is_request e = false

-- the memory grew, or did not
abbrev pub is_growth : Event → Bool
is_growth (event.Grown pages) = true
is_growth e = false

-- the memory is to grow
abbrev pub grows : Move → Bool
grows (move.Grow pages) = true
grows m = false

-- An event is the allocator's where a region is asked for, or where the memory grew for a region
-- that waits.
abbrev pub is_of_allocator : Bool → Event → Bool
is_of_allocator waits e = is_request e || (waits && is_growth e)

-- What the allocator leaves to the other guest, where a region waits for the memory to grow or
-- none does.
abbrev pub left_to_guest : Bool → List Sight → List Sight
left_to_guest waits [] = []
left_to_guest waits (x ∷ xs) =
    if is_of_allocator waits x.seen
    then left_to_guest (grows x.made) xs
    else x ∷ left_to_guest false xs

-- The other guest played what was left to it, if anything was.
abbrev pub PlaysLeft : {G : Type 0} → (G → List Sight → Type 0) → G → List Sight → Type 0
PlaysLeft plays guest left = (left ≡ []) ⊎ plays guest left
