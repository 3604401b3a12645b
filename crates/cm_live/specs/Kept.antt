-- The rooms that are kept of what goes on.
use Rattle.std.specs.Prelude.{◌≡◌, ◌+◌, ◌<◌, ◌≤◌, ⊤, Bool, false, List, None, length, nat_lt}
use Rattle.std.specs.Prelude.{reverse, vec_capacity, vec_len}
use Rattle.cm_abi_model.specs.declared.region.Region.{Region}
use Rattle.cm_machine.specs.cm_machine_model.declared.moves.Move.{Move}
use Rattle.cm_machine.specs.cm_machine_model.declared.moves.Move.TheVariants as move
use Rattle.cm_live.specs.Calls.{calls}
use Rattle.cm_live.specs.Rooms.{latest_place}
use Rattle.cm_live.specs.declared.goings_on.GoingsOn.{GoingsOn}

-- the latest first
abbrev pub rooms : GoingsOn → List Region
rooms g = reverse g.rooms.items

-- there is memory for two more
abbrev pub CanKeep : GoingsOn → Type 0
CanKeep g = vec_len g.rooms + 2 ≤ vec_capacity g.rooms

-- and for one
abbrev pub CanKeepOne : GoingsOn → Type 0
CanKeepOne g = vec_len g.rooms < vec_capacity g.rooms

-- whether a move is a return that gives core values
abbrev pub gives_values : Move → Bool
gives_values (move.Return values) = nat_lt 0 (length values.items)
gives_values m = false

-- A move has nothing to be kept: it is no return, or no allocator was asked, and the latest call
-- wants no result that goes by memory.
abbrev pub KeepsNothing : Move → GoingsOn → Type 0
KeepsNothing (move.Return values) g = (g.asking ≡ None) × (latest_place (calls g) ≡ None)
KeepsNothing m g = ⊤
