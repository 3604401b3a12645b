-- What goes on above the root, as it is kept from moves and events: who called, and where the
-- caller wants a result that goes by memory (CanonicalABI.md, "canon lift", "canon lower" and
-- "canon resource.drop").
use Rattle.std.specs.Prelude.{◌≡◌, ℕ, ⊤, Bool, true, false, if◌then◌else◌, List, [], ◌∷◌}
use Rattle.std.specs.Prelude.{Option, Some, None, length, reverse, slice_get}
use Rattle.cm_types.specs.declared.core_value.CoreValue.{CoreValue}
use Rattle.cm_types.specs.declared.core_value.CoreValue.TheVariants as core_value
use Rattle.cm_layout.specs.Sizes.{size_of}
use Rattle.cm_abi_model.specs.declared.region.Region.{Region}
use Rattle.cm_abi_model.specs.Requests.{is_spilled, tuple_of}
use Rattle.cm_abi_model.specs.Views.{results}
use Rattle.cm_machine.specs.cm_machine_model.declared.event.Event.{Event}
use Rattle.cm_machine.specs.cm_machine_model.declared.event.Event.TheVariants as event
use Rattle.cm_machine.specs.cm_machine_model.declared.moves.Move.{Move}
use Rattle.cm_machine.specs.cm_machine_model.declared.moves.Move.TheVariants as move
use Rattle.cm_machine.specs.cm_machine_model.Events.{is_last}
use Rattle.cm_machine.specs.cm_machine_model.Plan.{CoreFunc, Plan, core_func_at, lowered, types_of}
use Rattle.cm_machine.specs.cm_machine_laws.Told.{args_kinds}
use Rattle.cm_live.specs.declared.goings_on.Call.{Call}
use Rattle.cm_live.specs.declared.goings_on.GoingsOn.{GoingsOn}

-- what goes on above the root, the latest first
abbrev pub calls : GoingsOn → List Call
calls g = reverse g.calls.items

-- the number of a core value; 0 where it is none of 32 bits
abbrev pub number_of : Option CoreValue → ℕ
number_of (Some (core_value.I32 n)) = n
number_of (Some (core_value.I64 n)) = 0
number_of None = 0

-- ---- where a result is wanted

-- by a call of what a core function stands for: behind the arguments of a lowered function stands
-- the place of a result that goes by memory
abbrev pub place_by : Option CoreFunc → List CoreValue → Option Region
place_by (Some (lowered l)) args =
    if is_spilled results (types_of l results)
    then Some (record {
      at = number_of (slice_get args (length (args_kinds l)));
      size = size_of (tuple_of (types_of l results));
    })
    else None
place_by f args = None

-- by a move of this instance
abbrev pub place_by_move : Plan → ℕ → Move → Option Region
place_by_move plan i (move.Call func args) = place_by (core_func_at plan i func) args.items
place_by_move plan i m = None

-- ---- after a move

-- the same call, whose result has come or is none
abbrev pub without_result : Call → Call
without_result c = record { caller = c.caller; result = None }

-- whether something more goes on after a call with this event
abbrev pub opens : Event → Bool
opens (event.Enter i func args) = true
opens (event.Realloc i func args) = true
opens (event.Dtor i func rep) = true
opens e = false

-- whether something more goes on after a move with this event
abbrev pub opens_by : Move → Event → Bool
opens_by (move.Call func args) e = opens e
opens_by m e = false

-- all but the latest
abbrev pub earlier : List Call → List Call
earlier [] = []
earlier (c ∷ cs) = cs

-- the result of the latest has come
abbrev pub latest_has_come : List Call → List Call
latest_has_come [] = []
latest_has_come (c ∷ cs) = without_result c ∷ cs

-- what goes on after this call with this event: a destructor gives no result
abbrev pub calls_after_call : Event → Call → List Call → List Call
calls_after_call (event.Enter i func args) c cs = c ∷ cs
calls_after_call (event.Realloc i func args) c cs = c ∷ cs
calls_after_call (event.Dtor i func rep) c cs = without_result c ∷ cs
calls_after_call e c cs = cs

-- after a return with this event, of which `resume` ends a call
abbrev pub calls_after_return : Event → List Call → List Call
calls_after_return (event.PostReturn i func args) cs = latest_has_come cs
calls_after_return (event.Resume i values) cs = earlier cs
calls_after_return e cs = cs

-- after a move with this event, which is this call where it is one
abbrev pub calls_after_move : Move → Event → Call → List Call → List Call
calls_after_move (move.Call func args) e c cs = calls_after_call e c cs
calls_after_move (move.Return values) e c cs = calls_after_return e cs
calls_after_move m e c cs = cs

-- the same, and nothing after the last event
abbrev pub calls_after : Move → Event → Call → List Call → List Call
calls_after m e c cs = if is_last e then [] else calls_after_move m e c cs

-- ---- whose memory is told

-- that of the latest that called, if one did
abbrev pub IsLatest : List Call → ℕ → Type 0
IsLatest [] i = ⊤
IsLatest (c ∷ cs) i = i ≡ c.caller

-- after a call: that of the instance that is entered
abbrev pub IsToldAtCall : Event → ℕ → Type 0
IsToldAtCall (event.Enter j func args) i = i ≡ j
IsToldAtCall e i = ⊤

-- after a return: that of the instance that is entered, or of the caller whose result was handed
-- over
abbrev pub IsToldAtReturn : Event → List Call → ℕ → Type 0
IsToldAtReturn (event.Enter j func args) cs i = i ≡ j
IsToldAtReturn (event.PostReturn j func args) cs i = IsLatest cs i
IsToldAtReturn (event.Resume j values) cs i = IsLatest cs i
IsToldAtReturn e cs i = ⊤

-- after a move
abbrev pub IsToldAfter : Move → Event → List Call → ℕ → Type 0
IsToldAfter (move.Call func args) e cs i = IsToldAtCall e i
IsToldAfter (move.Return values) e cs i = IsToldAtReturn e cs i
IsToldAfter m e cs i = ⊤
