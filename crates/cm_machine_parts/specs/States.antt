-- The state of the rules that the state of a running set stands for.
use Rattle.std.specs.Prelude.{ℕ, List, map, Option, Some, None, if◌then◌else◌}
use Rattle.cm_handles.specs.Handles.{Handles, TableState}
use Rattle.cm_machine_model.specs.State.{State, Passage}
use Rattle.cm_machine_parts.specs.declared.passing.Passing.{Passing}
use Rattle.cm_machine_parts.specs.declared.state.State.{State as CodedState}

-- what is on its way, if something is
abbrev pub passage_of : Passing → Option Passage
passage_of p = if p.scan.has_value then Some (record {
  slots = p.slots;
  records = p.scan.parts.records;
  places = p.scan.parts.places;
  answered = p.scan.parts.answered;
  last = p.scan.parts.last;
  leaves = p.scan.handles;
}) else None

-- the handles of tables
abbrev pub handles_in : List TableState → List Handles
handles_in tables = map (λ t. t.handles) tables

-- The state, without the room of its parts and without the numbers of borrows.
abbrev pub state_of : CodedState → State
state_of s = record {
  memories = s.memories;
  tables = handles_in s.tables.items;
  owners = s.owners.items;
  lends = s.lends;
  closed = s.closed.items;
  stack = s.stack.frames;
  passage = passage_of s.passing;
}
