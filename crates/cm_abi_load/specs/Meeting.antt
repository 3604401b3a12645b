-- What a reader meets on its way: so many bytes of strings and lists, tags of strings, and handles
-- (what of it is told is this project's own choice).
use Rattle.std.specs.Prelude.{◌≡◌, ℕ, ◌+◌, ⊤, List, [], ◌∷◌, ◌++◌, map, Some}
use Rattle.cm_handles.specs.Handles.{Handles, handle_at}
use Rattle.cm_handles.specs.declared.handle.Handle.{Handle}
use Rattle.cm_handles.specs.declared.handle.HandleKind.TheVariants.{Owned}
use Rattle.cm_layout.specs.declared.layouts.HandleType.{HandleType}
use Rattle.cm_layout.specs.declared.layouts.HandleType.TheVariants as handle_type
use Rattle.cm_abi_model.specs.Taken.{Met, text_content, content, taken, lent, content_of, tags_of}
use Rattle.cm_abi_load.specs.declared.progress.MetHandle.{MetHandle}
use Rattle.cm_abi_load.specs.Outcomes.{State}
use Rattle.cm_abi_load.specs.Reading.{resource_of}

-- an index as which a handle is met: to be owned, or to be borrowed
abbrev pub met_index : HandleType → ℕ → Met
met_index (handle_type.Own r) index = taken index
met_index (handle_type.Borrow r) index = lent index

abbrev pub met_as : MetHandle → Met
met_as m = met_index m.wanted m.index

-- the handles that were met
abbrev pub handles_in : List Met → List Met
handles_in [] = []
handles_in (text_content tags n ∷ ms) = handles_in ms
handles_in (content n ∷ ms) = handles_in ms
handles_in (taken i ∷ ms) = taken i ∷ handles_in ms
handles_in (lent i ∷ ms) = lent i ∷ handles_in ms

-- a handle is of the kind that is wanted
abbrev pub IsOfKind : HandleType → Handle → Type 0
IsOfKind (handle_type.Own r) h = h.kind ≡ Owned
IsOfKind (handle_type.Borrow r) h = ⊤

-- the handle that was met stands in the table, of the resource and the kind that are wanted
pub record IsAsWanted (table : Handles) (m : MetHandle) : Type 0 where
  pub entry : Handle
  pub stands : handle_at table m.index ≡ Some entry
  pub of_resource : entry.resource ≡ resource_of m.wanted
  pub of_kind : IsOfKind m.wanted entry

abbrev pub AreAsWanted : Handles → List MetHandle → Type 0
AreAsWanted table [] = ⊤
AreAsWanted table (m ∷ ms) = IsAsWanted table m × AreAsWanted table ms

-- All this was met between two states of a reader: its bytes are taken from those that may still
-- come, and its tags and its handles, each as wanted, follow those met before.
pub record Meets (table : Handles) (before after : State) (ms : List Met) : Type 0 where
  pub counted : after.left + content_of ms ≡ before.left
  pub tagged : after.tags ≡ before.tags ++ tags_of ms
  pub found : List MetHandle
  pub handles : after.handles ≡ before.handles ++ found
  pub same : map met_as found ≡ handles_in ms
  pub wanted : AreAsWanted table found
