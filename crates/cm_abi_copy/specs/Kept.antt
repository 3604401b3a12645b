-- What the lists of a scan keep.
use Rattle.std.specs.Prelude.{◌≡◌, ◌-◌, Bool, []}
use Rattle.cm_abi_model.specs.HandleLeaves.{leaves_of}
use Rattle.cm_abi_model.specs.Scanned.{IsInOrder, Scanned}
use Rattle.cm_abi_model.specs.Taken.{MAX_CONTENT}
use Rattle.cm_abi_copy.specs.declared.kept.Lists.{Lists}

-- what lists keep, of a value or of none
abbrev pub kept_in : Bool → Lists → Scanned
kept_in has_value l = record {
  has_value = has_value;
  parts = l.parts;
  handles = leaves_of l.handles.items;
  owns = l.handed.owns.items;
  lends = l.handed.lends.items;
  content = MAX_CONTENT - l.progress.left;
  numbers = l.numbers.items;
}

-- Lists are at rest: the walk's own, of the handles and of the tags of strings that it met, have
-- no member, and what the others keep is in order.
pub record AreAtRest (has_value : Bool) (l : Lists) : Type 0 where
  pub met : l.progress.handles.items ≡ []
  pub tags : l.progress.tags.items ≡ []
  pub order : IsInOrder (kept_in has_value l)
