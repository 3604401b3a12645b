-- What an adapter sees of an instance (CanonicalABI.md, "Lifting and Lowering Context").
use Rattle.std.specs.Prelude.{ℕ, List, Bool, ◌==◌}
use Rattle.cm_types.specs.declared.resource.ResourceId.{ResourceId}
use Rattle.cm_types.specs.declared.limits.TheConstants.{MAX_FLAT_PARAMS, MAX_FLAT_RESULTS}
use Rattle.cm_handles.specs.Handles.{Handles}
use Rattle.cm_abi_model.specs.declared.encoding.StringEncoding.{StringEncoding}

-- what an instance's core values are read by: its memory, its handle table, which instance it is,
-- which tells the resources that it implements, how its strings are encoded, and the number of the
-- call, the place of its frame, from which borrow handles are counted
pub record View : Type 0 where
  pub memory : List ℕ
  pub table : Handles
  pub instance : ℕ
  pub encoding : StringEncoding
  pub call : ℕ

-- the instance implements the resource: it is the component that defines it
abbrev pub implements : View → ResourceId → Bool
implements view resource = resource.component == view.instance

-- which way values go: to the callee as the parameters of a call, or back as its results
pub data Way : Type 0 where
  params : Way
  results : Way

-- how many core values are passed flat that way, at most
abbrev pub flat_limit : Way → ℕ
flat_limit params = MAX_FLAT_PARAMS
flat_limit results = MAX_FLAT_RESULTS
