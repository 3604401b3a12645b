-- What is found behind an index, where a built-in may go on with it.
use Rattle.std.proofs.Common.{◌≡◌, ℕ, Bool, true, false, Option, Some, None, refl, sym, ap, ◌∙◌}
use Rattle.std.specs.Prelude.{Ok, Err, if◌then◌else◌}
use Rattle.cm_types.specs.declared.resource.ResourceId.{ResourceId}
use Rattle.cm_handles.specs.Handles.{Handles, handle_at, is_same_resource, look_up}
use Rattle.cm_handles.specs.Handles.{of_resource}
use Rattle.cm_handles.specs.declared.fault.HandleFault.TheVariants as handle_fault
use Rattle.cm_handles.specs.declared.handle.Handle.{Handle}
use Rattle.cm_handles.proofs.HandleLaws.{err_is_no_ok, ok_in}
use Rattle.cm_handles.proofs.HandlesLaws.{same_is}

-- a handle of this resource stands at the index
pub record Stands (t : Handles) (index : ℕ) (r : ResourceId) (h : Handle) : Type 0 where
  pub stood : handle_at t index ≡ Some h
  pub of_resource : h.resource ≡ r

pub looked : (t : Handles) (index : ℕ) (r : ResourceId) (h : Handle) → look_up t index r ≡ Ok h
    → Stands t index r h
looked t index r h e = by (handle_at t index) refl e where
  by_same : (g : Handle) → handle_at t index ≡ Some g → (b : Bool) → is_same_resource g.resource r ≡ b
      → (if b then Ok g else Err handle_fault.WrongResource) ≡ Ok h → Stands t index r h
  by_same g is true same x =
      let one : g ≡ h = ok_in g h x in
      record {
        stood = is ∙ ap (λ (k : Handle). Some k) one;
        of_resource = ap (λ (k : Handle). k.resource) (sym one) ∙ same_is g.resource r same;
      }
  by_same g is false other x = absurd (err_is_no_ok handle_fault.WrongResource h x)

  by : (o : Option Handle) → handle_at t index ≡ o → of_resource o r ≡ Ok h → Stands t index r h
  by None is x = absurd (err_is_no_ok handle_fault.NoHandle h x)
  by (Some g) is x = by_same g is (is_same_resource g.resource r) refl x
