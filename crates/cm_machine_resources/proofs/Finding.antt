-- Handles that were found in a table.
use Rattle.std.proofs.Common.{arith, ◌≡◌, ◌≢◌, ℕ, ◌+◌, Bool, true, false, Option, Some, None, Result, Ok, Err, refl, sym, ap, subst, ◌∙◌}
use Rattle.std.specs.Prelude.{if◌then◌else◌, ◌==◌}
use Rattle.std.proofs.lemmas.Bool.{eq-eqb, ne_eqb}
use Rattle.cm_types.specs.declared.resource.ResourceId.{ResourceId}
use Rattle.cm_handles.specs.Borrows.{borrows_by, borrows_of, is_borrow_for}
use Rattle.cm_handles.specs.declared.fault.HandleFault.{HandleFault}
use Rattle.cm_handles.specs.declared.fault.HandleFault.TheVariants as fault
use Rattle.cm_handles.specs.declared.handle.Handle.{Handle}
use Rattle.cm_handles.specs.declared.handle.HandleKind.{HandleKind}
use Rattle.cm_handles.specs.declared.handle.HandleKind.TheVariants as kind
use Rattle.cm_handles.specs.Handles.{Handles, after_release, handle_at, if_not_lent, is_same_resource, look_up, of_resource}

-- what is found stands there
resource_by : (b : Bool) (g h : Handle) → if_not_lent (if b then Ok g else Err fault.WrongResource) ≡ Ok h → g ≡ h
resource_by false g h e = absurd (cc (e))
resource_by true g h e = lent_by (g.lends == 0) g h e
  where
    lent_by : (b : Bool) (g h : Handle) → ◌≡◌ {A = Result Handle HandleFault} (if b then Ok g else Err fault.StillLent) (Ok h) → g ≡ h
    lent_by true g h e = cc
    lent_by false g h e = absurd (cc (e))

found_by : (o : Option Handle) (r : ResourceId) (h : Handle) → if_not_lent (of_resource o r) ≡ Ok h → o ≡ Some h
found_by None r h e = absurd (cc (e))
found_by (Some g) r h e = ap Some (resource_by (is_same_resource g.resource r) g h e)

pub found_stands : (t : Handles) (index : ℕ) (r : ResourceId) (h : Handle) → if_not_lent (look_up t index r) ≡ Ok h → handle_at t index ≡ Some h
found_stands t index r h e = found_by (handle_at t index) r h e

-- ---- borrows

abbrev pub ReleaseCounts : Type 0
ReleaseCounts = (t : Handles) (index : ℕ) (h : Handle) (call : ℕ) → handle_at t index ≡ Some h → borrows_of call (after_release t index) + borrows_by call h ≡ borrows_of call t

abbrev by_kind : ℕ → HandleKind → ℕ
by_kind call k = if is_borrow_for call k then 1 else 0

-- a handle that owns its resource is borrowed for no call
pub owned_same : ReleaseCounts → (t : Handles) (index : ℕ) (h : Handle) (call : ℕ) → handle_at t index ≡ Some h → h.kind ≡ kind.Owned → borrows_of call (after_release t index) ≡ borrows_of call t
owned_same law t index h call stands owned =
    let none : by_kind call h.kind ≡ 0 = ap (λ (k : HandleKind). by_kind call k) owned in
    omega (arith, law t index h call stands, none)

-- a handle that is borrowed is one of those of its call, and of no other
pub borrowed_less : ReleaseCounts → (t : Handles) (index : ℕ) (h : Handle) (call : ℕ) → handle_at t index ≡ Some h → h.kind ≡ kind.Borrowed call → borrows_of call (after_release t index) + 1 ≡ borrows_of call t
borrowed_less law t index h call stands borrowed =
    let one : by_kind call h.kind ≡ 1 = ap (λ (k : HandleKind). by_kind call k) borrowed ∙ ap (λ (b : Bool). if b then 1 else 0) (eq-eqb call call refl) in
    omega (arith, law t index h call stands, one)

pub borrowed_same : ReleaseCounts → (t : Handles) (index : ℕ) (h : Handle) (call other : ℕ) → handle_at t index ≡ Some h → h.kind ≡ kind.Borrowed call → other ≢ call → borrows_of other (after_release t index) ≡ borrows_of other t
borrowed_same law t index h call other stands borrowed ne =
    let none : by_kind other h.kind ≡ 0 = ap (λ (k : HandleKind). by_kind other k) borrowed ∙ ap (λ (b : Bool). if b then 1 else 0) (ne_eqb call other (λ e. ne (sym e))) in
    omega (arith, law t index h other stands, none)
