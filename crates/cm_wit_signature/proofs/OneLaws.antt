-- One import or export.
use Rattle.std.proofs.Common.{◌≡◌, ℕ, Bool, true, ◌&&◌, List, [], ◌∷◌, map, Option, Some, None, refl, sym, ap, subst, ◌∙◌}
use Rattle.std.specs.List.{flat_map}
use Rattle.std.specs.Option.{option_map}
use Rattle.cm_types.specs.Types.{Ty, FuncTy}
use Rattle.cm_types.specs.Signatures.{ItemTy, NamedItem, func_item, equal_type, equal_resource, fresh_resource, func, instance}
use Rattle.cm_types_arena.specs.TypeDefs.{func_at}
use Rattle.cm_types_arena.specs.Replaced.{replaced, replaced_func}
use Rattle.cm_types_arena.specs.Placed.{moved_by}
use Rattle.cm_types_arena.specs.Instances.{replaced_desc, replaced_item}
use Rattle.cm_types_arena.specs.declared.placed.Placed.{Placed}
use Rattle.cm_types_arena.specs.Shared.{shared_desc_of}
use Rattle.cm_types_arena.specs.declared.shared.SharedDesc.TheVariants as shared
use Rattle.cm_wit_worlds.specs.Interfaces.{PlacedInterface, full_name}
use Rattle.cm_wit_meanings.specs.declared.fault.MeaningFault.{MeaningFault}
use Rattle.cm_wit_meanings.specs.declared.fault.MeaningFault.TheVariants as fault
use Rattle.cm_wit_meanings.specs.Faults.{IsFuncFault}
use Rattle.cm_wit_meanings.specs.Meanings.{func_meaning}
use Rattle.cm_wit_meanings.specs.Scopes.{Scope}
use Rattle.cm_wit_signature.specs.ItemFaults.{AreWithin, IsFaultWith, AreItemsFault}
use Rattle.cm_wit_signature.specs.Functions.{item_funcs, extern_funcs}
use Rattle.cm_wit_signature.specs.Members.{items_in}
use Rattle.cm_wit_signature.specs.Signatures.{NamedFunc, func_extern, interface_extern}

-- ---- a function of the world itself

one_func_fault : (name : List ℕ) (o : Option FuncTy) (f : MeaningFault) → IsFuncFault o f → IsFaultWith extern_funcs (option_map (λ t. record { name = name; desc = func t }) o) f
one_func_fault name None fault.NoSuchType h = refl
one_func_fault name (Some x) fault.NoSuchType h = absurd cc
one_func_fault name None fault.TooLarge h = tt
one_func_fault name (Some x) fault.TooLarge h = λ w. h w.0
one_func_fault name None fault.NotSpellable h = tt
one_func_fault name (Some x) fault.NotSpellable h = ap (λ (b : Bool). b && true) h
one_func_fault name o fault.Memory h = tt

pub func_refused : (s t : Scope) (n : NamedFunc) (f : MeaningFault) → s ≡ t → IsFuncFault (func_meaning s n.1) f → IsFaultWith extern_funcs (func_extern t n) f
func_refused s t n f e h = subst (λ (x : Scope). IsFaultWith extern_funcs (func_extern x n) f) e (one_func_fault n.0 (func_meaning s n.1) f h)

pub func_made : (s t : Scope) (n : NamedFunc) (name : List ℕ) (types : List Ty) (funcs : List FuncTy) (p : Placed) (place : ℕ) → s ≡ t → ((f : FuncTy) → replaced_func (moved_by None) f ≡ f) → name ≡ n.0 → p.place ≡ place → p.by ≡ None → func_meaning s n.1 ≡ Some (func_at funcs place) → func_extern t n ≡ Some (record { name = name; desc = shared_desc_of types funcs (shared.Func p) })
func_made s t n name types funcs p place same stays a b d e =
    ap (λ (x : Scope). func_extern x n) (sym same) ∙ (ap (option_map (λ u. record { name = n.0; desc = func u })) e ∙ sym (rw (a, b, d, stays (func_at funcs place)) refl))

-- ---- an instance

instance_fault_of : (name : List ℕ) (o : Option (List NamedItem)) (f : MeaningFault) → AreItemsFault o f → IsFaultWith extern_funcs (option_map (λ is. record { name = name; desc = instance is }) o) f
instance_fault_of name None fault.NoSuchType h = refl
instance_fault_of name (Some x) fault.NoSuchType h = absurd cc
instance_fault_of name None fault.TooLarge h = tt
instance_fault_of name (Some x) fault.TooLarge h = h
instance_fault_of name None fault.NotSpellable h = tt
instance_fault_of name (Some x) fault.NotSpellable h = h
instance_fault_of name o fault.Memory h = tt

pub instance_refused : (s t : Scope) (i : PlacedInterface) (f : MeaningFault) → s ≡ t → AreItemsFault (items_in s i.interface) f → IsFaultWith extern_funcs (interface_extern t i) f
instance_refused s t i f e h = subst (λ (x : Scope). IsFaultWith extern_funcs (interface_extern x i) f) e (instance_fault_of (full_name i.file i.interface.name) (items_in s i.interface) f h)

module _ (stay : (t : Ty) → replaced (moved_by None) t ≡ t) (stays : (f : FuncTy) → replaced_func (moved_by None) f ≡ f) where
  desc_unmoved : (d : ItemTy) → replaced_desc (moved_by None) d ≡ d
  desc_unmoved (func_item f) = ap func_item (stays f)
  desc_unmoved (equal_type t) = ap equal_type (stay t)
  desc_unmoved (equal_resource r) = refl
  desc_unmoved (fresh_resource r) = refl

  items_unmoved : (is : List NamedItem) → map (replaced_item (moved_by None)) is ≡ is
  items_unmoved [] = refl
  items_unmoved (i ∷ is) = rw (desc_unmoved i.desc, items_unmoved is) refl

  pub instance_made : (s t : Scope) (i : PlacedInterface) (name : List ℕ) (items : List NamedItem) → s ≡ t → name ≡ full_name i.file i.interface.name → items_in s i.interface ≡ Some items → interface_extern t i ≡ Some (record { name = name; desc = instance (map (replaced_item (moved_by None)) items) })
  instance_made s t i name items same a p =
      ap (λ (y : Scope). interface_extern y i) (sym same)
      ∙ (ap (option_map (λ is. record { name = full_name i.file i.interface.name; desc = instance is })) p
      ∙ sym (ap Some (ap (λ (n : List ℕ). record { name = n; desc = instance (map (replaced_item (moved_by None)) items) }) a ∙ ap (λ (is : List NamedItem). record { name = full_name i.file i.interface.name; desc = instance is }) (items_unmoved items))))

  pub instance_within : (items : List NamedItem) → AreWithin (flat_map item_funcs items) → AreWithin (flat_map item_funcs (map (replaced_item (moved_by None)) items))
  instance_within items w = subst (λ (is : List NamedItem). AreWithin (flat_map item_funcs is)) (sym (items_unmoved items)) w
