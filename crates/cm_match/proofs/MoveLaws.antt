-- The items of an import, as those of its type with the type's own resources moved.
use Rattle.std.proofs.Common.{◌≡◌, inl, inr, ℕ, ◌+◌, ◌<◌, List, [], ◌∷◌, map, refl, sym, ap, ◌∙◌, subst}
use Rattle.std.proofs.lemmas.Bool.{cases_lt, lt-leb}
use Rattle.cm_types.specs.Signatures.{ItemTy, NamedItem, func_item, equal_type, equal_resource, fresh_resource}
use Rattle.cm_types.specs.Types.{Ty, FuncTy}
use Rattle.cm_types.specs.declared.resource.ResourceId.{ResourceId}
use Rattle.cm_types_arena.specs.Moves.{moved as moved_range}
use Rattle.cm_types_arena.specs.Replaced.{replaced, replaced_func}
use Rattle.cm_types_arena.specs.Instances.{numbered, replaced_desc, replaced_item}
use Rattle.cm_validate_model.specs.Definitions.{InstanceTy}
use Rattle.cm_validate_model.specs.Moves.{moved_id, moved_type, moved_func, moved_item}
use Rattle.cm_validate_model.specs.Counted.{IsCounted, IsFuncCounted, IsItemCounted, IsAmongFirst}
use Rattle.cm_validate_model.specs.CountedSpaces.{AreItemsCounted}
use Rattle.cm_validate_items.specs.Shared.{item_from}
use Rattle.cm_lemmas.proofs.Numbers.{lt_true, lt_false}

abbrev pub TypesMove : Type 0
TypesMove = (i : InstanceTy) (next : ℕ) (t : Ty) → IsCounted (i.first + i.fresh) t → moved_type i next t ≡ replaced (moved_range i.first i.fresh next) t

abbrev pub FuncsMove : Type 0
FuncsMove = (i : InstanceTy) (next : ℕ) (f : FuncTy) → IsFuncCounted (i.first + i.fresh) f → moved_func i next f ≡ replaced_func (moved_range i.first i.fresh next) f

module _ (types_move : TypesMove) (funcs_move : FuncsMove) (i : InstanceTy) (next : ℕ) where
  number_told : (n : ℕ) → n < i.first + i.fresh → moved_id i next (numbered n) ≡ moved_range i.first i.fresh next (numbered n)
  number_told n lt = elim (cases_lt n i.first) [
    | inl own ↦ rw (lt_true n i.first own) refl
    | inr brings ↦ rw (lt_false n i.first brings, lt-leb (i.first + i.fresh) n lt) refl
  ]

  id_told : (r : ResourceId) → IsAmongFirst (i.first + i.fresh) r → moved_id i next r ≡ moved_range i.first i.fresh next r
  id_told r c =
      let same : numbered r.number ≡ r = ap (λ (k : ℕ). record { component = k; number = r.number }) (sym c.0) in
      subst (λ (q : ResourceId). moved_id i next q ≡ moved_range i.first i.fresh next q) same (number_told r.number c.1)

  desc_told : (d : ItemTy) → IsItemCounted (i.first + i.fresh) d → moved_item i next d ≡ replaced_desc (moved_range i.first i.fresh next) d
  desc_told (func_item f) c = ap func_item (funcs_move i next f c)
  desc_told (equal_type t) c = ap equal_type (types_move i next t c)
  desc_told (equal_resource r) c = ap equal_resource (id_told r c)
  desc_told (fresh_resource r) c = ap fresh_resource (id_told r c)

  pub items_told : (xs : List NamedItem) → AreItemsCounted (i.first + i.fresh) xs → map (item_from i next) xs ≡ map (replaced_item (moved_range i.first i.fresh next)) xs
  items_told [] c = refl
  items_told (x ∷ xs) c =
      ap (λ (d : ItemTy). record { name = x.name; desc = d } ∷ map (item_from i next) xs) (desc_told x.desc c.0)
      ∙ ap (λ (is : List NamedItem). replaced_item (moved_range i.first i.fresh next) x ∷ is) (items_told xs c.1)
