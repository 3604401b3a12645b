-- What an instance has under a name.
use Rattle.std.proofs.Common.{◌≡◌, ℕ, ◌+◌, Bool, true, false, cond, List, [], ◌∷◌, map, Some, refl, IfSome}
use Rattle.std.specs.Borrow.{Bor}
use Rattle.std.specs.List.{list_all}
use Rattle.std.specs.Map.{lookup}
use Rattle.std.specs.Option.{option_map}
use Rattle.std.specs.Str.{bytes_eq}
use Rattle.cm_types.specs.Types.{Ty, FuncTy}
use Rattle.cm_types_arena.specs.declared.moves.Move.{Move}
use Rattle.cm_types_arena.specs.Instances.{are_items_there, is_desc_there}
use Rattle.cm_types_arena.specs.declared.instances.Item.{Item}
use Rattle.cm_types_arena.specs.declared.instances.ItemDesc.{ItemDesc}
use Rattle.cm_types_arena.specs.declared.instances.ItemDesc.TheVariants as item
use Rattle.cm_validate_model.specs.Spaces.{member_named}
use Rattle.cm_validate_items.specs.Items.{item_named}
use Rattle.cm_validate_entries.specs.Entries.{item_member, item_members, member_def, named_member, is_member_there}
use Rattle.cm_validate_entries.specs.declared.entries.MemberEntry.{MemberEntry}
use Rattle.cm_lemmas.proofs.Bools.{both_left, both_right}
use Rattle.cm_lemmas.proofs.Lists.{texts_either_way}

-- ---- of an imported instance

pub named_item : (types : List Ty) (funcs : List FuncTy) (import : ℕ) (by : Move) (next : ℕ) (items : List Item) (name : List ℕ)
    → member_named (item_members types funcs import by next items) name ≡ option_map (λ p. member_def types funcs (item_member import by p.0 p.1)) (item_named next items name)
named_item types funcs import by next [] name = refl
named_item types funcs import by next (x ∷ xs) name = here (named_item types funcs import by (next + 1) xs name) (bytes_eq x.name name)
  where
    here : member_named (item_members types funcs import by (next + 1) xs) name ≡ option_map (λ p. member_def types funcs (item_member import by p.0 p.1)) (item_named (next + 1) xs name)
        → (b : Bool) → cond b (Some (member_def types funcs (item_member import by next x.desc))) (member_named (item_members types funcs import by (next + 1) xs) name)
        ≡ option_map (λ p. member_def types funcs (item_member import by p.0 p.1)) (cond b (Some (next, x.desc)) (item_named (next + 1) xs name))
    here rest true = refl
    here rest false = rest

desc_there : (types funcs import : ℕ) (by : Move) (number : ℕ) (d : ItemDesc) → is_desc_there types funcs d ≡ true → is_member_there types funcs (item_member import by number d) ≡ true
desc_there types funcs import by number (item.Func p) e = e
desc_there types funcs import by number (item.EqualType p) e = e
desc_there types funcs import by number (item.EqualResource n) e = refl
desc_there types funcs import by number (item.FreshResource n) e = refl

pub item_there : (types funcs import : ℕ) (by : Move) (next : ℕ) (items : List Item) (name : List ℕ) → are_items_there types funcs items ≡ true
    → IfSome (item_named next items name) (λ p. is_member_there types funcs (item_member import by p.0 p.1) ≡ true)
item_there types funcs import by next [] name e = tt
item_there types funcs import by next (x ∷ xs) name e = here (item_there types funcs import by (next + 1) xs name (both_right (is_desc_there types funcs x.desc) (are_items_there types funcs xs) e)) (bytes_eq x.name name)
  where
    here : IfSome (item_named (next + 1) xs name) (λ p. is_member_there types funcs (item_member import by p.0 p.1) ≡ true)
        → (b : Bool) → IfSome (cond b (Some (next, x.desc)) (item_named (next + 1) xs name)) (λ p. is_member_there types funcs (item_member import by p.0 p.1) ≡ true)
    here rest true = desc_there types funcs import by next x.desc (both_left (is_desc_there types funcs x.desc) (are_items_there types funcs xs) e)
    here rest false = rest

-- ---- of definitions under names

pub looked_up : (types : List Ty) (funcs : List FuncTy) (name : List ℕ) (es : List (Bor (List ℕ) × MemberEntry))
    → option_map (member_def types funcs) (lookup (λ k. bytes_eq name k.now) es) ≡ member_named (map (named_member types funcs) es) name
looked_up types funcs name [] = refl
looked_up types funcs name (e ∷ es) = rw (texts_either_way e.0.now name) (here (looked_up types funcs name es) (bytes_eq name e.0.now))
  where
    here : option_map (member_def types funcs) (lookup (λ k. bytes_eq name k.now) es) ≡ member_named (map (named_member types funcs) es) name
        → (t : Bool) → option_map (member_def types funcs) (cond t (Some e.1) (lookup (λ k. bytes_eq name k.now) es)) ≡ cond t (Some (member_def types funcs e.1)) (member_named (map (named_member types funcs) es) name)
    here rest true = refl
    here rest false = rest

pub looked_there : (types funcs : ℕ) (name : List ℕ) (es : List (Bor (List ℕ) × MemberEntry)) → list_all (λ e. is_member_there types funcs e.1) es ≡ true
    → IfSome (lookup (λ k. bytes_eq name k.now) es) (λ m. is_member_there types funcs m ≡ true)
looked_there types funcs name [] a = tt
looked_there types funcs name (e ∷ es) a = here (looked_there types funcs name es (both_right (is_member_there types funcs e.1) (list_all (λ d. is_member_there types funcs d.1) es) a)) (bytes_eq name e.0.now)
  where
    here : IfSome (lookup (λ k. bytes_eq name k.now) es) (λ m. is_member_there types funcs m ≡ true) → (t : Bool) → IfSome (cond t (Some e.1) (lookup (λ k. bytes_eq name k.now) es)) (λ m. is_member_there types funcs m ≡ true)
    here rest true = both_left (is_member_there types funcs e.1) (list_all (λ d. is_member_there types funcs d.1) es) a
    here rest false = rest
