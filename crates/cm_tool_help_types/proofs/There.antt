-- Places of an arena, one by one.
use Rattle.std.proofs.Common.{◌≡◌, ℕ, ◌<◌, Bool, true, false, List, length, get_or, refl, sym, ap, ◌∙◌}
use Rattle.std.proofs.lemmas.List.Folds.{list_all_at}
use Rattle.std.specs.List.{list_all}
use Rattle.cm_types_arena.specs.Instances.{are_items_there, is_desc_there}
use Rattle.cm_types_arena.specs.declared.instances.Item.{Item}
use Rattle.cm_types_arena.specs.Shared.{are_shared_items_there}
use Rattle.cm_types_arena.specs.declared.shared.SharedItem.{SharedItem}

all_at : {A : Type 0} (p : A → Bool) (xs : List A) (i : ℕ) (x : A) → list_all p xs ≡ true → i < length xs → x ≡ get_or xs i x → p x ≡ true
all_at p xs i x all lt e = by (p x) refl
  where
    by : (b : Bool) → p x ≡ b → b ≡ true
    by true q = refl
    by false q = sym (list_all_at p xs i x lt (ap p (sym e) ∙ q)) ∙ all

pub item_there : (types funcs : ℕ) (xs : List Item) (i : ℕ) (x : Item) → are_items_there types funcs xs ≡ true → i < length xs → x ≡ get_or xs i x → is_desc_there types funcs x.desc ≡ true
item_there types funcs xs i x all lt e = all_at (λ (y : Item). is_desc_there types funcs y.desc) xs i x all lt e

pub shared_item_there : (types funcs : ℕ) (xs : List SharedItem) (i : ℕ) (x : SharedItem) → are_shared_items_there types funcs xs ≡ true → i < length xs → x ≡ get_or xs i x → is_desc_there types funcs x.desc ≡ true
shared_item_there types funcs xs i x all lt e = all_at (λ (y : SharedItem). is_desc_there types funcs y.desc) xs i x all lt e

pub ruleset there_laws = (item_there, shared_item_there)
