-- Resources by their keys.
use Rattle.std.proofs.Common.{◌≡◌, ℕ, ◌+◌, ◌&&◌, ◌||◌, Bool, true, false, not, cond, nat_eq, if◌then◌else◌, List, [], ◌∷◌, ◌++◌, map, refl, ap, ◌∙◌, append_assoc, append-nil}
use Rattle.std.specs.List.{list_any, position_or_len}
use Rattle.cm_types.specs.declared.resource.ResourceId.{ResourceId}
use Rattle.cm_types.specs.Resources.{same_resource}
use Rattle.cm_tool_show.specs.Pieces.{appeared}
use Rattle.cm_tool_show.specs.Pages.{key_resource}

abbrev pub key_eq : ℕ × ℕ → ℕ × ℕ → Bool
key_eq a b = nat_eq a.0 b.0 && nat_eq a.1 b.1

pub same_number : (k : ℕ × ℕ) (keys : List (ℕ × ℕ)) → position_or_len (key_eq k) keys ≡ position_or_len (same_resource (key_resource k)) (map key_resource keys)
same_number k [] = refl
same_number k (x ∷ xs) = ap (λ (n : ℕ). cond (not (key_eq k x)) (1 + n) 0) (same_number k xs)

same_any : (k : ℕ × ℕ) (keys : List (ℕ × ℕ)) → list_any (key_eq k) keys ≡ list_any (same_resource (key_resource k)) (map key_resource keys)
same_any k [] = refl
same_any k (x ∷ xs) = ap (λ (b : Bool). key_eq k x || b) (same_any k xs)

map_last : (k : ℕ × ℕ) (keys : List (ℕ × ℕ)) → map key_resource (keys ++ k ∷ []) ≡ map key_resource keys ++ key_resource k ∷ []
map_last k [] = refl
map_last k (x ∷ xs) = ap (λ (rs : List ResourceId). key_resource x ∷ rs) (map_last k xs)

chosen : (b : Bool) (k : ℕ × ℕ) (keys : List (ℕ × ℕ)) → map key_resource (if b then keys else keys ++ k ∷ []) ≡ (if b then map key_resource keys else map key_resource keys ++ key_resource k ∷ [])
chosen true k keys = refl
chosen false k keys = map_last k keys

pub same_seen : (k : ℕ × ℕ) (keys : List (ℕ × ℕ)) → map key_resource (if list_any (key_eq k) keys then keys else keys ++ k ∷ []) ≡ appeared (map key_resource keys) (key_resource k)
same_seen k keys = chosen (list_any (key_eq k) keys) k keys ∙ ap (λ (b : Bool). if b then map key_resource keys else map key_resource keys ++ key_resource k ∷ []) (same_any k keys)

pub ruleset seen_laws = (append_assoc, append-nil)
