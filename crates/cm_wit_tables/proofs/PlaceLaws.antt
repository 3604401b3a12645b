-- Instances are found by their keys.
use Rattle.std.proofs.Common.{◌≡◌, ◌==◌, ◌&&◌, ℕ, zero, suc, ◌+◌, ◌≤◌, Bool, true, false, cond, List, [], ◌∷◌, ◌++◌, length, map, Option, Some, None, slice_get, refl, sym, ap, ◌∙◌, arith, append-nil}
use Rattle.std.specs.List.{position_from}
use Rattle.std.specs.Str.{bytes_eq}
use Rattle.cm_names.specs.Keys.{Key, is_key, first_key}
use Rattle.cm_wit_reading.specs.Trees.{File}
use Rattle.cm_wit_worlds.specs.Interfaces as all
use Rattle.cm_wit_tables.specs.Declarations.{Declaration}
use Rattle.cm_wit_tables.specs.Worlds.{Instance, same_side, is_instance, place_of, instance_declarations}
use Rattle.cm_wit_tables.specs.InstanceKeys.{side_word, instance_key}

test_same : (e b t : Bool) → (t && bytes_eq (side_word e) (side_word b)) ≡ (same_side e b && t)
test_same true true true = refl
test_same true true false = refl
test_same true false true = refl
test_same true false false = refl
test_same false true true = refl
test_same false true false = refl
test_same false false true = refl
test_same false false false = refl

found_same : (e : Bool) (n i : ℕ) (xs : List Instance) → position_from (is_key n (side_word e)) i (map instance_key xs) ≡ position_from (is_instance e n) i xs
found_same e n i [] = refl
found_same e n i (x ∷ xs) =
    ap (λ (t : Bool). cond t (Some i) (position_from (is_key n (side_word e)) (i + 1) (map instance_key xs))) (test_same e x.exported (n == x.interface))
    ∙ ap (λ (o : Option ℕ). cond (same_side e x.exported && (n == x.interface)) (Some i) o) (found_same e n (i + 1) xs)

pub place_found : (xs : List Instance) (keys : List Key) (e : Bool) (n : ℕ) (word : List ℕ) (o : Option ℕ) → keys ≡ map instance_key xs → word ≡ side_word e → o ≡ first_key keys n word → o ≡ place_of xs e n
place_found xs keys e n word o same w found =
    found ∙ (ap (λ (ks : List Key). first_key ks n word) same ∙ (ap (λ (t : List ℕ). first_key (map instance_key xs) n t) w ∙ found_same e n 0 xs))

get_past : {A : Type 0} (xs : List A) (k : ℕ) → length xs ≤ k → slice_get xs k ≡ None
get_past [] zero le = refl
get_past [] (suc k) le = refl
get_past (x ∷ xs) zero le = absurd (omega (arith, le))
get_past (x ∷ xs) (suc k) le = get_past xs k (omega (arith, le))

pub nothing_declared : (fs : List File) (xs : List Instance) (l : ℕ) (x : Instance) (out : List Declaration) → length (all.interfaces fs) ≤ x.interface → out ≡ out ++ instance_declarations fs xs l x
nothing_declared fs xs l x out le = rw (get_past (all.interfaces fs) x.interface le) (sym (append-nil out))
