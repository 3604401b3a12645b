-- The kinds of core values that are passed one behind another.
use Rattle.std.proofs.Common.{◌≡◌, ℕ, zero, suc, List, [], ◌∷◌, ◌++◌, length, map, take, drop, refl, ap, ◌∙◌}
use Rattle.cm_types.specs.CoreValues.{kind_of}
use Rattle.cm_types.specs.declared.core_value.CoreKind.{CoreKind}
use Rattle.cm_types.specs.declared.core_value.CoreValue.{CoreValue}
use Rattle.cm_abi_model.specs.Numbers.{slot_at}

pub record AreSplit (args : List CoreValue) (ks more : List CoreKind) : Type 0 where
  pub front : map kind_of (take (length ks) args) ≡ ks
  pub behind : map kind_of (drop (length ks) args) ≡ more

pub split_kinds : (args : List CoreValue) (ks more : List CoreKind) → map kind_of args ≡ ks ++ more → AreSplit args ks more
split_kinds args [] more is = record { front = refl; behind = is }
split_kinds [] (k ∷ ks) more is = absurd (cc)
split_kinds (x ∷ xs) (k ∷ ks) more is =
    let rest : map kind_of xs ≡ ks ++ more = cc in
    let first : kind_of x ≡ k = cc in
    let split = split_kinds xs ks more rest in
    record { front = ap (λ (z : CoreKind). z ∷ map kind_of (take (length ks) xs)) first ∙ ap (λ (z : List CoreKind). k ∷ z) split.front; behind = split.behind }

pub join_kinds : (args : List CoreValue) (ks more : List CoreKind) → map kind_of (take (length ks) args) ≡ ks → map kind_of (drop (length ks) args) ≡ more
    → map kind_of args ≡ ks ++ more
join_kinds args [] more front behind = behind
join_kinds [] (k ∷ ks) more front behind = absurd (cc)
join_kinds (x ∷ xs) (k ∷ ks) more front behind =
    let first : kind_of x ≡ k = cc in
    let rest : map kind_of (take (length ks) xs) ≡ ks = cc in
    ap (λ (z : CoreKind). z ∷ map kind_of xs) first ∙ ap (λ (z : List CoreKind). k ∷ z) (join_kinds xs ks more rest behind)

-- the first of the core values from a place on is that at the place
pub slot_behind : (xs : List CoreValue) (n : ℕ) → slot_at (drop n xs) 0 ≡ slot_at xs n
slot_behind [] zero = refl
slot_behind [] (suc n) = refl
slot_behind (x ∷ xs) zero = refl
slot_behind (x ∷ xs) (suc n) = slot_behind xs n
