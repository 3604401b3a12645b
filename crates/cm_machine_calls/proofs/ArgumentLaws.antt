-- The core values that a lowered function takes: those that pass its parameters, and behind them,
-- where its result is spilled, a pointer.
use Rattle.std.proofs.Common.{◌≡◌, ℕ, ◌<◌, Bool, true, false, List, [], ◌∷◌, ◌++◌, length, map, take, drop, refl, sym, ap, subst, ◌∙◌, arith}
use Rattle.std.specs.Prelude.{if◌then◌else◌}
use Rattle.std.proofs.lemmas.List.{length-append, length-map}
use Rattle.cm_types.specs.CoreValues.{kind_of}
use Rattle.cm_types.specs.declared.core_value.CoreKind.{CoreKind}
use Rattle.cm_types.specs.declared.core_value.CoreKind.TheVariants as kind
use Rattle.cm_types.specs.declared.core_value.CoreValue.{CoreValue}
use Rattle.cm_abi_model.specs.Numbers.{slot_at}
use Rattle.cm_machine_model.specs.Step.{AreOf, one_i32}
use Rattle.cm_machine_calls.proofs.KindLaws.{join_kinds, slot_behind, split_kinds}

-- the kinds of what stands behind the arguments
abbrev pub pointer_kinds : Bool → List CoreKind
pointer_kinds b = if b then kind.I32 ∷ [] else []

abbrev pub place_by : Bool → List CoreValue → ℕ → ℕ
place_by b args n = if b then slot_at args n else 0

pub too_few : (args : List CoreValue) (ks more : List CoreKind) → length args < length ks → map kind_of args ≡ ks ++ more → ⊥
too_few args ks more few are = omega (arith, few, ap length are, length-map args kind_of, length-append ks more)

no_values : (xs : List CoreValue) → map kind_of xs ≡ [] → length xs ≡ 0
no_values [] is = refl
no_values (x ∷ xs) is = absurd (cc)

pub none_behind : (args : List CoreValue) (ks : List CoreKind) (b : Bool) → b ≡ false → (length (drop (length ks) args) ≡ 0 → ⊥) → map kind_of args ≡ ks ++ pointer_kinds b → ⊥
none_behind args ks b is some are =
    let split = split_kinds args ks [] (subst (λ (x : Bool). map kind_of args ≡ ks ++ pointer_kinds x) is are) in
    some (no_values (drop (length ks) args) split.behind)

empty_kinds : (xs : List CoreValue) → length xs ≡ 0 → map kind_of xs ≡ []
empty_kinds [] is = refl
empty_kinds (x ∷ xs) is = absurd (omega (arith, is))

pub whole : (args : List CoreValue) (ks : List CoreKind) (b : Bool) → b ≡ false → map kind_of (take (length ks) args) ≡ ks → length (drop (length ks) args) ≡ 0
    → map kind_of args ≡ ks ++ pointer_kinds b
whole args ks b is front none =
    subst (λ (x : Bool). map kind_of args ≡ ks ++ pointer_kinds x) (sym is) (join_kinds args ks [] front (empty_kinds (drop (length ks) args) none))

pub with_pointer : (args : List CoreValue) (ks : List CoreKind) (b : Bool) → b ≡ true → map kind_of (take (length ks) args) ≡ ks → AreOf one_i32 (drop (length ks) args)
    → map kind_of args ≡ ks ++ pointer_kinds b
with_pointer args ks b is front one =
    subst (λ (x : Bool). map kind_of args ≡ ks ++ pointer_kinds x) (sym is) (join_kinds args ks one_i32 front one)

pub no_pointer : (args : List CoreValue) (ks : List CoreKind) (b : Bool) → b ≡ true → (AreOf one_i32 (drop (length ks) args) → ⊥) → map kind_of args ≡ ks ++ pointer_kinds b → ⊥
no_pointer args ks b is none are =
    none ((split_kinds args ks one_i32 (subst (λ (x : Bool). map kind_of args ≡ ks ++ pointer_kinds x) is are)).behind)

pub front_fails : (args : List CoreValue) (ks more : List CoreKind) → (map kind_of (take (length ks) args) ≡ ks → ⊥) → map kind_of args ≡ ks ++ more → ⊥
front_fails args ks more none are = none ((split_kinds args ks more are).front)

pub pointer_is : (args : List CoreValue) (n at : ℕ) (b : Bool) → b ≡ true → at ≡ slot_at (drop n args) 0 → at ≡ place_by b args n
pointer_is args n at b is place = place ∙ slot_behind args n ∙ sym (ap (λ (x : Bool). place_by x args n) is)

pub no_place : (args : List CoreValue) (n : ℕ) (b : Bool) → b ≡ false → 0 ≡ place_by b args n
no_place args n b is = sym (ap (λ (x : Bool). place_by x args n) is)
