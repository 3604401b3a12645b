-- Options: what is there, and that two that are there hold the same.
use Rattle.std.proofs.Common.{Option, option_and_then, ◌≡◌, Some, None, refl, ap, is_some, true, ℕ, false, IfSome, subst, Bool, ◌<◌, ◌+◌, cond, suc, arith}
use Rattle.std.specs.Option.{option_map, option_or}
use Rattle.std.specs.Prelude.{unwrap_or, not}

-- where a step led to a value, there was one before it
pub stepped : {A B : Type 0} (o : Option A) (f : A → Option B) (y : B) → option_and_then f o ≡ Some y → (x : A) × (o ≡ Some x) × (f x ≡ Some y)
stepped None f y h = cc h
stepped (Some x) f y h = (x, refl, h)

pub some_in : {A : Type 0} {x y : A} → Some x ≡ Some y → x ≡ y
some_in {x = x} e = ap (λ o. unwrap_or o x) e

pub still_some : {A B : Type 0} (f : A → B) (o : Option A) → is_some o ≡ true → is_some (option_map f o) ≡ true
still_some f None h = cc h
still_some f (Some x) h = refl

pub none_some : {A P : Type 0} (x : A) → None ≡ Some x → P
none_some x e = absurd cc

pub some_is : {A : Type 0} (x y : A) → Some x ≡ Some y → x ≡ y
some_is x y e = cc

pub some_number : (m n : ℕ) → Some m ≡ Some n → m ≡ n
some_number m n e = cc

pub is_none : {A : Type 0} (o : Option A) → is_some o ≡ false → o ≡ None
is_none None e = refl
is_none (Some x) e = absurd cc

pub some_has : {A : Type 0} (P : A → Type 0) (o : Option A) (x : A) → o ≡ Some x → IfSome o P → P x
some_has P None x e p = absurd cc
some_has P (Some y) x e p = subst P (some_is e) p
  where
    some_is : Some y ≡ Some x → y ≡ x
    some_is f = cc

pub joined_some : (o : Option (Option ℕ)) (r : ℕ) → option_and_then (λ q. q) o ≡ Some r → o ≡ Some (Some r)
joined_some None r e = absurd cc
joined_some (Some o) r e = ap (λ (p : Option ℕ). Some p) e

pub and_then : {A B : Type 0} (P : A → Type 0) (Q : B → Type 0) (f : A → Option B) → ((x : A) → P x → IfSome (f x) Q) → (o : Option A) → IfSome o P → IfSome (option_and_then f o) Q
and_then P Q f g None h = tt {0}
and_then P Q f g (Some x) h = g x h

pub mapped_any : {A B : Type 0} (Q : B → Type 0) (f : A → B) → ((x : A) → Q (f x)) → (o : Option A) → IfSome (option_map f o) Q
mapped_any Q f g None = tt {0}
mapped_any Q f g (Some x) = g x

pub then_map : {A B : Type 0} (P : A → Type 0) (Q : B → Type 0) (f : A → B) → ((x : A) → P x → Q (f x)) → (o : Option A) → IfSome o P → IfSome (option_map f o) Q
then_map P Q f g None h = tt {0}
then_map P Q f g (Some x) h = g x h

pub some_turned : (i n : ℕ) → Some i ≡ Some n → n ≡ i
some_turned i n e = cc

pub fused : {A B C : Type 0} (f : A → B) (g : B → C) (o : Option A) → option_map g (option_map f o) ≡ option_map (λ x. g (f x)) o
fused f g None = refl
fused f g (Some x) = refl

pub is_none_by : {A : Type 0} (o : Option A) (r : Bool) → is_some o ≡ not r → r ≡ true → o ≡ None
is_none_by None r e t = refl
is_none_by (Some x) true e t = absurd cc
is_none_by (Some x) false e t = absurd cc

pub or_none : (o : Option ℕ) → option_or o None ≡ o
or_none None = refl
or_none (Some x) = refl

pub none_number : (n : ℕ) → None ≡ Some n → ⊥
none_number n e = cc

pub some_mapped : {A B : Type 0} (f : A → B) (o : Option A) → is_some (option_map f o) ≡ is_some o
some_mapped f None = refl
some_mapped f (Some x) = refl

pub some_there : (o : Option ℕ) → is_some o ≡ true → (j : ℕ) × (o ≡ Some j)
some_there None h = absurd cc
some_there (Some j) h = (j, refl)

pub below_by : (t : Bool) (i n k : ℕ) (rest : Option ℕ) → (rest ≡ Some k → k < i + 1 + n) → cond t (Some i) rest ≡ Some k → k < i + suc n
below_by true i n k rest h f = let same = some_number i k f in omega (arith, same)
below_by false i n k rest h f = let low = h f in omega (arith, low)

abbrev pub Has : {A : Type 0} → Option A → Type 0
Has {A} o = (x : A) × (o ≡ Some x)

pub has_mapped : {A B : Type 0} (g : A → B) (o : Option A) → Has o → Has (option_map g o)
has_mapped g o h = (g h.0, ap (option_map g) h.1)
