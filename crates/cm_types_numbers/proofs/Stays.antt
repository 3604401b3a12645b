-- A number stays what it is while a table grows.
use Rattle.std.proofs.Common.{◌≡◌, ℕ, List, [], ◌∷◌, Option, Some, None, refl, sym, subst}
use Rattle.cm_types.specs.Types.{Ty, FuncTy, Fields, Cases, bool, signed, unsigned, char, string, list, fixed_list, fields, cases, flags, own, borrow, no_fields, field, no_cases, plain, carrying, record_type, tuple_type, variant_type, enum_type, option_type, result_type, bits_8, bits_16, bits_32, bits_64}
use Rattle.cm_types_numbers.specs.declared.key.Key.{Key}
use Rattle.cm_types_numbers.specs.declared.key.Key.TheVariants as key
use Rattle.cm_types_arena.specs.Replaced.{Standing, replaced, replaced_func}
use Rattle.cm_types_numbers.specs.Numbering.{Numbering, over, over_two, over_three, number, number_fields, number_cases, number_labels, number_of_signature, number_func, Extends, AreNumbers, AreFuncNumbers}
use Rattle.cm_types_numbers.proofs.Places.{all_carry}

-- what has a number in one of the two has it in the other
abbrev pub Carries : Option ℕ → Option ℕ → Type 0
Carries a b = (m : ℕ) → a ≡ Some m → b ≡ Some m

module _ (t u : Numbering) (e : Extends t u) where
  pub keep_over : (k : ℕ → Key) (a b : Option ℕ) → Carries a b → Carries (over t k a) (over u k b)
  keep_over k None b p n h = absurd cc
  keep_over k (Some m) b p n h = subst (λ (o : Option ℕ). over u k o ≡ Some n) (sym (p m refl)) (e.nodes (k m) n h)

  pub keep_over_two : (k : ℕ → ℕ → Key) (a b c d : Option ℕ) → Carries a b → Carries c d → Carries (over_two t k a c) (over_two u k b d)
  keep_over_two k None b c d p q n h = absurd cc
  keep_over_two k (Some m) b c d p q n h = subst (λ (o : Option ℕ). over_two u k o d ≡ Some n) (sym (p m refl)) (keep_over (k m) c d q n h)

  pub keep_over_three : (k : ℕ → ℕ → ℕ → Key) (a b c d f g : Option ℕ) → Carries a b → Carries c d → Carries f g → Carries (over_three t k a c f) (over_three u k b d g)
  keep_over_three k None b c d f g p q r n h = absurd cc
  keep_over_three k (Some m) b c d f g p q r n h = subst (λ (o : Option ℕ). over_three u k o d g ≡ Some n) (sym (p m refl)) (keep_over_two (k m) c d f g q r n h)

  pub stays_labels : (ls : List (List ℕ)) → Carries (number_labels t ls) (number_labels u ls)
  stays_labels [] n h = e.nodes _ n h
  stays_labels (l ∷ ls) n h = keep_over_two key.Plain (t.label l) (u.label l) (number_labels t ls) (number_labels u ls) (e.labels l) (stays_labels ls) n h

  mutual
    pub stays : (x : Ty) → Carries (number t x) (number u x)
    stays bool n h = e.nodes _ n h
    stays (signed bits_8) n h = e.nodes _ n h
    stays (signed bits_16) n h = e.nodes _ n h
    stays (signed bits_32) n h = e.nodes _ n h
    stays (signed bits_64) n h = e.nodes _ n h
    stays (unsigned bits_8) n h = e.nodes _ n h
    stays (unsigned bits_16) n h = e.nodes _ n h
    stays (unsigned bits_32) n h = e.nodes _ n h
    stays (unsigned bits_64) n h = e.nodes _ n h
    stays char n h = e.nodes _ n h
    stays string n h = e.nodes _ n h
    stays (list x) n h = keep_over key.List (number t x) (number u x) (stays x) n h
    stays (fixed_list x k) n h = keep_over (λ m. key.FixedList m k) (number t x) (number u x) (stays x) n h
    stays (fields record_type fs) n h = keep_over key.Record (number_fields t fs) (number_fields u fs) (stays_fields fs) n h
    stays (fields tuple_type fs) n h = keep_over key.Tuple (number_fields t fs) (number_fields u fs) (stays_fields fs) n h
    stays (cases variant_type cs) n h = keep_over key.Variant (number_cases t cs) (number_cases u cs) (stays_cases cs) n h
    stays (cases enum_type cs) n h = keep_over key.Enum (number_cases t cs) (number_cases u cs) (stays_cases cs) n h
    stays (cases option_type cs) n h = keep_over key.Option (number_cases t cs) (number_cases u cs) (stays_cases cs) n h
    stays (cases result_type cs) n h = keep_over key.Result (number_cases t cs) (number_cases u cs) (stays_cases cs) n h
    stays (flags ls) n h = keep_over key.Flags (number_labels t ls) (number_labels u ls) (stays_labels ls) n h
    stays (own r) n h = e.nodes _ n h
    stays (borrow r) n h = e.nodes _ n h

    pub stays_fields : (fs : Fields) → Carries (number_fields t fs) (number_fields u fs)
    stays_fields no_fields n h = e.nodes _ n h
    stays_fields (field l x fs) n h = keep_over_three key.Field (t.label l) (u.label l) (number t x) (number u x) (number_fields t fs) (number_fields u fs) (e.labels l) (stays x) (stays_fields fs) n h

    pub stays_cases : (cs : Cases) → Carries (number_cases t cs) (number_cases u cs)
    stays_cases no_cases n h = e.nodes _ n h
    stays_cases (plain l cs) n h = keep_over_two key.Plain (t.label l) (u.label l) (number_cases t cs) (number_cases u cs) (e.labels l) (stays_cases cs) n h
    stays_cases (carrying l x cs) n h = keep_over_three key.Carrying (t.label l) (u.label l) (number t x) (number u x) (number_cases t cs) (number_cases u cs) (e.labels l) (stays x) (stays_cases cs) n h

  stays_signature : (params : Fields) (answer : Option Ty) → Carries (number_of_signature t (number_fields t params) answer) (number_of_signature u (number_fields u params) answer)
  stays_signature params None n h = keep_over key.FuncWithoutResult (number_fields t params) (number_fields u params) (stays_fields params) n h
  stays_signature params (Some x) n h = keep_over_two key.Func (number_fields t params) (number_fields u params) (number t x) (number u x) (stays_fields params) (stays x) n h

  pub stays_func : (f : FuncTy) → Carries (number_func t f) (number_func u f)
  stays_func f n h = stays_signature f.params f.result n h

  pub numbers_stay : (s : Standing) (ts : List Ty) (ns : List ℕ) → AreNumbers t s ts ns → AreNumbers u s ts ns
  numbers_stay s ts ns = all_carry (λ x. number t (replaced s x)) (λ x. number u (replaced s x)) (λ x n. stays (replaced s x) n) ts ns

  pub funcs_stay : (s : Standing) (fs : List FuncTy) (ns : List ℕ) → AreFuncNumbers t s fs ns → AreFuncNumbers u s fs ns
  funcs_stay s fs ns = all_carry (λ f. number_func t (replaced_func s f)) (λ f. number_func u (replaced_func s f)) (λ f n. stays_func (replaced_func s f) n) fs ns

pub extends_itself : (t : Numbering) → Extends t t
extends_itself t = record { labels = λ l n h. h; nodes = λ k n h. h }

pub extends_on : (t u v : Numbering) → Extends t u → Extends u v → Extends t v
extends_on t u v a b = record { labels = λ l n h. b.labels l n (a.labels l n h); nodes = λ k n h. b.nodes k n (a.nodes k n h) }
