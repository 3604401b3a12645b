-- What lifts and lowers break.
use Rattle.std.proofs.Common.{◌≡◌, ℕ, Bool, true, false, List, [], ◌++◌, Option, Some, None, refl, sym, ap, ◌∙◌}
use Rattle.std.proofs.lemmas.Option.{slice_get-map}
use Rattle.std.specs.Prelude.{slice_get, is_some, nat_le, if◌then◌else◌}
use Rattle.std.specs.Option.{option_map, option_and_then}
use Rattle.cm_types.specs.Types.{FuncTy}
use Rattle.cm_binary_model.specs.Trees.{lift, lower}
use Rattle.cm_binary_model.specs.declared.canons.CanonOption.{CanonOption}
use Rattle.cm_validate_model.specs.declared.fault.ValidReason.{ValidReason}
use Rattle.cm_validate_model.specs.declared.fault.ValidReason.TheVariants as reason
use Rattle.cm_validate_model.specs.ReasonWords.{reason_number}
use Rattle.cm_validate_model.specs.Definitions.{TypeDef, value, func_type, resource, instance_type, faulty, sort_of}
use Rattle.cm_validate_model.specs.Options.{guest_broken, lift_type_broken, no_post_return_broken, options_broken}
use Rattle.cm_validate_model.specs.Reasons.{found, if_found, least, lesser, unless}
use Rattle.cm_validate_model.specs.Rules.{canon_broken, func_ty_at, lowered_broken, type_index_broken}
use Rattle.cm_validate_model.specs.Spaces.{Spaces, func_ty_in}
use Rattle.cm_validate_model.specs.TypeRules.{has_sort}
use Rattle.cm_validate_model.specs.declared.sorts.TypeSort.TheVariants as sort
use Rattle.cm_validate_model.proofs.ReasonsLaws.{lesser_none}

-- the least of both lists is the lesser of what is least in each
abbrev pub LeastOfBoth : Type 0
LeastOfBoth = (qs rs : List ValidReason) → least (qs ++ rs) ≡ lesser (least qs) (least rs)

one_of : (b : Bool) (a r : ValidReason) → is_some (if b then Some a else Some r) ≡ true
one_of true a r = refl
one_of false a r = refl

some_behind : (p : Option ValidReason) (r : ValidReason) → is_some (lesser p (Some r)) ≡ true
some_behind None r = refl
some_behind (Some a) r = one_of (nat_le (reason_number a) (reason_number r)) a r

some_before : (p q : Option ValidReason) → is_some p ≡ true → is_some (lesser p q) ≡ true
some_before None q e = absurd cc
some_before (Some r) None e = refl
some_before (Some r) (Some q) e = one_of (nat_le (reason_number r) (reason_number q)) r q

-- ---- an index of the type of a function

abbrev sort_broken : Option TypeDef → List ValidReason
sort_broken o = found (λ d. unless (has_sort sort.Func d) reason.WrongSort) (option_map sort_of o)

index_is : (s : Spaces) (i : ℕ) → type_index_broken s (has_sort sort.Func) i ≡ sort_broken (slice_get s.types i)
index_is s i = ap (found (λ d. unless (has_sort sort.Func d) reason.WrongSort)) (slice_get-map sort_of s.types i)

of_the_sort : (o : Option TypeDef) (f : FuncTy) → option_and_then func_ty_in o ≡ Some f → sort_broken o ≡ []
of_the_sort None f e = absurd cc
of_the_sort (Some (value t)) f e = absurd cc
of_the_sort (Some (func_type g)) f e = refl
of_the_sort (Some (resource n)) f e = absurd cc
of_the_sort (Some (instance_type i)) f e = absurd cc
of_the_sort (Some faulty) f e = absurd cc

none_of_it : (o : Option TypeDef) (q : ValidReason) → Some q ≡ least (sort_broken o) → option_and_then func_ty_in o ≡ None
none_of_it None q e = refl
none_of_it (Some (value t)) q e = refl
none_of_it (Some (func_type g)) q e = absurd cc
none_of_it (Some (resource n)) q e = refl
none_of_it (Some (instance_type i)) q e = refl
none_of_it (Some faulty) q e = refl

-- ---- lifts

module _ (both : LeastOfBoth) where
  three : (a b c : List ValidReason) → least (a ++ b ++ c) ≡ lesser (lesser (least a) (least b)) (least c)
  three a b c = both (a ++ b) c ∙ ap (λ v. lesser v (least c)) (both a b)

  four : (a b c d : List ValidReason) → least (a ++ b ++ c ++ d) ≡ lesser (lesser (lesser (least a) (least b)) (least c)) (least d)
  four a b c d = both (a ++ b ++ c) d ∙ ap (λ v. lesser v (least d)) (three a b c)

  module _ (s : Spaces) (f i : ℕ) (os : List CanonOption) (g n : Option ValidReason) (guest : g ≡ least (guest_broken s.core_funcs f)) (named : n ≡ least (options_broken s os)) where
    -- by what the index of a type breaks, and the type
    abbrev by_type : Option ValidReason → Option ValidReason → Option ValidReason
    by_type x t = lesser (lesser (lesser g x) n) t

    rules : least (canon_broken s (lift f os i)) ≡ by_type (least (type_index_broken s (has_sort sort.Func) i)) (least (if_found (lift_type_broken os) (func_ty_at s i)))
    rules =
        four (guest_broken s.core_funcs f) (type_index_broken s (has_sort sort.Func) i) (options_broken s os) (if_found (lift_type_broken os) (func_ty_at s i))
        ∙ ap (λ v. lesser (lesser (lesser v (least (type_index_broken s (has_sort sort.Func) i))) (least (options_broken s os))) (least (if_found (lift_type_broken os) (func_ty_at s i)))) (sym guest)
        ∙ ap (λ v. lesser (lesser (lesser g (least (type_index_broken s (has_sort sort.Func) i))) v) (least (if_found (lift_type_broken os) (func_ty_at s i)))) (sym named)

    -- there is no type of a function under the index
    pub untyped : (q : ValidReason) → Some q ≡ least (type_index_broken s (has_sort sort.Func) i) → lesser (lesser g (Some q)) n ≡ least (canon_broken s (lift f os i))
    untyped q e = sym (
        rules
        ∙ ap (λ v. by_type v (least (if_found (lift_type_broken os) (func_ty_at s i)))) (sym e)
        ∙ ap (λ v. by_type (Some q) (least (if_found (lift_type_broken os) v))) (none_of_it (slice_get s.types i) q (e ∙ ap least (index_is s i)))
        ∙ lesser_none (lesser (lesser g (Some q)) n))

    -- there is this one
    pub typed : (ft : FuncTy) (t : Option ValidReason) → func_ty_at s i ≡ Some ft → t ≡ least (lift_type_broken os ft) → lesser (lesser g n) t ≡ least (canon_broken s (lift f os i))
    typed ft t is e = sym (
        rules
        ∙ ap (λ v. by_type (least v) (least (if_found (lift_type_broken os) (func_ty_at s i)))) (index_is s i ∙ of_the_sort (slice_get s.types i) ft is)
        ∙ ap (λ v. by_type None (least (if_found (lift_type_broken os) v))) is
        ∙ ap (λ v. lesser (lesser v n) (least (lift_type_broken os ft))) (lesser_none g)
        ∙ ap (λ v. lesser (lesser g n) v) (sym e))

  -- a lift that breaks nothing has the type of a function
  pub never_untyped : (s : Spaces) (f i : ℕ) (os : List CanonOption) (q : ValidReason) → Some q ≡ least (type_index_broken s (has_sort sort.Func) i) → None ≡ least (canon_broken s (lift f os i)) → ⊥
  never_untyped s f i os q e none =
      let g = least (guest_broken s.core_funcs f) in
      let n = least (options_broken s os) in
      let wrong : false ≡ true =
      ap is_some (none ∙ sym (untyped s f i os g n refl refl q e)) ∙ some_before (lesser g (Some q)) n (some_behind g q) in
      absurd cc

  -- ---- lowers

  pub lower_is : (s : Spaces) (f : ℕ) (os : List CanonOption) (l n p : Option ValidReason) → l ≡ least (found (lowered_broken os) (slice_get s.funcs f)) → n ≡ least (options_broken s os) → p ≡ least (no_post_return_broken os)
      → lesser (lesser l n) p ≡ least (canon_broken s (lower f os))
  lower_is s f os l n p e g h =
      ap (λ v. lesser (lesser v n) p) e
      ∙ ap (λ v. lesser (lesser (least (found (lowered_broken os) (slice_get s.funcs f))) v) p) g
      ∙ ap (λ v. lesser (lesser (least (found (lowered_broken os) (slice_get s.funcs f))) (least (options_broken s os))) v) h
      ∙ sym (three (found (lowered_broken os) (slice_get s.funcs f)) (options_broken s os) (no_post_return_broken os))
