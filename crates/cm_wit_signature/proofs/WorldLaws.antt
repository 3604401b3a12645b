-- Where each name leads to a type, a world has a signature.
use Rattle.std.proofs.Common.{◌≡◌, ℕ, suc, ◌+◌, ◌-◌, ◌<◌, nat_lt, Bool, true, false, cond, if◌then◌else◌, List, [], ◌∷◌, ◌++◌, length, map, Option, Some, None, MatchOption, slice_get, refl, ap, subst, ◌∙◌, arith}
use Rattle.std.specs.List.{AllByRecursion}
use Rattle.std.specs.Option.{option_and_then}
use Rattle.cm_types.specs.declared.resource.ResourceId.{ResourceId}
use Rattle.cm_types.specs.Signatures.{NamedExtern, func, instance}
use Rattle.cm_wit_reading.specs.Trees.{File, WorldItem}
use Rattle.cm_wit_worlds.specs.Interfaces.{PlacedInterface, PlacedWorld, interfaces, full_name}
use Rattle.cm_wit_meanings.specs.Scopes.{Meaning, resource}
use Rattle.cm_wit_tables.specs.Declarations.{Declaration}
use Rattle.cm_wit_tables.specs.Tables.{scope_of, IsWhole}
use Rattle.cm_wit_tables.specs.TypeFaults.{IsResource}
use Rattle.cm_wit_tables.specs.Worlds.{Instance, instances, declarations}
use Rattle.cm_wit_signature.specs.Members.{members, items_in}
use Rattle.cm_wit_signature.specs.Signatures.{NamedFunc, item_func, func_at, func_extern, interface_extern, instance_extern, in_front, func_in_front, externs_from, interfaces_among, signature_in}
use Rattle.cm_wit_signature.specs.Named.{FuncHasTypes, MemberHasTypes, OwnFuncsHaveTypes, HaveTypes, imported}
use Rattle.cm_wit_signature.proofs.ThereLaws.{typed_func, typed_members}
use Rattle.cm_wit_meanings.specs.Meanings.{func_meaning}
use Rattle.cm_lemmas.proofs.Options.{Has, has_mapped}
use Rattle.cm_lemmas.proofs.Lists.{got_at, get_front, get_map, got_within}
use Rattle.cm_lemmas.proofs.Numbers.{less_of}

pub both_there : {A : Type 0} (one : Option A) (others : Option (List A)) → Has one → Has others → Has (in_front one others)
both_there one others p q = (p.0 ∷ q.0, rw (p.1, q.1) refl)

module _ (fs : List File) (w : PlacedWorld) (ds : List Declaration) (table : List (Option Meaning)) (own : ℕ) (whole : IsWhole ds table)
    (ones : (k : ℕ) → IsResource ds k → (r : ResourceId) × (slice_get table k ≡ Some (Some (resource r))))
    (funcs : OwnFuncsHaveTypes w ds own) where
  -- each of the n-th interface's members has its types, in the l-th list
  abbrev pub Typed : ℕ → ℕ → Type 0
  Typed l n = (i : PlacedInterface) → slice_get (interfaces fs) n ≡ Some i → AllByRecursion (MemberHasTypes ds l) (members i.interface)

  instance_by : (l : ℕ) (o : Option PlacedInterface) → Has o → ((i : PlacedInterface) → o ≡ Some i → AllByRecursion (MemberHasTypes ds l) (members i.interface)) → Has (option_and_then (interface_extern (scope_of ds table l)) o)
  instance_by l None h t = let e = h.1 in absurd cc
  instance_by l (Some i) h t = has_mapped (λ is. record { name = full_name i.file i.interface.name; desc = instance is }) (items_in (scope_of ds table l) i.interface) (typed_members ds table whole ones l (members i.interface) (t i refl))

  instance_there : (l n : ℕ) → n < length (interfaces fs) → Typed l n → Has (instance_extern (interfaces fs) (scope_of ds table l) n)
  instance_there l n lt t = instance_by l (slice_get (interfaces fs) n) (got_within (interfaces fs) n lt) t

  func_there : (f : NamedFunc) → FuncHasTypes ds own f.1 → Has (func_extern (scope_of ds table own) f)
  func_there f h = has_mapped (λ t. record { name = f.0; desc = func t }) (func_meaning (scope_of ds table own) f.1) (typed_func ds table whole ones own f.1 h)

  front_there : (o : Option NamedFunc) (others : Option (List NamedExtern)) → MatchOption o (Unit {0}) (λ f. FuncHasTypes ds own f.1) → Has others → Has (func_in_front (scope_of ds table own) o others)
  front_there None others h q = q
  front_there (Some f) others h q = both_there (func_extern (scope_of ds table own) f) others (func_there f h) q

  at_item : (o : Option WorldItem) → ((e : WorldItem) → o ≡ Some e → MatchOption (item_func e) (Unit {0}) (λ f. FuncHasTypes ds own f.1)) → MatchOption (option_and_then item_func o) (Unit {0}) (λ f. FuncHasTypes ds own f.1)
  at_item None h = tt
  at_item (Some e) h = h e refl

  func_typed : (j : ℕ) → MatchOption (func_at w j) (Unit {0}) (λ f. FuncHasTypes ds own f.1)
  func_typed j = at_item (slice_get w.world.items j) (λ e q. got_at (λ x. MatchOption (item_func x) (Unit {0}) (λ f. FuncHasTypes ds own f.1)) w.world.items j e funcs q)

  abbrev pub TypedFrom : ℕ → List ℕ → Type 0
  TypedFrom l ns = (k n : ℕ) → slice_get (interfaces_among (interfaces fs) ns) k ≡ Some n → Typed (l + k) n

  pub externs_there : (l : ℕ) (ns : List ℕ) → TypedFrom l ns → Has (externs_from (interfaces fs) w (scope_of ds table) own l ns)
  externs_there l [] t = ([], refl)
  externs_there l (n ∷ ns) t = by_test (λ m h. externs_there m ns h) (nat_lt n (length (interfaces fs))) refl
    where
      among : (b : Bool) → nat_lt n (length (interfaces fs)) ≡ b → interfaces_among (interfaces fs) (n ∷ ns) ≡ cond b (n ∷ interfaces_among (interfaces fs) ns) (interfaces_among (interfaces fs) ns)
      among b e = ap (λ (x : Bool). cond x (n ∷ interfaces_among (interfaces fs) ns) (interfaces_among (interfaces fs) ns)) e

      by_test : ((m : ℕ) → TypedFrom m ns → Has (externs_from (interfaces fs) w (scope_of ds table) own m ns)) → (b : Bool) → nat_lt n (length (interfaces fs)) ≡ b → Has (if nat_lt n (length (interfaces fs)) then in_front (instance_extern (interfaces fs) (scope_of ds table l) n) (externs_from (interfaces fs) w (scope_of ds table) own (l + 1) ns) else func_in_front (scope_of ds table own) (func_at w (n - length (interfaces fs))) (externs_from (interfaces fs) w (scope_of ds table) own l ns))
      by_test others true e =
          let here : Typed l n = subst (λ (m : ℕ). Typed m n) (omega arith) (t 0 n (ap (λ (xs : List ℕ). slice_get xs 0) (among true e))) in
          let rest : TypedFrom (l + 1) ns = λ k m q. subst (λ (i : ℕ). Typed i m) (omega arith) (t (suc k) m (ap (λ (xs : List ℕ). slice_get xs (suc k)) (among true e) ∙ q)) in
          rw e (both_there (instance_extern (interfaces fs) (scope_of ds table l) n) (externs_from (interfaces fs) w (scope_of ds table) own (l + 1) ns) (instance_there l n (less_of n (length (interfaces fs)) e) here) (others (l + 1) rest))
      by_test others false e =
          let rest : TypedFrom l ns = λ k m q. t k m (ap (λ (xs : List ℕ). slice_get xs k) (among false e) ∙ q) in
          rw e (front_there (func_at w (n - length (interfaces fs))) (externs_from (interfaces fs) w (scope_of ds table) own l ns) (func_typed (n - length (interfaces fs))) (others l rest))

-- ---- the instances of a world

get_right : {A B : Type 0} (g : A → B) (xs : List A) (ys : List B) (k : ℕ) (y : B) → slice_get ys k ≡ Some y → slice_get (map g xs ++ ys) (length xs + k) ≡ Some y
get_right g [] ys k y e = let n : 0 + k ≡ k = omega arith in ap (slice_get ys) n ∙ e
get_right g (x ∷ xs) ys k y e = let n : suc (length xs) + k ≡ suc (length xs + k) = omega arith in ap (slice_get (g x ∷ (map g xs ++ ys))) n ∙ get_right g xs ys k y e

module _ (fs : List File) (w : PlacedWorld) (into out : List ℕ) (table : List (Option Meaning)) where
  abbrev xs : List Instance
  xs = instances (length (interfaces fs)) into out

  abbrev ds : List Declaration
  ds = declarations fs xs

  module _ (typed : HaveTypes fs w xs) (whole : IsWhole ds table)
      (ones : (k : ℕ) → IsResource ds k → (r : ResourceId) × (slice_get table k ≡ Some (Some (resource r)))) where
    into_typed : TypedFrom fs w ds table (length xs) whole ones typed.of_world 0 into
    into_typed k n e i q =
        subst (λ (l : ℕ). AllByRecursion (MemberHasTypes ds l) (members i.interface)) (omega arith)
        (typed.of_instances k (imported n) i (get_front (map imported (interfaces_among (interfaces fs) into)) (map (λ m. record { exported = true; interface = m }) (interfaces_among (interfaces fs) out)) k (imported n) (get_map imported (interfaces_among (interfaces fs) into) k n e)) q)

    out_typed : TypedFrom fs w ds table (length xs) whole ones typed.of_world (length (interfaces_among (interfaces fs) into)) out
    out_typed k n e i q =
        typed.of_instances (length (interfaces_among (interfaces fs) into) + k) (record { exported = true; interface = n }) i
        (get_right imported (interfaces_among (interfaces fs) into) (map (λ m. record { exported = true; interface = m }) (interfaces_among (interfaces fs) out)) k (record { exported = true; interface = n }) (get_map (λ m. record { exported = true; interface = m }) (interfaces_among (interfaces fs) out) k n e)) q

    pub signature_there : Has (signature_in fs w into out table)
    signature_there =
        let p = externs_there fs w ds table (length xs) whole ones typed.of_world 0 into into_typed in
        let q = externs_there fs w ds table (length xs) whole ones typed.of_world (length (interfaces_among (interfaces fs) into)) out out_typed in
        (record { imports = p.0; exports = q.0 }, rw (p.1, q.1) refl)
