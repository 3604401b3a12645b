-- What type texts stand for.
use Rattle.std.proofs.Common.{◌≡◌, ℕ, ◌<◌, ◌≤◌, ◌+◌, List, [], ◌∷◌, ◌++◌, length, map, get_or, Option, Some, None, refl, sym, ap, subst, ◌∙◌, Ok, Err, Box, Vec, Global, rules}
use Rattle.std.specs.Option.{option_map, option_and_then}
use Rattle.cm_types.specs.Types.{Ty, list, fixed_list}
use Rattle.cm_types.specs.Limits.{IsWithinLimits}
use Rattle.cm_types.specs.Spellable.{is_spellable}
use Rattle.cm_types_arena.specs.TypeDefs.{type_at}
use Rattle.cm_types_arena.specs.Places.{types_of}
use Rattle.cm_types_arena.specs.declared.types.Types.{Types}
use Rattle.cm_wit_reading.specs.declared.types.WitType.{WitType, the_lemmas}
use Rattle.cm_wit_reading.specs.declared.types.WitType.TheViews as node
use Rattle.cm_wit_reading.specs.Types as spec
use Rattle.cm_wit_reading.specs.Types.{types_from}
use Rattle.cm_wit_reading.specs.TypeViews.{payload_tree, type_tree}
use Rattle.cm_wit_meanings.specs.declared.fault.MeaningFault.{MeaningFault}
use Rattle.cm_wit_meanings.specs.declared.fault.MeaningFault.TheVariants as fault
use Rattle.cm_wit_meanings.specs.declared.scope.Scope as code_scope
use Rattle.cm_wit_meanings.specs.Scopes.{Scope}
use Rattle.cm_wit_meanings.specs.Added.{AddedParts, AddedType, is_place}
use Rattle.cm_wit_meanings.specs.Meanings.{meaning, meanings, option_of, payload_meaning, result_of, tuple_of}
use Rattle.cm_wit_meanings.specs.Faults.{IsTypeFault, IsFaultIn}
use Rattle.cm_wit_meanings.specs.Places.{scope_in, ArePlaced}
use Rattle.cm_wit_meanings.proofs.GrowthLaws.{place_kept, extends_more}
use Rattle.cm_wit_meanings.proofs.ScopeLaws.{scope_kept, scope_placed}
use Rattle.cm_wit_meanings.proofs.EachLaws.{makes_fault, part_within, part_spelled, types_each}
use Rattle.cm_wit_meanings.proofs.PushLaws.{Pushed, pushed_none, pushed_next, pushed_all}
use Rattle.cm_wit_meanings.proofs.FaultLaws.{both_of}
use Rattle.cm_lemmas.proofs.Numbers.{below_more}

-- ---- the types of several texts

abbrev pub text_meaning : code_scope.Scope → Types → WitType → Option Ty
text_meaning sc first x = meaning (scope_in (types_of first) sc) (type_tree x)

-- What the first i texts stand for was added to the types, at these places.
pub record PushedTypes (sc : code_scope.Scope) (texts : List WitType) (first : Types) (i : ℕ) (now : Types) (places : List ℕ) : Type 0 where
  pub is : Pushed (text_meaning sc first) type_at is_place texts first i now places

pub types_none : (sc : code_scope.Scope) (texts : List WitType) (first : Types) (places : List ℕ) → places ≡ [] → PushedTypes sc texts first 0 first places
types_none sc texts first places e = record { is = rw e (pushed_none (text_meaning sc first) type_at is_place texts first) }

module _ (sc : code_scope.Scope) (texts : List WitType) (first now : Types) (placed : ArePlaced (length (types_of first)) sc.table.now) (i : ℕ) (places : List ℕ) (h : PushedTypes sc texts first i now places) where
  pub types_placed : ArePlaced (length (types_of now)) sc.table.now
  types_placed = scope_placed (types_of first) (types_of now) sc h.is.grown placed

  same_scope : scope_in (types_of now) sc ≡ scope_in (types_of first) sc
  same_scope = scope_kept (types_of first) (types_of now) sc h.is.grown placed

  module _ (next : Types) (x : WitType) (lt : i < length texts) (is : x ≡ get_or texts i x) where
    pub part_added : (p : ℕ) (new : List ℕ) → AddedType now next (meaning (scope_in (types_of now) sc) (type_tree x)) (Ok p) → new ≡ places ++ p ∷ [] → PushedTypes sc texts first (i + 1) next new
    part_added p new a n = record {
      is = pushed_next (text_meaning sc first) type_at is_place texts first (λ old new d e q. place_kept old new d e q) (λ m n d le q. below_more m n d le q) now next i x p places new lt is (ap (λ (s : Scope). meaning s (type_tree x)) (sym same_scope) ∙ a.meaning) a.there a.grown a.funcs n h.is;
    }

    pub part_refused : (f : MeaningFault) → AddedType now next (meaning (scope_in (types_of now) sc) (type_tree x)) (Err f) → AddedParts first next (meanings (scope_in (types_of first) sc) (types_from (map type_tree texts))) (Err f)
    part_refused f a =
        let told : IsTypeFault (text_meaning sc first x) f = subst (λ (s : Scope). IsTypeFault (meaning s (type_tree x)) f) same_scope a.fault in
        record {
          there = tt;
          meaning = tt;
          fault = subst (λ (o : Option (List Ty)). IsFaultIn tuple_of o f) (types_each (scope_in (types_of first) sc) texts) (makes_fault (text_meaning sc first) texts (λ ts. IsWithinLimits (tuple_of ts)) (λ ts. is_spellable (tuple_of ts)) IsWithinLimits is_spellable part_within part_spelled i x (map (type_at (types_of now)) places) f lt is told h.is.makes);
          grown = extends_more (types_of first) (types_of now) (types_of next) h.is.grown a.grown;
          funcs = a.funcs ∙ h.is.funcs;
        }

    -- where there is no memory for the place
    pub part_lost : (p : ℕ) → AddedType now next (meaning (scope_in (types_of now) sc) (type_tree x)) (Ok p) → AddedParts first next (meanings (scope_in (types_of first) sc) (types_from (map type_tree texts))) (Err fault.Memory)
    part_lost p a = record {
      there = tt;
      meaning = tt;
      fault = tt;
      grown = extends_more (types_of first) (types_of now) (types_of next) h.is.grown a.grown;
      funcs = a.funcs ∙ h.is.funcs;
    }

  pub parts_added : (v : Vec ℕ Global) → v.items ≡ places → length texts ≤ i → AddedParts first now (meanings (scope_in (types_of first) sc) (types_from (map type_tree texts))) (Ok v)
  parts_added v e le = record {
    there = rw e h.is.there;
    meaning = rw e (sym (types_each (scope_in (types_of first) sc) texts) ∙ pushed_all (text_meaning sc first) type_at is_place texts first now i places le h.is);
    fault = tt;
    grown = h.is.grown;
    funcs = h.is.funcs;
  }

-- ---- what the kinds of texts stand for

seen_list : (a : Box WitType Global) → type_tree (node.List a) ≡ spec.list (type_tree a.value)
seen_list a = search (rules, the_lemmas)

seen_fixed : (a : Box WitType Global) (n : ℕ) → type_tree (node.FixedList a n) ≡ spec.fixed_list (type_tree a.value) n
seen_fixed a n = search (rules, the_lemmas)

seen_option : (a : Box WitType Global) → type_tree (node.Option a) ≡ spec.option (type_tree a.value)
seen_option a = search (rules, the_lemmas)

seen_tuple : (v : Vec WitType Global) → type_tree (node.Tuple v) ≡ spec.tuple (types_from (map type_tree v.items))
seen_tuple v = search (rules, the_lemmas)

seen_plain : type_tree (node.Result None None) ≡ spec.plain_result
seen_plain = search (rules, the_lemmas)

seen_ok : (a : Box WitType Global) → type_tree (node.Result (Some a) None) ≡ spec.ok_result (type_tree a.value)
seen_ok a = search (rules, the_lemmas)

seen_error : (b : Box WitType Global) → type_tree (node.Result None (Some b)) ≡ spec.error_result (type_tree b.value)
seen_error b = search (rules, the_lemmas)

seen_both : (a b : Box WitType Global) → type_tree (node.Result (Some a) (Some b)) ≡ spec.result (type_tree a.value) (type_tree b.value)
seen_both a b = search (rules, the_lemmas)

only_ok : (o : Option Ty) → option_map (λ x. result_of (Some x) None) o ≡ both_of (option_map Some o) (Some None)
only_ok None = refl
only_ok (Some x) = refl

only_error : (o : Option Ty) → option_map (λ x. result_of None (Some x)) o ≡ both_of (Some None) (option_map Some o)
only_error None = refl
only_error (Some x) = refl

ok_and_error : (a b : Option Ty) → option_and_then (λ x. option_map (λ y. result_of (Some x) (Some y)) b) a ≡ both_of (option_map Some a) (option_map Some b)
ok_and_error None b = refl
ok_and_error (Some x) None = refl
ok_and_error (Some x) (Some y) = refl

payloads_mean : (s : Scope) (ok error : Option (Box WitType Global)) → meaning s (type_tree (node.Result ok error)) ≡ both_of (payload_meaning s (payload_tree ok)) (payload_meaning s (payload_tree error))
payloads_mean s None None = ap (meaning s) seen_plain
payloads_mean s (Some a) None = ap (meaning s) (seen_ok a) ∙ only_ok (meaning s (type_tree a.value))
payloads_mean s None (Some b) = ap (meaning s) (seen_error b) ∙ only_error (meaning s (type_tree b.value))
payloads_mean s (Some a) (Some b) = ap (meaning s) (seen_both a b) ∙ ok_and_error (meaning s (type_tree a.value)) (meaning s (type_tree b.value))

-- the same of a text of that kind, whose part is behind a reference
module _ (s : Scope) (text part : WitType) (a : Box WitType Global) (is : part ≡ a.value) where
  pub list_means : text ≡ node.List a → meaning s (type_tree text) ≡ option_map list (meaning s (type_tree part))
  list_means e = ap (λ (x : WitType). meaning s (type_tree x)) e ∙ (ap (meaning s) (seen_list a) ∙ ap (λ (x : WitType). option_map list (meaning s (type_tree x))) (sym is))

  pub fixed_means : (n : ℕ) → text ≡ node.FixedList a n → meaning s (type_tree text) ≡ option_map (λ x. fixed_list x n) (meaning s (type_tree part))
  fixed_means n e = ap (λ (x : WitType). meaning s (type_tree x)) e ∙ (ap (meaning s) (seen_fixed a n) ∙ ap (λ (x : WitType). option_map (λ t. fixed_list t n) (meaning s (type_tree x))) (sym is))

  pub option_means : text ≡ node.Option a → meaning s (type_tree text) ≡ option_map option_of (meaning s (type_tree part))
  option_means e = ap (λ (x : WitType). meaning s (type_tree x)) e ∙ (ap (meaning s) (seen_option a) ∙ ap (λ (x : WitType). option_map option_of (meaning s (type_tree x))) (sym is))

pub payload_means : (s : Scope) (text : Option (Box WitType Global)) (part : WitType) (a : Box WitType Global) → part ≡ a.value → text ≡ Some a → payload_meaning s (payload_tree text) ≡ option_map Some (meaning s (type_tree part))
payload_means s text part a is e = ap (λ (x : Option (Box WitType Global)). payload_meaning s (payload_tree x)) e ∙ ap (λ (x : WitType). option_map Some (meaning s (type_tree x))) (sym is)

pub tuple_means : (s : Scope) (text : WitType) (v : Vec WitType Global) (parts : List WitType) → text ≡ node.Tuple v → parts ≡ v.items → meaning s (type_tree text) ≡ option_map tuple_of (meanings s (types_from (map type_tree parts)))
tuple_means s text v parts e is = ap (λ (x : WitType). meaning s (type_tree x)) e ∙ (ap (meaning s) (seen_tuple v) ∙ ap (λ (xs : List WitType). option_map tuple_of (meanings s (types_from (map type_tree xs)))) (sym is))

pub result_means : (s : Scope) (text : WitType) (ok error : Option (Box WitType Global)) → text ≡ node.Result ok error → meaning s (type_tree text) ≡ both_of (payload_meaning s (payload_tree ok)) (payload_meaning s (payload_tree error))
result_means s text ok error e = ap (λ (x : WitType). meaning s (type_tree x)) e ∙ payloads_mean s ok error
