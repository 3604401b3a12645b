-- Imports and exports of all numbers.
use Rattle.std.proofs.Common.{◌≡◌, ℕ, suc, ◌+◌, ◌<◌, ◌≤◌, true, List, [], ◌∷◌, length, drop, get_or, Option, Some, None, refl, sym, ap, subst, ◌∙◌, arith, append-nil, drop-cons, add-one}
use Rattle.std.specs.List.{flat_map}
use Rattle.std.proofs.lemmas.List.{drop_all}
use Rattle.cm_types.specs.Types.{Ty}
use Rattle.cm_types.specs.Signatures.{NamedExtern}
use Rattle.cm_names.specs.Listed.{listed}
use Rattle.cm_types_arena.specs.Places.{types_of, funcs_of}
use Rattle.cm_types_arena.specs.declared.types.Types.{Types}
use Rattle.cm_types_arena.specs.declared.shared.SharedExtern.{SharedExtern}
use Rattle.cm_wit_meanings.specs.declared.fault.MeaningFault.{MeaningFault}
use Rattle.cm_wit_meanings.specs.declared.scope.Meaning.{Meaning}
use Rattle.cm_wit_meanings.specs.Scopes as meant
use Rattle.cm_wit_meanings.specs.Places.{ArePlaced, Extends, table_in}
use Rattle.cm_wit_signature.specs.ItemFaults.{AreWithin}
use Rattle.cm_wit_signature.specs.Functions.{extern_funcs}
use Rattle.cm_wit_signature.specs.Own.{AreOwn}
use Rattle.cm_wit_signature.specs.Signatures.{Scopes, externs_from}
use Rattle.cm_wit_meanings.specs.Scopes.{scope_at}
use Rattle.cm_wit_signature.specs.Adding.{behind, AreExternsFault, Adds}
use Rattle.cm_wit_signature.specs.PartViews.{scopes_in, interfaces_in, world_in, externs_made, are_made_there}
use Rattle.cm_wit_signature.specs.declared.parts.Parts.{Parts}
use Rattle.cm_wit_meanings.proofs.GrowthLaws.{extends_more, extends_same}

-- what names stand for stays what it is
abbrev pub TablesStay : Type 0
TablesStay = (types more : List Ty) (table : List (Option Meaning))
    → Extends types more → ArePlaced (length types) table → table_in more table ≡ table_in types table

-- what a world's numbers stand for, from the i-th on
abbrev pub rest_of : Parts → Types → List ℕ → ℕ → ℕ → Option (List NamedExtern)
rest_of p first numbers l i = externs_from (interfaces_in p) (world_in p) (scopes_in (types_of first) p) p.own l (drop i numbers)

-- What stands there, and the rest behind it, is all.
pub record Made (p : Parts) (first : Types) (start : ℕ) (numbers : List ℕ) (i : ℕ) (now : Types) (list : ℕ) (out : List SharedExtern) : Type 0 where
  pub is : behind (externs_made p now out) (rest_of p first numbers list i) ≡ rest_of p first numbers start 0
  pub low : list ≤ start + i
  pub there : are_made_there now out ≡ true
  pub within : AreWithin (flat_map extern_funcs (externs_made p now out))
  pub types : Extends (types_of first) (types_of now)
  pub funcs : Extends (funcs_of first) (funcs_of now)

behind_none : (o : Option (List NamedExtern)) → behind [] o ≡ o
behind_none None = refl
behind_none (Some ys) = refl

module _ (p : Parts) (first : Types) (start : ℕ) (numbers : List ℕ) where
  pub made_none : Made p first start numbers 0 first start []
  made_none = record { is = behind_none (rest_of p first numbers start 0); low = omega arith; there = refl; within = tt; types = extends_same (types_of first) (types_of first) refl; funcs = extends_same (funcs_of first) (funcs_of first) refl }

  module _ (stay : TablesStay) (placed : ArePlaced (length (types_of first)) p.table.now) (i : ℕ) (now : Types) (list : ℕ) (out : List SharedExtern) (h : Made p first start numbers i now list out) where
    same : scopes_in (types_of now) p ≡ scopes_in (types_of first) p
    same = ap (λ (t : List (Option meant.Meaning)). λ (l : ℕ). scope_at (listed p.names.now) t l) (stay (types_of first) (types_of now) p.table.now h.types placed)

    pub made_own : ((l : ℕ) → AreOwn (scopes_in (types_of first) p l)) → (l : ℕ) → AreOwn (scopes_in (types_of now) p l)
    made_own o l = subst (λ (s : Scopes). AreOwn (s l)) (sym same) (o l)

    cut : (x : ℕ) → i < length numbers → x ≡ get_or numbers i 0 → drop i numbers ≡ x ∷ drop (i + 1) numbers
    cut x lt e = drop-cons numbers i 0 lt ∙ (ap (λ (a : ℕ). a ∷ drop (suc i) numbers) (sym e) ∙ rw (add-one i) refl)

    pub made_next : (next : Types) (x m : ℕ) (new : List SharedExtern) → i < length numbers → x ≡ get_or numbers i 0 → Adds (interfaces_in p) (world_in p) (scopes_in (types_of now) p) p.own x list m (externs_made p now out) (externs_made p next new) → m ≤ list + 1 → are_made_there next new ≡ true → AreWithin (flat_map extern_funcs (externs_made p next new)) → Extends (types_of now) (types_of next) → Extends (funcs_of now) (funcs_of next) → Made p first start numbers (i + 1) next m new
    made_next next x m new lt e adds le q w t f = record {
      is = sym (subst (λ (s : Scopes). Adds (interfaces_in p) (world_in p) s p.own x list m (externs_made p now out) (externs_made p next new)) same adds (drop (i + 1) numbers))
          ∙ (sym (ap (λ (ns : List ℕ). behind (externs_made p now out) (externs_from (interfaces_in p) (world_in p) (scopes_in (types_of first) p) p.own list ns)) (cut x lt e)) ∙ h.is);
      low = omega (arith, le, h.low);
      there = q;
      within = w;
      types = extends_more (types_of first) (types_of now) (types_of next) h.types t;
      funcs = extends_more (funcs_of first) (funcs_of now) (funcs_of next) h.funcs f;
    }

    pub made_fault : (x : ℕ) (f : MeaningFault) → i < length numbers → x ≡ get_or numbers i 0 → ((ns : List ℕ) → AreExternsFault (behind (externs_made p now out) (externs_from (interfaces_in p) (world_in p) (scopes_in (types_of now) p) p.own list (x ∷ ns))) f) → AreExternsFault (externs_from (interfaces_in p) (world_in p) (scopes_in (types_of first) p) p.own start numbers) f
    made_fault x f lt e g =
        let told = subst (λ (s : Scopes). AreExternsFault (behind (externs_made p now out) (externs_from (interfaces_in p) (world_in p) s p.own list (x ∷ drop (i + 1) numbers))) f) same (g (drop (i + 1) numbers)) in
        let all : behind (externs_made p now out) (externs_from (interfaces_in p) (world_in p) (scopes_in (types_of first) p) p.own list (x ∷ drop (i + 1) numbers)) ≡ externs_from (interfaces_in p) (world_in p) (scopes_in (types_of first) p) p.own start numbers =
        sym (ap (λ (ns : List ℕ). behind (externs_made p now out) (externs_from (interfaces_in p) (world_in p) (scopes_in (types_of first) p) p.own list ns)) (cut x lt e)) ∙ h.is in
        subst (λ (o : Option (List NamedExtern)). AreExternsFault o f) all told

    pub made_all : length numbers ≤ i → externs_from (interfaces_in p) (world_in p) (scopes_in (types_of first) p) p.own start numbers ≡ Some (externs_made p now out)
    made_all le =
        sym h.is ∙ (ap (λ (ns : List ℕ). behind (externs_made p now out) (externs_from (interfaces_in p) (world_in p) (scopes_in (types_of first) p) p.own list ns)) (drop_all i numbers le) ∙ ap Some (append-nil (externs_made p now out)))

-- ---- the same names among more types

module _ (p : Parts) (stay : TablesStay) (first mid : Types) (e : Extends (types_of first) (types_of mid)) (placed : ArePlaced (length (types_of first)) p.table.now) where
  pub scopes_stay : scopes_in (types_of mid) p ≡ scopes_in (types_of first) p
  scopes_stay = ap (λ (t : List (Option meant.Meaning)). λ (l : ℕ). scope_at (listed p.names.now) t l) (stay (types_of first) (types_of mid) p.table.now e placed)

  pub own_stays : ((l : ℕ) → AreOwn (scopes_in (types_of first) p l)) → (l : ℕ) → AreOwn (scopes_in (types_of mid) p l)
  own_stays o l = subst (λ (s : Scopes). AreOwn (s l)) (sym scopes_stay) (o l)

  pub externs_same : (start : ℕ) (numbers : List ℕ) → externs_from (interfaces_in p) (world_in p) (scopes_in (types_of mid) p) p.own start numbers ≡ externs_from (interfaces_in p) (world_in p) (scopes_in (types_of first) p) p.own start numbers
  externs_same start numbers = ap (λ (s : Scopes). externs_from (interfaces_in p) (world_in p) s p.own start numbers) scopes_stay
