-- What serves one of two lists that are alike serves the other.
use Rattle.std.proofs.Common.{◌≡◌, ◌∙◌, ℕ, suc, List, [], ◌∷◌, ◌++◌, length, Option, Some, None, refl, ap, sym, subst}
use Rattle.std.specs.List.{AllByRecursion}
use Rattle.cm_types.specs.Signatures.{ItemTy, NamedItem, func_item, equal_type, equal_resource, fresh_resource}
use Rattle.cm_types.specs.Signatures as extern
use Rattle.cm_validate_model.specs.Definitions.{ExportDef, exported_func, exported_instance, NamedMember}
use Rattle.cm_validate_model.specs.Spaces.{Spaces}
use Rattle.cm_match_model.specs.declared.fault.LinkReason.{LinkReason}
use Rattle.cm_match_model.specs.declared.fault.LinkReason.TheVariants as reason
use Rattle.cm_match_model.specs.Serving.{IsExternUnserved, IsFirst, IsItemServed, IsItemUnserved, IsUnserved, Serves, ServesExtern, are_known_resources, item_under}
use Rattle.cm_match_model.specs.Alike.{AreAllAlike, AreAlike, FailsAt}
use Rattle.cm_match_model.specs.Imports.{LinkSet}

-- ---- one item

alike_back : (set : LinkSet) (c : ℕ) (v w : ItemTy) → AreAlike set c v w → AreAlike set c w v
alike_back set c (func_item f) (func_item g) e = sym e
alike_back set c (equal_type t) (equal_type u) e = sym e
alike_back set c (equal_resource r) (equal_resource q) e = sym e
alike_back set c (fresh_resource r) (fresh_resource q) e = tt {0}
alike_back set c _ _ e = absurd e

serves_too : (set : LinkSet) (c d : ℕ) (v w have : ItemTy) → AreAlike set c v w → Serves set c v d have → Serves set c w d have
serves_too set c d (func_item f) (func_item g) (func_item h) e s = sym e ∙ s
serves_too set c d (equal_type t) (equal_type u) (equal_type h) e s = sym e ∙ s
serves_too set c d (equal_resource r) (equal_resource q) (equal_resource h) e s = sym e ∙ s
serves_too set c d (fresh_resource r) (fresh_resource q) (equal_resource h) e s = tt {0}
serves_too set c d (func_item f) (func_item g) _ e s = absurd s
serves_too set c d (equal_type t) (equal_type u) _ e s = absurd s
serves_too set c d (equal_resource r) (equal_resource q) _ e s = absurd s
serves_too set c d (fresh_resource r) (fresh_resource q) _ e s = absurd s
serves_too set c d _ _ have e s = absurd e

known_too : (set : LinkSet) (c : ℕ) (v w have : ItemTy) → AreAlike set c v w → are_known_resources v have ≡ are_known_resources w have
known_too set c (func_item f) (func_item g) have e = refl
known_too set c (equal_type t) (equal_type u) have e = refl
known_too set c (equal_resource r) (equal_resource q) (equal_resource h) e = refl
known_too set c (equal_resource r) (equal_resource q) _ e = refl
known_too set c (fresh_resource r) (fresh_resource q) have e = refl
known_too set c _ _ have e = absurd e

unserved_too : (set : LinkSet) (c d : ℕ) (v w : ItemTy) (o : Option ItemTy) (r : LinkReason) → AreAlike set c v w → IsUnserved set c v d o r → IsUnserved set c w d o r
unserved_too set c d v w None reason.MissingExport e h = tt {0}
unserved_too set c d v w (Some have) reason.DifferentType e h = (λ s. h.0 (serves_too set c d w v have (alike_back set c v w e) s), sym (known_too set c v w have e) ∙ h.1)
unserved_too set c d v w (Some have) reason.DifferentResource e h = (λ s. h.0 (serves_too set c d w v have (alike_back set c v w e) s), sym (known_too set c v w have e) ∙ h.1)
unserved_too set c d v w _ _ e h = absurd h

-- ---- all items

module _ (set : LinkSet) (c d : ℕ) (members : List NamedMember) where
  abbrev Served : NamedItem → Type 0
  Served = IsItemServed set c d members

  item_served : (i j : NamedItem) → i.name ≡ j.name → AreAlike set c i.desc j.desc → Served i → Served j
  item_served i j n e s = (s.0, subst (λ name. item_under members name ≡ Some s.0) n s.1, serves_too set c d i.desc j.desc s.0 e s.2)

  item_unserved : (i j : NamedItem) (r : LinkReason) → i.name ≡ j.name → AreAlike set c i.desc j.desc → IsItemUnserved set c d members i r → IsItemUnserved set c d members j r
  item_unserved i j r n e h = subst (λ name. IsUnserved set c j.desc d (item_under members name) r) n (unserved_too set c d i.desc j.desc (item_under members i.name) r e h)

  all_served : (is js : List NamedItem) → AreAllAlike set c d members is js → AllByRecursion Served is → AllByRecursion Served js
  all_served [] [] h s = tt {0}
  all_served (i ∷ is) (j ∷ js) h s = (item_served i j h.0 h.1 s.0, all_served is js (h.2 s.0) s.1)
  all_served [] (j ∷ js) h s = absurd h
  all_served (i ∷ is) [] h s = absurd h

  -- the first that is not served
  abbrev Fails : List NamedItem → ℕ → LinkReason → Type 0
  Fails = FailsAt set c d members

  abbrev head_or : NamedItem → List NamedItem → NamedItem
  head_or i [] = i
  head_or i (j ∷ js) = j

  abbrev tail : List NamedItem → List NamedItem
  tail [] = []
  tail (j ∷ js) = js

  behind_one : (j : NamedItem) (js : List NamedItem) (n : ℕ) (r : LinkReason) → Served j → Fails js n r → Fails (j ∷ js) (suc n) r
  behind_one j js n r s f =
      record {
        item = f.item;
        first = record { front = j ∷ f.first.front; rest = f.first.rest; split = ap (λ l. j ∷ l) f.first.split; before = (s, f.first.before) };
        place = ap suc f.place;
        fails = f.fails;
      }

  first_fails : (front rest is js : List NamedItem) (i : NamedItem) (r : LinkReason) → is ≡ front ++ i ∷ rest → AllByRecursion Served front → IsItemUnserved set c d members i r
      → AreAllAlike set c d members is js → Fails js (length front) r
  first_fails [] rest [] js i r e s u h = cc e
  first_fails (k ∷ front) rest [] js i r e s u h = cc e
  first_fails front rest (x ∷ is) [] i r e s u h = absurd h
  first_fails [] rest (x ∷ is) (y ∷ js) i r e s u h =
      record {
        item = y;
        first = record { front = []; rest = js; split = refl; before = tt {0} };
        place = refl;
        fails = item_unserved x y r h.0 h.1 (subst (λ v. IsItemUnserved set c d members v r) (sym (ap (head_or i) e)) u);
      }
  first_fails (k ∷ front) rest (x ∷ is) (y ∷ js) i r e s u h =
      let x_served : Served x = subst Served (sym (ap (head_or i) e)) s.0 in
      behind_one y js (length front) r (item_served x y h.0 h.1 x_served) (first_fails front rest is js i r (ap tail e) s.1 u (h.2 x_served))

  pub fails_too : (is js : List NamedItem) (n : ℕ) (r : LinkReason) → AreAllAlike set c d members is js → Fails is n r → Fails js n r
  fails_too is js n r h f = subst (λ m. Fails js m r) f.place (first_fails f.first.front f.first.rest is js f.item r f.first.split f.first.before f.fails h)

  all_fail : (is js : List NamedItem) (r : LinkReason) → AreAllAlike set c d members is js → (i : NamedItem) × IsFirst Served is i × IsItemUnserved set c d members i r
      → (i : NamedItem) × IsFirst Served js i × IsItemUnserved set c d members i r
  all_fail is js r h f =
      let g = first_fails f.1.front f.1.rest is js f.0 r f.1.split f.1.before f.2 h in
      (g.item, g.first, g.fails)

-- ---- imports

-- items that are alike for whatever instance the definition is
abbrev pub AlikeFor : LinkSet → ℕ → ℕ → ExportDef → List NamedItem → List NamedItem → Type 0
AlikeFor set c d e is js = (members : List NamedMember) → e ≡ exported_instance members → AreAllAlike set c d members is js

pub extern_served : (set : LinkSet) (c d : ℕ) (e : ExportDef) (is js : List NamedItem) → AlikeFor set c d e is js → ServesExtern set c (extern.instance is) d e → ServesExtern set c (extern.instance js) d e
extern_served set c d (exported_func f) is js h s = absurd s
extern_served set c d (exported_instance members) is js h s = all_served set c d members is js (h members refl) s

pub extern_unserved : (set : LinkSet) (c d : ℕ) (e : ExportDef) (is js : List NamedItem) (r : LinkReason) → AlikeFor set c d e is js
    → IsExternUnserved set c (extern.instance is) d e r → IsExternUnserved set c (extern.instance js) d e r
extern_unserved set c d (exported_func f) is js r h s = s
extern_unserved set c d (exported_instance members) is js r h s = all_fail set c d members is js r (h members refl) s
