-- What holds at the places of an arena, and of one with another entry behind.
use Rattle.std.proofs.Common.{◌≡◌, ℕ, zero, suc, ◌<◌, ◌≤◌, inl, inr, Bool, true, false, if◌then◌else◌, List, [], ◌∷◌, ◌++◌, length, map, get_or, refl, sym, ap, ◌∙◌, subst, arith, length-append}
use Rattle.std.proofs.Math.Logic.{∥∥₁_elim, ∥∥₁_prop}
use Rattle.std.proofs.lemmas.Bool.{cases_lt}
use Rattle.std.proofs.lemmas.List.{get_or_append_left, get_or_push, map-append, length-map}
use Rattle.std.specs.Coded.{×_prop, le_prop, Unit-prop}
use mathlib.Core.Bool.{Bool-set}
use Rattle.std.specs.List.{AllByRecursion}
use base.Stored.{Coded-set}
use Rattle.cm_types.specs.Types.{Ty, bool}
use Rattle.cm_types.specs.TypeTrees.{type_of}
use Rattle.cm_types.specs.Limits.{IsWithinLimits}
use Rattle.cm_types.specs.Spellable.{is_spellable}
use Rattle.cm_types_arena.specs.contracts.summaries.Summary as summary
use Rattle.cm_types_arena.specs.declared.entries.TypeEntry.{TypeEntry}
use Rattle.cm_types_arena.specs.declared.primitives.Primitive.{Primitive}
use Rattle.cm_types_arena.specs.declared.primitives.Primitive.TheVariants as primitive
use Rattle.cm_types_arena.specs.declared.summaries.Summary.{Summary}
use Rattle.cm_types_arena.specs.Summaries.{summary_of}
use Rattle.cm_types_arena.specs.TypeDefs.{type_at, primitive_type, primitive_place, primitive_types}
use Rattle.cm_types_arena.specs.Arena.{parts_in, types_in, IsEntry, IsArena}
use Rattle.cm_types_arena.proofs.TySets.{Ty-set, Types-set}

pub type_there : (es : List TypeEntry) (k : ℕ) (d : TypeEntry) → k < length es → type_at (types_in es) k ≡ type_of (get_or es k d).node
type_there [] k d h = absurd (omega arith)
type_there (x ∷ es) zero d h = refl
type_there (x ∷ es) (suc k) d h = type_there es k d (omega arith)

pub type_of_item : (es : List TypeEntry) (k : ℕ) (e : TypeEntry) → k < length es → e ≡ get_or es k e → type_of e.node ≡ type_at (types_in es) k
type_of_item es k e h is = ap (λ x. type_of x.node) is ∙ sym (type_there es k e h)

pub Summary-set : IsSet Summary
Summary-set = Coded-set summary.the_row.coded

pub summary_there : (es : List TypeEntry) (k : ℕ) (e : TypeEntry) → ∥ IsArena es ∥₁ → k < length es → e ≡ get_or es k e → e.summary ≡ summary_of (type_at (types_in es) k)
summary_there es k e a h is =
    ap (λ x. x.summary) is ∙ ∥∥₁_elim a (Summary-set _ _) (λ b. (b.entries k e h).summary ∙ ap summary_of (sym (type_there es k e h)))

pub count : (es : List TypeEntry) → length (types_in es) ≡ length es
count es = length-map es (λ e. type_of e.node)

pub limits_there : (es : List TypeEntry) (k : ℕ) → ∥ IsArena es ∥₁ → k < length (types_in es) → IsWithinLimits (type_at (types_in es) k)
limits_there [] k a h = absurd (omega arith)
limits_there (x ∷ es) k a h =
    let lt : k < length (x ∷ es) = omega (arith, h, count (x ∷ es)) in
    ∥∥₁_elim a (×_prop le_prop le_prop) (λ b. subst IsWithinLimits (sym (type_there (x ∷ es) k x lt)) (b.entries k x lt).within_limits)

pub spellable_there : (es : List TypeEntry) (k : ℕ) → ∥ IsArena es ∥₁ → k < length (types_in es) → is_spellable (type_at (types_in es) k) ≡ true
spellable_there [] k a h = absurd (omega arith)
spellable_there (x ∷ es) k a h =
    let lt : k < length (x ∷ es) = omega (arith, h, count (x ∷ es)) in
    ∥∥₁_elim a (Bool-set _ _) (λ b. ap is_spellable (type_there (x ∷ es) k x lt) ∙ (b.entries k x lt).spellable)

-- ---- primitive types

primitive_limits : (p : Primitive) → IsWithinLimits (primitive_type p)
primitive_limits primitive.Bool = (omega arith, omega arith)
primitive_limits primitive.S8 = (omega arith, omega arith)
primitive_limits primitive.U8 = (omega arith, omega arith)
primitive_limits primitive.S16 = (omega arith, omega arith)
primitive_limits primitive.U16 = (omega arith, omega arith)
primitive_limits primitive.S32 = (omega arith, omega arith)
primitive_limits primitive.U32 = (omega arith, omega arith)
primitive_limits primitive.S64 = (omega arith, omega arith)
primitive_limits primitive.U64 = (omega arith, omega arith)
primitive_limits primitive.Char = (omega arith, omega arith)
primitive_limits primitive.String = (omega arith, omega arith)

primitive_spelled : (p : Primitive) → is_spellable (primitive_type p) ≡ true
primitive_spelled primitive.Bool = refl
primitive_spelled primitive.S8 = refl
primitive_spelled primitive.U8 = refl
primitive_spelled primitive.S16 = refl
primitive_spelled primitive.U16 = refl
primitive_spelled primitive.S32 = refl
primitive_spelled primitive.U32 = refl
primitive_spelled primitive.S64 = refl
primitive_spelled primitive.U64 = refl
primitive_spelled primitive.Char = refl
primitive_spelled primitive.String = refl

primitive_alone : (p : Primitive) → parts_in (primitive_type p) ≡ []
primitive_alone primitive.Bool = refl
primitive_alone primitive.S8 = refl
primitive_alone primitive.U8 = refl
primitive_alone primitive.S16 = refl
primitive_alone primitive.U16 = refl
primitive_alone primitive.S32 = refl
primitive_alone primitive.U32 = refl
primitive_alone primitive.S64 = refl
primitive_alone primitive.U64 = refl
primitive_alone primitive.Char = refl
primitive_alone primitive.String = refl

-- ---- with another entry behind

pub at_left : (types more : List Ty) (k : ℕ) → k < length types → type_at (types ++ more) k ≡ type_at types k
at_left types more k h = get_or_append_left types more bool k h

pub parts_left : (types more : List Ty) (k : ℕ) (ps : List ℕ) → k ≤ length types → AllByRecursion (λ p. p < k) ps → map (type_at types) ps ≡ map (type_at (types ++ more)) ps
parts_left types more k [] le h = refl
parts_left types more k (p ∷ ps) le h =
    let e = at_left types more p (omega (arith, h.0)) in
    let f = parts_left types more k ps le h.1 in
    ap (λ t. t ∷ map (type_at types) ps) (sym e) ∙ ap (λ ts. type_at (types ++ more) p ∷ ts) f

entry_left : (types more : List Ty) (k : ℕ) (e : TypeEntry) → k ≤ length types → IsEntry types k e → IsEntry (types ++ more) k e
entry_left types more k e le i =
    record {
      summary = i.summary;
      within_limits = i.within_limits;
      spellable = i.spellable;
      earlier = i.earlier;
      parts = i.parts ∙ parts_left types more k e.parts.items le i.earlier;
    }

primitive_low : (p : Primitive) → primitive_place p < 11
primitive_low primitive.Bool = omega arith
primitive_low primitive.S8 = omega arith
primitive_low primitive.U8 = omega arith
primitive_low primitive.S16 = omega arith
primitive_low primitive.U16 = omega arith
primitive_low primitive.S32 = omega arith
primitive_low primitive.U32 = omega arith
primitive_low primitive.S64 = omega arith
primitive_low primitive.U64 = omega arith
primitive_low primitive.Char = omega arith
primitive_low primitive.String = omega arith

pub types_more : (es : List TypeEntry) (e : TypeEntry) → types_in (es ++ e ∷ []) ≡ types_in es ++ type_of e.node ∷ []
types_more es e = map-append (λ x. type_of x.node) es (e ∷ [])

entries_more : (es : List TypeEntry) (e : TypeEntry) → IsArena es → IsEntry (types_in es) (length (types_in es)) e
    → (k : ℕ) (d : TypeEntry) → k < length (es ++ e ∷ []) → IsEntry (types_in (es ++ e ∷ [])) k (get_or (es ++ e ∷ []) k d)
entries_more es e a i k d h =
    rw (types_more es e) (
    elim (cases_lt k (length es)) [
      | inl lt ↦
          rw (get_or_append_left es (e ∷ []) d k lt)
          (entry_left (types_in es) (type_of e.node ∷ []) k (get_or es k d) (omega (arith, count es)) (a.entries k d lt))
      | inr le ↦
          let last : length es ≡ k = omega (arith, h, length-append es (e ∷ [])) in
          rw (get_or_push es e d k last)
          (entry_left (types_in es) (type_of e.node ∷ []) k e (omega (arith, count es)) (subst (λ n. IsEntry (types_in es) n e) (count es ∙ last) i))
    ])

arena_more : (es : List TypeEntry) (e : TypeEntry) → IsArena es → IsEntry (types_in es) (length (types_in es)) e → IsArena (es ++ e ∷ [])
arena_more es e a i =
    record {
      primitives = λ p. ap (λ ts. type_at ts (primitive_place p)) (types_more es e)
          ∙ at_left (types_in es) (type_of e.node ∷ []) (primitive_place p) (omega (arith, primitive_low p, a.some, count es)) ∙ a.primitives p;
      some = omega (arith, a.some, length-append es (e ∷ []));
      entries = entries_more es e a i;
    }

pub arena_grows : (es : List TypeEntry) (e : TypeEntry) → ∥ IsArena es ∥₁ → IsEntry (types_in es) (length (types_in es)) e → ∥ IsArena (es ++ e ∷ []) ∥₁
arena_grows es e a i = ∥∥₁_elim a ∥∥₁_prop (λ b. ∣ arena_more es e b i ∣₁)

pub arena_pushed : (b : Bool) (new old : List TypeEntry) (e : TypeEntry) → new ≡ (if b then old ++ e ∷ [] else old) → ∥ IsArena old ∥₁ → IsEntry (types_in old) (length (types_in old)) e → ∥ IsArena new ∥₁
arena_pushed true new old e is a i = subst (λ (es : List TypeEntry). ∥ IsArena es ∥₁) (sym is) (arena_grows old e a i)
arena_pushed false new old e is a i = subst (λ (es : List TypeEntry). ∥ IsArena es ∥₁) (sym is) a

-- ---- an arena of primitive types

pub primitive_is_entry : (types : List Ty) (k : ℕ) (p : Primitive) (e : TypeEntry) → type_of e.node ≡ primitive_type p → e.parts.items ≡ [] → e.summary ≡ summary_of (primitive_type p)
    → IsEntry types k e
primitive_is_entry types k p e ty none known =
    record {
      summary = known ∙ ap summary_of (sym ty);
      within_limits = subst IsWithinLimits (sym ty) (primitive_limits p);
      spellable = ap is_spellable ty ∙ primitive_spelled p;
      earlier = subst (λ (ps : List ℕ). AllByRecursion (λ q. q < k) ps) (sym none) tt;
      parts = ap parts_in ty ∙ primitive_alone p ∙ ap (map (type_at types)) (sym none);
    }

abbrev AreAlone : List TypeEntry → Type 0
AreAlone es = (types : List Ty) (k : ℕ) (d : TypeEntry) → k < length es → IsEntry types k (get_or es k d)

pub alone_more : (es : List TypeEntry) (e : TypeEntry) → AreAlone es → ((types : List Ty) (k : ℕ) → IsEntry types k e) → AreAlone (es ++ e ∷ [])
alone_more es e a i types k d h =
    elim (cases_lt k (length es)) [
      | inl lt ↦ rw (get_or_append_left es (e ∷ []) d k lt) (a types k d lt)
      | inr le ↦ rw (get_or_push es e d k (omega (arith, h, length-append es (e ∷ [])))) (i types k)
    ]

primitive_at : (p : Primitive) → type_at primitive_types (primitive_place p) ≡ primitive_type p
primitive_at primitive.Bool = refl
primitive_at primitive.S8 = refl
primitive_at primitive.U8 = refl
primitive_at primitive.S16 = refl
primitive_at primitive.U16 = refl
primitive_at primitive.S32 = refl
primitive_at primitive.U32 = refl
primitive_at primitive.S64 = refl
primitive_at primitive.U64 = refl
primitive_at primitive.Char = refl
primitive_at primitive.String = refl

pub primitives_made : (es : List TypeEntry) → types_in es ≡ primitive_types → AreAlone es → ∥ IsArena es ∥₁
primitives_made es is a =
    ∣ record {
      primitives = λ p. ap (λ ts. type_at ts (primitive_place p)) is ∙ primitive_at p;
      some = omega (arith, count es, ap length is);
      entries = a (types_in es);
    } ∣₁

-- ---- what an arena says of a place

pub parts_there : (es : List TypeEntry) (k : ℕ) (e : TypeEntry) → ∥ IsArena es ∥₁ → k < length es → e ≡ get_or es k e
    → parts_in (type_at (types_in es) k) ≡ map (type_at (types_in es)) e.parts.items
parts_there es k e a h is =
    ∥∥₁_elim a (Types-set _ _) (λ b. ap parts_in (type_there es k e h) ∙ (b.entries k e h).parts ∙ ap (λ x. map (type_at (types_in es)) x.parts.items) (sym is))

pub all_below_prop : (k : ℕ) (ps : List ℕ) → IsProp (AllByRecursion (λ p. p < k) ps)
all_below_prop k [] = Unit-prop
all_below_prop k (p ∷ ps) = ×_prop le_prop (all_below_prop k ps)

pub earlier_there : (es : List TypeEntry) (k : ℕ) (e : TypeEntry) → ∥ IsArena es ∥₁ → k < length es → e ≡ get_or es k e → AllByRecursion (λ p. p < k) e.parts.items
earlier_there es k e a h is =
    ∥∥₁_elim a (all_below_prop k e.parts.items) (λ b. subst (λ (x : TypeEntry). AllByRecursion (λ p. p < k) x.parts.items) (sym is) (b.entries k e h).earlier)

pub primitive_there : (es : List TypeEntry) (p : Primitive) → ∥ IsArena es ∥₁ → type_at (types_in es) (primitive_place p) ≡ primitive_type p
primitive_there es p a = ∥∥₁_elim a (Ty-set _ _) (λ b. b.primitives p)

pub primitive_within : (es : List TypeEntry) (p : Primitive) → ∥ IsArena es ∥₁ → primitive_place p < length (types_in es)
primitive_within es p a = ∥∥₁_elim a le_prop (λ b. omega (arith, primitive_low p, b.some, count es))
