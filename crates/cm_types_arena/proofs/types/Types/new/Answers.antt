use Rattle.std.proofs.Common.{◌≡◌, ℕ, zero, suc, refl, add-one, ◌+◌, ◌<◌, ◌++◌, [], ◌∷◌, List, map, take, length, get_or, ap, sym, ◌∙◌, subst, arith}
use Rattle.cm_types.specs.Types.{Ty}
use Rattle.cm_types.specs.TypeTrees.{type_of}
use Rattle.cm_types_arena.specs.declared.entries.TypeEntry.{TypeEntry}
use Rattle.cm_types_arena.specs.declared.primitives.TheConstants.{PRIMITIVES}
use Rattle.cm_types_arena.specs.declared.primitives.Primitive.TheVariants.{Bool}
use Rattle.cm_types_arena.specs.Arena.{types_in, AreFuncs, IsEntry}
use Rattle.cm_types_arena.specs.declared.funcs.FuncEntry.{FuncEntry}
use Rattle.cm_types_arena.specs.TypeDefs.{primitive_type}
use Rattle.cm_types_arena.proofs.ArenaLaws.{alone_more, primitive_is_entry, primitives_made, types_more}
use Rattle.cm_types_arena.proofs.FuncLaws.{no_funcs}
use Rattle.cm_types_arena.proofs.types.Types.new.Goals as goal

taken_more : {X Y : Type 0} (f : X → Y) (xs : List X) (i : ℕ) (d : X) → i < length xs → map f (take i xs) ++ f (get_or xs i d) ∷ [] ≡ map f (take (i + 1) xs)
taken_more f [] i d h = absurd (omega arith)
taken_more f (x ∷ xs) zero d h = refl
taken_more f (x ∷ xs) (suc i) d h = rw (add-one (suc i)) (ap (λ ys. f x ∷ ys) (taken_more f xs i d (omega arith) ∙ ap (λ n. map f (take n xs)) (add-one i)))

pub loop-primitive-preserved : goal.loop-primitive-preserved
loop-primitive-preserved c =
    let e = c.primitive_entry.result in
    let old = c.loop-primitive.entries.items in
    let i = c.loop-primitive.primitive-index in
    let p = get_or PRIMITIVES c.loop-primitive.primitive-index Bool in
    let made = c.primitive_entry.ensures in
    record {
      types = ap types_in c.in_ok-push.ensures.items ∙ types_more c.loop-primitive.entries.items c.primitive_entry.result
          ∙ ap (λ ts. ts ++ type_of e.node ∷ []) c.loop-primitive.invariant.types
          ∙ ap (λ t. map primitive_type (take i PRIMITIVES) ++ t ∷ []) c.primitive_entry.ensures.node
          ∙ taken_more primitive_type PRIMITIVES c.loop-primitive.primitive-index Bool c.loop-primitive-test.true;
      each = subst (λ (es : List TypeEntry). (types : List Ty) (k : ℕ) (d : TypeEntry) → k < length es → IsEntry types k (get_or es k d)) (sym c.in_ok-push.ensures.items)
          (alone_more old e c.loop-primitive.invariant.each (λ types k. primitive_is_entry types k p e c.primitive_entry.ensures.node c.primitive_entry.ensures.parts c.primitive_entry.ensures.summary));
    }

pub invariant_of-result : goal.invariant_of-result
invariant_of-result c =
    let all : c.loop-primitive.primitive-index ≡ 11 = omega arith in
    record {
      arena = primitives_made c.loop-primitive.entries.items (c.loop-primitive.invariant.types ∙ ap (λ n. map primitive_type (take n PRIMITIVES)) all) c.loop-primitive.invariant.each;
      functions = subst (λ (fs : List FuncEntry). ∥ AreFuncs (types_in c.loop-primitive.entries.items) fs ∥₁) (sym c.new-funcs.ensures.items) (no_funcs (types_in c.loop-primitive.entries.items));
    }
