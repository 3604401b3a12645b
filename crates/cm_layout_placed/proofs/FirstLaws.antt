-- Layouts of the first types of an arena.
use Rattle.std.proofs.Common.{◌≡◌, ◌<◌, ◌+◌, ◌∙◌, ◌++◌, ◌∷◌, [], ℕ, List, map, take, drop, length, sym, ap, arith}
use Rattle.std.proofs.lemmas.List.{append_assoc, length-map, map-append, take-append-drop, take_all, take_more}
use Rattle.std.proofs.Math.ListN.{get_or-map}
use Rattle.std.proofs.Math.Seq.{take-append_seam}
use Rattle.cm_types.specs.Types.{Ty, bool}
use Rattle.cm_layout.specs.Layouts.{layout_of}
use Rattle.cm_layout.specs.Shapes.{LayoutTy, layout_at}
use Rattle.cm_layout.specs.declared.layouts.Layout.{Layout}
use Rattle.cm_types_arena.specs.TypeDefs.{type_at}
use Rattle.cm_layout_placed.specs.Placed.{AreOfFirst}

pub taken : (ls : List LayoutTy) (types : List Ty) → AreOfFirst ls types → ls ≡ take (length ls) (map layout_at types)
taken ls types p = sym (ap (take (length ls)) p.1 ∙ take-append_seam ls p.0)

pub of_first : (ls : List LayoutTy) (types : List Ty) (n : ℕ) → ls ≡ take n (map layout_at types) → AreOfFirst ls types
of_first ls types n e =
    let all = map layout_at types in
    (drop n all, sym (ap (λ ys. ys ++ drop n all) e ∙ take-append-drop n all))

pub of_all : (ls : List LayoutTy) (types : List Ty) → ls ≡ map layout_at types → AreOfFirst ls types
of_all ls types e = of_first ls types (length (map layout_at types)) (e ∙ sym (take_all (length (map layout_at types)) (map layout_at types) (omega arith)))

pub of_grown : (ls : List LayoutTy) (types more : List Ty) → AreOfFirst ls types → AreOfFirst ls (types ++ more)
of_grown ls types more p =
    (p.0 ++ map layout_at more, map-append layout_at types more ∙ ap (λ ys. ys ++ map layout_at more) p.1 ∙ append_assoc ls p.0 (map layout_at more))

pub one_more : (ls : List Layout) (x : Layout) (types : List Ty) (n : ℕ) → n < length types → map layout_of ls ≡ take n (map layout_at types)
    → layout_of x ≡ layout_at (type_at types n) → map layout_of (ls ++ x ∷ []) ≡ take (n + 1) (map layout_at types)
one_more ls x types n lt before is =
    let laid = map layout_at types in
    let last = is ∙ sym (get_or-map layout_at types n bool) in
    let more = take_more laid n (layout_at bool) (rw (length-map types layout_at) lt) in
    map-append layout_of ls (x ∷ []) ∙ ap (λ l. l ++ layout_of x ∷ []) before ∙ ap (λ l. take n laid ++ l ∷ []) last ∙ sym more

pub of_none : {ls : List LayoutTy} (types : List Ty) → ls ≡ [] → AreOfFirst ls types
of_none types e = (map layout_at types, sym (ap (λ ys. ys ++ map layout_at types) e))
