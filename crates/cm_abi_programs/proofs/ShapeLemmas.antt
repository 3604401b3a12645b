-- What is listed of a form, from one list for each type that it holds.
use Rattle.std.proofs.Common.{◌≡◌, ℕ, suc, ◌+◌, List, [], ◌∷◌, drop, get_or, length, map, refl, sym, ap, ◌∙◌}
use Rattle.std.proofs.lemmas.List.{length-map}
use Rattle.std.proofs.lemmas.Result.{IfOk-weaker}
use Rattle.std.specs.Prelude.{IfOk, Option, Some, None, Result}
use Rattle.std.specs.declared.alloc.Global.{Global}
use Rattle.std.specs.declared.sync.Arc.{Arc}
use Rattle.std.specs.declared.vec.Vec.{Vec}
use Rattle.cm_layout.specs.Layouts.{layout_of, part_of, payload_of}
use Rattle.cm_layout.specs.Shapes.{LayoutTy, Shape, Parts, cases_shape, fields_shape, fixed_list_shape, list_shape, no_parts, part, parts_from, payloads_from}
use Rattle.cm_layout.specs.declared.heads.Head.{Head}
use Rattle.cm_layout.specs.declared.layouts.Form.TheViews as view
use Rattle.cm_layout.specs.declared.layouts.Layout.{Layout, out-Layout}
use Rattle.cm_layout.specs.declared.layouts.Part.{Part}
use Rattle.cm_layout.specs.declared.layouts.Payload.{Payload}
use Rattle.cm_layout.proofs.LayoutLemmas.{seen_head}
use Rattle.cm_abi_programs.specs.Held.{items_of, part_offsets, part_shapes, payload_shapes, shapes_in, slot_offsets, spread}
use Rattle.cm_abi_programs.proofs.FormLemmas.{cases_is, fields_is, fixed_list_is, list_is}

pub as_many_offsets : (ps : Parts) → length (part_offsets ps) ≡ length (part_shapes ps)
as_many_offsets no_parts = refl
as_many_offsets (part o e x ps) = ap suc (as_many_offsets ps)

pub as_many_slots : (at : ℕ) (ps : Parts) → length (slot_offsets ps at) ≡ length (part_shapes ps)
as_many_slots at no_parts = refl
as_many_slots at (part o e x ps) = ap suc (as_many_slots (at + e.width) ps)

-- what is listed is so, and that is something else too
pub becomes : {A X E : Type 0} (of : List A → X) (r : Result (Vec A Global) E) (xs ys : X) → xs ≡ ys → IfOk r (λ cs. of cs.items ≡ xs) → IfOk r (λ cs. of cs.items ≡ ys)
becomes of r xs ys is = IfOk-weaker r (λ cs. of cs.items ≡ xs) (λ cs. of cs.items ≡ ys) (λ cs e. e ∙ is)

module _ {A X : Type 0} (of : List A → X) where
  pub lists_items : (cs : List (Arc (Vec A Global) Global)) → map (λ c. of c.value.items) cs ≡ map of (items_of cs)
  lists_items [] = refl
  lists_items (c ∷ cs) = ap (λ ls. of c.value.items ∷ ls) (lists_items cs)

  first_is : (a b : X) (es bs : List X) → ◌≡◌ {A = List X} (a ∷ es) (b ∷ bs) → a ≡ b
  first_is a b es bs is = ap (λ (xs : List X). get_or xs 0 a) is

  rest_is : (a b : X) (es bs : List X) → ◌≡◌ {A = List X} (a ∷ es) (b ∷ bs) → es ≡ bs
  rest_is a b es bs is = ap (λ (xs : List X). drop 1 xs) is

  module _ (F : Shape → X) where
    as_many_held : (cs : List (Arc (Vec A Global) Global)) (xs : List Shape) → map (λ c. of c.value.items) cs ≡ map F xs → length cs ≡ length xs
    as_many_held cs xs is = sym (length-map cs (λ (c : Arc (Vec A Global) Global). of c.value.items)) ∙ (ap length is ∙ length-map xs F)

    only_held : (held : List (Arc (Vec A Global) Global)) (c : Arc (Vec A Global) Global) (x : Shape) → map (λ c. of c.value.items) held ≡ map F (x ∷ []) → items_of held ≡ c.value.items ∷ [] → of c.value.items ≡ F x
    only_held held c x lists only = first_is (of c.value.items) (F x) [] [] (sym (ap (λ ls. map of ls) only) ∙ (sym (lists_items held) ∙ lists))

    -- for each case what is listed of what it carries
    abbrev pub carried_lists : List (Option LayoutTy) → List X
    carried_lists [] = []
    carried_lists (None ∷ ps) = of [] ∷ carried_lists ps
    carried_lists (Some l ∷ ps) = F l.shape ∷ carried_lists ps

    spread_lists : (ps : List (Option LayoutTy)) (ls : List (List A)) → map of ls ≡ map F (payload_shapes (payloads_from ps)) → map of (spread ps ls) ≡ carried_lists ps
    spread_lists [] ls is = refl
    spread_lists (None ∷ ps) ls is = ap (λ cs. of [] ∷ cs) (spread_lists ps ls is)
    spread_lists (Some l ∷ ps) [] is = absurd cc
    spread_lists (Some l ∷ ps) (c ∷ ls) is =
        ap (λ y. y ∷ map of (spread ps ls)) (first_is (of c) (F l.shape) (map of ls) (map F (payload_shapes (payloads_from ps))) is)
        ∙ ap (λ cs. F l.shape ∷ cs) (spread_lists ps ls (rest_is (of c) (F l.shape) (map of ls) (map F (payload_shapes (payloads_from ps))) is))

    module _ (l : Layout) (held : List (Arc (Vec A Global) Global)) (lists : map (λ c. of c.value.items) held ≡ map F (shapes_in (layout_of l).shape)) where
      shaped : (x : Shape) → (layout_of l).shape ≡ x → map (λ c. of c.value.items) held ≡ map F (shapes_in x)
      shaped x is = lists ∙ ap (λ y. map F (shapes_in y)) is

      pub list_one : (b : Arc Layout Global) → (out-Layout l).form ≡ view.List b → length held ≡ 1
      list_one b is = as_many_held held ((layout_of b.value).shape ∷ []) (shaped (list_shape (layout_of b.value).head (layout_of b.value).shape) (list_is l b is))

      pub fixed_one : (b : Arc Layout Global) (n : ℕ) → (out-Layout l).form ≡ view.FixedList b n → length held ≡ 1
      fixed_one b n is = as_many_held held ((layout_of b.value).shape ∷ []) (shaped (fixed_list_shape (layout_of b.value).head (layout_of b.value).shape n) (fixed_list_is l b n is))

      pub fields_many : (offs : Parts → List ℕ) → ((qs : Parts) → length (offs qs) ≡ length (part_shapes qs)) → (v : Arc (Vec Part Global) Global) (ps : List Part) (os : List ℕ)
          → (out-Layout l).form ≡ view.Fields v → ps ≡ v.value.items → os ≡ offs (parts_from (map part_of ps)) → length os ≡ length held
      fields_many offs many v ps os is parts places =
          let qs = parts_from (map part_of v.value.items) in
          ap length (places ∙ ap (λ xs. offs (parts_from (map part_of xs))) parts) ∙ (many qs ∙ sym (as_many_held held (part_shapes qs) (shaped (fields_shape qs) (fields_is l v is))))

      module _ {Y : Type 0} (G : Shape → Y) where
        pub list_made : (made : Head → X → Y) → ((h : Head) (x : Shape) → made h (F x) ≡ G (list_shape h x)) → (b : Arc Layout Global) (e : Layout) (c : Arc (Vec A Global) Global)
            → (out-Layout l).form ≡ view.List b → e ≡ b.value → items_of held ≡ c.value.items ∷ [] → made (out-Layout e).head (of c.value.items) ≡ G (layout_of l).shape
        list_made made same b e c is element only =
            let h = (layout_of b.value).head in
            let x = (layout_of b.value).shape in
            ap (λ (y : Layout). made (out-Layout y).head (of c.value.items)) element
            ∙ (ap (λ i. made i (of c.value.items)) (sym (seen_head b.value))
            ∙ (ap (λ y. made h y) (only_held held c x (shaped (list_shape h x) (list_is l b is)) only)
            ∙ (same h x ∙ ap G (sym (list_is l b is)))))

        pub row_made : (made : Head → ℕ → X → Y) → ((h : Head) (n : ℕ) (x : Shape) → made h n (F x) ≡ G (fixed_list_shape h x n)) → (b : Arc Layout Global) (n : ℕ) (e : Layout) (c : Arc (Vec A Global) Global)
            → (out-Layout l).form ≡ view.FixedList b n → e ≡ b.value → items_of held ≡ c.value.items ∷ [] → made (out-Layout e).head n (of c.value.items) ≡ G (layout_of l).shape
        row_made made same b n e c is element only =
            let h = (layout_of b.value).head in
            let x = (layout_of b.value).shape in
            ap (λ (y : Layout). made (out-Layout y).head n (of c.value.items)) element
            ∙ (ap (λ i. made i n (of c.value.items)) (sym (seen_head b.value))
            ∙ (ap (λ y. made h n y) (only_held held c x (shaped (fixed_list_shape h x n) (fixed_list_is l b n is)) only)
            ∙ (same h n x ∙ ap G (sym (fixed_list_is l b n is)))))

        pub fields_made : (made : List ℕ → List X → Y) (offs : Parts → List ℕ) → ((qs : Parts) → made (offs qs) (map F (part_shapes qs)) ≡ G (fields_shape qs)) → (v : Arc (Vec Part Global) Global) (ps : List Part) (os : List ℕ)
            → (out-Layout l).form ≡ view.Fields v → ps ≡ v.value.items → os ≡ offs (parts_from (map part_of ps)) → made os (map (λ c. of c.value.items) held) ≡ G (layout_of l).shape
        fields_made made offs same v ps os is parts places =
            let qs = parts_from (map part_of v.value.items) in
            ap (λ ps. made ps (map (λ c. of c.value.items) held)) (places ∙ ap (λ xs. offs (parts_from (map part_of xs))) parts)
            ∙ (ap (λ xs. made (offs qs) xs) (shaped (fields_shape qs) (fields_is l v is))
            ∙ (same qs ∙ ap G (sym (fields_is l v is))))

        pub cases_made : (made : ℕ → ℕ → List X → Y) → ((d o : ℕ) (qs : List (Option LayoutTy)) → made d o (carried_lists qs) ≡ G (cases_shape d o (payloads_from qs))) → (d o : ℕ) (v : Arc (Vec Payload Global) Global) (ps : List Payload) (cases : List (Arc (Vec A Global) Global))
            → (out-Layout l).form ≡ view.Cases d o v → ps ≡ v.value.items → items_of cases ≡ spread (map payload_of ps) (items_of held) → made d o (map (λ c. of c.value.items) cases) ≡ G (layout_of l).shape
        cases_made made same d o v ps cases is parts places =
            let qs = map payload_of v.value.items in
            ap (λ xs. made d o xs)
            (lists_items cases
            ∙ (ap (λ ls. map of ls) (places ∙ ap (λ xs. spread (map payload_of xs) (items_of held)) parts)
            ∙ spread_lists qs (items_of held) (sym (lists_items held) ∙ shaped (cases_shape d o (payloads_from qs)) (cases_is l d o v is))))
            ∙ (same d o qs ∙ ap G (sym (cases_is l d o v is)))
