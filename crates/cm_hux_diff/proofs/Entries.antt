-- All that is held, import by import and item by item.
use Rattle.std.proofs.Common.{◌≡◌, ℕ, zero, suc, ◌+◌, ◌<◌, ◌≤◌, List, [], ◌∷◌, ◌++◌, length, map, take, get_or, Option, Some, None, refl, sym, ap, subst, ◌∙◌, arith, append_assoc, append-nil}
use Rattle.std.specs.List.{slice_get}
use Rattle.std.specs.Option.{option_and_then, option_map, option_map_or}
use Rattle.std.proofs.lemmas.List.{length-map, take_all}
use Rattle.std.proofs.lemmas.Option.{slice_get-map}
use Rattle.cm_lemmas.proofs.Lists.{long_enough, take_one}
use Rattle.cm_lemmas.proofs.Options.{fused}
use Rattle.cm_types.specs.Signatures.{ItemTy, NamedExtern, NamedItem}
use Rattle.cm_types_arena.specs.declared.types.Types.{Types}
use Rattle.cm_types_arena.specs.Instances.{replaced_desc, replaced_item}
use Rattle.cm_types_arena.specs.Placed.{moved_by}
use Rattle.cm_types_arena.specs.Listed.{brought_items, by_of, externs_listed, item_in, items_listed}
use Rattle.cm_types_arena.specs.declared.named_externs.Externs.{Externs}
use Rattle.cm_types_arena.specs.declared.named_externs.Items.{Items}
use Rattle.cm_types_arena.specs.declared.named_externs.NamedItem as code_item
use Rattle.cm_wit_conforms.specs.Places.{extern_names, item_names, place_in}
use Rattle.cm_hux_diff.specs.Held.{Entry, Held, desc_held, entries_from, face_entries, item_entries, item_entry, item_held, item_named}
use Rattle.cm_hux_diff.specs.Views.{entries_at, item_brought, item_stands}
use Rattle.cm_hux_diff.specs.declared.facing.Face.{Face}
use Rattle.cm_hux_diff.proofs.Places.{take_none}

-- ---- the items of two instances

-- the names of items do not change where an import brings them
names_brought : (t : Types) (items : Items) → map (λ (i : NamedItem). i.name) (brought_items t items) ≡ item_names t items
names_brought t items = same (items_listed t items)
  where
    same : (xs : List NamedItem) → map (λ (i : NamedItem). i.name) (map (replaced_item (moved_by (by_of items))) xs) ≡ map (λ (i : NamedItem). i.name) xs
    same [] = refl
    same (x ∷ xs) = ap (λ (l : List (List ℕ)). x.name ∷ l) (same xs)

-- what has an item's name is what stands at its place
item_there : (t : Types) (offered : Items) (name : List ℕ) → item_named (brought_items t offered) name ≡ item_brought t offered (place_in (item_names t offered) name)
item_there t offered name =
    let r = replaced_item (moved_by (by_of offered)) in
    ap (λ (l : List (List ℕ)). option_map (λ (i : NamedItem). i.desc) (option_and_then (slice_get (brought_items t offered)) (place_in l name))) (names_brought t offered)
    ∙ by_place (place_in (item_names t offered) name)
  where
    by_place : (o : Option ℕ) → option_map (λ (i : NamedItem). i.desc) (option_and_then (slice_get (brought_items t offered)) o) ≡ item_brought t offered o
    by_place None = refl
    by_place (Some n) =
        let r = replaced_item (moved_by (by_of offered)) in
        ap (option_map (λ (i : NamedItem). i.desc)) (slice_get-map r (items_listed t offered) n)
        ∙ (fused r (λ (i : NamedItem). i.desc) (slice_get (items_listed t offered) n)
        ∙ sym (fused (λ (i : NamedItem). i.desc) (replaced_desc (moved_by (by_of offered))) (slice_get (items_listed t offered) n)))

-- the entry of a number is that of the item of this number
entry_there : (place : ℕ) (offered : List NamedItem) (i n : ℕ) (xs : List NamedItem) → slice_get (item_entries place offered i xs) n ≡ option_map (λ x. item_entry place (i + n) (item_held offered x)) (slice_get xs n)
entry_there place offered i n [] = refl
entry_there place offered i zero (x ∷ xs) = ap (λ (k : ℕ). let o : Option Entry = Some (item_entry place k (item_held offered x)) in o) (omega arith)
entry_there place offered i (suc n) (x ∷ xs) =
    entry_there place offered (i + 1) n xs
    ∙ ap (λ (k : ℕ). option_map (λ y. item_entry place k (item_held offered y)) (slice_get xs n)) (omega arith)

-- what is held of an item, whose counterpart was found
abbrev pub found_entry : Types → ℕ → ℕ → Items → Items → Option ℕ → NamedItem → Entry
found_entry o place n wanted offered found x =
    item_entry place n (desc_held (replaced_desc (moved_by (by_of wanted)) x.desc) (item_brought o offered found))

held_there : (w o : Types) (place n : ℕ) (wanted offered : Items) (found : Option ℕ) → found ≡ option_and_then (place_in (item_names o offered)) (slice_get (item_names w wanted) n)
    → slice_get (item_entries place (brought_items o offered) 0 (brought_items w wanted)) n ≡ option_map (found_entry o place n wanted offered found) (slice_get (items_listed w wanted) n)
held_there w o place n wanted offered found is =
    let r = replaced_item (moved_by (by_of wanted)) in
    entry_there place (brought_items o offered) 0 n (brought_items w wanted)
    ∙ (ap (λ (k : ℕ). option_map (λ y. item_entry place k (item_held (brought_items o offered) y)) (slice_get (brought_items w wanted) n)) (omega arith)
    ∙ (ap (option_map (λ y. item_entry place n (item_held (brought_items o offered) y))) (slice_get-map r (items_listed w wanted) n)
    ∙ (fused r (λ y. item_entry place n (item_held (brought_items o offered) y)) (slice_get (items_listed w wanted) n)
    ∙ by_item (slice_get (items_listed w wanted) n) (is ∙ ap (option_and_then (place_in (item_names o offered))) (slice_get-map (λ (i : NamedItem). i.name) (items_listed w wanted) n)))))
  where
    by_item : (x : Option NamedItem) → found ≡ option_and_then (place_in (item_names o offered)) (option_map (λ i. i.name) x) → option_map (λ x. item_entry place n (item_held (brought_items o offered) (replaced_item (moved_by (by_of wanted)) x))) x ≡ option_map (found_entry o place n wanted offered found) x
    by_item None e = refl
    by_item (Some x) e =
        ap (λ (d : Option ItemTy). let a : Option Entry = Some (item_entry place n (desc_held (replaced_desc (moved_by (by_of wanted)) x.desc) d)) in a)
        (item_there o offered x.name ∙ ap (item_brought o offered) (sym e))

-- what the code makes is that entry
pub held_so : (w o : Types) (place n : ℕ) (wanted offered : Items) (found : Option ℕ) (at : Option code_item.NamedItem) → found ≡ option_and_then (place_in (item_names o offered)) (slice_get (item_names w wanted) n) → option_map (item_in w) at ≡ slice_get (items_listed w wanted) n
    → option_map (λ i. found_entry o place n wanted offered found (item_in w i)) at ≡ slice_get (item_entries place (brought_items o offered) 0 (brought_items w wanted)) n
held_so w o place n wanted offered found at is there =
    sym (fused (item_in w) (found_entry o place n wanted offered found) at)
    ∙ (ap (option_map (found_entry o place n wanted offered found)) there ∙ sym (held_there w o place n wanted offered found is))

-- as many are held as there are items
pub entries_long : (w o : Types) (place : ℕ) (wanted offered : Items) → length (item_entries place (brought_items o offered) 0 (brought_items w wanted)) ≡ length (items_listed w wanted)
entries_long w o place wanted offered = long 0 (brought_items w wanted) ∙ length-map (items_listed w wanted) (replaced_item (moved_by (by_of wanted)))
  where
    long : (i : ℕ) (xs : List NamedItem) → length (item_entries place (brought_items o offered) i xs) ≡ length xs
    long i [] = refl
    long i (x ∷ xs) = ap suc (long (i + 1) xs)

-- the place of a name is what was found for it
pub placed_found : (w o : Types) (wanted offered : Items) (places : List (Option ℕ)) (n : ℕ) → n < length places → places ≡ map (place_in (item_names o offered)) (item_names w wanted) → get_or places n None ≡ option_and_then (place_in (item_names o offered)) (slice_get (item_names w wanted) n)
placed_found w o wanted offered places n lt is =
    ap (λ (l : List (Option ℕ)). get_or l n None) is ∙ each (item_names w wanted) n (subst (λ (l : List (Option ℕ)). n < length l) is lt)
  where
    each : (texts : List (List ℕ)) (n : ℕ) → n < length (map (place_in (item_names o offered)) texts) → get_or (map (place_in (item_names o offered)) texts) n None ≡ option_and_then (place_in (item_names o offered)) (slice_get texts n)
    each [] n lt = absurd (omega (arith, lt))
    each (x ∷ xs) zero lt = refl
    each (x ∷ xs) (suc n) lt = each xs n (omega (arith, lt))

-- ---- import by import

entries_append : (facing : List ℕ → Face) (offered : List NamedExtern) (i : ℕ) (xs ys : List NamedExtern) → entries_from facing offered i (xs ++ ys) ≡ entries_from facing offered i xs ++ entries_from facing offered (i + length xs) ys
entries_append facing offered i [] ys = ap (λ (k : ℕ). entries_from facing offered k ys) (omega arith)
entries_append facing offered i (x ∷ xs) ys =
    ap (λ (es : List Entry). face_entries i offered x.desc (facing x.name) ++ es)
    (entries_append facing offered (i + 1) xs ys ∙ ap (λ (k : ℕ). entries_from facing offered (i + 1) xs ++ entries_from facing offered k ys) (omega arith))
    ∙ sym (append_assoc (face_entries i offered x.desc (facing x.name)) (entries_from facing offered (i + 1) xs) (entries_from facing offered (i + length (x ∷ xs)) ys))

pub entries_one : (facing : List ℕ → Face) (offered : List NamedExtern) (n : ℕ) (xs : List NamedExtern) (x : NamedExtern) → slice_get xs n ≡ Some x → entries_from facing offered 0 (take (n + 1) xs) ≡ entries_from facing offered 0 (take n xs) ++ face_entries n offered x.desc (facing x.name)
entries_one facing offered n xs x h =
    let long : length (take n xs) ≡ n = long_enough xs n x h in
    ap (entries_from facing offered 0) (take_one xs n x h)
    ∙ (entries_append facing offered 0 (take n xs) (x ∷ [])
    ∙ ap (λ (es : List Entry). entries_from facing offered 0 (take n xs) ++ es)
    (append-nil (face_entries (0 + length (take n xs)) offered x.desc (facing x.name))
    ∙ ap (λ (k : ℕ). face_entries k offered x.desc (facing x.name)) (omega (arith, long))))

-- the face at a place is what faces the name there
pub face_there : (facing : List ℕ → Face) (xs : List NamedExtern) (faces : List Face) (n : ℕ) (x : NamedExtern) (f : Face) → faces ≡ map facing (map (λ (e : NamedExtern). e.name) xs) → n < length faces → f ≡ get_or faces n f → slice_get xs n ≡ Some x → f ≡ facing x.name
face_there facing xs faces n x f is lt at here = at ∙ (ap (λ (l : List Face). get_or l n f) is ∙ each xs n here)
  where
    one : (a b : NamedExtern) → Some a ≡ Some b → a ≡ b
    one a b h = cc

    each : (ys : List NamedExtern) (k : ℕ) → slice_get ys k ≡ Some x → get_or (map facing (map (λ (e : NamedExtern). e.name) ys)) k f ≡ facing x.name
    each [] k h = absurd cc
    each (y ∷ ys) zero h = ap (λ (e : NamedExtern). facing e.name) (one y x h)
    each (y ∷ ys) (suc k) h = each ys k h

-- there are as many faces as imports or exports
pub as_many : (facing : List ℕ → Face) (xs : List NamedExtern) (faces : List Face) → faces ≡ map facing (map (λ (e : NamedExtern). e.name) xs) → length faces ≡ length xs
as_many facing xs faces is = ap (λ (l : List Face). length l) is ∙ (length-map (map (λ (e : NamedExtern). e.name) xs) facing ∙ length-map xs (λ (e : NamedExtern). e.name))

-- those of one more import or export
pub entries_next : (w o : Types) (facing : List ℕ → Face) (wanted offered : Externs) (faces : List Face) (n : ℕ) (f : Face) (before after : List Entry) → faces ≡ map facing (extern_names w wanted) → n < length faces → f ≡ get_or faces n f → before ≡ entries_from facing (externs_listed o offered) 0 (take n (externs_listed w wanted)) → after ≡ before ++ entries_at w o n wanted offered f → after ≡ entries_from facing (externs_listed o offered) 0 (take (n + 1) (externs_listed w wanted))
entries_next w o facing wanted offered faces n f before after is lt at was step =
    step ∙ (ap (λ (l : List Entry). l ++ entries_at w o n wanted offered f) was ∙ by (slice_get (externs_listed w wanted) n) refl)
  where
    by : (x : Option NamedExtern) → slice_get (externs_listed w wanted) n ≡ x → entries_from facing (externs_listed o offered) 0 (take n (externs_listed w wanted)) ++ entries_at w o n wanted offered f ≡ entries_from facing (externs_listed o offered) 0 (take (n + 1) (externs_listed w wanted))
    by None h =
        ap (λ (x : Option NamedExtern). entries_from facing (externs_listed o offered) 0 (take n (externs_listed w wanted)) ++ option_map_or (λ (y : NamedExtern). face_entries n (externs_listed o offered) y.desc f) x []) h
        ∙ (append-nil (entries_from facing (externs_listed o offered) 0 (take n (externs_listed w wanted)))
        ∙ ap (entries_from facing (externs_listed o offered) 0) (sym (take_none n (externs_listed w wanted) h)))
    by (Some x) h =
        ap (λ (y : Option NamedExtern). entries_from facing (externs_listed o offered) 0 (take n (externs_listed w wanted)) ++ option_map_or (λ (z : NamedExtern). face_entries n (externs_listed o offered) z.desc f) y []) h
        ∙ (ap (λ (g : Face). entries_from facing (externs_listed o offered) 0 (take n (externs_listed w wanted)) ++ face_entries n (externs_listed o offered) x.desc g) (face_there facing (externs_listed w wanted) faces n x f is lt at h)
        ∙ sym (entries_one facing (externs_listed o offered) n (externs_listed w wanted) x h))

pub entries_end : (w o : Types) (facing : List ℕ → Face) (wanted offered : Externs) (faces : List Face) (n : ℕ) (out : List Entry) → faces ≡ map facing (extern_names w wanted) → length faces ≤ n → out ≡ entries_from facing (externs_listed o offered) 0 (take n (externs_listed w wanted)) → out ≡ entries_from facing (externs_listed o offered) 0 (externs_listed w wanted)
entries_end w o facing wanted offered faces n out is le was =
    let long : length faces ≡ length (externs_listed w wanted) = as_many facing (externs_listed w wanted) faces is in
    was ∙ ap (entries_from facing (externs_listed o offered) 0) (take_all n (externs_listed w wanted) (omega (arith, long, le)))

-- there are as many places as items
pub all_placed : (w o : Types) (wanted offered : Items) (places : List (Option ℕ)) → places ≡ map (place_in (item_names o offered)) (item_names w wanted) → length places ≡ length (items_listed w wanted)
all_placed w o wanted offered places e = ap (λ (l : List (Option ℕ)). length l) e ∙ (length-map (item_names w wanted) (place_in (item_names o offered)) ∙ length-map (items_listed w wanted) (λ (i : NamedItem). i.name))
