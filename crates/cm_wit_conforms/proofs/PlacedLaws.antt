-- What is compared of items, imports and exports whose counterparts stand at places.
use Rattle.std.proofs.Common.{◌≡◌, ℕ, zero, suc, ◌+◌, ◌<◌, true, false, List, [], ◌∷◌, length, map, get_or, Option, Some, None, refl, sym, ap, subst, ◌∙◌, arith}
use Rattle.std.specs.List.{slice_get}
use Rattle.std.specs.Option.{option_and_then, option_map}
use Rattle.cm_types.specs.Signatures.{ItemTy, NamedExtern, NamedItem}
use Rattle.cm_types_arena.specs.declared.types.Types.{Types}
use Rattle.cm_types_arena.specs.Instances.{replaced_desc, replaced_item}
use Rattle.cm_types_arena.specs.Placed.{moved_by}
use Rattle.cm_types_arena.specs.Listed.{brought_items, by_of, desc_in, externs_listed, item_in, items_listed, names_of_desc}
use Rattle.cm_types_arena.specs.declared.named_externs.Externs.{Externs}
use Rattle.cm_types_arena.specs.declared.named_externs.Items.{Items}
use Rattle.cm_types_arena.specs.declared.named_externs.NamedItem as code_item
use Rattle.std.proofs.lemmas.List.{length-map}
use Rattle.cm_types_arena.specs.declared.named_externs.Desc.TheVariants as is_desc
use Rattle.cm_wit_conforms.specs.Known.{AreMet, StandsIn, found_at, places_in}
use Rattle.cm_wit_conforms.specs.Places.{extern_names, item_names, place_in}
use Rattle.cm_wit_conforms.specs.declared.known.Meeting.{Meeting}
use Rattle.cm_wit_conforms.specs.Walks.{is_found, of_signature}
use Rattle.cm_wit_conforms.specs.declared.fault.ConformList.TheVariants as walked
use Rattle.cm_wit_conforms.specs.Comparisons.{Entry, extern_named, facing, item_comparison, item_entries, item_entry, item_named, or_nothing, two_items}
use Rattle.cm_wit_conforms.specs.Views.{extern_found, item_found}
use Rattle.std.proofs.lemmas.Option.{slice_get-map}
use Rattle.cm_wit_conforms.specs.declared.fault.ConformList.{ConformList}
use Rattle.cm_wit_conforms.proofs.WalkLaws.{named_placed}
use Rattle.cm_lemmas.proofs.Options.{fused}

-- what has an item's name is what stands at its place
item_there : (t : Types) (others : Items) (name : List ℕ) → item_named name (brought_items t others) ≡ item_found t others (place_in (item_names t others) name)
item_there t others name =
    let r = replaced_item (moved_by (by_of others)) in
    let o : Option NamedItem = option_and_then (slice_get (items_listed t others)) (place_in (item_names t others) name) in
    named_placed (λ (i : NamedItem). i.name) r (λ (i : NamedItem). i.name) (λ (i : NamedItem). i.desc) (λ i. refl) name (items_listed t others)
    ∙ sym (fused (λ (i : NamedItem). i.desc) (replaced_desc (moved_by (by_of others))) o)

-- the entry of a number is that of the item of this number
entry_there : (list : ConformList) (place : ℕ) (others : List NamedItem) (i n : ℕ) (xs : List NamedItem) → slice_get (item_entries list place others i xs) n ≡ option_map (λ x. item_entry list place (i + n) (item_comparison list others x)) (slice_get xs n)
entry_there list place others i n [] = refl
entry_there list place others i zero (x ∷ xs) = ap (λ (k : ℕ). let o : Option Entry = Some (item_entry list place k (item_comparison list others x)) in o) (omega arith)
entry_there list place others i (suc n) (x ∷ xs) =
    entry_there list place others (i + 1) n xs
    ∙ ap (λ (k : ℕ). option_map (λ y. item_entry list place k (item_comparison list others y)) (slice_get xs n)) (omega arith)

-- what is compared of an item, whose counterpart was found
abbrev pub found_entry : Types → ConformList → ℕ → ℕ → Items → Items → Option ℕ → NamedItem → Entry
found_entry theirs list place n items others found x =
    item_entry list place n (or_nothing (option_map (facing two_items list (replaced_desc (moved_by (by_of items)) x.desc)) (item_found theirs others found)))

pub compared_there : (mine theirs : Types) (list : ConformList) (place n : ℕ) (items others : Items) (found : Option ℕ) → found ≡ option_and_then (place_in (item_names theirs others)) (slice_get (item_names mine items) n)
    → slice_get (item_entries list place (brought_items theirs others) 0 (brought_items mine items)) n ≡ option_map (found_entry theirs list place n items others found) (slice_get (items_listed mine items) n)
compared_there mine theirs list place n items others found is =
    let r = replaced_item (moved_by (by_of items)) in
    entry_there list place (brought_items theirs others) 0 n (brought_items mine items)
    ∙ (ap (λ (k : ℕ). option_map (λ y. item_entry list place k (item_comparison list (brought_items theirs others) y)) (slice_get (brought_items mine items) n)) (omega arith)
    ∙ ap (option_map (λ y. item_entry list place n (item_comparison list (brought_items theirs others) y))) (slice_get-map r (items_listed mine items) n)
    ∙ (fused r (λ y. item_entry list place n (item_comparison list (brought_items theirs others) y)) (slice_get (items_listed mine items) n)
    ∙ by_item (slice_get (items_listed mine items) n) (is ∙ ap (option_and_then (place_in (item_names theirs others))) (slice_get-map (λ (i : NamedItem). i.name) (items_listed mine items) n))))
  where
    by_item : (o : Option NamedItem) → found ≡ option_and_then (place_in (item_names theirs others)) (option_map (λ i. i.name) o) → option_map (λ x. item_entry list place n (item_comparison list (brought_items theirs others) (replaced_item (moved_by (by_of items)) x))) o ≡ option_map (found_entry theirs list place n items others found) o
    by_item None e = refl
    by_item (Some x) e =
        ap (λ (o : Option ItemTy). let a : Option Entry = Some (item_entry list place n (or_nothing (option_map (facing two_items list (replaced_desc (moved_by (by_of items)) x.desc)) o))) in a)
        (item_there theirs others x.name ∙ ap (item_found theirs others) (sym e))

-- the comparison that the code makes is that entry
pub compared_so : (mine theirs : Types) (list : ConformList) (place n : ℕ) (items others : Items) (found : Option ℕ) (at : Option code_item.NamedItem) → found ≡ option_and_then (place_in (item_names theirs others)) (slice_get (item_names mine items) n) → option_map (item_in mine) at ≡ slice_get (items_listed mine items) n
    → option_map (λ i. found_entry theirs list place n items others found (item_in mine i)) at ≡ slice_get (item_entries list place (brought_items theirs others) 0 (brought_items mine items)) n
compared_so mine theirs list place n items others found at is there =
    sym (fused (item_in mine) (found_entry theirs list place n items others found) at)
    ∙ (ap (option_map (found_entry theirs list place n items others found)) there ∙ sym (compared_there mine theirs list place n items others found is))

-- as many are compared as there are items
pub entries_long : (mine theirs : Types) (list : ConformList) (place : ℕ) (items others : Items) → length (item_entries list place (brought_items theirs others) 0 (brought_items mine items)) ≡ length (items_listed mine items)
entries_long mine theirs list place items others = long 0 (brought_items mine items) ∙ length-map (items_listed mine items) (replaced_item (moved_by (by_of items)))
  where
    long : (i : ℕ) (xs : List NamedItem) → length (item_entries list place (brought_items theirs others) i xs) ≡ length xs
    long i [] = refl
    long i (x ∷ xs) = ap suc (long (i + 1) xs)

-- the place of a name is what was found for it
pub placed_found : (texts others : List (List ℕ)) (places : List (Option ℕ)) (n : ℕ) → n < length places → places ≡ map (place_in others) texts → get_or places n None ≡ option_and_then (place_in others) (slice_get texts n)
placed_found texts others places n lt is =
    ap (λ (l : List (Option ℕ)). get_or l n None) is ∙ each texts n (subst (λ (l : List (Option ℕ)). n < length l) is lt)
  where
    each : (texts : List (List ℕ)) (n : ℕ) → n < length (map (place_in others) texts) → get_or (map (place_in others) texts) n None ≡ option_and_then (place_in others) (slice_get texts n)
    each [] n lt = absurd (omega (arith, lt))
    each (x ∷ xs) zero lt = refl
    each (x ∷ xs) (suc n) lt = each xs n (omega (arith, lt))

-- an item of which something is found stands among the places
pub found_covered : (mine theirs : Types) (list : ConformList) (place : ℕ) (items others : Items) (m : Meeting) → AreMet (item_names mine items) (item_names theirs others) m → (p : ℕ) (e : Entry) → slice_get (item_entries list place (brought_items theirs others) 0 (brought_items mine items)) p ≡ Some e → is_found e.what ≡ true → StandsIn p (places_in m)
found_covered mine theirs list place items others m met p e here found =
    by_found (found_at m p) refl (sym (compared_there mine theirs list place p items others (found_at m p) (met.found p)) ∙ here)
  where
    missing : (o : Option NamedItem) → option_map (found_entry theirs list place p items others None) o ≡ Some e → is_found e.what ≡ true → ⊥
    missing None is f = absurd cc
    missing (Some x) is f = not_found (ap (λ (y : Entry). is_found y.what) (one_entry (found_entry theirs list place p items others None x) e is) ∙ f)
      where
        one_entry : (x y : Entry) → Some x ≡ Some y → x ≡ y
        one_entry x y h = cc

        not_found : false ≡ true → ⊥
        not_found h = cc

    by_found : (o : Option ℕ) → found_at m p ≡ o → option_map (found_entry theirs list place p items others (found_at m p)) (slice_get (items_listed mine items) p) ≡ Some e → StandsIn p (places_in m)
    by_found None is at = absurd (missing (slice_get (items_listed mine items) p) (sym (ap (λ (o : Option ℕ). option_map (found_entry theirs list place p items others o) (slice_get (items_listed mine items) p)) is) ∙ at) found)
    by_found (Some n) is at = met.among p n is

-- the names of the items of an instance
pub names_brought : (t : Types) (items : Items) → map (λ i. i.name) (brought_items t items) ≡ item_names t items
names_brought t items = same (items_listed t items)
  where
    same : (xs : List NamedItem) → map (λ (i : NamedItem). i.name) (map (replaced_item (moved_by (by_of items))) xs) ≡ map (λ (i : NamedItem). i.name) xs
    same [] = refl
    same (x ∷ xs) = ap (λ (l : List (List ℕ)). x.name ∷ l) (same xs)

-- the same of imports and exports
pub extern_there : (t : Types) (others : Externs) (name : List ℕ) → extern_named name (externs_listed t others) ≡ extern_found t others (place_in (extern_names t others) name)
extern_there t others name =
    sym (ap (extern_named name) (same (externs_listed t others)))
    ∙ named_placed (λ (e : NamedExtern). e.name) (λ (e : NamedExtern). e) (λ (e : NamedExtern). e.name) (λ (e : NamedExtern). e.desc) (λ e. refl) name (externs_listed t others)
  where
    same : (xs : List NamedExtern) → map (λ x. x) xs ≡ xs
    same [] = refl
    same (x ∷ xs) = ap (λ (l : List NamedExtern). x ∷ l) (same xs)

-- of two instances, the names of that which is the signature's
pub names_of_two : (t : Types) (list : ConformList) (items others : Items) → names_of_desc (desc_in t (of_signature list (is_desc.Instance items) (is_desc.Instance others))) ≡ item_names t (of_signature list items others)
names_of_two t walked.WorldExports items others = names_brought t others
names_of_two t walked.HaveImports items others = names_brought t items
