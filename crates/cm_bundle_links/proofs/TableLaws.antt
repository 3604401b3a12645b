-- Tables of the exports of components.
use Rattle.std.proofs.Common.{◌≡◌, ◌∙◌, ◌++◌, ◌∷◌, [], ℕ, zero, suc, List, None, Some, ap, map, option_and_then, refl, slice_get, sym}
use Rattle.std.proofs.lemmas.List.{map-append}
use Rattle.cm_lemmas.proofs.Lists.{heads}
use Rattle.cm_lemmas.proofs.Options.{some_is}
use Rattle.cm_names.specs.Keys.{first_key}
use Rattle.cm_names.specs.Listed.{listed}
use Rattle.cm_names.specs.declared.keys.Keys.{Keys}
use Rattle.cm_validate_model.specs.Spaces.{Spaces}
use Rattle.cm_match_serving.specs.Sets.{spaces_of_all}
use Rattle.cm_match_serving.specs.cm_validate_spaces.Checked.{spaces_in}
use Rattle.cm_match_serving.specs.cm_validate_spaces.declared.checked.Checked.{Checked}
use Rattle.cm_bundle.specs.Trees.{ExportTree}
use Rattle.cm_bundle_links.specs.Tables.{AreTables, export_named, keys_in}

-- what a table finds is what stands in its component
pub found_there : (set : List Spaces) (tables : List Keys) (c : ℕ) (t : Keys) (n : ℕ) (name : List ℕ) → AreTables set tables → slice_get tables c ≡ Some t
    → first_key (listed t) n name ≡ option_and_then (λ s. first_key (keys_in s) n name) (slice_get set c)
found_there set [] c t n name are there = absurd cc
found_there [] (u ∷ us) c t n name are there = absurd cc
found_there (s ∷ ss) (u ∷ us) zero t n name are there =
    ap (λ x. first_key (listed x) n name) (sym (some_is u t there)) ∙ ap (λ ks. first_key ks n name) (heads _ _ _ _ are).0
found_there (s ∷ ss) (u ∷ us) (suc c) t n name are there = found_there ss us c t n name (heads _ _ _ _ are).1 there

-- where there is no table, there is no component
pub missing_there : (set : List Spaces) (tables : List Keys) (c : ℕ) (x : ExportTree) → AreTables set tables → slice_get tables c ≡ None → None ≡ export_named set c x
missing_there [] tables c x are none = refl
missing_there (s ∷ ss) [] c x are none = absurd cc
missing_there (s ∷ ss) (u ∷ us) zero x are none = absurd cc
missing_there (s ∷ ss) (u ∷ us) (suc c) x are none = missing_there ss us c x (heads _ _ _ _ are).1 none

-- one table more
pub tables_more : (set : List Spaces) (tables : List Keys) (s : Spaces) (t : Keys) → AreTables set tables → listed t ≡ keys_in s → AreTables (set ++ s ∷ []) (tables ++ t ∷ [])
tables_more set tables s t are is =
    map-append listed tables (t ∷ []) ∙ ap (λ ks. ks ++ listed t ∷ []) are ∙ ap (λ k. map keys_in set ++ k ∷ []) is ∙ sym (map-append keys_in set (s ∷ []))

-- the index spaces of a component that is there
pub space_there : (cs : List Checked) (n : ℕ) (c : Checked) → slice_get cs n ≡ Some c → slice_get (spaces_of_all cs) n ≡ Some (spaces_in c)
space_there [] n c there = absurd cc
space_there (d ∷ cs) zero c there = ap (λ x. Some (spaces_in x)) (some_is d c there)
space_there (d ∷ cs) (suc n) c there = space_there cs n c there
