-- The regions of parts, each at its place.
use Rattle.std.proofs.Common.{◌≡◌, ◌↔◌, ℕ, suc, ◌+◌, ◌<◌, ◌≤◌, List, [], ◌∷◌, ◌++◌, drop, length, get_or, drop-cons, add-one, inl, inr, refl, sym, ap, subst, ◌∙◌, arith, append-nil, append_assoc}
use Rattle.std.specs.Prelude.{slice_index}
use Rattle.cm_abi_model.specs.declared.encoding.StringEncoding.{StringEncoding}
use Rattle.cm_abi_model.specs.Parts.{Part}
use Rattle.cm_abi_model.specs.Regions.{AreApart, IsInPart}
use Rattle.cm_abi_model.specs.Stores.{Given, place_of}
use Rattle.cm_abi_model.specs.Views.{View}
use Rattle.cm_abi_model.specs.declared.region.Region.{Region}
use Rattle.cm_abi_model.specs.Overlap.{AreDisjoint, IsInOne}
use Rattle.cm_abi_model.specs.declared.record.PartRecord.{PartRecord}
use Rattle.cm_abi_model.specs.Telling.{TellAll}
use Rattle.cm_abi_model.specs.Placing.{regions_at}
use Rattle.cm_abi_model.specs.RecordRequests.{AreAskable, IsAskable}
use Rattle.cm_lemmas.proofs.Lists.{drop_past}

-- ---- one after another

pub next_askable_here : (rs : List PartRecord) (i : ℕ) (d : PartRecord) → i < length rs → AreAskable (drop i rs) → IsAskable (get_or rs i d) × AreAskable (drop (i + 1) rs)
next_askable_here rs i d lt all =
    let split : drop i rs ≡ get_or rs i d ∷ drop (i + 1) rs = rw add-one (drop-cons rs i d lt) in
    subst AreAskable split all

pub next_region : (rs : List PartRecord) (places : List ℕ) (i : ℕ) (d : PartRecord) (e : ℕ) → i < length rs → i < length places
    → regions_at (drop i rs) (drop i places) ≡ record { at = get_or places i e; size = (get_or rs i d).size } ∷ regions_at (drop (i + 1) rs) (drop (i + 1) places)
next_region rs places i d e lt within =
    let split : drop i rs ≡ get_or rs i d ∷ drop (i + 1) rs = rw add-one (drop-cons rs i d lt) in
    let place : drop i places ≡ get_or places i e ∷ drop (i + 1) places = rw add-one (drop-cons places i e within) in
    rw (split, place) refl

pub one_more_region : (rs : List PartRecord) (places : List ℕ) (done behind : List Region) (i : ℕ) (d : PartRecord) (e : ℕ) (x : Region) → i < length rs → i < length places
    → x ≡ record { at = get_or places i e; size = (get_or rs i d).size } → behind ≡ done ++ x ∷ []
    → done ++ regions_at (drop i rs) (drop i places) ≡ regions_at rs places
    → behind ++ regions_at (drop (i + 1) rs) (drop (i + 1) places) ≡ regions_at rs places
one_more_region rs places done behind i d e x lt within is pushed so =
    let next = next_region rs places i d e lt within in
    rw pushed (append_assoc done (x ∷ []) (regions_at (drop (i + 1) rs) (drop (i + 1) places)) ∙ (ap (λ y. done ++ y ∷ regions_at (drop (i + 1) rs) (drop (i + 1) places)) is ∙ (ap (λ xs. done ++ xs) (sym next) ∙ so)))

pub all_regions : (rs : List PartRecord) (places : List ℕ) (done : List Region) (i : ℕ) → length rs ≤ i → done ++ regions_at (drop i rs) (drop i places) ≡ regions_at rs places → done ≡ regions_at rs places
all_regions rs places done i le so = sym (append-nil done) ∙ (ap (λ xs. done ++ regions_at xs (drop i places)) (sym (drop_past rs i le)) ∙ so)

-- ---- the regions of parts that records tell

module _ (w : View) (target : StringEncoding) (g : Given) where
  -- these are the places from one on
  abbrev Behind : ℕ → List ℕ → Type 0
  Behind k places = (j : ℕ) → place_of g (k + j) ≡ slice_index places j

  behind : (k at : ℕ) (places : List ℕ) → Behind k (at ∷ places) → Behind (k + 1) places
  behind k at places is j = subst (λ n. place_of g n ≡ slice_index places j) (omega arith) (is (suc j))

  first : (k at : ℕ) (places : List ℕ) → Behind k (at ∷ places) → place_of g k ≡ at
  first k at places is = subst (λ n. place_of g n ≡ at) (omega arith) (is 0)

  in_one : (rs : List PartRecord) (parts : List Part) (starts places : List ℕ) (k : ℕ) → TellAll w target rs parts starts → length rs ≤ length places → Behind k places
      → (a : ℕ) → IsInOne (regions_at rs places) a ↔ IsInPart target g k parts a
  in_one [] [] [] places k told long is a = (λ x. x, λ x. x)
  in_one [] [] (s ∷ starts) places k told long is a = absurd told
  in_one [] (p ∷ parts) starts places k told long is a = absurd told
  in_one (r ∷ rs) [] starts places k told long is a = absurd told
  in_one (r ∷ rs) (p ∷ parts) [] places k told long is a = absurd told
  in_one (r ∷ rs) (p ∷ parts) (s ∷ starts) [] k told long is a = absurd (omega (arith, long))
  in_one (r ∷ rs) (p ∷ parts) (s ∷ starts) (at ∷ places) k told long is a =
      let rest = in_one rs parts starts places (k + 1) told.1 (omega (arith, long)) (behind k at places is) a in
      let size = told.0.size in
      let here = first k at places is in (
        λ x. elim x [ inl y ↦ inl (rw (here, sym size) y) | inr y ↦ inr (rest.0 y) ],
        λ x. elim x [ inl y ↦ inl (rw (sym here, size) y) | inr y ↦ inr (rest.1 y) ],
      )

  pub apart : (rs : List PartRecord) (parts : List Part) (starts places : List ℕ) (k : ℕ) → TellAll w target rs parts starts → length rs ≤ length places → Behind k places
      → AreDisjoint (regions_at rs places) ↔ AreApart target g k parts
  apart [] [] [] places k told long is = (λ x. x, λ x. x)
  apart [] [] (s ∷ starts) places k told long is = absurd told
  apart [] (p ∷ parts) starts places k told long is = absurd told
  apart (r ∷ rs) [] starts places k told long is = absurd told
  apart (r ∷ rs) (p ∷ parts) [] places k told long is = absurd told
  apart (r ∷ rs) (p ∷ parts) (s ∷ starts) [] k told long is = absurd (omega (arith, long))
  apart (r ∷ rs) (p ∷ parts) (s ∷ starts) (at ∷ places) k told long is =
      let rest = apart rs parts starts places (k + 1) told.1 (omega (arith, long)) (behind k at places is) in
      let in_rest = in_one rs parts starts places (k + 1) told.1 (omega (arith, long)) (behind k at places is) in
      let size = told.0.size in
      let here = first k at places is in (
        λ x. (λ a y z. x.0 a (rw (sym here, size) y) ((in_rest a).1 z), rest.0 x.1),
        λ x. (λ a y z. x.0 a (rw (here, sym size) y) ((in_rest a).0 z), rest.1 x.1),
      )
