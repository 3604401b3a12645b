-- Links that are chosen for imports.
use Rattle.std.proofs.Common.{◌≡◌, ◌∙◌, ◌≢◌, ◌+◌, ◌<◌, ◌≤◌, ◌⊎◌, inl, inr, ◌&&◌, ◌==◌, ◌++◌, ◌∷◌, [], ℕ, zero, suc, Bool, true, false, cond, List, Option, None, Some, ap, arith, length, map, refl, slice_get, subst, sym, take, if◌then◌else◌, is_some, is_none, option_and_then}
use Rattle.std.specs.Prelude.{replicate}
use Rattle.std.specs.List.{find}
use Rattle.std.specs.Option.{option_map}
use Rattle.std.specs.declared.alloc.Global.{Global}
use Rattle.std.specs.declared.vec.Vec.{Vec}
use Rattle.std.proofs.lemmas.Bool.{and_parts, cases_lt}
use Rattle.cm_lemmas.proofs.Lists.{heads, take_one}
use Rattle.cm_lemmas.proofs.Numbers.{nat_eq_of}
use Rattle.cm_lemmas.proofs.Options.{some_is}
use Rattle.cm_types.specs.Signatures.{NamedExtern}
use Rattle.cm_validate_model.specs.Spaces.{Spaces}
use Rattle.cm_validate_spaces.specs.Checked.{spaces_in}
use Rattle.cm_validate_spaces.specs.declared.checked.Checked.{Checked}
use Rattle.cm_match_model.specs.Fitting.{NamedExport}
use Rattle.cm_match_model.specs.Imports.{LinkSet, import_in, seen_by, sees_all}
use Rattle.cm_match_model.specs.Sights.{link_in, sees_by, sees_in}
use Rattle.cm_match_model.specs.declared.component.Link.{Link}
use Rattle.cm_match_model.specs.declared.sight.Choices.{Choices}
use Rattle.cm_match_serving.specs.Sets.{spaces_of_all}
use Rattle.huxarte_c_components.specs.declared.choosing.HuxChoice.{HuxChoice}
use Rattle.huxarte_c_components.specs.declared.choosing.HuxPlace.{HuxPlace}
use Rattle.huxarte_c_components.specs.declared.linking.LinkRefusal.{LinkRefusal}
use Rattle.huxarte_c_components.specs.declared.linking.LinkRefusal.TheVariants as refusal
use Rattle.huxarte_c_components.specs.Choosing.{ArePlaced, ArePlacedBelow, HaveChosen, IsChoiceRefusal, IsSetBy, IsSight, SeesBy, chosen_by, chosen_link, has_place, is_for, place_of, slot_in}
use Rattle.huxarte_c_components.specs.Linking.{IsUnlinkedBy}

-- ---- rows in which nothing is chosen

-- what a place of no choice is read as
abbrev pub no_choice : HuxChoice
no_choice = record { importer = 0; import_at = 0; provider = 0; export_at = 0 }

abbrev pub blank_row : Spaces → List (Option Link)
blank_row s = replicate (length s.imports) None

blank : {A : Type 0} (xs : List A) (n : ℕ) (o : Option Link) → o ≡ None → slice_get (replicate (length xs) o) n ≡ option_map (λ _. None) (slice_get xs n)
blank [] n o is = refl
blank (x ∷ xs) zero o is = ap Some is
blank (x ∷ xs) (suc n) o is = blank xs n o is

pub are_blank : (set : List Spaces) (rows : List (Vec (Option Link) Global)) → map (λ r. r.items) rows ≡ map blank_row set → HaveChosen set [] rows
are_blank [] [] is component number = refl
are_blank [] (r ∷ rs) is component number = absurd (cc)
are_blank (s ∷ ss) [] is component number = absurd (cc)
are_blank (s ∷ ss) (r ∷ rs) is zero number = ap (λ row. slice_get row number) (heads _ _ _ _ is).0 ∙ blank s.imports number None refl
are_blank (s ∷ ss) (r ∷ rs) is (suc component) number = are_blank ss rs (heads _ _ _ _ is).1 component number

pub rows_of : (cs : List Checked) → map (λ x. blank_row (spaces_in x)) cs ≡ map blank_row (spaces_of_all cs)
rows_of [] = refl
rows_of (c ∷ cs) = ap (λ rs. blank_row (spaces_in c) ∷ rs) (rows_of cs)

-- ---- one more choice

pub place_is : {A : Type 0} (o : Option A) (f : Option HuxChoice) → option_map (λ _. option_map chosen_link f) o ≡ Some None → (is_some o && is_none f) ≡ true
place_is None f is = absurd (cc)
place_is (Some a) None is = refl
place_is (Some a) (Some x) is = absurd (cc)

pub no_place : {A : Type 0} (o : Option A) (f : Option HuxChoice) → option_map (λ _. option_map chosen_link f) o ≢ Some None → (is_some o && is_none f) ≡ false
no_place None f not = refl
no_place (Some a) None not = absurd (not refl)
no_place (Some a) (Some x) not = refl

-- a choice of an import that has none yet
hit_one : {A : Type 0} (o : Option A) (f g : Option HuxChoice) (x : HuxChoice) → option_map (λ _. option_map chosen_link f) o ≡ Some None → (f ≡ None → g ≡ Some x)
    → Some (Some (chosen_link x)) ≡ option_map (λ _. option_map chosen_link g) o
hit_one None f g x is k = absurd (cc)
hit_one (Some a) None g x is k = ap (λ h. Some (option_map chosen_link h)) (sym (k refl))
hit_one (Some a) (Some y) g x is k = absurd (cc)

find_miss : {A : Type 0} (p : A → Bool) (xs : List A) (x : A) → p x ≡ false → find p (xs ++ x ∷ []) ≡ find p xs
find_miss p [] x not = ap (λ b. cond b (Some x) None) not
find_miss p (y ∷ ys) x not = ap (cond (p y) (Some y)) (find_miss p ys x not)

behind : {A : Type 0} (b : Bool) (y x : A) (f g : Option A) → cond b (Some y) f ≡ None → (f ≡ None → g ≡ Some x) → cond b (Some y) g ≡ Some x
behind true y x f g is k = absurd (cc)
behind false y x f g is k = k is

find_hit : {A : Type 0} (p : A → Bool) (xs : List A) (x : A) → p x ≡ true → find p xs ≡ None → find p (xs ++ x ∷ []) ≡ Some x
find_hit p [] x passes is = ap (λ b. cond b (Some x) None) passes
find_hit p (y ∷ ys) x passes is = behind (p y) y x (find p ys) (find p (ys ++ x ∷ [])) is (find_hit p ys x passes)

pub placed_more : (set : List Spaces) (choices : List HuxChoice) (n : ℕ) (x : HuxChoice) → slice_get choices n ≡ Some x
    → ArePlacedBelow set choices n → has_place set (take n choices) x ≡ true → ArePlacedBelow set choices (n + 1)
placed_more set choices n x is before has m y lt there = go (cases_lt m n)
  where
    go : (m < n) ⊎ (n ≤ m) → has_place set (take m choices) y ≡ true
    go (inl small) = before m y small there
    go (inr large) =
        let same : m ≡ n = omega (arith, lt, large) in
        let one : x ≡ y = some_is x y (sym is ∙ ap (slice_get choices) (sym same) ∙ there) in
        subst (λ z. has_place set (take m choices) z ≡ true) one (subst (λ k. has_place set (take k choices) x ≡ true) (sym same) has)

chosen_one : (set : List Spaces) (choices : List HuxChoice) (rows after : List (Vec (Option Link) Global)) (n : ℕ) (x : HuxChoice) (component number : ℕ) (b : Bool)
    → is_for component number x ≡ b → HaveChosen set (take n choices) rows → slot_in rows x.importer x.import_at ≡ Some None
    → slot_in after component number ≡ (if b then Some (Some (chosen_link x)) else slot_in rows component number)
    → slot_in after component number ≡ option_map (λ _. chosen_by (take n choices ++ x ∷ []) component number) (import_in set component number)
chosen_one set choices rows after n x component number true for so free is =
    let both = and_parts (x.importer == component) (x.import_at == number) for in
    let one : x.importer ≡ component = nat_eq_of _ _ both.0 in
    let two : x.import_at ≡ number = nat_eq_of _ _ both.1 in
    let p = is_for component number in
    is ∙ hit_one (import_in set component number) (find p (take n choices)) (find p (take n choices ++ x ∷ [])) x
    (sym (so component number) ∙ ap (λ k. slot_in rows k number) (sym one) ∙ ap (slot_in rows x.importer) (sym two) ∙ free)
    (find_hit p (take n choices) x for)
chosen_one set choices rows after n x component number false for so free is =
    is ∙ so component number ∙ ap (λ f. option_map (λ _. option_map chosen_link f) (import_in set component number)) (sym (find_miss (is_for component number) (take n choices) x for))

pub chosen_more : (set : List Spaces) (choices : List HuxChoice) (rows after : List (Vec (Option Link) Global)) (n : ℕ) (x : HuxChoice) → slice_get choices n ≡ Some x
    → HaveChosen set (take n choices) rows → slot_in rows x.importer x.import_at ≡ Some None
    → ((component number : ℕ) → slot_in after component number ≡ (if is_for component number x then Some (Some (chosen_link x)) else slot_in rows component number))
    → HaveChosen set (take (n + 1) choices) after
chosen_more set choices rows after n x is so free others component number =
    chosen_one set choices rows after n x component number (is_for component number x) refl so free (others component number)
    ∙ ap (λ xs. option_map (λ _. chosen_by xs component number) (import_in set component number)) (sym (take_one choices n x is))

-- ---- what imports see

-- the link of an import is what its slot has
joined : {A : Type 0} (o : Option A) (f : A → Option (Option Link)) → option_and_then (λ r. option_and_then (λ l. l) (f r)) o ≡ option_and_then (λ l. l) (option_and_then f o)
joined None f = refl
joined (Some a) f = refl

link_slot : (rows : List (Vec (Option Link) Global)) (component number : ℕ) → link_in rows component number ≡ option_and_then (λ l. l) (slot_in rows component number)
link_slot [] component number = refl
link_slot (row ∷ rows) component number = joined (slice_get (row ∷ rows) component) (λ r. slice_get r.items number)

chosen_at : (set : List Spaces) (choices : List HuxChoice) (rows : List (Vec (Option Link) Global)) (component number : ℕ) (item : NamedExtern)
    → HaveChosen set choices rows → import_in set component number ≡ Some item → link_in rows component number ≡ chosen_by choices component number
chosen_at set choices rows component number item have there =
    link_slot rows component number ∙ ap (option_and_then (λ l. l)) (have component number ∙ ap (option_map (λ _. chosen_by choices component number)) there)

seen_so : (set : List Spaces) (places : List HuxPlace) (choices : List HuxChoice) (c : Choices) → c.places.items ≡ map place_of places
    → HaveChosen set choices c.links.items → SeesBy set places choices (sees_in c)
seen_so set places choices c same have component number item there e =
    ap (λ ps. sees_by ps (link_in c.links.items) component number e) same
    ∙ ap (λ l. sees_by (map place_of places) (λ _ _. l) component number e) (chosen_at set choices c.links.items component number item have there)

sight_is : (set : List Spaces) (places : List HuxPlace) (choices : List HuxChoice) (c : Choices) → (places ≡ [] → choices ≡ [] → ⊥)
    → SeesBy set places choices (sees_in c) → IsSight set places choices (sees_in c)
sight_is set [] [] c some sees = absurd (some refl refl)
sight_is set [] (x ∷ xs) c some sees = sees
sight_is set (p ∷ ps) choices c some sees = sees

pub set_chosen : (set : List Spaces) (places : List HuxPlace) (choices : List HuxChoice) (c : Choices) (l : LinkSet) → (places ≡ [] → choices ≡ [] → ⊥)
    → c.places.items ≡ map place_of places → HaveChosen set choices c.links.items → ArePlaced set choices → l ≡ seen_by (sees_in c) set → IsSetBy set places choices l
set_chosen set places choices c l some same have placed is =
    subst (IsSetBy set places choices) (sym is) (record {
      spaces = refl;
      placed = placed;
      sight = sight_is set places choices c some (seen_so set places choices c same have);
    })

pub choice_refused : (set : List Spaces) (places : List HuxPlace) (choices : List HuxChoice) (e : LinkRefusal) → IsChoiceRefusal set choices e → IsUnlinkedBy places choices set e
choice_refused set places choices (refusal.Choice n) why = why
choice_refused set places choices refusal.Memory why = tt
choice_refused set places choices refusal.Outside why = absurd why
choice_refused set places choices (refusal.Files f) why = absurd why
choice_refused set places choices (refusal.Link f) why = absurd why

-- with nothing chosen
none_placed : (set : List Spaces) → ArePlaced set []
none_placed set m x small there = absurd (omega (arith, small))

pub no_items : {A : Type 0} (xs : List A) → (length xs == 0) ≡ true → xs ≡ []
no_items [] is = refl
no_items (x ∷ xs) is = absurd (omega (arith, nat_eq_of (suc (length xs)) 0 is))

pub set_plain : (set : List Spaces) (places : List HuxPlace) (choices : List HuxChoice) (l : LinkSet) → places ≡ [] → choices ≡ [] → l ≡ seen_by sees_all set → IsSetBy set places choices l
set_plain set places choices l no_places no_choices is =
    subst (λ ps. IsSetBy set ps choices l) (sym no_places) (subst (λ xs. IsSetBy set [] xs l) (sym no_choices) (subst (IsSetBy set [] []) (sym is) (record {
      spaces = refl;
      placed = none_placed set;
      sight = refl;
    })))
