-- Labels in full names, and worlds at their places.
use Rattle.std.proofs.Common.{◌≡◌, ◌≢◌, ℕ, suc, ◌+◌, ◌<◌, ◌≤◌, Bool, true, false, List, [], ◌∷◌, ◌++◌, length, map, get_or, Option, Some, None, refl, sym, ap, subst, ◌∙◌, zero, zero-add, append_assoc, length-append, arith, inl, inr}
use Rattle.std.specs.Prelude.{◌&&◌, ◌==◌, slice_get, slice_index_or}
use Rattle.std.specs.Bool.{Decides, one_answer}
use Rattle.std.specs.Borrow.{Bor}
use Rattle.std.specs.List.{AllByRecursion, filter_map}
use Rattle.std.specs.Option.{MatchOption, option_copied, option_map, option_map_or}
use Rattle.std.specs.Str.{bytes_eq}
use Rattle.std.specs.Str.Pattern.{FindsTextSuffix, StripsSuffix}
use Rattle.std.proofs.Math.ListN.{get_or-append}
use Rattle.std.proofs.Math.Seq.{get_or-append_seam}
use Rattle.std.proofs.lemmas.List.{append_cancel_left, append_cancel_right, length-map, map-append}
use Rattle.std.proofs.lemmas.Bool.{cases_eq, eq-eqb}
use Rattle.std.proofs.lemmas.Option.{slice_get-map, slice_get_read, slice_get_within}
use Rattle.std.proofs.lemmas.Slice.Eq.{bytes_eq-Decides}
use Rattle.cm_types.specs.ExternNames.{version_suffix}
use Rattle.cm_wit_reading.specs.Trees.{File, FileItem, interface, world, World}
use Rattle.cm_wit_worlds.specs.Interfaces.{AreLabels, PlacedWorld, full_name, has_label, is_world, package_at, package_name, world_in, worlds, worlds_from}
use Rattle.cm_lemmas.proofs.Bools.{and_true}
use Rattle.cm_lemmas.proofs.Lists.{all_both}
use Rattle.cm_lemmas.proofs.Options.{some_is}

-- ---- what is taken off a text

-- A text is made of another by this, or it is so made of none.
abbrev pub IsMadeOf : (List ℕ → List ℕ) → List ℕ → Option (Bor (List ℕ)) → Type 0
IsMadeOf whole text r = MatchOption r ((l : List ℕ) → text ≢ whole l) (λ x. text ≡ whole x.now)

after : (front : List ℕ) (c : ℕ) (x y : List ℕ) → front ++ c ∷ x ≡ front ++ c ∷ y → x ≡ y
after front c x y e = append_cancel_left (c ∷ []) x y (append_cancel_left front (c ∷ x) (c ∷ y) e)

end_off : (end text : List ℕ) (r : Option (Bor (List ℕ))) → MatchOption r (FindsTextSuffix end text None) (λ x. StripsSuffix (FindsTextSuffix end) text x.now) → IsMadeOf (λ l. l ++ end) text r
end_off end text None h = h
end_off end text (Some x) h = h.1.1 ∙ ap (λ (l : List ℕ). l ++ end) (sym h.2)

before_more : (end more text rest : List ℕ) (r : Option (Bor (List ℕ))) → text ≡ rest ++ end → IsMadeOf (λ l. l ++ more) rest r → IsMadeOf (λ l. l ++ (more ++ end)) text r
before_more end more text rest None e h = λ l f. h l (append_cancel_right rest (l ++ more) end (sym e ∙ (f ∙ sym (append_assoc l more end))))
before_more end more text rest (Some x) e h = e ∙ (ap (λ (l : List ℕ). l ++ end) h ∙ append_assoc x.now more end)

-- without a version of a package at its end
pub no_version : (o : Option (List ℕ)) (v text : List ℕ) (r : Option (Bor (List ℕ))) → o ≡ Some v → r ≡ None → ((l : List ℕ) → text ≢ l ++ v) → IsMadeOf (λ l. l ++ version_suffix o) text r
no_version o v text r e n h = rw (e, n) (λ l f. h (l ++ 64 ∷ []) (f ∙ sym (append_assoc l (64 ∷ []) v)))

-- before a version that stands at its end
pub with_version : (o : Option (List ℕ)) (v text : List ℕ) (rest : Bor (List ℕ)) (r : Option (Bor (List ℕ))) → o ≡ Some v → StripsSuffix (FindsTextSuffix v) text rest.now → MatchOption r (FindsTextSuffix (64 ∷ []) rest.now None) (λ x. StripsSuffix (FindsTextSuffix (64 ∷ [])) rest.now x.now) → IsMadeOf (λ l. l ++ version_suffix o) text r
with_version o v text rest r e h k = rw e (before_more v (64 ∷ []) text rest.now r (end_off v text (Some rest) h) (end_off (64 ∷ []) rest.now r k))

-- not a full name of a package
pub no_package : (f : File) (text rest : List ℕ) (r : Option (Bor (List ℕ))) → text ≡ f.namespace ++ 58 ∷ rest → r ≡ None → ((l : List ℕ) → rest ≢ f.pkg ++ 47 ∷ l) → IsMadeOf (full_name f) text r
no_package f text rest r e n h = rw n (λ l q. h (l ++ version_suffix f.version) (after f.namespace 58 rest (f.pkg ++ 47 ∷ (l ++ version_suffix f.version)) (sym e ∙ q)))

-- the label of a full name of a package
pub with_package : (f : File) (text rest last : List ℕ) (r : Option (Bor (List ℕ))) → text ≡ f.namespace ++ 58 ∷ rest → rest ≡ f.pkg ++ 47 ∷ last → IsMadeOf (λ l. l ++ version_suffix f.version) last r → IsMadeOf (full_name f) text r
with_package f text rest last None e h k = λ l q. k l (after f.pkg 47 last (l ++ version_suffix f.version) (sym h ∙ after f.namespace 58 rest (f.pkg ++ 47 ∷ (l ++ version_suffix f.version)) (sym e ∙ q)))
with_package f text rest last (Some x) e h k = e ∙ (ap (λ (l : List ℕ). f.namespace ++ 58 ∷ l) (h ∙ ap (λ (l : List ℕ). f.pkg ++ 47 ∷ l) k))

-- ---- the label of a world

name_same : (f : File) (x y : List ℕ) → full_name f x ≡ full_name f y → x ≡ y
name_same f x y e = append_cancel_right x y (version_suffix f.version) (after f.pkg 47 (x ++ version_suffix f.version) (y ++ version_suffix f.version) (after f.namespace 58 _ _ e))

made_test : (f : File) (text : List ℕ) (r : Option (Bor (List ℕ))) → IsMadeOf (full_name f) text r → (w : World) → bytes_eq (full_name f w.name) text ≡ has_label (option_copied r) w
made_test f text None h w = one_answer _ false (bytes_eq-Decides (full_name f w.name) text) ((λ e. absurd (cc), λ p. absurd (h w.name (sym p))))
made_test f text (Some x) h w =
    let same : Decides (bytes_eq x.now w.name) (x.now ≡ w.name) = bytes_eq-Decides x.now w.name in
    one_answer _ _ (bytes_eq-Decides (full_name f w.name) text) ((λ t. sym (h ∙ ap (full_name f) (same.0 t)), λ p. same.1 (name_same f x.now w.name (sym h ∙ sym p))))

-- whether the package at a place is the one that counts
abbrev Counts : List File → File → ℕ → Bool
Counts fs f place = option_map_or (λ p. p == place) (package_at fs (package_name f)) false

world_test : (fs : List File) (f : File) (text : List ℕ) (place : ℕ) (r : Option (Bor (List ℕ))) → IsMadeOf (full_name f) text r → (w : PlacedWorld) → w.place ≡ place → w.file ≡ f → is_world fs text w ≡ (has_label (option_copied r) w.world && Counts fs f place)
world_test fs f text place r h w e g = rw (e, g) (ap (λ (b : Bool). b && Counts fs f place) (made_test f text r h w.world))

-- a world of the package that counts
pub counted : (fs : List File) (f : File) (text : List ℕ) (place : ℕ) (x : Bor (List ℕ)) → text ≡ full_name f x.now → (found : ℕ) (name : List ℕ) → name ≡ package_name f → Some found ≡ package_at fs name → found ≡ place → (w : PlacedWorld) → w.place ≡ place → w.file ≡ f → is_world fs text w ≡ has_label (Some x.now) w.world
counted fs f text place x h found name e is at w p q =
    let here : Counts fs f place ≡ true = ap (λ (n : List ℕ). option_map_or (λ k. k == place) (package_at fs n) false) (sym e) ∙ (ap (λ (o : Option ℕ). option_map_or (λ k. k == place) o false) (sym is) ∙ eq-eqb found place at) in
    world_test fs f text place (Some x) h w p q ∙ (ap (λ (b : Bool). has_label (Some x.now) w.world && b) here ∙ and_true (has_label (Some x.now) w.world))

-- ---- the labels of all packages

-- The labels of the first packages are there.
pub record Labelled (fs : List File) (text : List ℕ) (n : ℕ) (labels : List (Option (List ℕ))) : Type 0 where
  pub count : length labels ≡ n
  pub each : (w : PlacedWorld) → w.place < n → slice_get fs w.place ≡ Some w.file → is_world fs text w ≡ has_label (slice_index_or labels w.place None) w.world

pub labelled_start : (fs : List File) (text : List ℕ) → Labelled fs text 0 []
labelled_start fs text = record { count = refl; each = λ w lt e. absurd (omega arith) }

pub labelled_next : (fs : List File) (f : File) (text : List ℕ) (n : ℕ) (labels : List (Option (List ℕ))) (l : Option (List ℕ)) → slice_get fs n ≡ Some f → ((w : PlacedWorld) → w.place ≡ n → w.file ≡ f → is_world fs text w ≡ has_label l w.world) → Labelled fs text n labels → Labelled fs text (n + 1) (labels ++ l ∷ [])
labelled_next fs f text n labels l is test old = record {
  count = length-append labels (l ∷ []) ∙ ap (λ (k : ℕ). k + 1) old.count;
  each = λ w lt e. elim (cases_eq w.place n) [
    | inl at ↦
        let file : w.file ≡ f = some_is w.file f (sym e ∙ (ap (slice_get fs) at ∙ is)) in
        test w at file ∙ sym (ap (λ (o : Option (List ℕ)). has_label o w.world) (ap (λ (k : ℕ). get_or (labels ++ l ∷ []) k None) (at ∙ sym old.count) ∙ get_or-append_seam labels l [] None))
    | inr ne ↦
        let below : w.place < n = omega arith in
        let within : w.place < length labels = omega (arith, old.count) in
        old.each w below e ∙ sym (ap (λ (o : Option (List ℕ)). has_label o w.world) (get_or-append labels (l ∷ []) None w.place within))
  ];
}

labelled_end : (fs : List File) (text : List ℕ) (n : ℕ) (labels : List (Option (List ℕ))) → length fs ≤ n → Labelled fs text n labels → AreLabels fs text labels
labelled_end fs text n labels le old = λ w e. old.each w (let lt : w.place < length fs = slice_get_within fs w.place w.file e in omega arith) e

pub labelled_push : {A : Type 0} (view : A → File) (xs ys : List A) (text : List ℕ) (i : ℕ) (x : A) (out next : List (Option (Bor (List ℕ)))) (l : Option (Bor (List ℕ))) → xs ≡ ys → i < length xs → x ≡ get_or xs i x → next ≡ out ++ l ∷ [] → ((w : PlacedWorld) → w.place ≡ i → w.file ≡ view x → is_world (map view ys) text w ≡ has_label (option_copied l) w.world) → Labelled (map view ys) text i (map option_copied out) → Labelled (map view ys) text (i + 1) (map option_copied next)
labelled_push view xs ys text i x out next l same lt is e test old =
    let here : slice_get ys i ≡ Some x = subst (λ zs. slice_get zs i ≡ Some x) same (slice_get_read xs (length xs) i x refl lt is) in
    rw e (rw map-append (labelled_next (map view ys) (view x) text i (map option_copied out) (option_copied l) (slice_get-map view ys i ∙ ap (option_map view) here) test old))

pub labelled_all : {A : Type 0} (view : A → File) (xs ys : List A) (text : List ℕ) (n : ℕ) (labels : List (Option (List ℕ))) → xs ≡ ys → length xs ≤ n → Labelled (map view ys) text n labels → AreLabels (map view ys) text labels
labelled_all view xs ys text n labels same le old = labelled_end (map view ys) text n labels (rw length-map (rw (sym same) le)) old

-- ---- worlds at their places

-- the package of a world stands at the world's place
abbrev Stands : List File → PlacedWorld → Type 0
Stands fs w = slice_get fs w.place ≡ Some w.file

items_stand : (fs : List File) (p : ℕ) (f : File) → slice_get fs p ≡ Some f → (xs : List FileItem) → AllByRecursion (Stands fs) (filter_map (world_in p f) xs)
items_stand fs p f e [] = tt
items_stand fs p f e (interface x ∷ xs) = items_stand fs p f e xs
items_stand fs p f e (world x ∷ xs) = (e, items_stand fs p f e xs)

all_stand : (fs : List File) (p : ℕ) (rest : List File) → ((k : ℕ) (f : File) → slice_get rest k ≡ Some f → slice_get fs (p + k) ≡ Some f) → AllByRecursion (Stands fs) (worlds_from p rest)
all_stand fs p [] h = tt
all_stand fs p (f ∷ rest) h = all_both (Stands fs) (filter_map (world_in p f) f.items) (worlds_from (p + 1) rest)
    (items_stand fs p f (subst (λ (k : ℕ). slice_get fs k ≡ Some f) (omega arith) (h 0 f refl)) f.items)
    (all_stand fs (p + 1) rest (λ k g e. subst (λ (n : ℕ). slice_get fs n ≡ Some g) (omega arith) (h (suc k) g e)))

mapped_at : {A B : Type 0} (P : B → Type 0) (view : A → B) (xs : List A) (i : ℕ) (x : A) → AllByRecursion P (map view xs) → i < length xs → x ≡ get_or xs i x → P (view x)
mapped_at P view [] i x h lt e = absurd (omega arith)
mapped_at P view (y ∷ xs) zero x h lt e = subst (λ z. P (view z)) (sym e) h.0
mapped_at P view (y ∷ xs) (suc i) x h lt e = mapped_at P view xs i x h.1 (omega arith) e

-- a world passes the test where it has the label that stands at its place
pub label_test : {A : Type 0} (fs : List File) (text : List ℕ) (made given : List (Option (Bor (List ℕ)))) (view : A → PlacedWorld) (xs : List A) → map view xs ≡ worlds fs → AreLabels fs text (map option_copied made) → given ≡ made → (i : ℕ) (x : A) (a b : Bool) → i < length xs → x ≡ get_or xs i x → a ≡ has_label (slice_index_or (map option_copied given) (view x).place None) (view x).world → a ≡ b → is_world fs text (view x) ≡ b
label_test fs text made given view xs e are same i x a b lt is h at =
    are (view x) (mapped_at (Stands fs) view xs i x (subst (AllByRecursion (Stands fs)) (sym e) (all_stand fs 0 fs (λ k f q. ap (slice_get fs) (zero-add k) ∙ q))) lt is) ∙ (ap (λ (ls : List (Option (Bor (List ℕ)))). has_label (slice_index_or (map option_copied ls) (view x).place None) (view x).world) (sym same) ∙ (sym h ∙ at))
