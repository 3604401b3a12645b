-- Mentions that are added one part behind the other.
use Rattle.std.proofs.Common.{◌≡◌, ℕ, ◌+◌, ◌<◌, ◌≤◌, List, [], ◌∷◌, ◌++◌, length, map, drop, get_or, refl, sym, ap, ◌∙◌, append_assoc, append-nil}
use Rattle.std.proofs.lemmas.List.{length-append, length-map, drop_all}
use Rattle.std.specs.Global.{Vec}
use Rattle.cm_wit_reading.specs.Types.{Ty, types_from}
use Rattle.cm_wit_names.specs.declared.mention.Mention as code
use Rattle.cm_wit_names.specs.declared.mention.Place.{Place}
use Rattle.cm_wit_names.specs.Mentions.{Mention}
use Rattle.cm_wit_names.specs.Marks.{Marks, none, ◌then◌, each}
use Rattle.cm_wit_names.specs.MentionViews.{mention_view, Adds}
use Rattle.cm_wit_names.specs.FileMentions.{type_marks, types_marks}
use Rattle.cm_lemmas.proofs.Lists.{next_element}

pub adds_none : (x : Vec code.Mention) → Adds none x x
adds_none x = sym (append-nil (map mention_view x.items))

length_after : (a : Marks) (x y : Vec code.Mention) → Adds a x y → length y.items ≡ length x.items + length (a (length x.items))
length_after a x y p = sym (length-map y.items mention_view) ∙ (ap length p ∙ (length-append (map mention_view x.items) (a (length x.items)) ∙ ap (λ (k : ℕ). k + length (a (length x.items))) (length-map x.items mention_view)))

-- These stand there, and a part behind them makes all.
abbrev pub MakesAll : Marks → Vec code.Mention → List Mention → Type 0
MakesAll marks x all = map mention_view x.items ++ marks (length x.items) ≡ all

pub makes_all_after : (a b : Marks) (x y : Vec code.Mention) (all : List Mention) → Adds a x y → MakesAll (a then b) x all → MakesAll b y all
makes_all_after a b x y all p q =
    ap (λ (ms : List Mention). ms ++ b (length y.items)) p ∙ (append_assoc (map mention_view x.items) (a (length x.items)) (b (length y.items)) ∙ (ap (λ (k : ℕ). map mention_view x.items ++ (a (length x.items) ++ b k)) (length_after a x y p) ∙ q))

pub adds_then : (a b : Marks) (x y z : Vec code.Mention) → Adds a x y → Adds b y z → Adds (a then b) x z
adds_then a b x y z p q = q ∙ makes_all_after a b x y (map mention_view x.items ++ (a then b) (length x.items)) p refl

pub ruleset add_laws = (adds_none, adds_then)

-- ---- lists that are read by index

pub each_step : {A B : Type 0} (part : B → Marks) (view : A → B) (xs : List A) (i : ℕ) (x : A) (before after : Vec code.Mention) (all : List Mention) → i < length xs → x ≡ get_or xs i x → Adds (part (view x)) before after → MakesAll (each part (map view (drop i xs))) before all → MakesAll (each part (map view (drop (i + 1) xs))) after all
each_step part view xs i x before after all lt is p q =
    makes_all_after (part (view x)) (each part (map view (drop (i + 1) xs))) before after all p (sym (ap (λ (ys : List _). map mention_view before.items ++ each part ys (length before.items)) (next_element view xs i x lt is)) ∙ q)

pub each_end : {A B : Type 0} (part : B → Marks) (view : A → B) (xs : List A) (i : ℕ) (out : Vec code.Mention) (all : List Mention) → length xs ≤ i → MakesAll (each part (map view (drop i xs))) out all → map mention_view out.items ≡ all
each_end part view xs i out all le q = sym (append-nil (map mention_view out.items)) ∙ (sym (ap (λ (ys : List _). map mention_view out.items ++ each part (map view ys) (length out.items)) (drop_all i xs le)) ∙ q)

pub types_each : (p : Place) (xs : List Ty) (n : ℕ) → types_marks p (types_from xs) n ≡ each (type_marks p) xs n
types_each p [] n = refl
types_each p (x ∷ xs) n = ap (λ (ms : List Mention). type_marks p x n ++ ms) (types_each p xs (n + length (type_marks p x n)))

pub types_end : (p : Place) (xs : List Ty) (i : ℕ) (before out : Vec code.Mention) → length xs ≤ i → MakesAll (each (type_marks p) (drop i xs)) out (map mention_view before.items ++ each (type_marks p) xs (length before.items)) → Adds (types_marks p (types_from xs)) before out
types_end p xs i before out le q =
    sym (append-nil (map mention_view out.items)) ∙ (sym (ap (λ (ys : List _). map mention_view out.items ++ each (type_marks p) ys (length out.items)) (drop_all i xs le)) ∙ (q ∙ ap (λ (ms : List Mention). map mention_view before.items ++ ms) (sym (types_each p xs (length before.items)))))
