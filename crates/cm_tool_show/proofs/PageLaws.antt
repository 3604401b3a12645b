-- Pieces that are written one behind the other.
use Rattle.std.proofs.Common.{◌≡◌, ℕ, zero, suc, ◌+◌, ◌<◌, ◌≤◌, List, [], ◌∷◌, ◌++◌, length, drop, get_or, refl, sym, ap, subst, ◌∙◌, append_assoc, append-nil, arith}
use Rattle.std.proofs.lemmas.List.{drop_all, length-append}
use Rattle.std.specs.Prelude.{codes}
use Rattle.std.specs.Fmt.{decimal}
use Rattle.cm_types.specs.declared.resource.ResourceId.{ResourceId}
use Rattle.cm_tool_show.specs.Pieces.{Piece, chars, number_of, number_behind, appeared, seen_behind, text_behind}
use Rattle.cm_tool_show.specs.Lists.{comma_before}
use Rattle.cm_tool_show.specs.Pages.{seen_on, IsOver, text_on}
use Rattle.cm_tool_show.specs.declared.page.Page.{Page}
use Rattle.cm_lemmas.proofs.Lists.{rest_from}

pub text_append : (seen : List ResourceId) (a b : List Piece) → text_behind seen (a ++ b) ≡ text_behind seen a ++ text_behind (seen_behind seen a) b
text_append seen [] b = refl
text_append seen (chars t ∷ ps) b = ap (λ (z : List ℕ). t ++ z) (text_append seen ps b) ∙ sym (append_assoc t (text_behind seen ps) (text_behind (seen_behind seen ps) b))
text_append seen (number_of r ∷ ps) b = ap (λ (z : List ℕ). decimal (number_behind seen r) ++ z) (text_append (appeared seen r) ps b) ∙ sym (append_assoc (decimal (number_behind seen r)) (text_behind (appeared seen r) ps) (text_behind (seen_behind (appeared seen r) ps) b))

pub seen_append : (seen : List ResourceId) (a b : List Piece) → seen_behind seen (a ++ b) ≡ seen_behind (seen_behind seen a) b
seen_append seen [] b = refl
seen_append seen (chars t ∷ ps) b = seen_append seen ps b
seen_append seen (number_of r ∷ ps) b = seen_append (appeared seen r) ps b

-- ---- commas

pub comma_none : (n : ℕ) → n ≡ 0 → comma_before n ≡ []
comma_none n e = ap comma_before e

pub comma_some : (n : ℕ) → (n ≡ 0 → ⊥) → comma_before n ≡ chars (codes ", ") ∷ []
comma_some zero h = absurd (h refl)
comma_some (suc n) h = refl

-- ---- members of lists

-- the pieces of members, counted from n on
abbrev pub members : {A : Type 0} → (ℕ → A → List Piece) → ℕ → List A → List Piece
members f n [] = []
members f n (x ∷ xs) = f n x ++ members f (n + 1) xs

-- These were added, and what is left makes all.
pub record Adds {A : Type 0} (f : ℕ → A → List Piece) (xs : List A) (i : ℕ) (start now : Page) : Type 0 where
  pub text : text_on now ++ text_behind (seen_on now) (members f i (drop i xs)) ≡ text_on start ++ text_behind (seen_on start) (members f 0 xs)
  pub seen : seen_behind (seen_on now) (members f i (drop i xs)) ≡ seen_behind (seen_on start) (members f 0 xs)

pub adds_none : {A : Type 0} (f : ℕ → A → List Piece) (xs : List A) (start : Page) → Adds f xs 0 start start
adds_none f xs start = record { text = refl; seen = refl }

pub adds_next : {A : Type 0} (f : ℕ → A → List Piece) (xs : List A) (i : ℕ) (x : A) (start now new : Page) → i < length xs → x ≡ get_or xs i x → text_on new ≡ text_on now ++ text_behind (seen_on now) (f i x) → seen_on new ≡ seen_behind (seen_on now) (f i x) → Adds f xs i start now → Adds f xs (i + 1) start new
adds_next {A} f xs i x start now new lt e p q s = record {
  text = text_now ∙ s.text;
  seen = seen_now ∙ s.seen;
}
  where
    more : List Piece
    more = members f (i + 1) (drop (i + 1) xs)

    left : members f i (drop i xs) ≡ f i x ++ more
    left = ap (λ (ys : List A). members f i ys) (rest_from xs i x lt e)

    text_now : text_on new ++ text_behind (seen_on new) more ≡ text_on now ++ text_behind (seen_on now) (members f i (drop i xs))
    text_now =
        ap (λ (z : List ℕ). z ++ text_behind (seen_on new) more) p
        ∙ (ap (λ (z : List ResourceId). (text_on now ++ text_behind (seen_on now) (f i x)) ++ text_behind z more) q
        ∙ (append_assoc (text_on now) (text_behind (seen_on now) (f i x)) (text_behind (seen_behind (seen_on now) (f i x)) more)
        ∙ (ap (λ (z : List ℕ). text_on now ++ z) (sym (text_append (seen_on now) (f i x) more))
        ∙ ap (λ (ps : List Piece). text_on now ++ text_behind (seen_on now) ps) (sym left))))

    seen_now : seen_behind (seen_on new) more ≡ seen_behind (seen_on now) (members f i (drop i xs))
    seen_now =
        ap (λ (z : List ResourceId). seen_behind z more) q
        ∙ (sym (seen_append (seen_on now) (f i x) more)
        ∙ ap (λ (ps : List Piece). seen_behind (seen_on now) ps) (sym left))

none_left : {A : Type 0} (f : ℕ → A → List Piece) (xs : List A) (i : ℕ) → length xs ≤ i → members f i (drop i xs) ≡ []
none_left {A} f xs i le = ap (λ (ys : List A). members f i ys) (drop_all i xs le)

pub all_text : {A : Type 0} (f : ℕ → A → List Piece) (xs : List A) (i : ℕ) (start now : Page) → length xs ≤ i → Adds f xs i start now → text_on now ≡ text_on start ++ text_behind (seen_on start) (members f 0 xs)
all_text f xs i start now le s = sym (append-nil (text_on now)) ∙ (ap (λ (ps : List Piece). text_on now ++ text_behind (seen_on now) ps) (sym (none_left f xs i le)) ∙ s.text)

pub all_seen : {A : Type 0} (f : ℕ → A → List Piece) (xs : List A) (i : ℕ) (start now : Page) → length xs ≤ i → Adds f xs i start now → seen_on now ≡ seen_behind (seen_on start) (members f 0 xs)
all_seen f xs i start now le s = ap (λ (ps : List Piece). seen_behind (seen_on now) ps) (sym (none_left f xs i le)) ∙ s.seen

-- Where a text is too long, it is with more, too.
pub over_more : (now : Page) (a b : List Piece) → IsOver now a → IsOver now (a ++ b)
over_more now a b o =
    let more : length (text_behind (seen_on now) (a ++ b)) ≡ length (text_behind (seen_on now) a) + length (text_behind (seen_behind (seen_on now) a) b) = ap length (text_append (seen_on now) a b) ∙ length-append (text_behind (seen_on now) a) (text_behind (seen_behind (seen_on now) a) b) in
    omega (arith, o, more)

pub over_now : (now : Page) (ps : List Piece) (start : Page) (all : List Piece) → text_on now ++ text_behind (seen_on now) ps ≡ text_on start ++ text_behind (seen_on start) all → IsOver now ps → IsOver start all
over_now now ps start all e o =
    let same : length (text_on now) + length (text_behind (seen_on now) ps) ≡ length (text_on start) + length (text_behind (seen_on start) all) = sym (length-append (text_on now) (text_behind (seen_on now) ps)) ∙ (ap length e ∙ length-append (text_on start) (text_behind (seen_on start) all)) in
    omega (arith, o, same)

pub all_over : {A : Type 0} (f : ℕ → A → List Piece) (xs : List A) (i : ℕ) (x : A) (start now : Page) → i < length xs → x ≡ get_or xs i x → IsOver now (f i x) → Adds f xs i start now → IsOver start (members f 0 xs)
all_over {A} f xs i x start now lt e o s = over_now now (members f i (drop i xs)) start (members f 0 xs) s.text (subst (λ (ps : List Piece). IsOver now ps) (sym (ap (λ (ys : List A). members f i ys) (rest_from xs i x lt e))) (over_more now (f i x) (members f (i + 1) (drop (i + 1) xs)) o))
