-- The numbers of resources by their first appearance.
use Rattle.std.proofs.Common.{◌≡◌, ◌||◌, ℕ, ◌+◌, Bool, true, false, not, cond, if◌then◌else◌, List, [], ◌∷◌, ◌++◌, refl, sym, ap, ◌∙◌, append_assoc, append-nil}
use Rattle.std.specs.Fmt.{decimal}
use Rattle.std.specs.List.{list_any, position_or_len}
use Rattle.cm_types.specs.declared.resource.ResourceId.{ResourceId}
use Rattle.cm_types.specs.Resources.{same_resource}
use Rattle.cm_tool_show.specs.Pieces.{Piece, chars, number_of, number_behind, appeared, seen_behind, text_behind, text_with, order_of, text_of}
use Rattle.cm_lemmas.proofs.Bools.{false_not_true}
use Rattle.cm_types.proofs.ResourceLaws.{resource_same}

-- what is found among the first stays where it is
kept : (p : ResourceId → Bool) (xs ys : List ResourceId) → list_any p xs ≡ true → position_or_len p (xs ++ ys) ≡ position_or_len p xs
kept p [] ys e = absurd (false_not_true e)
kept p (x ∷ xs) ys e = by (p x) e (λ h. kept p xs ys h)
  where
    by : (b : Bool) → (b || list_any p xs) ≡ true → (list_any p xs ≡ true → position_or_len p (xs ++ ys) ≡ position_or_len p xs) → cond (not b) (1 + position_or_len p (xs ++ ys)) 0 ≡ cond (not b) (1 + position_or_len p xs) 0
    by true h rest = refl
    by false h rest = ap (λ (n : ℕ). 1 + n) (rest h)

-- one that is put last is found, where the list was as long
last_found : (p : ResourceId → Bool) (xs : List ResourceId) (r : ResourceId) → p r ≡ true → list_any p (xs ++ r ∷ []) ≡ true
last_found p [] r e = ap (λ (b : Bool). b || false) e
last_found p (x ∷ xs) r e = by (p x) (last_found p xs r e)
  where
    by : (b : Bool) → list_any p (xs ++ r ∷ []) ≡ true → (b || list_any p (xs ++ r ∷ [])) ≡ true
    by true rest = refl
    by false rest = rest

last_place : (p : ResourceId → Bool) (xs : List ResourceId) (r : ResourceId) → list_any p xs ≡ false → p r ≡ true → position_or_len p (xs ++ r ∷ []) ≡ position_or_len p xs
last_place p [] r n e = ap (λ (b : Bool). cond (not b) (1 + 0) 0) e
last_place p (x ∷ xs) r n e = by (p x) n (λ h. last_place p xs r h e)
  where
    by : (b : Bool) → (b || list_any p xs) ≡ false → (list_any p xs ≡ false → position_or_len p (xs ++ r ∷ []) ≡ position_or_len p xs) → cond (not b) (1 + position_or_len p (xs ++ r ∷ [])) 0 ≡ cond (not b) (1 + position_or_len p xs) 0
    by true h rest = refl
    by false h rest = ap (λ (k : ℕ). 1 + k) (rest h)

-- ---- a resource that appears has its number from then on

is_seen : (seen : List ResourceId) (r : ResourceId) → list_any (same_resource r) (appeared seen r) ≡ true
is_seen seen r = by (list_any (same_resource r) seen) refl
  where
    by : (b : Bool) → list_any (same_resource r) seen ≡ b → list_any (same_resource r) (if b then seen else seen ++ r ∷ []) ≡ true
    by true e = e
    by false e = last_found (same_resource r) seen r (resource_same r)

same_number : (seen : List ResourceId) (r : ResourceId) → number_behind (appeared seen r) r ≡ number_behind seen r
same_number seen r = by (list_any (same_resource r) seen) refl
  where
    by : (b : Bool) → list_any (same_resource r) seen ≡ b → position_or_len (same_resource r) (if b then seen else seen ++ r ∷ []) ≡ position_or_len (same_resource r) seen
    by true e = refl
    by false e = last_place (same_resource r) seen r e (resource_same r)

-- those that appeared stay, with more behind them
one_behind : (seen : List ResourceId) (r : ResourceId) → (more : List ResourceId) × (appeared seen r ≡ seen ++ more)
one_behind seen r = by (list_any (same_resource r) seen)
  where
    by : (b : Bool) → (more : List ResourceId) × ((if b then seen else seen ++ r ∷ []) ≡ seen ++ more)
    by true = ([], sym (append-nil seen))
    by false = (r ∷ [], refl)

all_behind : (ps : List Piece) (seen : List ResourceId) → (more : List ResourceId) × (seen_behind seen ps ≡ seen ++ more)
all_behind [] seen = ([], sym (append-nil seen))
all_behind (chars t ∷ ps) seen = all_behind ps seen
all_behind (number_of r ∷ ps) seen =
    let one = one_behind seen r in
    let rest = all_behind ps (appeared seen r) in
    (one.0 ++ rest.0, rest.1 ∙ (ap (λ (z : List ResourceId). z ++ rest.0) one.1 ∙ append_assoc seen one.0 rest.0))

number_stays : (seen : List ResourceId) (ps : List Piece) (r : ResourceId) → list_any (same_resource r) seen ≡ true → number_behind (seen_behind seen ps) r ≡ number_behind seen r
number_stays seen ps r e =
    let all = all_behind ps seen in
    ap (λ (z : List ResourceId). number_behind z r) all.1 ∙ kept (same_resource r) seen all.0 e

by_places : (seen : List ResourceId) (ps : List Piece) → text_behind seen ps ≡ text_with (number_behind (seen_behind seen ps)) ps
by_places seen [] = refl
by_places seen (chars t ∷ ps) = ap (λ (z : List ℕ). t ++ z) (by_places seen ps)
by_places seen (number_of r ∷ ps) =
    ap (λ (z : List ℕ). decimal (number_behind seen r) ++ z) (by_places (appeared seen r) ps)
    ∙ ap (λ (n : ℕ). decimal n ++ text_with (number_behind (seen_behind (appeared seen r) ps)) ps) (sym (number_stays (appeared seen r) ps r (is_seen seen r) ∙ same_number seen r))

pub one_number : (ps : List Piece) → text_of ps ≡ text_with (number_behind (order_of ps)) ps
one_number ps = by_places [] ps
