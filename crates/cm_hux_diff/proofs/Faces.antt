-- What faces a name.
use Rattle.std.proofs.Common.{◌≡◌, ℕ, ◌+◌, ◌<◌, ◌≤◌, Bool, cond, List, [], ◌∷◌, ◌++◌, length, map, take, drop, get_or, Some, refl, sym, ap, ◌∙◌, arith, append_assoc, append-nil}
use Rattle.std.specs.List.{list_any, slice_get}
use Rattle.std.specs.Prelude.{filter, ◌||◌}
use Rattle.std.proofs.Math.Bool.{or-false, or_comm}
use Rattle.std.proofs.lemmas.List.{drop_all}
use Rattle.std.proofs.lemmas.List.Elements.{filter-append}
use Rattle.std.proofs.lemmas.List.Folds.{list_any-append}
use Rattle.cm_lemmas.proofs.Lists.{long_enough, take_one, rest_from}
use Rattle.cm_match_model.specs.Fitting.{NamedExport, candidates, named_export, only}
use Rattle.cm_match_model.specs.Ranges.{exports_named}
use Rattle.cm_match_model.specs.declared.candidates.Candidate.{Candidate}
use Rattle.cm_match_model.specs.declared.candidates.Candidate.TheVariants as candidate
use Rattle.cm_hux_diff.specs.Facing.{hosted_at, hosted_from, is_at, is_greatest, is_met, is_one, met_from}
use Rattle.cm_hux_diff.specs.declared.facing.Face.{Face}
use Rattle.cm_hux_diff.proofs.Places.{mapped_next}

-- ---- exports in a table

named_append : (n : ℕ) (xs ys : List (List ℕ)) → exports_named n (xs ++ ys) ≡ exports_named n xs ++ exports_named (n + length xs) ys
named_append n [] ys = ap (λ (k : ℕ). exports_named k ys) (omega arith)
named_append n (x ∷ xs) ys = ap (λ (es : List NamedExport). named_export 0 n x ∷ es) (named_append (n + 1) xs ys ∙ ap (λ (k : ℕ). exports_named (n + 1) xs ++ exports_named k ys) (omega arith))

pub named_next : (xs : List (List ℕ)) (n : ℕ) (x : List ℕ) → slice_get xs n ≡ Some x → exports_named 0 (take n xs) ++ named_export 0 n x ∷ [] ≡ exports_named 0 (take (n + 1) xs)
named_next xs n x h =
    let long : length (take n xs) ≡ n = long_enough xs n x h in
    ap (λ (k : ℕ). exports_named 0 (take n xs) ++ named_export 0 k x ∷ []) (omega (arith, long))
    ∙ (sym (named_append 0 (take n xs) (x ∷ [])) ∙ ap (exports_named 0) (sym (take_one xs n x h)))

-- ---- the greatest

-- whether an export alone among these fits its name
abbrev pub alone : List NamedExport → NamedExport → Bool
alone all e = is_one (only (candidates all e.name))

pub kept_one : (all : List NamedExport) (e : NamedExport) (c x : ℕ) → candidate.One c x ≡ only (candidates all e.name) → filter (alone all) (e ∷ []) ≡ e ∷ []
kept_one all e c x h = ap (λ (o : Candidate). cond (is_one o) (e ∷ []) []) (sym h)

pub kept_none : (all : List NamedExport) (e : NamedExport) → candidate.None ≡ only (candidates all e.name) → filter (alone all) (e ∷ []) ≡ []
kept_none all e h = ap (λ (o : Candidate). cond (is_one o) (e ∷ []) []) (sym h)

pub kept_several : (all : List NamedExport) (e : NamedExport) → candidate.Several ≡ only (candidates all e.name) → filter (alone all) (e ∷ []) ≡ []
kept_several all e h = ap (λ (o : Candidate). cond (is_one o) (e ∷ []) []) (sym h)

pub greatest_next : (texts : List (List ℕ)) (n : ℕ) (x : List ℕ) → slice_get texts n ≡ Some x → filter (is_greatest texts) (exports_named 0 (take n texts)) ++ filter (is_greatest texts) (named_export 0 n x ∷ []) ≡ filter (is_greatest texts) (exports_named 0 (take (n + 1) texts))
greatest_next texts n x h =
    sym (filter-append (is_greatest texts) (exports_named 0 (take n texts)) (named_export 0 n x ∷ []))
    ∙ ap (filter (is_greatest texts)) (named_next texts n x h)

-- ---- the exports that are faced

pub faced_next : (view : List ℕ → Face) (xs : List (List ℕ)) (i : ℕ) (x : List ℕ) (f : Face) (n : ℕ) (before after : Bool) → i < length xs → x ≡ get_or xs i x → f ≡ view x → before ≡ list_any (is_at n) (map view (take i xs)) → after ≡ (is_at n f || before) → after ≡ list_any (is_at n) (map view (take (i + 1) xs))
faced_next view xs i x f n before after lt at is was next =
    let old : Bool = list_any (is_at n) (map view (take i xs)) in
    next
    ∙ (ap (λ (g : Face). is_at n g || before) is
    ∙ (ap (λ (b : Bool). is_at n (view x) || b) was
    ∙ (or_comm (is_at n (view x)) old
    ∙ (ap (λ (b : Bool). old || b) (sym (or-false (is_at n (view x))))
    ∙ (sym (list_any-append (is_at n) (map view (take i xs)) (view x ∷ []))
    ∙ ap (list_any (is_at n)) (sym (mapped_next view xs i x lt at)))))))

pub record Met (exports offered texts : List (List ℕ)) (n : ℕ) (out : List Bool) : Type 0 where
  pub is : out ++ met_from exports offered n (drop n texts) ≡ met_from exports offered 0 texts

pub met_start : (exports offered texts : List (List ℕ)) → Met exports offered texts 0 []
met_start exports offered texts = record { is = refl }

pub met_next : (exports offered texts : List (List ℕ)) (n : ℕ) (x : List ℕ) (out : List Bool) (b : Bool) → n < length texts → x ≡ get_or texts n x → b ≡ is_met exports offered n x → Met exports offered texts n out → Met exports offered texts (n + 1) (out ++ b ∷ [])
met_next exports offered texts n x out b lt at is m = record {
  is = append_assoc out (b ∷ []) (met_from exports offered (n + 1) (drop (n + 1) texts))
      ∙ (ap (λ (y : Bool). out ++ y ∷ met_from exports offered (n + 1) (drop (n + 1) texts)) is
      ∙ (sym (ap (λ (l : List (List ℕ)). out ++ met_from exports offered n l) (rest_from texts n x lt at)) ∙ m.is));
}

pub met_end : (exports offered texts : List (List ℕ)) (n : ℕ) (out : List Bool) → length texts ≤ n → Met exports offered texts n out → out ≡ met_from exports offered 0 texts
met_end exports offered texts n out le m = sym (append-nil out) ∙ (sym (ap (λ (l : List (List ℕ)). out ++ met_from exports offered n l) (drop_all n texts le)) ∙ m.is)

pub ruleset met_laws = (met_start, met_next, met_end)

-- ---- the imports that are exported now

pub record Hosted (exports offered texts : List (List ℕ)) (n : ℕ) (out : List ℕ) : Type 0 where
  pub is : out ++ hosted_from exports offered n (drop n texts) ≡ hosted_from exports offered 0 texts

pub hosted_start : (exports offered texts : List (List ℕ)) → Hosted exports offered texts 0 []
hosted_start exports offered texts = record { is = refl }

pub hosted_next : (exports offered texts : List (List ℕ)) (n : ℕ) (x : List ℕ) (out next : List ℕ) → n < length texts → x ≡ get_or texts n x → next ≡ out ++ hosted_at exports offered n x → Hosted exports offered texts n out → Hosted exports offered texts (n + 1) next
hosted_next exports offered texts n x out next lt at is h = record {
  is = ap (λ (l : List ℕ). l ++ hosted_from exports offered (n + 1) (drop (n + 1) texts)) is
      ∙ (append_assoc out (hosted_at exports offered n x) (hosted_from exports offered (n + 1) (drop (n + 1) texts))
      ∙ (sym (ap (λ (l : List (List ℕ)). out ++ hosted_from exports offered n l) (rest_from texts n x lt at)) ∙ h.is));
}

pub hosted_end : (exports offered texts : List (List ℕ)) (n : ℕ) (out : List ℕ) → length texts ≤ n → Hosted exports offered texts n out → out ≡ hosted_from exports offered 0 texts
hosted_end exports offered texts n out le h = sym (append-nil out) ∙ (sym (ap (λ (l : List (List ℕ)). out ++ hosted_from exports offered n l) (drop_all n texts le)) ∙ h.is)

pub ruleset hosted_laws = (hosted_start, hosted_next, hosted_end)
