-- What one more byte does to the length of a comment.
use Rattle.std.proofs.Common.{◌≡◌, ℕ, suc, ◌+◌, ◌<◌, ◌≤◌, List, length, drop, get_or, Option, Some, None, refl, ap, arith}
use Rattle.std.proofs.lemmas.List.{drop_more, drop_all}
use Rattle.std.specs.Option.{option_map, option_map_or}
use Rattle.cm_wit_tokens.specs.Comments.{after_byte, comment_length}
use Rattle.cm_wit_projects_tokens.specs.declared.comment.Inside.{Inside}
use Rattle.cm_wit_projects_tokens.specs.Views.{inside_view}

step : (at : Inside) (text : List ℕ) (i : ℕ) → i < length text → comment_length (inside_view at) (drop i text) ≡ option_map_or (λ next. option_map suc (comment_length next (drop (i + 1) text))) (after_byte (inside_view at) (get_or text i 0)) (Some 1)
unfolding comment_length
step at text i lt = ap (comment_length (inside_view at)) (drop_more text i 0 lt)

mapped_twice : (f g h : ℕ → ℕ) (o : Option ℕ) → ((n : ℕ) → f (g n) ≡ h n) → option_map f (option_map g o) ≡ option_map h o
mapped_twice f g h None e = refl
mapped_twice f g h (Some n) e = ap (λ (m : ℕ). Some m) (e n)

pub comment_ends : (at : Inside) (text : List ℕ) (i : ℕ) → i < length text → after_byte (inside_view at) (get_or text i 0) ≡ None → option_map (λ n. i + n) (comment_length (inside_view at) (drop i text)) ≡ Some (i + 1)
comment_ends at text i lt e = rw (step at text i lt, e) refl

pub comment_goes : (at next : Inside) (text : List ℕ) (i : ℕ) → i < length text → after_byte (inside_view at) (get_or text i 0) ≡ Some (inside_view next) → option_map (λ n. i + n) (comment_length (inside_view at) (drop i text)) ≡ option_map (λ n. i + 1 + n) (comment_length (inside_view next) (drop (i + 1) text))
comment_goes at next text i lt e = rw (step at text i lt, e) (mapped_twice (λ n. i + n) suc (λ n. i + 1 + n) (comment_length (inside_view next) (drop (i + 1) text)) (λ n. omega arith))

pub comment_none : (at : Inside) (text : List ℕ) (i : ℕ) → length text ≤ i → option_map (λ n. i + n) (comment_length (inside_view at) (drop i text)) ≡ None
unfolding comment_length
comment_none at text i le = rw (drop_all i text le) refl
