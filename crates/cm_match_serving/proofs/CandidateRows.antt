-- What is kept of the candidates of imports.
use Rattle.std.proofs.Common.{◌≡◌, ◌∙◌, ℕ, ◌+◌, List, Option, Some, None, refl, sym, ap, arith, option_and_then, slice_get}
use Rattle.std.specs.Option.{option_map}
use Rattle.std.specs.declared.alloc.Global.{Global}
use Rattle.std.specs.declared.vec.Vec.{Vec}
use Rattle.cm_match_model.specs.Fitting.{only}
use Rattle.cm_match_model.specs.declared.candidates.Candidate.{Candidate}
use Rattle.cm_match_model.specs.Imports.{LinkSet, candidates, import_in}
use Rattle.cm_validate_model.specs.Spaces.{Spaces}
use Rattle.cm_match_serving.specs.Candidates.{AreCandidates, candidates_in}
use Rattle.cm_match_serving.proofs.Rows.{each_at}
use Rattle.cm_lemmas.proofs.Options.{some_is}

module _ (set : LinkSet) (rows : List (Vec Candidate Global)) (are : AreCandidates set rows) (c n : ℕ) where
  pub none_there : slice_get rows c ≡ None → None ≡ option_map (λ x. only (candidates set c n x)) (import_in set.spaces c n)
  none_there h = by_space (slice_get set.spaces c) (sym (ap (option_map (λ (row : Vec Candidate Global). row.items)) h) ∙ are c)
    where
      by_space : (o : Option Spaces) → None ≡ option_map (candidates_in set c) o → None ≡ option_map (λ x. only (candidates set c n x)) (option_and_then (λ s. slice_get s.imports n) o)
      by_space None e = refl
      by_space (Some s) e = cc e

  pub row_there : (row : Vec Candidate Global) → slice_get rows c ≡ Some row → slice_get row.items n ≡ option_map (λ x. only (candidates set c n x)) (import_in set.spaces c n)
  row_there row h = by_space (slice_get set.spaces c) (sym (ap (option_map (λ (row : Vec Candidate Global). row.items)) h) ∙ are c)
    where
      same : 0 + n ≡ n
      same = omega arith

      by_space : (o : Option Spaces) → Some row.items ≡ option_map (candidates_in set c) o → slice_get row.items n ≡ option_map (λ x. only (candidates set c n x)) (option_and_then (λ s. slice_get s.imports n) o)
      by_space None e = cc e
      by_space (Some s) e =
          ap (λ items. slice_get items n) (some_is row.items (candidates_in set c s) e)
          ∙ each_at (λ number x. only (candidates set c number x)) 0 s.imports n
          ∙ ap (λ m. option_map (λ x. only (candidates set c m x)) (slice_get s.imports n)) same
