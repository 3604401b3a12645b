-- The link of an import, by its candidates.
use Rattle.std.proofs.Common.{◌≡◌, ℕ, ◌<◌, List, [], ◌∷◌, Option, Some, None, option_and_then}
use Rattle.std.specs.Option.{option_map}
use Rattle.cm_types.specs.Signatures.{NamedExtern}
use Rattle.cm_match_model.specs.Fitting.{NamedExport, only}
use Rattle.cm_match_model.specs.declared.candidates.Candidate.TheVariants as candidate
use Rattle.cm_match_model.specs.Origins.{LeadEarlier}
use Rattle.cm_match_model.specs.Imports.{LinkSet, candidates, import_at, import_in, link_of, links_of, only_link}
use Rattle.cm_lemmas.proofs.Options.{some_is}

only_one : (es : List NamedExport) (a b : ℕ) → only es ≡ candidate.One a b → only_link es ≡ Some (record { component = a; export = b })
only_one [] a b h = cc h
only_one (e ∷ []) a b h = cc h
only_one (e ∷ f ∷ es) a b h = cc h

linked_by : (set : LinkSet) (c i a b : ℕ) (o : Option NamedExtern) → option_map (λ x. only (candidates set c i x)) o ≡ Some (candidate.One a b)
    → option_and_then (λ x. link_of set (import_at c i x)) o ≡ Some (record { component = a; export = b })
linked_by set c i a b None h = cc h
linked_by set c i a b (Some x) h = only_one (candidates set c i x) a b (some_is (only (candidates set c i x)) (candidate.One a b) h)

-- the only candidate is of an earlier component
pub one_earlier : (set : LinkSet) (c i a b : ℕ) → LeadEarlier (links_of set) → option_map (λ x. only (candidates set c i x)) (import_in set.spaces c i) ≡ Some (candidate.One a b) → a < c
one_earlier set c i a b early h = early c i (record { component = a; export = b }) (linked_by set c i a b (import_in set.spaces c i) h)
