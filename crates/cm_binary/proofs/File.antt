-- Files: what is written spells the component, nothing shorter does, and a component that has a file
-- is within its limits.
use Rattle.std.proofs.Common.{◌≡◌, ℕ, ◌≤◌, List, length, Bool, true, false, Option, Some, None, nat_lt, if◌then◌else◌, refl, arith}
use Rattle.std.specs.List.{flat_map, list_all, sum_by}
use Rattle.std.proofs.lemmas.Bool.{ltb-false, le-ltb}
use Rattle.std.proofs.lemmas.List.{length-append}
use Rattle.cm_binary_grammar.proofs.LeastLaws.{LeastWhole, fixed_least, join_least, at_most_least}
use Rattle.cm_binary_model.specs.Trees.{SectionTree}
use Rattle.cm_binary_model.specs.Spelling.{section_spelling, spelling}
use Rattle.cm_binary_model.specs.Limits.{types_in, has_preamble, limit_fault}
use Rattle.cm_binary_model.specs.Parts.{holds}
use Rattle.cm_binary_model.specs.declared.limits.TheConstants.{MAX_TYPES, MAX_FILE_BYTES, COMPONENT_PREAMBLE}
use Rattle.cm_binary_model.specs.declared.limits.LimitFault.{LimitFault}
use Rattle.cm_binary_model.specs.declared.limits.LimitFault.TheVariants.{TooMany, TooLong, NotAModule}
use Rattle.cm_binary_forms.specs.File.{component, file, Spells}
use Rattle.cm_binary.proofs.SectionBytes.{sections_least, sections_write, sections_keep}

-- ---- nothing shorter

component_least : LeastWhole component (λ c. length (spelling c))
unfolding component
component_least = join_least _ _ (fixed_least _ _) (λ preamble. record { bound = λ c bytes s. omega (arith, (sections_least MAX_TYPES).bound c bytes s, length-append COMPONENT_PREAMBLE (flat_map section_spelling c)) })

pub file_least : LeastWhole file (λ c. length (spelling c))
unfolding file
file_least = at_most_least _ _ _ component_least

-- ---- the limits, one by one

record Limits (c : List SectionTree) : Type 0 where
  pub types : sum_by types_in c ≤ MAX_TYPES
  pub bytes : length (spelling c) ≤ MAX_FILE_BYTES
  pub begun : list_all has_preamble c ≡ true

abbrev first_of : Bool → Bool → Bool → Option LimitFault
first_of many long begun = if many then Some TooMany else if long then Some TooLong else if begun then None else Some NotAModule

none_of : (many long begun : Bool) → first_of many long begun ≡ None → (many ≡ false) × (long ≡ false) × (begun ≡ true)
none_of true long begun e = absurd cc
none_of false true begun e = absurd cc
none_of false false true e = (refl, refl, refl)
none_of false false false e = absurd cc

limits_parts : (c : List SectionTree) → limit_fault c ≡ None → Limits c
limits_parts c e =
    let p = none_of (nat_lt MAX_TYPES (sum_by types_in c)) (nat_lt MAX_FILE_BYTES (length (spelling c))) (list_all has_preamble c) e in
    record { types = ltb-false _ _ p.0; bytes = ltb-false _ _ p.1; begun = p.2 }

from_limits : (c : List SectionTree) → Limits c → limit_fault c ≡ None
from_limits c l = rw (le-ltb _ _ l.types, le-ltb _ _ l.bytes, l.begun) refl

-- ---- what has a file, and what is written

pub spelled_within : (c : List SectionTree) (bytes : List ℕ) → Spells c bytes → limit_fault c ≡ None
unfolding file component
spelled_within c bytes s =
    let keeps = sections_keep MAX_TYPES c s.1.2 s.1.4 in
    from_limits c (record { types = keeps.0; bytes = omega (arith, file_least.bound c bytes s, s.0); begun = keeps.1 })

pub file_written : (c : List SectionTree) → limit_fault c ≡ None → list_all holds c ≡ true → Spells c (spelling c)
unfolding file component
file_written c e h =
    let l = limits_parts c e in
    let lengths = length-append COMPONENT_PREAMBLE (flat_map section_spelling c) in
    (l.bytes, (tt, COMPONENT_PREAMBLE, flat_map section_spelling c, refl, sections_write MAX_TYPES c l.types l.begun h (omega (arith, lengths, l.bytes)), refl))
