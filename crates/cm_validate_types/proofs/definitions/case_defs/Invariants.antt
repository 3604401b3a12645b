use Rattle.std.proofs.Common.{◌≡◌, ◌+◌, map, take, drop, length, is_some}
use Rattle.cm_types.specs.TypeTrees.{case_of, cases_of}
use Rattle.cm_types_arena.specs.Arena.{payload_types}
use Rattle.cm_types_arena.specs.TypeDefs.{payload_places}
use Rattle.cm_validate_types.proofs.definitions.case_defs.Given as goal

-- the definitions so far have the labels and the payloads so far, and as many payloads are left as
-- the other cases carry
abbrev pub invariant-loop-case : goal.invariant-loop-case
invariant-loop-case l = record {
  labels : map (λ d. d.label) l.defs.items ≡ map (λ c. (case_of c).0) (take l.case-index l.cases);
  carrying : map (λ d. is_some d.payload) l.defs.items ≡ map (λ c. is_some (case_of c).1) (take l.case-index l.cases);
  places : payload_places l.defs.items ≡ take l.used l.payloads;
  left : l.used + length (payload_types (cases_of (drop l.case-index l.cases))) ≡ length l.payloads;
}
