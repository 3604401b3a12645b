use Rattle.std.proofs.Common.{◌≡◌}
use Rattle.cm_types.specs.TypeTrees.{cases_of}
use Rattle.cm_types.specs.Types.{variant_type}
use Rattle.cm_values.specs.CaseNames.{case_names}
use Rattle.cm_values.specs.Words.{place_in}
use Rattle.cm_values.proofs.NameLaws.{place_from}
use Rattle.cm_values.proofs.names.place_of_case.Given as goal

abbrev pub invariant-loop-place : goal.invariant-loop-place
invariant-loop-place l = place_from l.cases l.name l.place ≡ place_in (case_names variant_type (cases_of l.cases)) l.name
