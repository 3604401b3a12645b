use Rattle.std.proofs.Common.{ap, map, ◌++◌}
use Rattle.cm_layout.specs.Layouts.{payload_of}
use Rattle.cm_layout.specs.Shapes.{payloads_of}
use Rattle.cm_layout.proofs.HeadLaws.{no_case_taken}
use Rattle.cm_layout.proofs.builders.CasesBuilder.with_capacity.Goals as goal

pub returns : goal.returns
returns c all few =
    record {
      numbers = no_case_taken all c.none.result c.none.ensures few;
      payloads = ap (λ xs. map payload_of xs ++ payloads_of all) c.in_ok-with_capacity.ensures.items;
    }
