use Rattle.std.proofs.Common.{◌∙◌, ap, map, ◌++◌}
use Rattle.cm_layout.specs.Layouts.{part_of}
use Rattle.cm_layout.specs.Shapes.{parts_at}
use Rattle.cm_layout.proofs.HeadLaws.{no_field_taken}
use Rattle.cm_layout.proofs.builders.FieldsBuilder.with_capacity.Goals as goal

pub returns : goal.returns
returns c all few =
    record {
      numbers = no_field_taken all c.none.result c.none.ensures few;
      parts = ap (λ xs. map part_of xs ++ parts_at all c.none.result.end) c.in_ok-with_capacity.ensures.items ∙ ap (λ s. parts_at all s.end) c.none.ensures;
    }
