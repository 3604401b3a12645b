use Rattle.std.proofs.Common.{length, refl}
use Rattle.cm_types.specs.Types.{enum_type}
use Rattle.cm_layout.proofs.HeadLaws.{enum_taken}
use Rattle.cm_layout.proofs.measures.enum_head.Goals as goal

pub returns : goal.returns
returns c =
    enum_taken enum_type c.args.labels.now (length c.args.labels.now) c.discriminant_size.result c.unit.result refl c.discriminant_size.ensures.value c.unit.ensures
