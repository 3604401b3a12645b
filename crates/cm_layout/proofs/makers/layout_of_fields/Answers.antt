use Rattle.cm_types.specs.Types.{fields, tuple_type}
use Rattle.cm_types.specs.TypeTrees.{fields_of}
use Rattle.cm_layout.proofs.LawsOfLayouts.{all_laid, all_marked}
use Rattle.cm_layout.proofs.makers.layout_of_fields.Goals as goal

pub returns-clause-laid : goal.returns-clause-laid
returns-clause-laid c = all_laid (fields tuple_type (fields_of c.args.fields.now)) c.fields_layout.result c.fields_layout.ensures.tuple

pub returns-clause-marked : goal.returns-clause-marked
returns-clause-marked c = all_marked (fields tuple_type (fields_of c.args.fields.now)) c.fields_layout.result c.fields_layout.ensures.tuple
