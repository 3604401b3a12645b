use Rattle.std.proofs.Common.{[], ◌∷◌, sym, ◌∙◌}
use Rattle.cm_abi_requests.specs.Sizes.{sizes_seen}
use Rattle.cm_abi_requests.proofs.StageSeen.{next_askable, sizes_past, sizes_there}
use Rattle.cm_abi_requests.proofs.part_requests.sizes_at.Goals as goal

pub sizes_for-requires : goal.sizes_for-requires
sizes_for-requires c = record { askable = next_askable c.args.records.now c.args.at c.in-Some.part c.requires.askable (sym c.part_at.ensures ∙ c.in-Some.is) }

pub returns-in-Some : goal.returns-in-Some
returns-in-Some c =
    sizes_there c.args.encodings.source c.args.encodings.target c.args.records.now c.args.at c.in-Some.part (sizes_seen c.sizes_for.result) (sym c.part_at.ensures ∙ c.in-Some.is) c.sizes_for.ensures

pub returns-in-None : goal.returns-in-None
returns-in-None c = sizes_past c.args.encodings.source c.args.encodings.target c.args.records.now c.args.at (0 ∷ []) (sym c.part_at.ensures ∙ c.in-None.is)
