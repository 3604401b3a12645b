-- Laws of what Receives defines, for this crate and those above it.
use Rattle.std.proofs.Common.{length, ◌≤◌, refl, arith}
use Rattle.cm_abi_model.proofs.SharedLaws.{few_by}
use Rattle.cm_abi_model.specs.Receives.{call_kinds}
use Rattle.cm_abi_model.specs.Requests.{is_spilled}
use Rattle.cm_abi_model.specs.Views.{Way, params, flat_limit, results}
use Rattle.cm_layout.specs.Flattening.{flat_of_fields}
use Rattle.cm_types.specs.Types.{Fields}
use Rattle.cm_types.specs.declared.limits.TheConstants.{MAX_FLAT_PARAMS}

pub few_kinds : (way : Way) (types : Fields) → length (call_kinds way types) ≤ MAX_FLAT_PARAMS
few_kinds params types = few_by (is_spilled params types) (flat_limit params) (flat_of_fields types) refl (omega arith)
few_kinds results types = few_by (is_spilled results types) (flat_limit results) (flat_of_fields types) refl (omega arith)
