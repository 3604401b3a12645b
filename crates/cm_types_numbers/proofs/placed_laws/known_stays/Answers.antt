use Rattle.cm_types_arena.specs.Places.{funcs_of, types_of}
use Rattle.cm_types_numbers.proofs.PlacedStays.{all_funcs_stay, types_stay}
use Rattle.cm_types_numbers.proofs.placed_laws.known_stays.Goals as goal

pub returns : goal.returns
returns c = λ old new s arena known e knows. record {
  types = types_stay old new (λ u us ns. c.numbers_stay.ensures.types old new u us ns e) s (types_of arena) known.types knows.types;
  funcs = all_funcs_stay old new (λ u us ns. c.numbers_stay.ensures.funcs old new u us ns e) s (funcs_of arena) known.funcs knows.funcs;
}
