-- What values the code's strings are.
use Rattle.std.proofs.Common.{◌≡◌, Ok, Global, sym, ap}
use Rattle.std.specs.Str.{chars}
use Rattle.std.specs.String.{string_bytes}
use Rattle.std.specs.declared.string.String.{String}
use Rattle.cm_types.specs.Values.{Val, text}
use Rattle.cm_types.specs.ValueTrees.{value_of}
use Rattle.cm_types.specs.declared.values.Value.TheVariants as leaf
use Rattle.cm_abi_load.specs.Outcomes.{Outcome, State}
use Rattle.cm_types.proofs.TypedValueLemmas.{seen_String}

abbrev shown : Val → State → Outcome Val
shown v s = Ok (v, s)

pub seen_text : (t : String Global) (s : State) → shown (text (chars (string_bytes t))) s ≡ shown (value_of (leaf.String t)) s
seen_text t s = ap (λ v. shown v s) (sym (seen_String t))
