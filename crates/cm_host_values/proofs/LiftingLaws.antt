-- What a host reads is given by its memory alone.
use Rattle.std.proofs.Common.{◌≡◌, ℕ, List, sym}
use Rattle.cm_handles.specs.Handles.{Handles, no_handles}
use Rattle.cm_handles.proofs.HandlesLaws.{none_there}
use Rattle.cm_abi_model.specs.declared.encoding.StringEncoding.{StringEncoding}
use Rattle.cm_abi_model.specs.Lifts.{IsGivenBy, LendsBelow}
use Rattle.cm_abi_model.specs.Views.{View}
use Rattle.cm_host_values.specs.Sees.{host_of}
use Rattle.cm_host_values.specs.Reading.{IsReadIn}

pub given_by : (w : View) (memory : List ℕ) (table : Handles) (encoding : StringEncoding) → IsReadIn encoding w memory → table ≡ no_handles → IsGivenBy (host_of w) memory table encoding
given_by w memory table encoding r e = record { memory_is = r.memory_is; table_is = sym e; encoding_is = r.encoding_is }

pub none_lent : (n : ℕ) (table : Handles) → table ≡ no_handles → LendsBelow n table
none_lent n table e = rw e (λ index h there. absurd (let nothing = none_there index in cc))
