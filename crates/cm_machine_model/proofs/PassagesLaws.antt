-- Laws of what Passages defines, for this crate and those above it.
use Rattle.std.proofs.Common.{List, ℕ, subst, sym, ◌∙◌, ◌≡◌, ap}
use Rattle.cm_abi_model.specs.Denotes.{Denotes}
use Rattle.cm_abi_model.specs.RecordRequests.{tags_of}
use Rattle.cm_abi_model.specs.Requests.{call_parts, requests}
use Rattle.cm_abi_model.specs.Telling.{TellAll}
use Rattle.cm_abi_model.specs.Views.{Way}
use Rattle.cm_abi_model.specs.declared.record.PartRecord.{PartRecord}
use Rattle.cm_abi_model.specs.declared.request.Request.{Request}
use Rattle.cm_machine_model.specs.Passages.{IsAnswered, Carries, asked_for}
use Rattle.cm_machine_model.specs.Plan.{Link, types_of, receiver_side, giver_side}
use Rattle.cm_machine_model.specs.State.{Passage}
use Rattle.cm_types.specs.Values.{Val}
use Rattle.cm_types.specs.declared.core_value.CoreValue.{CoreValue}

pub carried_by : (memory : List ℕ) (l : Link) (way : Way) (rs : List Request) (p : Passage) (a : ℕ) (q : Passage) (v : Val) → IsAnswered rs p a q → Carries memory l way p v → Carries memory l way q v
carried_by memory l way rs p a q v is c = record {
  view = c.view;
  memory_is = c.memory_is;
  encoding_is = c.encoding_is;
  denoted = subst (λ (xs : List CoreValue). Denotes c.view way (types_of l way) xs v) (sym is.slots) c.denoted;
  handles = is.leaves ∙ c.handles;
  starts = c.starts;
  told = subst (λ (xs : List PartRecord). TellAll c.view (receiver_side l way).encoding xs (call_parts way (types_of l way) v) c.starts) (sym is.records) c.told;
}

pub asked_on : (l : Link) (way : Way) (rs : List Request) (p : Passage) (a : ℕ) (q : Passage) (v : Val) → IsAnswered rs p a q → asked_for l way q v ≡ asked_for l way p v
asked_on l way rs p a q v is = ap (λ (xs : List PartRecord). requests way (types_of l way) v (giver_side l way).encoding (receiver_side l way).encoding (tags_of xs)) is.records
