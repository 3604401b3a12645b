-- Answers that are kept change nothing else of what is kept of a value.
use Rattle.std.proofs.Common.{◌≡◌, List, refl, sym, ap, subst, ◌∙◌}
use Rattle.cm_types.specs.declared.core_value.CoreValue.{CoreValue}
use Rattle.cm_types.specs.Types.{Fields}
use Rattle.cm_types.specs.Values.{Val}
use Rattle.cm_abi_model.specs.Answered.{Requesting}
use Rattle.cm_abi_model.specs.Scanned.{GoesOn, OnlyAsked, Scanned}
use Rattle.cm_abi_model.specs.Views.{View, Way}

pub none_asked : (s : Scanned) → OnlyAsked s s
none_asked s = record { kept = refl; parts = refl }

pub asked_more : (r s t : Scanned) → OnlyAsked r s → OnlyAsked s t → OnlyAsked r t
asked_more r s t first then_ =
    record {
      kept = then_.kept ∙ ap (λ (x : Scanned). record x { parts = t.parts }) first.kept;
      parts = then_.parts ∙ ap (λ (p : Requesting). record p { places = t.parts.places; answered = t.parts.answered; last = t.parts.last }) first.parts;
    }

-- what is kept after answers, with what is asked for written out
abbrev after : Scanned → Scanned → Scanned
after s t = record s { parts = record s.parts { places = t.parts.places; answered = t.parts.answered; last = t.parts.last } }

after_is : (s t : Scanned) → OnlyAsked s t → after s t ≡ t
after_is s t only = ap (λ p. record s { parts = p }) (sym only.parts) ∙ sym only.kept

pub goes_on : (giver : View) (way : Way) (types : Fields) (slots : List CoreValue) (v : Val) (s t : Scanned) → GoesOn giver way types slots v s → OnlyAsked s t → GoesOn giver way types slots v t
goes_on giver way types slots v s t on only =
    subst (GoesOn giver way types slots v) (after_is s t only)
    (record {
      spellable = on.spellable;
      encoding = on.encoding;
      stores = on.stores;
      denoted = on.denoted;
      starts = on.starts;
      told = on.told;
      handles = on.handles;
    })
