-- What is settled of a value that can be copied.
use Rattle.std.proofs.Common.{◌≡◌, ◌↔◌, ℕ, ◌^◌, ◌<◌, ◌≤◌, Bool, List, [], ◌∷◌, length, None, sym, ap, subst, ◌∙◌, arith}
use Rattle.std.specs.Prelude.{slice_index}
use Rattle.cm_types.specs.declared.core_value.CoreKind.{CoreKind}
use Rattle.cm_types.specs.declared.core_value.CoreValue.{CoreValue}
use Rattle.cm_types.specs.Types.{Fields}
use Rattle.cm_types.specs.Values.{HasType, Val}
use Rattle.cm_abi_model.specs.declared.encoding.StringEncoding.{StringEncoding}
use Rattle.cm_abi_model.specs.Denotes.{Denotes}
use Rattle.cm_abi_model.specs.Parts.{Part, text_part, element_part}
use Rattle.cm_abi_model.specs.Regions.{AreApart, ArePlaced}
use Rattle.cm_abi_model.specs.Requests.{call_parts, part_requests, tuple_of}
use Rattle.cm_abi_model.specs.Stores.{Given}
use Rattle.cm_abi_model.specs.Views.{View, Way}
use Rattle.cm_abi_model.specs.Ways.{way_of}
use Rattle.cm_abi_model.specs.Answering.{AreCounted, HaveScalars, first_fault, places_of, regions_of}
use Rattle.cm_abi_model.specs.Overlap.{AreDisjoint}
use Rattle.cm_abi_model.specs.Answered.{IsAllAnswered, all_requests}
use Rattle.cm_abi_model.specs.Placing.{regions_at}
use Rattle.cm_abi_model.specs.RecordRequests.{requests_for, tag_before, tags_of}
use Rattle.cm_abi_model.specs.Answered.{Requesting}
use Rattle.cm_abi_model.specs.Scanned.{Scanned}
use Rattle.cm_abi_model.specs.declared.record.PartRecord.{PartRecord}
use Rattle.cm_abi_model.specs.declared.record.PartKind.{PartKind}
use Rattle.cm_abi_model.specs.declared.record.PartKind.TheVariants as record_kind
use Rattle.cm_abi_model.specs.Telling.{TellAll, TellsSource}
use Rattle.cm_abi_model.specs.Copies.{given_by}
use Rattle.cm_abi_copy.specs.Copies.{FoundCanBeCopied}
use Rattle.cm_abi_copy.specs.Settled.{IsSettled}
use Rattle.cm_abi_copy.specs.declared.found.Found.{Found}
use Rattle.cm_abi_copy.proofs.CountLaws.{counted}
use Rattle.cm_abi_model.proofs.TellingLaws.{as_many}
use Rattle.cm_abi_model.proofs.ReceivesLaws.{few_kinds}

-- ---- records and parts

-- a string that is told is spelled in its source
one_spelled : (w : View) (r : PartRecord) (k : PartKind) (p : Part) (rs : List PartRecord) (parts : List Part) → TellsSource w r k p
    → HaveScalars w.encoding (tags_of rs) parts → HaveScalars w.encoding (tag_before k (tags_of rs)) (p ∷ parts)
one_spelled w r (record_kind.Text tag) (text_part scalars) rs parts told rest = (told.text.all, rest)
one_spelled w r (record_kind.Text tag) (element_part count size align) rs parts told rest = absurd told
one_spelled w r record_kind.Elements (text_part scalars) rs parts told rest = absurd told
one_spelled w r record_kind.Elements (element_part count size align) rs parts told rest = (tt, rest)

spelled : (w : View) (target : StringEncoding) (rs : List PartRecord) (parts : List Part) (starts : List ℕ) → TellAll w target rs parts starts → HaveScalars w.encoding (tags_of rs) parts
spelled w target [] [] [] told = tt
spelled w target [] [] (s ∷ starts) told = absurd told
spelled w target [] (p ∷ parts) starts told = absurd told
spelled w target (r ∷ rs) [] starts told = absurd told
spelled w target (r ∷ rs) (p ∷ parts) [] told = absurd told
spelled w target (r ∷ rs) (p ∷ parts) (s ∷ starts) told = one_spelled w r r.kind p rs parts told.0.source (spelled w target rs parts starts told.1)

-- ---- core values

-- ---- laws, as they are told

abbrev pub TypedLaw : Type 0
TypedLaw = (w : View) (way : Way) (types : Fields) (slots : List CoreValue) (v : Val) → ((i : ℕ) → slice_index w.memory i < 2 ^ 8) → Denotes w way types slots v → HasType (tuple_of types) v

abbrev pub CountedLaw : Type 0
CountedLaw = (w : View) (way : Way) (types : Fields) (slots : List CoreValue) (v : Val) (to : Way) → ((i : ℕ) → slice_index w.memory i < 2 ^ 8) → Denotes w way types slots v → AreCounted (call_parts to types v)

abbrev pub PlacedLaw : Type 0
PlacedLaw = (source target : StringEncoding) (tags : List Bool) (ps : List Part) (answers : List ℕ) (memory_length : ℕ) (g : Given)
    → HaveScalars source tags ps → AreCounted ps → length answers ≡ length (part_requests source target tags ps)
    → first_fault memory_length (part_requests source target tags ps) answers ≡ None → g.places ≡ places_of (part_requests source target tags ps) answers
    → ArePlaced target memory_length g 0 ps

abbrev pub ApartLaw : Type 0
ApartLaw = (source target : StringEncoding) (tags : List Bool) (ps : List Part) (answers : List ℕ) (g : Given) → HaveScalars source tags ps
    → length answers ≡ length (part_requests source target tags ps) → g.places ≡ places_of (part_requests source target tags ps) answers
    → AreDisjoint (regions_of (part_requests source target tags ps) answers) ↔ AreApart target g 0 ps

abbrev pub AsksLaw : Type 0
AsksLaw = (w : View) (target : StringEncoding) (rs : List PartRecord) (parts : List Part) (places : List ℕ) → TellAll w target rs parts places
    → requests_for w.encoding target rs ≡ part_requests w.encoding target (tags_of rs) parts

abbrev pub RegionsLaw : Type 0
RegionsLaw = (w : View) (target : StringEncoding) (rs : List PartRecord) (parts : List Part) (starts : List ℕ) (g : Given) → TellAll w target rs parts starts
    → length rs ≤ length g.places → AreDisjoint (regions_at rs g.places) ↔ AreApart target g 0 parts

abbrev pub CountLaw : Type 0
CountLaw = (p : Requesting) (answers : List ℕ) → IsAllAnswered p answers → length answers ≡ length (all_requests p)

abbrev pub PlacesLaw : Type 0
PlacesLaw = (p : Requesting) (answers : List ℕ) → IsAllAnswered p answers → p.places ≡ places_of (all_requests p) answers

abbrev pub EachLaw : Type 0
EachLaw = (p : Requesting) (answers : List ℕ) → IsAllAnswered p answers → length p.places ≡ length p.records

pub record Laws : Type 0 where
  pub typed : TypedLaw
  pub counts : CountedLaw
  pub placed : PlacedLaw
  pub apart : ApartLaw
  pub asks : AsksLaw
  pub regions : RegionsLaw
  pub count : CountLaw
  pub places : PlacesLaw
  pub each : EachLaw

module _ (laws : Laws) (n : ℕ) (kinds : List CoreKind) (giver : View) (f : Found) (s : Scanned) (answers : List ℕ) (types : Fields) (v : Val)
    (bytes : (i : ℕ) → slice_index f.memory.now i < 2 ^ 8) (can : FoundCanBeCopied n kinds giver f s answers types v) where
  abbrev way : Way
  way = way_of f.passed.way

  abbrev ps : List Part
  ps = call_parts way types v

  giver_bytes : (i : ℕ) → slice_index giver.memory i < 2 ^ 8
  giver_bytes i = subst (λ m. slice_index m i < 2 ^ 8) (sym can.memory) (bytes i)

  -- what is asked for, by parts
  asked : all_requests s.parts ≡ part_requests giver.encoding s.parts.target (tags_of s.parts.records) (call_parts (way_of f.passed.way) types v)
  asked = ap (λ e. requests_for e s.parts.target s.parts.records) (sym can.found.encoding) ∙ laws.asks giver s.parts.target s.parts.records (call_parts (way_of f.passed.way) types v) can.found.starts can.found.told

  scalars : HaveScalars giver.encoding (tags_of s.parts.records) (call_parts (way_of f.passed.way) types v)
  scalars = spelled giver s.parts.target s.parts.records (call_parts (way_of f.passed.way) types v) can.found.starts can.found.told

  answered : length answers ≡ length (part_requests giver.encoding s.parts.target (tags_of s.parts.records) (call_parts (way_of f.passed.way) types v))
  answered = laws.count s.parts answers can.answered ∙ ap length asked

  stand : (g : Given) → g.places ≡ s.parts.places → g.places ≡ places_of (part_requests giver.encoding s.parts.target (tags_of s.parts.records) (call_parts (way_of f.passed.way) types v)) answers
  stand g is = is ∙ (laws.places s.parts answers can.answered ∙ ap (λ rs. places_of rs answers) asked)

  by_regions : (g : Given) → g.places ≡ s.parts.places → AreDisjoint (regions_of (all_requests s.parts) answers) ↔ AreApart s.parts.target g 0 (call_parts (way_of f.passed.way) types v)
  by_regions g is =
      subst (λ rs. AreDisjoint (regions_of rs answers) ↔ AreApart s.parts.target g 0 (call_parts (way_of f.passed.way) types v)) (sym asked)
      (laws.apart giver.encoding s.parts.target (tags_of s.parts.records) (call_parts (way_of f.passed.way) types v) answers g scalars answered (stand g is))

  by_records : (g : Given) → g.places ≡ s.parts.places → AreDisjoint (regions_at s.parts.records s.parts.places) ↔ AreApart s.parts.target g 0 (call_parts (way_of f.passed.way) types v)
  by_records g is =
      let many = laws.each s.parts answers can.answered in
      let long = ap length is in
      subst (λ xs. AreDisjoint (regions_at s.parts.records xs) ↔ AreApart s.parts.target g 0 (call_parts (way_of f.passed.way) types v)) is
      (laws.regions giver s.parts.target s.parts.records (call_parts (way_of f.passed.way) types v) can.found.starts g can.found.told (omega (arith, many, long)))

  pub settled : IsSettled n (way_of f.passed.way) s.parts answers types v
  settled =
      let counts = counted giver (way_of f.passed.way) types f.passed.slots.now v giver_bytes can.found.denoted in
      let g = given_by s.parts answers types v (record { instance = 0; call = 0 }) (record { slots = []; freed = [] }) in
      let is : g.places ≡ s.parts.places = sym (laws.places s.parts answers can.answered) in
      record {
        typed = laws.typed giver (way_of f.passed.way) types f.passed.slots.now v giver_bytes can.found.denoted;
        cases = counts.0;
        handles = counts.1;
        few = few_kinds (way_of f.passed.way) types;
        places = laws.places s.parts answers can.answered;
        counted = laws.each s.parts answers can.answered ∙ as_many giver s.parts.target s.parts.records (call_parts (way_of f.passed.way) types v) can.found.starts can.found.told;
        placed = λ h same.
            laws.placed giver.encoding s.parts.target (tags_of s.parts.records) (call_parts (way_of f.passed.way) types v) answers n h scalars
            (laws.counts giver (way_of f.passed.way) types f.passed.slots.now v (way_of f.passed.way) giver_bytes can.found.denoted) answered
            (subst (λ rs. first_fault n rs answers ≡ None) asked can.fine) (stand h same);
        regions = (λ x. (by_regions g is).1 ((by_records g is).0 x), λ x. (by_records g is).1 ((by_regions g is).0 x));
        apart = λ h same x. (by_regions h same).0 x;
      }
