-- What the records of a value tell of its parts (CanonicalABI.md, "Loading" and "Storing" of
-- strings and lists; that this is kept of each part is this project's own choice).
use Rattle.std.specs.Prelude.{◌≡◌, ℕ, ◌<◌, ⊤, List, [], ◌∷◌, length}
use Rattle.cm_types.specs.Types.{Ty, list}
use Rattle.cm_types.specs.Values.{Vals, elements, text}
use Rattle.cm_layout.specs.Shapes.{head_of, shape_of_type}
use Rattle.cm_layout.specs.Sizes.{align_of, size_of}
use Rattle.cm_abi_model.specs.declared.encoding.StringEncoding.{StringEncoding}
use Rattle.cm_abi_model.specs.Parts.{Part, text_part, element_part, parts_in}
use Rattle.cm_abi_model.specs.Regions.{part_size}
use Rattle.cm_abi_model.specs.Requests.{read_charset, part_align, text_bytes, text_units}
use Rattle.cm_abi_model.specs.Shows.{Shows, ShowsElements}
use Rattle.cm_abi_model.specs.Texts.{Charset, Has, ShowsText, bytes_from, spell}
use Rattle.cm_abi_model.specs.Telling.{TellAll, Tells}
use Rattle.cm_abi_model.specs.Views.{View}
use Rattle.cm_text.specs.Text.{IsText}
use Rattle.cm_abi_load.specs.Reading.{seen_by}
use Rattle.cm_abi_model.specs.Places.{places_at, places_each}
use Rattle.cm_abi_lift.specs.Records.{records_at, records_of_list, text_record}
use Rattle.cm_abi_model.specs.declared.record.PartRecord.{PartRecord}
use Rattle.cm_abi_model.specs.declared.record.PartKind.{PartKind}
use Rattle.cm_abi_model.specs.declared.record.PartKind.TheVariants as kind

-- the record of a string that is shown at a pointer describes it
abbrev pub TextIsTold : Type 0
TextIsTold =
    (w : View) (target : StringEncoding) (at n : ℕ) (scalars : List ℕ)
    → ShowsText w.encoding w.memory at n scalars
    → Tells w target (text_record w.encoding target at n (text scalars)) (text_part scalars) at

-- elements that are shown at a pointer are told by their records, and so are their parts
abbrev pub ElementsAreTold : Type 0
ElementsAreTold =
    (w : View) (target : StringEncoding) (t : Ty) (at n : ℕ) (vs : Vals)
    → ShowsElements (Shows w t) w.memory (align_of t) (size_of t) at n vs
    → TellAll w target
    (records_of_list (records_at (seen_by w) target (shape_of_type t)) (head_of t) at n
    (elements vs))
    (parts_in (list t) (elements vs)) (at ∷ places_each (places_at w t) (size_of t) at vs)
