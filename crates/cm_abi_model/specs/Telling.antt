-- What the records of a value tell of its parts (CanonicalABI.md, "Loading" and "Storing" of
-- strings and lists; that this is kept of each part is this project's own choice).
use Rattle.std.specs.Prelude.{◌≡◌, ℕ, ◌<◌, ⊤, List, [], ◌∷◌, length}
use Rattle.cm_text.specs.Text.{IsText}
use Rattle.cm_abi_model.specs.declared.encoding.StringEncoding.{StringEncoding}
use Rattle.cm_abi_model.specs.declared.record.PartKind.{PartKind}
use Rattle.cm_abi_model.specs.declared.record.PartKind.TheVariants as kind
use Rattle.cm_abi_model.specs.declared.record.PartRecord.{PartRecord}
use Rattle.cm_abi_model.specs.Parts.{Part, text_part, element_part}
use Rattle.cm_abi_model.specs.Regions.{part_size}
use Rattle.cm_abi_model.specs.Requests.{read_charset, part_align, text_bytes, text_units}
use Rattle.cm_abi_model.specs.Texts.{Charset, Has, bytes_from, spell}
use Rattle.cm_abi_model.specs.Views.{View}

-- a record tells a string of these scalars: it has so many units in this charset, and the bytes at
-- its place are their text
pub record TellsText (w : View) (s : Charset) (r : PartRecord) (scalars : List ℕ) : Type 0 where
  pub units : r.count ≡ text_units s scalars
  pub text : IsText (Has s) (spell s) scalars
      (bytes_from w.memory r.at (length (text_bytes s scalars)))

-- a record of this kind tells the part as it stands in its source: a string by its tag, the
-- elements of a list by how many they are
abbrev pub TellsSource : View → PartRecord → PartKind → Part → Type 0
TellsSource w r (kind.Text tag) (text_part scalars) =
    TellsText w (read_charset w.encoding tag) r scalars
TellsSource w r kind.Elements (element_part count size align) = r.count ≡ count
TellsSource w r k part = ⊥

-- a record tells a part that stands at a place of a view's memory: what it is there, and how many
-- bytes it takes where it is stored, and at which alignment, which is above 0
pub record Tells (w : View) (target : StringEncoding) (r : PartRecord) (part : Part) (at : ℕ)
    : Type 0 where
  pub place : r.at ≡ at
  pub source : TellsSource w r r.kind part
  pub size : r.size ≡ part_size target part
  pub align : r.align ≡ part_align target part
  pub aligned : 0 < r.align

-- records tell parts, each at its place: one for one and in order
abbrev pub TellAll : View → StringEncoding → List PartRecord → List Part → List ℕ → Type 0
TellAll w target [] [] [] = ⊤
TellAll w target (r ∷ rs) (part ∷ parts) (at ∷ places) =
    Tells w target r part at × TellAll w target rs parts places
TellAll w target rs parts places = ⊥
