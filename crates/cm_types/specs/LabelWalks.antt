-- What may follow in a label, by where one stands in it.
use Rattle.std.specs.Prelude.{ℕ, Bool, true, ◌&&◌, ◌==◌, List, [], ◌∷◌}
use Rattle.std.specs.List.{list_all, slice_split}
use Rattle.cm_types.specs.Names.{is_fragment, is_in_acronym, is_in_word, is_label}
use Rattle.cm_types.specs.declared.label_walk.Place.{Place}
use Rattle.cm_types.specs.declared.label_walk.Place.TheVariants as place

-- a fragment ends with the first of these parts, all bytes of which may stand in it, and the other
-- parts are fragments
abbrev pub fragments_end : (ℕ → Bool) → List (List ℕ) → Bool
fragments_end may_stand [] = true
fragments_end may_stand (part ∷ parts) = list_all may_stand part && list_all is_fragment parts

-- a text is what may follow
abbrev pub is_rest : Place → List ℕ → Bool
is_rest place.Before text = is_label text
is_rest place.InWord text = fragments_end is_in_word (slice_split (λ b. b == 45) text)
is_rest place.InAcronym text = fragments_end is_in_acronym (slice_split (λ b. b == 45) text)
