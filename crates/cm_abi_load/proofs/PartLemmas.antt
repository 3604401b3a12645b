-- Parts of values, which are read where they are shown.
use Rattle.std.proofs.Common.{◌≡◌, ℕ, List, [], ◌∷◌, refl}
use Rattle.cm_types.specs.Values.{HandleValue, text, handle}
use Rattle.cm_layout.specs.Shapes.{head_of, shape_of_type}
use Rattle.cm_abi_model.specs.Shows.{Shows, ShowsHandle, ShowsOwned}
use Rattle.cm_abi_model.specs.Taken.{lent, met_at, met_text, taken}
use Rattle.cm_abi_model.specs.Texts.{ShowsText}
use Rattle.cm_abi_load.specs.Meeting.{Meets}
use Rattle.cm_abi_load.specs.PartLaws.{BorrowIsRead, BorrowIsShown, ElementsAreRead, ElementsAreShown, OwnIsRead, OwnIsShown, TextIsRead, TextIsShown}
use Rattle.cm_abi_load.specs.Reading.{read_at, seen_by}
use Rattle.cm_abi_load.proofs.FoundLaws.{borrow_found, elements_found, own_found, shown_found, text_found_at}
use Rattle.cm_abi_load.proofs.ReadLaws.{borrow_read, own_read, read_shows, text_shown}
use Rattle.cm_abi_load.proofs.MeetLaws.{meets_text}
use Rattle.cm_abi_load.proofs.ShownLaws.{elements_shown}

pub text_is_shown : TextIsShown
text_is_shown memory e at n table s after v is =
    text_shown (λ u a. (cs : List ℕ) × (u ≡ text cs) × ShowsText e memory at n cs × Meets table s a (met_text e n ∷ [])) memory e at n s after v is
    (λ cs shown room. (cs, refl, shown, meets_text table s e n room))

pub text_is_read : TextIsRead
text_is_read memory e at n cs s shown room = let found = text_found_at memory e at n cs s shown room in (found.after, found.is)

pub elements_are_shown : ElementsAreShown
elements_are_shown w t at n s after vs e =
    elements_shown (read_at (seen_by w) (shape_of_type t)) (Shows w t) w.table (met_at w t) (λ q a b u h. read_shows w t q a b u h) w.memory (head_of t) at n s after vs e

pub elements_are_read : ElementsAreRead
elements_are_read w t at n s vs shown room =
    let found = elements_found (read_at (seen_by w) (shape_of_type t)) (Shows w t) w.table (met_at w t) (λ q a b u e. read_shows w t q a b u e) (λ q a u e r. shown_found w t q a u e r) w.memory (head_of t) at n s vs shown room in
    (found.after, found.is)

pub own_is_shown : OwnIsShown
own_is_shown table index r s after v e =
    own_read (λ u a. (h : HandleValue) × (u ≡ handle h) × ShowsOwned table index r h × Meets table s a (taken index ∷ [])) table index r s after v e
    (λ h shown a met. (h, refl, shown, met))

pub own_is_read : OwnIsRead
own_is_read table index r h s shown = let found = own_found table index r h s shown in (found.after, found.is)

pub borrow_is_shown : BorrowIsShown
borrow_is_shown table index r s after v e =
    borrow_read (λ u a. (h : HandleValue) × (u ≡ handle h) × ShowsHandle table index r h × Meets table s a (lent index ∷ [])) table index r s after v e
    (λ h shown a met. (h, refl, shown, met))

pub borrow_is_read : BorrowIsRead
borrow_is_read table index r h s shown = let found = borrow_found table index r h s shown in (found.after, found.is)
