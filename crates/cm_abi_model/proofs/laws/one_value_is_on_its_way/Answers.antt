use Rattle.cm_text.specs.Text.{IsText}
use Rattle.std.proofs.Common.{◌≡◌, ℕ, List}
use Rattle.cm_abi_model.specs.Texts.{Charset, Has, spell, utf8, utf16, latin1}
use Rattle.cm_abi_model.proofs.OneAcross.{one_on_its_way}
use Rattle.cm_abi_model.proofs.laws.one_value_is_on_its_way.Goals as goal

-- the law of each charset
one_text : (c : goal.After-one_list_of_scalars-3) (s : Charset) (cs ds bytes : List ℕ) → IsText (Has s) (spell s) cs bytes
    → IsText (Has s) (spell s) ds bytes → cs ≡ ds
one_text c utf8 = c.one_list_of_scalars.ensures
one_text c utf16 = c.one_list_of_scalars-2.ensures
one_text c latin1 = c.one_list_of_scalars-3.ensures

pub returns : goal.returns
returns c = one_on_its_way (one_text c)
