-- Numbers, texts and names: what is written spells them, and nothing shorter does.
use Rattle.std.proofs.Common.{◌≡◌, ℕ, ◌<◌, ◌^◌, List, length, true, refl, arith}
use Rattle.std.specs.Str.{is_utf8}
use Rattle.std.proofs.lemmas.Bool.{and_parts, ltb-true}
use Rattle.cm_leb.specs.NumbersWritten.{shortest_unsigned}
use Rattle.cm_binary_grammar.specs.Spelling.{blob_spelling}
use Rattle.cm_binary_grammar.proofs.LeastLaws.{Least, bind_least, number_least, check_least, fixed_least, counted_least}
use Rattle.cm_binary_grammar.proofs.WrittenLaws.{Spelled, Writes, bind_written, number_written, fixed_written, check_written, raw_written, text_written}
use Rattle.cm_types.specs.Names.{is_label}
use Rattle.cm_types.specs.ExternNames.{is_extern_name}
use Rattle.cm_binary_model.specs.Spelling.{extern_name_spelling}
use Rattle.cm_binary_model.specs.Parts.{is_index, holds_name}
use Rattle.cm_binary_forms.specs.declared.fault.DecodeReason.TheVariants.{BadUtf8, BadName}
use Rattle.cm_binary_forms.specs.Texts.{index, text, label, plain_name, extern_name}

pub index_least : Least index (λ n. length (shortest_unsigned n))
index_least = number_least _

pub text_least : Least text (λ x. length (blob_spelling x))
unfolding text
text_least = bind_least _ _ index_least (λ n. check_least _ _ _ (counted_least n))

pub label_least : Least label (λ x. length (blob_spelling x))
unfolding label
label_least = bind_least _ _ index_least (λ n. check_least _ _ _ (check_least _ _ _ (counted_least n)))

pub plain_name_least : Least plain_name (λ x. length (blob_spelling x))
unfolding plain_name
plain_name_least = bind_least _ _ index_least (λ n. check_least _ _ _ (check_least _ _ _ (counted_least n)))

pub extern_name_least : Least extern_name (λ x. length (extern_name_spelling x))
unfolding extern_name
extern_name_least = bind_least _ _ (fixed_least _ _) (λ plain. record { bound = λ x bytes s. omega (arith, plain_name_least.bound x bytes s) })

pub index_written : (n : ℕ) → is_index n ≡ true → Spelled index n (shortest_unsigned n)
index_written n h = number_written n (ltb-true n (2 ^ 32) h)

pub text_writes : Writes text is_utf8 blob_spelling
unfolding text
text_writes x h lt = text_written _ x lt (check_written is_utf8 BadUtf8 h (raw_written x))

pub label_written : (x : List ℕ) → is_utf8 x ≡ true → is_label x ≡ true → length (blob_spelling x) < 2 ^ 32 → Spelled label x (blob_spelling x)
unfolding label
label_written x utf8 name lt = text_written _ x lt (check_written is_label BadName name (check_written is_utf8 BadUtf8 utf8 (raw_written x)))

pub plain_name_writes : Writes plain_name holds_name blob_spelling
unfolding plain_name
plain_name_writes x h lt =
    let both = and_parts (is_utf8 x) (is_extern_name x) h in
    text_written _ x lt (check_written is_extern_name BadName both.1 (check_written is_utf8 BadUtf8 both.0 (raw_written x)))

pub extern_name_writes : Writes extern_name holds_name extern_name_spelling
unfolding extern_name
extern_name_writes x h lt = bind_written _ fixed_written (plain_name_writes x h (omega (arith, lt))) refl
