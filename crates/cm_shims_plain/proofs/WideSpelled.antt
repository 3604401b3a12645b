-- What spells a file without shims spells it as a file that may have shims, too.
use Rattle.std.proofs.Common.{◌≡◌, ℕ, zero, suc, ◌==◌, Bool, true, false, List, [], ◌∷◌, ◌++◌, length, map, Some, None, Result, Ok, Err, refl, sym, ap, subst, ◌∙◌, append-nil, inl, inr, ◌⊎◌, arith, if◌then◌else◌}
use Rattle.std.proofs.lemmas.Bool.{cases_Bool, eqb-true}
use Rattle.cm_binary_grammar.specs.Grammar.{times}
use Rattle.cm_binary_grammar.specs.Whole.{SpellsEach}
use Rattle.cm_binary_model.specs.declared.externs.ExternDesc.{ExternDesc}
use Rattle.cm_binary_model.specs.declared.externs.Import.{Import}
use Rattle.cm_binary_model.specs.declared.instances.InlineExport.{InlineExport}
use Rattle.cm_binary_model.specs.Trees as sections
use Rattle.cm_binary_model.specs.Trees.{SectionTree}
use Rattle.cm_binary_forms.specs.declared.fault.DecodeReason.{DecodeReason}
use Rattle.cm_binary_forms.specs.declared.codes.SectionKind.{SectionKind}
use Rattle.cm_binary_forms.specs.declared.codes.SectionKind.TheVariants as kinds
use Rattle.cm_binary_forms.specs.declared.codes.InstanceForm.{InstanceForm}
use Rattle.cm_binary_forms.specs.declared.codes.DescForm.{DescForm}
use Rattle.cm_binary_forms.specs.declared.codes.DescForm.TheVariants as desc_forms
use Rattle.cm_binary_model.specs.declared.limits.TheConstants.{MAX_TYPES}
use Rattle.cm_binary_forms.specs.Codes.{is_from, section_kind, instance_form, desc_form}
use Rattle.cm_lemmas.proofs.Equations.{ok_is}
use Rattle.cm_lemmas.proofs.Results.{ok_of}
use Rattle.cm_binary_forms.specs.Texts.{Production, index, vector}
use Rattle.cm_binary_forms.specs.Instances.{instance_item}
use Rattle.cm_binary_forms.specs.Externs.{extern_desc_of, extern_desc, import_item}
use Rattle.cm_binary_forms.specs.Sections.{contents, section, room_after, sections as section_list}
use Rattle.cm_binary_forms.specs.File.{file, component}
use Rattle.cm_shims_plain.specs.Codes as wide
use Rattle.cm_shims_plain.specs.declared.codes.InstanceForm.TheVariants as wide_forms
use Rattle.cm_shims_plain.specs.declared.codes.WideDescForm.{WideDescForm}
use Rattle.cm_shims_plain.specs.declared.codes.WideDescForm.TheVariants as wide_desc_forms
use Rattle.cm_shims_plain.specs.declared.codes.WideKind.{WideKind}
use Rattle.cm_shims_plain.specs.declared.codes.WideKind.TheVariants as wide_kinds
use Rattle.cm_shims_plain.specs.Items.{wide_instance_of, wide_instance, wide_desc_of, wide_desc, wide_import}
use Rattle.cm_shims_plain.specs.Sections.{wide_contents, wide_section_of, wide_section, wide_room_after, wide_sections}
use Rattle.cm_shims_plain.specs.File.{wide_file, wide_component}
use Rattle.cm_shims_plain.specs.Trees as trees
use Rattle.cm_shims_plain.specs.Widened.{widened, widened_desc, widened_import}

-- ---- lists of items

each_spelled : {A B : Type 0} (g : Production A) (h : Production B) (f : A → B) → ((x : A) (bytes : List ℕ) → g.Spells x bytes → h.Spells (f x) bytes) → (n : ℕ) (xs : List A) (bytes : List ℕ) → (times g n).Spells xs bytes → (times h n).Spells (map f xs) bytes
each_spelled g h f each zero xs bytes s = rw s.0 (refl, s.1)
each_spelled g h f each (suc n) xs bytes s =
    let more = s.4 in
    let done = more.4 in
    (f s.0, s.1, s.2, each s.0 s.1 s.3, (map f more.0, more.1, more.2, each_spelled g h f each n more.0 more.1 more.3, (rw done.0 refl, done.1), more.5), s.5)

vector_spelled : {A B : Type 0} (g : Production A) (h : Production B) (f : A → B) → ((x : A) (bytes : List ℕ) → g.Spells x bytes → h.Spells (f x) bytes) → (xs : List A) (bytes : List ℕ) → (vector g).Spells xs bytes → (vector h).Spells (map f xs) bytes
vector_spelled g h f each xs bytes s = (s.0, s.1, s.2, s.3, each_spelled g h f each s.0 xs s.2 s.4, s.5)

-- ---- codes

-- What a table answers at a byte, by its first line and the others.
one_of : {K P : Type 0} (b n : ℕ) (r rest : Result K DecodeReason) (k : K) → (b ≡ n → r ≡ Ok k → P) → (rest ≡ Ok k → P) → (if b == n then r else rest) ≡ Ok k → P
one_of b n r rest k there behind h =
    elim (cases_Bool (b == n)) [
      | inl t ↦ there (eqb-true b n t) (rw t at h)
      | inr f ↦ behind (rw f at h)
    ]

no_answer : {K P : Type 0} (r : DecodeReason) (k : K) → Err r ≡ Ok k → P
no_answer r k h = absurd cc

neither : {K P : Type 0} (t : Bool) (r q : DecodeReason) (k : K) → (if t then Err r else Err q) ≡ Ok k → P
neither true r q k h = no_answer r k h
neither false r q k h = no_answer q k h

instance_code : (b : ℕ) (k : InstanceForm) → instance_form b ≡ Ok k → wide.instance_form b ≡ Ok wide_forms.Exports
instance_code b k h = one_of b 0x00 _ _ k (λ p q. no_answer _ k q) (λ h. one_of b 0x01 _ _ k (λ p q. rw p refl) (λ h. no_answer _ k h) h) h

abbrev wide_desc_form_of : DescForm → WideDescForm
wide_desc_form_of desc_forms.Func = wide_desc_forms.Func
wide_desc_form_of desc_forms.Instance = wide_desc_forms.Instance

desc_at : (b n : ℕ) (f k : DescForm) → wide.wide_desc_form n ≡ Ok (wide_desc_form_of f) → b ≡ n → ok_of DecodeReason f ≡ ok_of DecodeReason k → wide.wide_desc_form b ≡ Ok (wide_desc_form_of k)
desc_at b n f k at p q =
    let same : f ≡ k = ok_is DecodeReason f k q in
    rw (p, ← same) at

desc_code : (b : ℕ) (k : DescForm) → desc_form b ≡ Ok k → wide.wide_desc_form b ≡ Ok (wide_desc_form_of k)
desc_code b k h = one_of b 0x01 _ _ k (desc_at b 0x01 desc_forms.Func k refl) (λ h. one_of b 0x05 _ _ k (desc_at b 0x05 desc_forms.Instance k refl) (λ h. neither (is_from 0x00 0x05 b) _ _ k h) h) h

-- A kind of section that has no more forms where there may be shims.
abbrev Narrow : SectionKind → Type 0
Narrow kinds.Instances = ⊥
Narrow kinds.Imports = ⊥
Narrow kind = Unit {0}

-- What a section's id says of its kind.
abbrev KindIs : ℕ → SectionKind → Type 0
KindIs b kind = ((wide.wide_kind b ≡ None) × Narrow kind)
    ⊎ (((wide.wide_kind b ≡ Some wide_kinds.Instances) × (kind ≡ kinds.Instances))
    ⊎ ((wide.wide_kind b ≡ Some wide_kinds.Imports) × (kind ≡ kinds.Imports)))

narrow_at : (b n : ℕ) (k kind : SectionKind) → wide.wide_kind n ≡ None → Narrow k → b ≡ n → ok_of DecodeReason k ≡ ok_of DecodeReason kind → KindIs b kind
narrow_at b n k kind none narrow p q = inl (rw p none, subst Narrow (ok_is DecodeReason k kind q) narrow)

kind_is : (b : ℕ) (kind : SectionKind) → section_kind b ≡ Ok kind → KindIs b kind
kind_is b kind h =
    one_of b 0x00 _ _ kind (narrow_at b 0x00 kinds.Custom kind refl tt) (λ h.
    one_of b 0x01 _ _ kind (narrow_at b 0x01 kinds.CoreModule kind refl tt) (λ h.
    one_of b 0x02 _ _ kind (narrow_at b 0x02 kinds.CoreInstances kind refl tt) (λ h.
    one_of b 0x03 _ _ kind (λ p q. no_answer _ kind q) (λ h.
    one_of b 0x04 _ _ kind (λ p q. no_answer _ kind q) (λ h.
    one_of b 0x05 _ _ kind (λ p q. inr (inl (rw p refl, sym (ok_is DecodeReason kinds.Instances kind q)))) (λ h.
    one_of b 0x06 _ _ kind (narrow_at b 0x06 kinds.Aliases kind refl tt) (λ h.
    one_of b 0x07 _ _ kind (narrow_at b 0x07 kinds.Types kind refl tt) (λ h.
    one_of b 0x08 _ _ kind (narrow_at b 0x08 kinds.Canons kind refl tt) (λ h.
    one_of b 0x09 _ _ kind (λ p q. no_answer _ kind q) (λ h.
    one_of b 0x0a _ _ kind (λ p q. inr (inr (rw p refl, sym (ok_is DecodeReason kinds.Imports kind q)))) (λ h.
    one_of b 0x0b _ _ kind (narrow_at b 0x0b kinds.Exports kind refl tt) (λ h.
    no_answer _ kind h) h) h) h) h) h) h) h) h) h) h) h) h

-- ---- items

instance_spelled : (x : List InlineExport) (bytes : List ℕ) → instance_item.Spells x bytes → wide_instance.Spells (trees.of_exports x) bytes
unfolding instance_item wide_instance wide_instance_of
instance_spelled x bytes s =
    let c = s.3 in
    (wide_forms.Exports, s.1, s.2, (c.0, c.1, instance_code c.0 s.0 c.2), (x, s.2, [], s.4, (refl, refl), sym (append-nil s.2)), s.5)

desc_of_spelled : (f : DescForm) (d : ExternDesc) (bytes : List ℕ) → (extern_desc_of f).Spells d bytes → (wide_desc_of (wide_desc_form_of f)).Spells (widened_desc d) bytes
unfolding extern_desc_of wide_desc_of
desc_of_spelled desc_forms.Func d bytes s = (s.0, s.1, s.2, s.3, (rw s.4.0 refl, s.4.1), s.5)
desc_of_spelled desc_forms.Instance d bytes s = (s.0, s.1, s.2, s.3, (rw s.4.0 refl, s.4.1), s.5)

desc_spelled : (d : ExternDesc) (bytes : List ℕ) → extern_desc.Spells d bytes → wide_desc.Spells (widened_desc d) bytes
unfolding extern_desc wide_desc
desc_spelled d bytes s =
    let c = s.3 in
    (wide_desc_form_of s.0, s.1, s.2, (c.0, c.1, desc_code c.0 s.0 c.2), desc_of_spelled s.0 d s.2 s.4, s.5)

import_spelled : (i : Import) (bytes : List ℕ) → import_item.Spells i bytes → wide_import.Spells (widened_import i) bytes
unfolding import_item wide_import
import_spelled i bytes s =
    let more = s.4 in
    (s.0, s.1, s.2, s.3, (widened_desc more.0, more.1, more.2, desc_spelled more.0 more.1 more.3, (rw more.4.0 refl, more.4.1), more.5), s.5)

-- ---- sections

-- A section of another kind is one of the plain ones.
stays_plain : (room : ℕ) (kind : SectionKind) (s : SectionTree) (bytes : List ℕ) → Narrow kind → (contents room kind).Spells s bytes → widened s ≡ trees.plain_section s
unfolding contents
stays_plain room kinds.Custom s bytes n h = rw h.4.2 refl
stays_plain room kinds.CoreModule s bytes n h = rw h.2 refl
stays_plain room kinds.CoreInstances s bytes n h = rw h.2 refl
stays_plain room kinds.Instances s bytes n h = absurd n
stays_plain room kinds.Aliases s bytes n h = rw h.2 refl
stays_plain room kinds.Types s bytes n h = rw h.2 refl
stays_plain room kinds.Canons s bytes n h = rw h.2 refl
stays_plain room kinds.Imports s bytes n h = absurd n
stays_plain room kinds.Exports s bytes n h = rw h.2 refl

instances_contents : (size room : ℕ) (s : SectionTree) (bytes : List ℕ) → (contents room kinds.Instances).Spells s bytes → (wide_contents size room wide_kinds.Instances).Spells (widened s) bytes
unfolding contents wide_contents
instances_contents size room s bytes h = (map trees.of_exports h.0, vector_spelled instance_item wide_instance trees.of_exports instance_spelled h.0 bytes h.1, rw h.2 refl)

imports_contents : (size room : ℕ) (s : SectionTree) (bytes : List ℕ) → (contents room kinds.Imports).Spells s bytes → (wide_contents size room wide_kinds.Imports).Spells (widened s) bytes
unfolding contents wide_contents
imports_contents size room s bytes h = (map widened_import h.0, vector_spelled import_item wide_import widened_import import_spelled h.0 bytes h.1, rw h.2 refl)

-- The kind of a wide section is one that the id of its section says.
wide_of : (room : ℕ) (s : SectionTree) (bytes : List ℕ) (b : ℕ) (wide_kind : WideKind) (front rest : List ℕ) (size : ℕ) (sized inner : List ℕ)
    → front ≡ b ∷ [] → bytes ≡ front ++ rest → rest ≡ sized ++ inner → index.Spells size sized → length inner ≡ size
    → wide.wide_kind b ≡ Some wide_kind → (wide_contents size room wide_kind).Spells (widened s) inner → (wide_section room).Spells (widened s) bytes
unfolding wide_section wide_section_of
wide_of room s bytes b wide_kind front rest size sized inner is_id parts parts_behind number long known inside =
    (b, rest, parts ∙ rw is_id refl, rw known (front, front, rest, (ap length is_id, refl), (size, sized, inner, number, (long, inside), parts_behind), parts))

section_spelled : (room : ℕ) (s : SectionTree) (bytes : List ℕ) → (section room).Spells s bytes → (wide_section room).Spells (widened s) bytes
unfolding section wide_section wide_section_of
section_spelled room s bytes h =
    let c = h.3 in
    let m = h.4 in
    elim (kind_is c.0 h.0 c.2) [
      | inl n ↦ (c.0, h.2, h.5 ∙ rw c.1 refl, rw n.0 (s, bytes, [], h, (stays_plain room h.0 s m.2 n.1 m.4.1, refl), sym (append-nil bytes)))
      | inr more ↦ elim more [
        | inl i ↦ wide_of room s bytes c.0 wide_kinds.Instances h.1 h.2 m.0 m.1 m.2 c.1 h.5 m.5 m.3 m.4.0 i.0 (instances_contents m.0 room s m.2 (subst (λ (k : SectionKind). (contents room k).Spells s m.2) i.1 m.4.1))
        | inr i ↦ wide_of room s bytes c.0 wide_kinds.Imports h.1 h.2 m.0 m.1 m.2 c.1 h.5 m.5 m.3 m.4.0 i.0 (imports_contents m.0 room s m.2 (subst (λ (k : SectionKind). (contents room k).Spells s m.2) i.1 m.4.1))
      ]
    ]

room_same : (room : ℕ) (s : SectionTree) → wide_room_after room (widened s) ≡ room_after room s
room_same room (sections.custom name bytes) = refl
room_same room (sections.core_module bytes) = refl
room_same room (sections.core_instances items) = refl
room_same room (sections.instances items) = omega arith
room_same room (sections.aliases items) = refl
room_same room (sections.types items) = refl
room_same room (sections.canons items) = refl
room_same room (sections.imports items) = omega arith
room_same room (sections.exports items) = refl

each_section : (c : List SectionTree) (room : ℕ) (bytes : List ℕ) → SpellsEach section room_after room c bytes → SpellsEach wide_section wide_room_after room (map widened c) bytes
each_section [] room bytes h = h
each_section (x ∷ c) room bytes h = (h.0, h.1, section_spelled room x h.0 h.2, subst (λ (r : ℕ). SpellsEach wide_section wide_room_after r (map widened c) h.1) (sym (room_same room x)) (each_section c (room_after room x) h.1 h.3), h.4)

pub file_spelled : (c : List SectionTree) (bytes : List ℕ) → file.Spells c bytes → wide_file.Spells (map widened c) bytes
unfolding file component section_list wide_file wide_component wide_sections
file_spelled c bytes h =
    let j = h.1 in
    (h.0, (j.0, j.1, j.2, j.3, each_section c MAX_TYPES j.2 j.4, j.5))
