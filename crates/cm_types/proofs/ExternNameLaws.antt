-- The test for extern names agrees with the grammar, and the form of a name is spelled as the name.
use Rattle.std.proofs.Common.{◌==◌, if◌then◌else◌}
use Rattle.std.proofs.Common.{◌≡◌, ◌≢◌, ℕ, suc, true, false, nat_le, ◌⊎◌, IsTrue, List, [], ◌∷◌, ◌++◌, Option, Some, None, is_none, refl, sym, ap, ◌∙◌, inl, inr, arith, codes, append_assoc, append-nil}
use Rattle.std.specs.List.{list_any}
use Rattle.std.specs.Option.{option_map, option_map_or}
use Rattle.std.proofs.lemmas.Bool.{eq-eqb, ne_eqb, cases_Bool, cases_eq, true≢false}
use Rattle.cm_types.specs.declared.names.NameFault.{NameFault}
use Rattle.cm_types.specs.declared.names.NameFault.TheVariants as fault
use Rattle.cm_types.specs.Names.{IsLabel, is_label, label_fault}
use Rattle.cm_types.specs.NamesFaults.{fault_number}
use Rattle.cm_types.specs.ExternNames.{NameTree, plain, method, static, constructor, interface, name_spelling, HasLabels, IsExternName, version_suffix, is_version, cut, cut_or_all, without_front, is_bracketed, is_interface_mark, member, interface_parts, interface_of, unannotated_form, form_of, least_fault, labels_fault, version_fault, version_of, parts_fault, extern_name_fault, is_extern_name}
use Rattle.cm_types.proofs.Cuts.{Lacks, cut_at, cut_none}
use Rattle.cm_types.proofs.Labels.{label_is, label_passes, label_fine, fine_label, label_lacks, lacks_append, lacks_cons}

-- ---- from the spelling to the form

-- a label is not empty, and does not begin with a bracket
first_is : (text : List ℕ) → IsLabel text → (b : ℕ) × (bs : List ℕ) × (text ≡ b ∷ bs) × (b ≢ 91)
first_is [] l = absurd (true≢false (sym (label_passes [] l)))
first_is (b ∷ bs) l = (b, bs, refl, label_lacks 91 (b ∷ bs) refl (λ e. omega arith) l 0 (omega arith))

-- a text that does not begin with a bracket has no annotation
no_annotation : (b : ℕ) (bs : List ℕ) → b ≢ 91 → form_of (b ∷ bs) ≡ unannotated_form (b ∷ bs)
no_annotation b bs n = rw (ne_eqb b 91 n) refl

-- a text that does not begin with a bracket names an interface, by its marks, or is a label
pub unbracketed : (text : List ℕ) → is_bracketed text ≡ false
    → form_of text ≡ (if list_any is_interface_mark text then Some (interface_of text) else Some (plain text))
unbracketed [] h = refl
unbracketed (b ∷ bs) h = let e : (b == 91) ≡ false = h in rw e refl

lacks_marks : (text : List ℕ) → Lacks 58 text → Lacks 47 text → Lacks 64 text → list_any is_interface_mark text ≡ false
lacks_marks [] a b c = refl
lacks_marks (x ∷ xs) a b c =
    rw (ne_eqb x 58 (a 0 (omega arith)), ne_eqb x 47 (b 0 (omega arith)), ne_eqb x 64 (c 0 (omega arith)))
    (lacks_marks xs (λ i lt. a (suc i) (omega arith)) (λ i lt. b (suc i) (omega arith)) (λ i lt. c (suc i) (omega arith)))

label_unmarked : (text : List ℕ) → IsLabel text → list_any is_interface_mark text ≡ false
label_unmarked text l =
    lacks_marks text (label_lacks 58 text refl (λ e. omega arith) l) (label_lacks 47 text refl (λ e. omega arith) l) (label_lacks 64 text refl (λ e. omega arith) l)

marked : (xs ys : List ℕ) → list_any is_interface_mark (xs ++ 58 ∷ ys) ≡ true
marked [] ys = refl
marked (x ∷ xs) ys = elim (cases_Bool (is_interface_mark x)) [ inl y ↦ rw y refl | inr n ↦ rw n (marked xs ys) ]

dot_cut : (xs ys : List ℕ) → IsLabel xs → cut 46 (xs ++ 46 ∷ ys) ≡ Some (xs, ys)
dot_cut xs ys l = cut_at 46 xs ys (label_lacks 46 xs refl (λ e. omega arith) l)

parts_again : (version : Option (List ℕ)) (ns pkg name : List ℕ) → IsLabel ns → IsLabel pkg → interface_parts version (ns ++ 58 ∷ (pkg ++ 47 ∷ name)) ≡ interface ns pkg name version
parts_again version ns pkg name l m =
    rw (cut_at 58 ns (pkg ++ 47 ∷ name) (label_lacks 58 ns refl (λ e. omega arith) l), cut_at 47 pkg name (label_lacks 47 pkg refl (λ e. omega arith) m)) refl

unversioned : (ns pkg name : List ℕ) → IsLabel ns → IsLabel pkg → IsLabel name → Lacks 64 (ns ++ 58 ∷ (pkg ++ 47 ∷ name))
unversioned ns pkg name l m n =
    lacks_append 64 ns (58 ∷ (pkg ++ 47 ∷ name)) (label_lacks 64 ns refl (λ e. omega arith) l)
    (lacks_cons 64 58 (pkg ++ 47 ∷ name) (λ e. omega arith)
    (lacks_append 64 pkg (47 ∷ name) (label_lacks 64 pkg refl (λ e. omega arith) m)
    (lacks_cons 64 47 name (λ e. omega arith) (label_lacks 64 name refl (λ e. omega arith) n))))

interface_again : (ns pkg name : List ℕ) (version : Option (List ℕ)) → IsLabel ns → IsLabel pkg → IsLabel name → interface_of (name_spelling (interface ns pkg name version)) ≡ interface ns pkg name version
interface_again ns pkg name None l m n =
    rw (append-nil name, cut_none 64 (ns ++ 58 ∷ (pkg ++ 47 ∷ name)) (unversioned ns pkg name l m n)) (parts_again None ns pkg name l m)
interface_again ns pkg name (Some v) l m n =
    let e : ns ++ 58 ∷ (pkg ++ 47 ∷ (name ++ 64 ∷ v)) ≡ (ns ++ 58 ∷ (pkg ++ 47 ∷ name)) ++ 64 ∷ v = sym (simp append_assoc) in
    ap interface_of e ∙ rw (cut_at 64 (ns ++ 58 ∷ (pkg ++ 47 ∷ name)) v (unversioned ns pkg name l m n)) (parts_again (Some v) ns pkg name l m)

no_annotation_of : (text : List ℕ) (b : ℕ) (bs : List ℕ) → text ≡ b ∷ bs → b ≢ 91 → form_of text ≡ unannotated_form text
no_annotation_of text b bs e n = ap form_of e ∙ no_annotation b bs n ∙ ap unannotated_form (sym e)

no_bracket : (text : List ℕ) (b : ℕ) (bs : List ℕ) → text ≡ b ∷ bs → b ≢ 91 → is_bracketed text ≡ false
no_bracket text b bs e n = ap is_bracketed e ∙ ne_eqb b 91 n

-- an extern name shows the form that it spells
pub form_again : (t : NameTree) → HasLabels t → form_of (name_spelling t) ≡ Some t
form_again (plain l) h =
    let f = first_is l h in
    no_annotation_of l f.0 f.1 f.2 f.3 ∙ rw (no_bracket l f.0 f.1 f.2 f.3, label_unmarked l h) refl
form_again (method r m) h = rw (dot_cut r m h.0) refl
form_again (static r m) h = rw (dot_cut r m h.0) refl
form_again (constructor r) h = refl
form_again (interface ns pkg name version) h =
    let f = first_is ns h.0 in
    let text = name_spelling (interface ns pkg name version) in
    let rest = 58 ∷ (pkg ++ 47 ∷ (name ++ version_suffix version)) in
    let e : text ≡ f.0 ∷ (f.1 ++ rest) = ap (λ x. x ++ rest) f.2 in
    no_annotation_of text f.0 (f.1 ++ rest) e f.3
    ∙ rw (no_bracket text f.0 (f.1 ++ rest) e f.3, marked ns (pkg ++ 47 ∷ (name ++ version_suffix version))) (ap Some (interface_again ns pkg name version h.0 h.1 h.2))

empty_version : is_version [] ≡ false
unfolding is_version
empty_version = refl

fine_version : (v : List ℕ) → is_version v ≡ true → version_fault v ≡ None
fine_version [] h = absurd (true≢false (sym h ∙ empty_version))
fine_version (b ∷ bs) h = rw h refl

version_fine : (v : List ℕ) → version_fault v ≡ None → is_version v ≡ true
version_fine [] h = cc
version_fine (b ∷ bs) h = elim (cases_Bool (is_version (b ∷ bs))) [ inl y ↦ y | inr n ↦ let e = rw n at h in cc ]

fine_least : (e f : Option NameFault) → e ≡ None → f ≡ None → least_fault e f ≡ None
fine_least e f h k = rw (h, k) refl

label_no_fault : (text : List ℕ) → IsLabel text → label_fault text ≡ None
label_no_fault text l = label_fine text (label_passes text l)

fine_labels : (t : NameTree) → HasLabels t → labels_fault t ≡ None
fine_labels (plain l) h = label_no_fault l h
fine_labels (method r m) h = fine_least _ _ (label_no_fault r h.0) (label_no_fault m h.1)
fine_labels (static r m) h = fine_least _ _ (label_no_fault r h.0) (label_no_fault m h.1)
fine_labels (constructor r) h = label_no_fault r h
fine_labels (interface ns pkg name version) h = fine_least _ _ (label_no_fault ns h.0) (fine_least _ _ (label_no_fault pkg h.1) (label_no_fault name h.2))

fine_parts : (t : NameTree) → HasLabels t → parts_fault t ≡ None
fine_parts (plain l) h = fine_labels (plain l) h
fine_parts (method r m) h = fine_labels (method r m) h
fine_parts (static r m) h = fine_labels (static r m) h
fine_parts (constructor r) h = fine_labels (constructor r) h
fine_parts (interface ns pkg name None) h = fine_labels (interface ns pkg name None) h
fine_parts (interface ns pkg name (Some v)) h = fine_least _ _ (fine_labels (interface ns pkg name (Some v)) h) (fine_version v h.3)

-- what the grammar makes a name has no fault
pub name_fine : (text : List ℕ) → IsExternName text → extern_name_fault text ≡ None
name_fine text n = ap extern_name_fault (sym n.2) ∙ rw (form_again n.0 n.1) (fine_parts n.0 n.1)

-- a label is a name as it stands
pub label_is_name : (text : List ℕ) → is_label text ≡ true → extern_name_fault text ≡ None
label_is_name text h = name_fine text (plain text, label_is text h, refl)

-- ---- from the form to the spelling

cut_here : (c b : ℕ) (bs : List ℕ) (p : List ℕ × List ℕ) → b ≡ c → cut c (b ∷ bs) ≡ Some p → b ∷ bs ≡ p.0 ++ c ∷ p.1
cut_here c b bs p e h =
    let k = rw (eq-eqb b c e) at h in
    let q : ([], bs) ≡ p = cc in
    ap (λ x. x ∷ bs) e ∙ ap (λ (r : List ℕ × List ℕ). r.0 ++ c ∷ r.1) q

cut_later : (c b : ℕ) (bs : List ℕ) (p : List ℕ × List ℕ) → b ≢ c → ((q : List ℕ × List ℕ) → cut c bs ≡ Some q → bs ≡ q.0 ++ c ∷ q.1) → (o : Option (List ℕ × List ℕ)) → cut c bs ≡ o → cut c (b ∷ bs) ≡ Some p → b ∷ bs ≡ p.0 ++ c ∷ p.1
cut_later c b bs p n before None e h = let k = rw (ne_eqb b c n, e) at h in cc
cut_later c b bs p n before (Some r) e h =
    let k = rw (ne_eqb b c n, e) at h in
    let q : (b ∷ r.0, r.1) ≡ p = cc in
    ap (λ x. b ∷ x) (before r e) ∙ ap (λ (r : List ℕ × List ℕ). r.0 ++ c ∷ r.1) q

cut_back : (c : ℕ) (bs : List ℕ) (p : List ℕ × List ℕ) → cut c bs ≡ Some p → bs ≡ p.0 ++ c ∷ p.1
cut_back c [] p h = cc
cut_back c (b ∷ bs) p h = elim (cases_eq b c) [ inl e ↦ cut_here c b bs p e h | inr n ↦ cut_later c b bs p n (cut_back c bs) (cut c bs) refl h ]

front_back : (front text rest : List ℕ) → without_front front text ≡ Some rest → text ≡ front ++ rest
front_back [] text rest h = cc
front_back (c ∷ front) [] rest h = cc
front_back (c ∷ front) (b ∷ text) rest h = elim (cases_eq b c) [
  | inl e ↦ let k = rw (eq-eqb b c e) at h in let t = front_back front text rest k in cc
  | inr n ↦ let k = rw (ne_eqb b c n) at h in cc
]

none_least : (e f : Option NameFault) → least_fault e f ≡ None → (e ≡ None) × (f ≡ None)
none_least None f h = (refl, h)
none_least (Some e) None h = cc
none_least (Some e) (Some f) h = elim (cases_Bool (nat_le (fault_number e) (fault_number f))) [
  | inl y ↦ let k = rw y at h in cc
  | inr n ↦ let k = rw n at h in cc
]

label_sound : (text : List ℕ) → label_fault text ≡ None → IsLabel text
label_sound text h = label_is text (fine_label text h)

some_none : (v : List ℕ) → Some v ≡ None → ⊥
some_none v h = cc

some_same : (v w : List ℕ) → Some v ≡ Some w → v ≡ w
some_same v w h = cc

labels_of : (t : NameTree) → labels_fault t ≡ None → (version_of t ≡ None) ⊎ ((v : List ℕ) × (version_of t ≡ Some v) × IsTrue (is_version v)) → HasLabels t
labels_of (plain l) h v = label_sound l h
labels_of (method r m) h v = let p = none_least _ _ h in (label_sound r p.0, label_sound m p.1)
labels_of (static r m) h v = let p = none_least _ _ h in (label_sound r p.0, label_sound m p.1)
labels_of (constructor r) h v = label_sound r h
labels_of (interface ns pkg name None) h v =
    let p = none_least _ _ h in let q = none_least _ _ p.1 in (label_sound ns p.0, label_sound pkg q.0, label_sound name q.1, tt)
labels_of (interface ns pkg name (Some w)) h (inl n) = absurd (some_none w n)
labels_of (interface ns pkg name (Some w)) h (inr v) =
    let p = none_least _ _ h in let q = none_least _ _ p.1 in
    let e : w ≡ v.0 = some_same w v.0 v.1 in
    (label_sound ns p.0, label_sound pkg q.0, label_sound name q.1, ap is_version e ∙ v.2)

-- a name whose parts have no fault has labels for parts, and a version for a version
pub parts_labels : (t : NameTree) → parts_fault t ≡ None → HasLabels t
parts_labels t h = by_version t (version_of t) refl h
  where
    by_version : (t : NameTree) (o : Option (List ℕ)) → version_of t ≡ o → option_map_or (λ v. least_fault (labels_fault t) (version_fault v)) o (labels_fault t) ≡ None → HasLabels t
    by_version t None e h = labels_of t h (inl e)
    by_version t (Some v) e h = let p = none_least _ _ h in labels_of t p.0 (inr (v, e, version_fine v p.1))

-- a text whose part behind the mark is not empty has the mark
rejoined : (c : ℕ) (text : List ℕ) (o : Option (List ℕ × List ℕ)) → cut c text ≡ o → ((option_map_or (λ p. p) o (text, [])).1 ≡ [] → ⊥) → text ≡ (option_map_or (λ p. p) o (text, [])).0 ++ c ∷ (option_map_or (λ p. p) o (text, [])).1
rejoined c text None e h = absurd (h refl)
rejoined c text (Some p) e h = cut_back c text p e

no_empty_label : (text : List ℕ) → label_fault text ≡ None → text ≡ [] → ⊥
no_empty_label text h e = let k = rw e at h in cc

no_empty_rest : (text : List ℕ) → label_fault (cut_or_all 47 text).0 ≡ None → text ≡ [] → ⊥
no_empty_rest text h e = let k = rw e at h in cc

-- the parts of an interface without fault are those at the marks
parts_back : (version : Option (List ℕ)) (text : List ℕ) → labels_fault (interface_parts version text) ≡ None → name_spelling (interface_parts version text) ≡ text ++ version_suffix version
parts_back version text h =
    let first : List ℕ × List ℕ = cut_or_all 58 text in
    let second : List ℕ × List ℕ = cut_or_all 47 (cut_or_all 58 text).1 in
    let p = none_least _ _ h in
    let q = none_least _ _ p.1 in
    let outer = rejoined 58 text (cut 58 text) refl (no_empty_rest (cut_or_all 58 text).1 q.0) in
    let inner = rejoined 47 (cut_or_all 58 text).1 (cut 47 (cut_or_all 58 text).1) refl (no_empty_label _ q.1) in
    sym (ap (λ x. x ++ version_suffix version) (outer ∙ ap (λ x. (cut_or_all 58 text).0 ++ 58 ∷ x) inner) ∙ simp append_assoc)

interface_back : (text : List ℕ) (o : Option (List ℕ × List ℕ)) → cut 64 text ≡ o → parts_fault (option_map_or (λ p. interface_parts (Some p.1) p.0) o (interface_parts None text)) ≡ None → name_spelling (option_map_or (λ p. interface_parts (Some p.1) p.0) o (interface_parts None text)) ≡ text
interface_back text None e h = parts_back None text h ∙ append-nil text
interface_back text (Some p) e h = parts_back (Some p.1) p.0 (none_least _ _ h).0 ∙ sym (cut_back 64 text p e)

unannotated_back : (text : List ℕ) (t : NameTree) → unannotated_form text ≡ Some t → parts_fault t ≡ None → name_spelling t ≡ text
unannotated_back text t f h = elim (cases_Bool (is_bracketed text)) [
  | inl b ↦ let k = rw b at f in cc
  | inr b ↦ elim (cases_Bool (list_any is_interface_mark text)) [
    | inl m ↦ let k = rw (b, m) at f in let e : interface_of text ≡ t = cc in
        ap name_spelling (sym e) ∙ interface_back text (cut 64 text) refl (ap parts_fault e ∙ h)
    | inr m ↦ let k = rw (b, m) at f in let e : plain text ≡ t = cc in ap name_spelling (sym e)
  ]
]

member_back : (make : List ℕ → List ℕ → NameTree) (rest : List ℕ) (t : NameTree) (o : Option (List ℕ × List ℕ)) → cut 46 rest ≡ o → option_map (λ p. make p.0 p.1) o ≡ Some t → (x : List ℕ) × (y : List ℕ) × (rest ≡ x ++ 46 ∷ y) × (make x y ≡ t)
member_back make rest t None e h = cc
member_back make rest t (Some p) e h = (p.0, p.1, cut_back 46 rest p e, cc)

form_back : (text : List ℕ) (t : NameTree) (a b c : Option (List ℕ)) → without_front (codes "[method]") text ≡ a → without_front (codes "[static]") text ≡ b → without_front (codes "[constructor]") text ≡ c
    → option_map_or (member method) a (option_map_or (member static) b (option_map_or (λ r. Some (constructor r)) c (unannotated_form text))) ≡ Some t → parts_fault t ≡ None → name_spelling t ≡ text
form_back text t (Some rest) b c p q r f h =
    let m = member_back method rest t (cut 46 rest) refl f in
    ap name_spelling (sym m.3) ∙ ap (λ x. codes "[method]" ++ x) (sym m.2) ∙ sym (front_back (codes "[method]") text rest p)
form_back text t None (Some rest) c p q r f h =
    let m = member_back static rest t (cut 46 rest) refl f in
    ap name_spelling (sym m.3) ∙ ap (λ x. codes "[static]" ++ x) (sym m.2) ∙ sym (front_back (codes "[static]") text rest q)
form_back text t None None (Some rest) p q r f h =
    let e : constructor rest ≡ t = cc in
    ap name_spelling (sym e) ∙ sym (front_back (codes "[constructor]") text rest r)
form_back text t None None None p q r f h = unannotated_back text t f h

-- the form of a text, where its parts have no fault, is spelled as the text
pub form_spelled : (text : List ℕ) (t : NameTree) → form_of text ≡ Some t → parts_fault t ≡ None → name_spelling t ≡ text
form_spelled text t f h = form_back text t (without_front (codes "[method]") text) (without_front (codes "[static]") text) (without_front (codes "[constructor]") text) refl refl refl f h

fault_is : (text : List ℕ) (o : Option NameTree) → form_of text ≡ o → option_map_or parts_fault o (Some fault.BadAnnotation) ≡ None → (t : NameTree) × (form_of text ≡ Some t) × (parts_fault t ≡ None)
fault_is text None e h = cc
fault_is text (Some t) e h = (t, e, h)

-- a text without fault has a form, whose parts have none
pub form_of_fine : (text : List ℕ) → extern_name_fault text ≡ None → (t : NameTree) × (form_of text ≡ Some t) × (parts_fault t ≡ None)
form_of_fine text h = fault_is text (form_of text) refl h

-- a text without fault is an extern name
pub fine_name : (text : List ℕ) → extern_name_fault text ≡ None → IsExternName text
fine_name text h = let f = form_of_fine text h in (f.0, parts_labels f.0 f.2, form_spelled text f.0 f.1 f.2)

none_is : (o : Option NameFault) → is_none o ≡ true → o ≡ None
none_is None h = refl
none_is (Some e) h = cc

-- the test agrees with the grammar
pub name_is : (text : List ℕ) → is_extern_name text ≡ true → IsExternName text
name_is text h = fine_name text (none_is (extern_name_fault text) h)

pub name_passes : (text : List ℕ) → IsExternName text → is_extern_name text ≡ true
name_passes text n = rw (name_fine text n) refl

pub test_fine : (text : List ℕ) → is_extern_name text ≡ true → extern_name_fault text ≡ None
test_fine text h = none_is (extern_name_fault text) h

-- the form of an extern name is spelled as the name, and its parts are labels
pub form_fine : (text : List ℕ) (t : NameTree) → is_extern_name text ≡ true → form_of text ≡ Some t → (name_spelling t ≡ text) × HasLabels t
form_fine text t h f =
    let p : parts_fault t ≡ None = sym (ap (λ o. option_map_or parts_fault o (Some fault.BadAnnotation)) f) ∙ test_fine text h in
    (form_spelled text t f p, parts_labels t p)
