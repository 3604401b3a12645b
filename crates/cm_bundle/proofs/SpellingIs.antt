-- What the grammar of bundles spells is the one spelling, and a bundle.
use Rattle.std.proofs.Common.{◌≡◌, ℕ, zero, suc, ◌<◌, List, [], ◌∷◌, ◌++◌, length, true, Ok, refl, sym, ap, subst, ◌∙◌, inl, inr}
use Rattle.std.specs.Prelude.{slice_index}
use Rattle.std.specs.List.{AllByRecursion, flat_map}
use Rattle.std.specs.Str.{is_utf8}
use Rattle.std.proofs.lemmas.List.{append-nil}
use Rattle.cm_leb.specs.NumbersWritten.{shortest_unsigned}
use Rattle.cm_binary_grammar.specs.Grammar.{times}
use Rattle.cm_binary_grammar.specs.Spelling.{vec_spelling, blob_spelling}
use Rattle.cm_lemmas.proofs.Numbers.{eq_of}
use Rattle.cm_bundle.specs.declared.form.Sort.{Sort}
use Rattle.cm_bundle.specs.declared.form.Sort.TheVariants as sorts
use Rattle.cm_bundle.specs.declared.spaces.Counts.{Counts}
use Rattle.cm_bundle.specs.Trees.{ExportTree, SupplyTree, PartTree}
use Rattle.cm_bundle.specs.Spelled.{Spaces, next_index, next_component, counted, exports_of, sort_code, alias_spelled, supply_spelled, supplies_spelled, instance_spelled, part_spelled, exports_spelled, IsSupply}
use Rattle.cm_bundle.specs.Grammar.{Production, bytes_of, text, sized, sort_of, part_instance, alias, aliases, supply, supplies, instance_of, exports_of_all, part, exports}
use Rattle.cm_bundle.proofs.Shortest.{short_is, this_is}
use Rattle.cm_bundle.specs.declared.fault.BundleReason.TheVariants as reasons
use Rattle.cm_bundle.proofs.EitherCode.{either_code}
use Rattle.cm_bundle.proofs.Places.{found_place}

-- Two parts that are known.
pub two : (bytes front rest f r : List ℕ) → bytes ≡ front ++ rest → front ≡ f → rest ≡ r → bytes ≡ f ++ r
two bytes front rest f r p q s = p ∙ ap (λ (x : List ℕ). x ++ rest) q ∙ ap (λ (x : List ℕ). f ++ x) s

-- A part that is known, and nothing.
pub last : (bytes front rest f : List ℕ) → bytes ≡ front ++ rest → front ≡ f → rest ≡ [] → bytes ≡ f
last bytes front rest f p q s = two bytes front rest f [] p q s ∙ append-nil f

pub bytes_is : (x bytes : List ℕ) → bytes_of.Spells x bytes → bytes ≡ blob_spelling x
unfolding bytes_of
bytes_is x bytes s =
    let n = short_is s.0 s.1 s.3 in
    two bytes s.1 s.2 (shortest_unsigned (length x)) x s.5 (n.0 ∙ ap (λ (m : ℕ). shortest_unsigned m) (sym s.4.0 ∙ ap length (sym s.4.1))) (sym s.4.1)

pub text_is : (x bytes : List ℕ) → text.Spells x bytes → (bytes ≡ blob_spelling x) × (is_utf8 x ≡ true)
unfolding text
text_is x bytes s =
    let n = short_is s.0 s.1 s.3 in
    (two bytes s.1 s.2 (shortest_unsigned (length x)) x s.5 (n.0 ∙ ap (λ (m : ℕ). shortest_unsigned m) (sym s.4.0.0 ∙ ap length (sym s.4.0.1))) (sym s.4.0.1), s.4.1)

-- What stands behind its size.
pub record Inside {A : Type 0} (g : Production A) (x : A) (bytes : List ℕ) : Type 0 where
  pub contents : List ℕ
  pub spells : g.Spells x contents
  pub all : bytes ≡ blob_spelling contents

pub sized_is : {A : Type 0} (g : Production A) (x : A) (bytes : List ℕ) → (sized g).Spells x bytes → Inside g x bytes
sized_is g x bytes s =
    let n = short_is s.0 s.1 s.3 in
    record { contents = s.2; spells = s.4.0; all = two bytes s.1 s.2 (shortest_unsigned (length s.2)) s.2 s.5 (n.0 ∙ ap (λ (m : ℕ). shortest_unsigned m) (sym (eq_of (length s.2) s.0 s.4.1))) refl }

sort_is : (b : ℕ) (sort : Sort) → sort_of b ≡ Ok sort → b ≡ sort_code sort
sort_is b sort h =
    elim (either_code b 0x01 0x05 sorts.Func sorts.Instance sort reasons.UnknownCode h) [
      | inl p ↦ p.0 ∙ ap sort_code p.1
      | inr p ↦ p.0 ∙ ap sort_code p.1
    ]

pub alias_is : (places : List ℕ) (x : ExportTree) (bytes : List ℕ) → (alias places).Spells x bytes → (bytes ≡ alias_spelled places x) × (is_utf8 x.name ≡ true) × (x.part < length places)
unfolding alias part_instance
alias_is places x bytes s =
    let sort : Sort = s.0 in
    let code : s.1 ≡ sort_code sort ∷ [] = s.3.1 ∙ ap (λ (b : ℕ). b ∷ []) (sort_is s.3.0 sort s.3.2) in
    let target = s.4 in
    let number = target.4 in
    let named = number.4 in
    let index = short_is number.3.0 number.3.1 number.3.3.0 in
    let found = found_place places number.3.0 number.3.3.1 in
    let name = text_is named.0 named.1 named.3 in
    let place : number.1 ≡ shortest_unsigned (slice_index places number.0) =
    last number.1 number.3.1 number.3.2 (shortest_unsigned (slice_index places number.0)) number.3.5 (index.0 ∙ ap (λ (m : ℕ). shortest_unsigned m) (sym found.1 ∙ ap (λ (k : ℕ). slice_index places k) (sym number.3.4.0))) number.3.4.1 in
    let behind : number.2 ≡ blob_spelling named.0 = last number.2 named.1 named.2 (blob_spelling named.0) named.5 name.0 named.4.1 in
    let all = two bytes s.1 s.2 (sort_code sort ∷ []) (0x00 ∷ (shortest_unsigned (slice_index places number.0) ++ blob_spelling named.0)) s.5 code
    (two s.2 target.1 target.2 (0x00 ∷ []) (shortest_unsigned (slice_index places number.0) ++ blob_spelling named.0) target.5 target.3
    (two target.2 number.1 number.2 (shortest_unsigned (slice_index places number.0)) (blob_spelling named.0) number.5 place behind)) in
    let earlier : number.0 < length places = subst (λ (k : ℕ). k < length places) (sym number.3.4.0) found.0 in
    rw named.4.0 (all, name.1, earlier)

-- ---- aliases

-- A name that is a text, and one of the first parts, so many.
abbrev pub IsExport : ℕ → ExportTree → Type 0
IsExport parts x = (is_utf8 x.name ≡ true) × (x.part < parts)

pub record AreAliases (places : List ℕ) (xs : List ExportTree) (n : ℕ) (bytes : List ℕ) : Type 0 where
  pub spelled : bytes ≡ flat_map (alias_spelled places) xs
  pub each : AllByRecursion (IsExport (length places)) xs
  pub count : length xs ≡ n

times_are : (places : List ℕ) (n : ℕ) (xs : List ExportTree) (bytes : List ℕ) → (times (alias places) n).Spells xs bytes → AreAliases places xs n bytes
times_are places zero xs bytes s = rw (s.0, s.1) (record { spelled = refl; each = tt {0}; count = refl })
times_are places (suc n) xs bytes s =
    let more = s.4 in
    let one = alias_is places s.0 s.1 s.3 in
    let all = times_are places n more.0 more.1 more.3 in
    let rest : s.2 ≡ flat_map (alias_spelled places) more.0 = last s.2 more.1 more.2 (flat_map (alias_spelled places) more.0) more.5 all.spelled more.4.1 in
    rw more.4.0 (record {
      spelled = two bytes s.1 s.2 (alias_spelled places s.0) (flat_map (alias_spelled places) more.0) s.5 one.0 rest;
      each = ((one.1, one.2), all.each);
      count = ap suc all.count;
    })

pub aliases_are : (places : List ℕ) (xs : List ExportTree) (bytes : List ℕ) → (aliases places).Spells xs bytes → (bytes ≡ vec_spelling (alias_spelled places) xs) × AllByRecursion (IsExport (length places)) xs
unfolding aliases
aliases_are places xs bytes s =
    let n = short_is s.0 s.1 s.3 in
    let all = times_are places s.0 xs s.2 s.4 in
    (two bytes s.1 s.2 (shortest_unsigned (length xs)) (flat_map (alias_spelled places) xs) s.5 (n.0 ∙ ap (λ (m : ℕ). shortest_unsigned m) (sym all.count)) all.spelled, all.each)

-- ---- what is passed on

supply_is : (lead tail : List ℕ) (c : Counts) (x : ExportTree) (y : SupplyTree) (bytes : List ℕ) → (supply lead tail c x).Spells y bytes → (bytes ≡ supply_spelled lead tail c y) × (y.export ≡ x) × (is_utf8 y.name ≡ true)
unfolding supply
supply_is lead tail c x y bytes s =
    let n = s.4 in
    let o = n.4 in
    let i = o.4 in
    let t = i.4 in
    let name = text_is n.0 n.1 n.3 in
    let index = this_is (next_index c x.sort) i.0 i.1 i.3 in
    let ends : i.2 ≡ tail = last i.2 t.1 t.2 tail t.5 t.3 t.4.1 in
    let indexed : o.2 ≡ shortest_unsigned (next_index c x.sort) ++ tail = two o.2 i.1 i.2 (shortest_unsigned (next_index c x.sort)) tail i.5 index.0 ends in
    let sorted : n.2 ≡ sort_code x.sort ∷ (shortest_unsigned (next_index c x.sort) ++ tail) = two n.2 o.1 o.2 (sort_code x.sort ∷ []) (shortest_unsigned (next_index c x.sort) ++ tail) o.5 o.3 indexed in
    let named : s.2 ≡ blob_spelling n.0 ++ (sort_code x.sort ∷ (shortest_unsigned (next_index c x.sort) ++ tail)) = two s.2 n.1 n.2 (blob_spelling n.0) (sort_code x.sort ∷ (shortest_unsigned (next_index c x.sort) ++ tail)) n.5 name.0 sorted in
    rw t.4.0 (two bytes s.1 s.2 lead (blob_spelling n.0 ++ (sort_code x.sort ∷ (shortest_unsigned (next_index c x.sort) ++ tail))) s.5 s.3 named, refl, name.1)

pub record AreSupplies (parts : ℕ) (lead tail : List ℕ) (c : Counts) (xs : List ExportTree) (ys : List SupplyTree) (bytes : List ℕ) : Type 0 where
  pub spelled : bytes ≡ supplies_spelled lead tail c ys
  pub same : exports_of ys ≡ xs
  pub count : length ys ≡ length xs
  pub each : AllByRecursion (IsSupply parts) ys

pub supplies_are : (parts : ℕ) (lead tail : List ℕ) (c : Counts) (xs : List ExportTree) (ys : List SupplyTree) (bytes : List ℕ) → AllByRecursion (IsExport parts) xs → (supplies lead tail c xs).Spells ys bytes → AreSupplies parts lead tail c xs ys bytes
unfolding supplies
supplies_are parts lead tail c [] ys bytes h s = rw (s.0, s.1) (record { spelled = refl; same = refl; count = refl; each = tt {0} })
supplies_are parts lead tail c (x ∷ xs) ys bytes h s =
    let more = s.4 in
    let one = supply_is lead tail c x s.0 s.1 s.3 in
    let all = supplies_are parts lead tail (counted c x.sort) xs more.0 more.1 h.1 more.3 in
    let rest : s.2 ≡ supplies_spelled lead tail (counted c x.sort) more.0 = last s.2 more.1 more.2 (supplies_spelled lead tail (counted c x.sort) more.0) more.5 all.spelled more.4.1 in
    let sorts_are : supplies_spelled lead tail (counted c x.sort) more.0 ≡ supplies_spelled lead tail (counted c s.0.export.sort) more.0 = ap (λ (e : ExportTree). supplies_spelled lead tail (counted c e.sort) more.0) (sym one.1) in
    rw more.4.0 (record {
      spelled = two bytes s.1 s.2 (supply_spelled lead tail c s.0) (supplies_spelled lead tail (counted c s.0.export.sort) more.0) s.5 one.0 (rest ∙ sorts_are);
      same = ap (λ (e : ExportTree). e ∷ exports_of more.0) one.1 ∙ ap (λ (es : List ExportTree). x ∷ es) all.same;
      count = ap suc all.count;
      each = (record { name = one.2; export = ap (λ (e : ExportTree). is_utf8 e.name) one.1 ∙ h.0.0; earlier = subst (λ (e : ExportTree). e.part < parts) (sym one.1) h.0.1 }, all.each);
    })

pub instance_is : (parts component : ℕ) (c : Counts) (xs : List ExportTree) (ys : List SupplyTree) (bytes : List ℕ) → AllByRecursion (IsExport parts) xs → (instance_of component c xs).Spells ys bytes → (0x05 ∷ blob_spelling bytes ≡ instance_spelled component c ys) × (exports_of ys ≡ xs) × AllByRecursion (IsSupply parts) ys
unfolding instance_of
instance_is parts component c xs ys bytes h s =
    let k = s.4 in
    let n = k.4 in
    let number = this_is component k.0 k.1 k.3 in
    let count = this_is (length xs) n.0 n.1 n.3 in
    let all = supplies_are parts [] [] c xs ys n.2 h n.4 in
    let counted_ : k.2 ≡ shortest_unsigned (length ys) ++ supplies_spelled [] [] c ys = two k.2 n.1 n.2 (shortest_unsigned (length ys)) (supplies_spelled [] [] c ys) n.5 (count.0 ∙ ap (λ (m : ℕ). shortest_unsigned m) (sym all.count)) all.spelled in
    let numbered : s.2 ≡ shortest_unsigned component ++ (shortest_unsigned (length ys) ++ supplies_spelled [] [] c ys) = two s.2 k.1 k.2 (shortest_unsigned component) (shortest_unsigned (length ys) ++ supplies_spelled [] [] c ys) k.5 number.0 counted_ in
    let whole = two bytes s.1 s.2 (0x01 ∷ 0x00 ∷ []) (shortest_unsigned component ++ (shortest_unsigned (length ys) ++ supplies_spelled [] [] c ys)) s.5 s.3 numbered in
    (ap (λ (b : List ℕ). 0x05 ∷ blob_spelling b) whole, all.same, all.each)

pub exported_is : (parts : ℕ) (c : Counts) (xs : List ExportTree) (ys : List SupplyTree) (bytes : List ℕ) → AllByRecursion (IsExport parts) xs → (exports_of_all c xs).Spells ys bytes → (bytes ≡ shortest_unsigned (length ys) ++ supplies_spelled (0x00 ∷ []) (0x00 ∷ []) c ys) × (exports_of ys ≡ xs) × AllByRecursion (IsSupply parts) ys
unfolding exports_of_all
exported_is parts c xs ys bytes h s =
    let count = this_is (length xs) s.0 s.1 s.3 in
    let all = supplies_are parts (0x00 ∷ []) (0x00 ∷ []) c xs ys s.2 h s.4 in
    (two bytes s.1 s.2 (shortest_unsigned (length ys)) (supplies_spelled (0x00 ∷ []) (0x00 ∷ []) c ys) s.5 (count.0 ∙ ap (λ (m : ℕ). shortest_unsigned m) (sym all.count)) all.spelled, all.same, all.each)

-- ---- parts

-- The aliases of these in their section, behind its id.
aliased_is : (places : List ℕ) (xs : List ExportTree) (ys : List SupplyTree) (bytes contents : List ℕ) → exports_of ys ≡ xs → contents ≡ vec_spelling (alias_spelled places) xs → bytes ≡ blob_spelling contents → bytes ≡ blob_spelling (vec_spelling (alias_spelled places) (exports_of ys))
aliased_is places xs ys bytes contents same spelled all = all ∙ ap blob_spelling spelled ∙ ap (λ (es : List ExportTree). blob_spelling (vec_spelling (alias_spelled places) es)) (sym same)

pub part_is : (s : Spaces) (p : PartTree) (bytes : List ℕ) → (part s).Spells p bytes → (0x04 ∷ bytes ≡ part_spelled s p) × AllByRecursion (IsSupply (length s.places)) p.arguments
unfolding part
part_is s p bytes h =
    let a = h.4 in
    let x = a.4 in
    let i = x.4 in
    let y = i.4 in
    let file = bytes_is h.0 h.1 h.3 in
    let aliased = sized_is (aliases s.places) x.0 x.1 x.3 in
    let all = aliases_are s.places x.0 aliased.contents aliased.spells in
    let instanced = sized_is (instance_of (next_component s.counts s.places) s.counts x.0) y.0 y.1 y.3 in
    let inst = instance_is (length s.places) (next_component s.counts s.places) s.counts x.0 y.0 instanced.contents all.1 instanced.spells in
    let xs : List ℕ = blob_spelling (vec_spelling (alias_spelled s.places) (exports_of y.0)) in
    let ends : i.2 ≡ blob_spelling instanced.contents = last i.2 y.1 y.2 (blob_spelling instanced.contents) y.5 instanced.all y.4.1 in
    let instances : x.2 ≡ instance_spelled (next_component s.counts s.places) s.counts y.0 = two x.2 i.1 i.2 (0x05 ∷ []) (blob_spelling instanced.contents) i.5 i.3 ends ∙ inst.0 in
    let aliased_ : a.2 ≡ xs ++ instance_spelled (next_component s.counts s.places) s.counts y.0 = two a.2 x.1 x.2 xs (instance_spelled (next_component s.counts s.places) s.counts y.0) x.5 (aliased_is s.places x.0 y.0 x.1 aliased.contents inst.1 all.0 aliased.all) instances in
    let behind_file : h.2 ≡ 0x06 ∷ (xs ++ instance_spelled (next_component s.counts s.places) s.counts y.0) = two h.2 a.1 a.2 (0x06 ∷ []) (xs ++ instance_spelled (next_component s.counts s.places) s.counts y.0) a.5 a.3 aliased_ in
    rw y.4.0 (ap (λ (b : List ℕ). 0x04 ∷ b) (two bytes h.1 h.2 (blob_spelling h.0) (0x06 ∷ (xs ++ instance_spelled (next_component s.counts s.places) s.counts y.0)) h.5 file behind_file), inst.2)

pub exports_are : (s : Spaces) (ys : List SupplyTree) (bytes : List ℕ) → (exports s).Spells ys bytes → (0x06 ∷ bytes ≡ exports_spelled s ys) × AllByRecursion (IsSupply (length s.places)) ys
unfolding exports
exports_are s ys bytes h =
    let e = h.4 in
    let aliased = sized_is (aliases s.places) h.0 h.1 h.3 in
    let all = aliases_are s.places h.0 aliased.contents aliased.spells in
    let exported = sized_is (exports_of_all s.counts h.0) ys e.2 e.4 in
    let out = exported_is (length s.places) s.counts h.0 ys exported.contents all.1 exported.spells in
    let xs : List ℕ = blob_spelling (vec_spelling (alias_spelled s.places) (exports_of ys)) in
    let section : List ℕ = blob_spelling (shortest_unsigned (length ys) ++ supplies_spelled (0x00 ∷ []) (0x00 ∷ []) s.counts ys) in
    let last_ : h.2 ≡ 0x0b ∷ section = two h.2 e.1 e.2 (0x0b ∷ []) section e.5 e.3 (exported.all ∙ ap blob_spelling out.0) in
    (ap (λ (b : List ℕ). 0x06 ∷ b) (two bytes h.1 h.2 xs (0x0b ∷ section) h.5 (aliased_is s.places h.0 ys h.1 aliased.contents out.1 all.0 aliased.all) last_), out.2)
