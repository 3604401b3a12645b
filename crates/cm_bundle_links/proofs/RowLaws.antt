-- Rows of links that grow by one.
use Rattle.std.proofs.Common.{◌≡◌, ◌∙◌, ◌+◌, ◌≤◌, ◌<◌, ◌⊎◌, ℕ, zero, suc, List, [], ◌∷◌, ◌++◌, inl, inr, length, Option, Some, None, Ok, refl, slice_get, sym, ap, subst, take, arith}
use Rattle.std.proofs.lemmas.Bool.{cases_lt}
use Rattle.std.proofs.lemmas.List.{take-append-le}
use Rattle.std.proofs.lemmas.Option.{slice_get_past}
use Rattle.cm_lemmas.proofs.Lists.{get_left, item_there, long_enough, one_longer, take_all, take_one}
use Rattle.cm_lemmas.proofs.Options.{some_is}
use Rattle.cm_lemmas.proofs.Results.{err_of, ok_of}
use Rattle.cm_types.specs.Signatures.{NamedExtern}
use Rattle.cm_validate_model.specs.Spaces.{Spaces}
use Rattle.cm_match_model.specs.declared.component.Link.{Link}
use Rattle.cm_bundle.specs.Trees.{BundleTree, GroupTree, PartTree, SupplyTree}
use Rattle.cm_bundle_links.specs.declared.fault.LinksFault.{LinksFault}
use Rattle.cm_bundle_links.specs.declared.fault.LinksReason.{LinksReason}
use Rattle.cm_bundle_links.specs.declared.fault.LinksReason.TheVariants as reason
use Rattle.cm_bundle_links.specs.Links.{AreLinked, AreLinks, AreParts, AreRows, IsFaultBy, IsFirstFault, IsFirstUnlinked, IsLink, IsLinksFault, IsUnlinked}
use Rattle.cm_bundle_links.specs.Tables.{link_given}
use Rattle.cm_bundle_links.proofs.LinkLaws.{Links, links}

-- ---- a row

pub linked_more : (front : List GroupTree) (set : List Spaces) (is : List NamedExtern) (xs : List SupplyTree) (ls : List Link) (i : NamedExtern) (x : SupplyTree) (l : Link)
    → AreLinked front set is xs ls → IsLink front set i x l → AreLinked front set (is ++ i ∷ []) (xs ++ x ∷ []) (ls ++ l ∷ [])
linked_more front set [] [] [] i x l are is = (is, tt)
linked_more front set [] [] (m ∷ ls) i x l are is = absurd are
linked_more front set [] (y ∷ xs) ls i x l are is = absurd are
linked_more front set (j ∷ js) [] ls i x l are is = absurd are
linked_more front set (j ∷ js) (y ∷ xs) [] i x l are is = absurd are
linked_more front set (j ∷ js) (y ∷ xs) (m ∷ ls) i x l are is = (are.0, linked_more front set js xs ls i x l are.1 is)

-- ---- lists that grow by one

last_is : {A : Type 0} (xs : List A) (x y : A) (n : ℕ) → length xs ≤ n → slice_get (xs ++ x ∷ []) n ≡ Some y → (n ≡ length xs) × (x ≡ y)
last_is [] x y zero le e = (refl, some_is x y e)
last_is [] x y (suc n) le e = absurd (cc)
last_is (z ∷ xs) x y zero le e = absurd (omega (arith, le))
last_is (z ∷ xs) x y (suc n) le e =
    let h = last_is xs x y n (omega (arith, le)) e in
    (ap suc h.0, h.1)

-- ---- rows

pub no_rows : (front : List GroupTree) → AreRows front [] [] []
no_rows front = record { count = refl; linked = λ n p s row no e f. absurd (cc) }

pub rows_more : (front : List GroupTree) (ps : List PartTree) (ss : List Spaces) (rows : List (List Link)) (p : PartTree) (s : Spaces) (row : List Link)
    → length ps ≡ length ss → AreRows front ps ss rows → AreLinked front ss s.imports p.arguments row
    → AreRows front (ps ++ p ∷ []) (ss ++ s ∷ []) (rows ++ row ∷ [])
rows_more front ps ss rows p s row long are linked = record {
  count = one_longer rows row ∙ ap suc are.count ∙ sym (one_longer ss s);
  linked = λ n q t r at_part at_space at_row. by n q t r at_part at_space at_row (cases_lt n (length ss));
}
  where
    by : (n : ℕ) (q : PartTree) (t : Spaces) (r : List Link) → slice_get (ps ++ p ∷ []) n ≡ Some q → slice_get (ss ++ s ∷ []) n ≡ Some t → slice_get (rows ++ row ∷ []) n ≡ Some r
        → (n < length ss) ⊎ (length ss ≤ n) → AreLinked front (take n (ss ++ s ∷ [])) t.imports q.arguments r
    by n q t r at_part at_space at_row (inl lt) =
        let le : n ≤ length ss = omega (arith, lt) in
        let small : n < length ps = omega (arith, lt, long) in
        let short : n < length rows = omega (arith, lt, are.count) in
        subst (λ (before : List Spaces). AreLinked front before t.imports q.arguments r) (sym (take-append-le n ss (s ∷ []) le))
        (are.linked n q t r (sym (get_left ps (p ∷ []) n small) ∙ at_part) (sym (get_left ss (s ∷ []) n lt) ∙ at_space) (sym (get_left rows (row ∷ []) n short) ∙ at_row))
    by n q t r at_part at_space at_row (inr le) =
        let parts : length ps ≤ n = omega (arith, le, long) in
        let short : length rows ≤ n = omega (arith, le, are.count) in
        let one = last_is ps p q n parts at_part in
        let two = last_is ss s t n le at_space in
        let three = last_is rows row r n short at_row in
        let same : take n (ss ++ s ∷ []) ≡ ss = ap (λ k. take k (ss ++ s ∷ [])) two.0 ∙ take-append-le (length ss) ss (s ∷ []) (omega arith) ∙ take_all ss (length ss) (omega arith) in
        subst (λ (before : List Spaces). AreLinked front before t.imports q.arguments r) (sym same)
        (subst (λ (u : Spaces). AreLinked front ss u.imports q.arguments r) two.1
        (subst (λ (v : PartTree). AreLinked front ss s.imports v.arguments r) one.1
        (subst (λ (z : List Link). AreLinked front ss s.imports p.arguments z) three.1 linked)))

-- ---- from what the code makes of one import

-- those before this one have links, and it has none
pub first_unlinked : (front : List GroupTree) (set : List Spaces) (is : List NamedExtern) (xs : List SupplyTree) (n : ℕ) (ls : List Link) (i : NamedExtern) (o : Option SupplyTree) (r : LinksReason)
    → AreLinked front set (take n is) (take n xs) ls → slice_get is n ≡ Some i → slice_get xs n ≡ o → err_of Link r ≡ link_given front set i o
    → IsFirstUnlinked front set is xs n r
first_unlinked front set is xs n ls i o r linked at_import at_argument why =
    let unlinked : IsUnlinked front set (Some i) o r = subst (Links front set i o) (sym why) (links front set i o) in
    record {
      links = ls;
      linked = linked;
      unlinked = subst (λ (a : Option NamedExtern). IsUnlinked front set a (slice_get xs n) r) (sym at_import)
          (subst (λ (b : Option SupplyTree). IsUnlinked front set (Some i) b r) (sym at_argument) unlinked);
    }

-- an argument stands behind those of the imports
pub one_too_many : (front : List GroupTree) (set : List Spaces) (is : List NamedExtern) (xs : List SupplyTree) (n : ℕ) (ls : List Link)
    → AreLinked front set (take n is) (take n xs) ls → length is ≤ n → n < length xs → IsFirstUnlinked front set is xs n reason.NoImport
one_too_many front set is xs n ls linked all more =
    let there = item_there xs n more in
    record {
      links = ls;
      linked = linked;
      unlinked = subst (λ (a : Option NamedExtern). IsUnlinked front set a (slice_get xs n) reason.NoImport) (sym (slice_get_past is n all))
          (subst (λ (b : Option SupplyTree). IsUnlinked front set None b reason.NoImport) (sym there.1) tt);
    }

-- one import more has a link
pub linked_next : (front : List GroupTree) (set : List Spaces) (is : List NamedExtern) (xs : List SupplyTree) (n : ℕ) (ls : List Link) (i : NamedExtern) (o : Option SupplyTree) (l : Link)
    → AreLinked front set (take n is) (take n xs) ls → slice_get is n ≡ Some i → slice_get xs n ≡ o → ok_of LinksReason l ≡ link_given front set i o
    → AreLinked front set (take (n + 1) is) (take (n + 1) xs) (ls ++ l ∷ [])
linked_next front set is xs n ls i o l linked at_import at_argument so =
    let h : Links front set i o (Ok l) = subst (Links front set i o) (sym so) (links front set i o) in
    subst (λ (js : List NamedExtern). AreLinked front set js (take (n + 1) xs) (ls ++ l ∷ [])) (sym (take_one is n i at_import))
    (subst (λ (ys : List SupplyTree). AreLinked front set (take n is ++ i ∷ []) ys (ls ++ l ∷ [])) (sym (take_one xs n h.0 (at_argument ∙ h.1)))
    (linked_more front set (take n is) (take n xs) ls i h.0 l linked h.2))

-- all imports have links
pub all_linked : (front : List GroupTree) (set : List Spaces) (is : List NamedExtern) (xs : List SupplyTree) (n : ℕ) (ls : List Link)
    → AreLinked front set (take n is) (take n xs) ls → length is ≤ n → length xs ≤ n → AreLinked front set is xs ls
all_linked front set is xs n ls linked all none =
    subst (λ (js : List NamedExtern). AreLinked front set js xs ls) (take_all is n all)
    (subst (λ (ys : List SupplyTree). AreLinked front set (take n is) ys ls) (take_all xs n none) linked)

-- ---- from what it makes of one part

not_parts : (front : List GroupTree) (set : List Spaces) (i : Option NamedExtern) (x : Option SupplyTree) → IsUnlinked front set i x reason.OtherParts → ⊥
not_parts front set None None h = h
not_parts front set None (Some x) h = h
not_parts front set (Some i) None h = h
not_parts front set (Some i) (Some x) h = h

by_reason : (b : BundleTree) (set : List Spaces) (f : LinksFault) (r : LinksReason) → (r ≡ reason.OtherParts → ⊥) → IsFirstFault b set f → IsFaultBy b set f r
by_reason b set f reason.OtherParts other is = absurd (other refl)
by_reason b set f reason.NotGiven other is = is
by_reason b set f reason.Imported other is = is
by_reason b set f reason.NoExport other is = is
by_reason b set f reason.NoImport other is = is
by_reason b set f reason.Memory other is = tt

pub no_memory : (b : BundleTree) (set : List Spaces) (f : LinksFault) → f.reason ≡ reason.Memory → IsLinksFault b set f
no_memory b set f is = subst (IsFaultBy b set f) (sym is) tt

pub part_fault : (b : BundleTree) (set : List Spaces) (rows : List (List Link)) (n : ℕ) (p : PartTree) (s : Spaces) (f : LinksFault)
    → AreParts b set → AreRows b.front (take n b.parts) (take n set) rows → slice_get b.parts n ≡ Some p → slice_get set n ≡ Some s
    → (f.reason ≡ reason.Memory) ⊎ ((f.part ≡ n) × IsFirstUnlinked b.front (take n set) s.imports p.arguments f.argument f.reason)
    → IsLinksFault b set f
part_fault b set rows n p s f parts before at_part at_space (inl memory) = no_memory b set f memory
part_fault b set rows n p s f parts before at_part at_space (inr (is, first)) =
    let back : n ≡ f.part = sym is in
    by_reason b set f f.reason
    (λ other. not_parts b.front (take n set) (slice_get s.imports f.argument) (slice_get p.arguments f.argument)
    (subst (IsUnlinked b.front (take n set) (slice_get s.imports f.argument) (slice_get p.arguments f.argument)) other first.unlinked))
    (record {
      parts = parts;
      rows = rows;
      before = subst (λ k. AreRows b.front (take k b.parts) (take k set) rows) back before;
      part = p;
      part_there = subst (λ k. slice_get b.parts k ≡ Some p) back at_part;
      component = s;
      component_there = subst (λ k. slice_get set k ≡ Some s) back at_space;
      first = subst (λ k. IsFirstUnlinked b.front (take k set) s.imports p.arguments f.argument f.reason) back first;
    })

-- one part more has links
pub rows_next : (front : List GroupTree) (parts : List PartTree) (set : List Spaces) (rows : List (List Link)) (n : ℕ) (p : PartTree) (s : Spaces) (row : List Link)
    → AreRows front (take n parts) (take n set) rows → slice_get parts n ≡ Some p → slice_get set n ≡ Some s → AreLinked front (take n set) s.imports p.arguments row
    → AreRows front (take (n + 1) parts) (take (n + 1) set) (rows ++ row ∷ [])
rows_next front parts set rows n p s row are at_part at_space linked =
    subst (λ (ps : List PartTree). AreRows front ps (take (n + 1) set) (rows ++ row ∷ [])) (sym (take_one parts n p at_part))
    (subst (λ (ss : List Spaces). AreRows front (take n parts ++ p ∷ []) ss (rows ++ row ∷ [])) (sym (take_one set n s at_space))
    (rows_more front (take n parts) (take n set) rows p s row (long_enough parts n p at_part ∙ sym (long_enough set n s at_space)) are linked))

-- all parts have links
pub all_rows : (b : BundleTree) (set : List Spaces) (rows : List (List Link)) (n : ℕ) → AreParts b set → length set ≤ n → AreRows b.front (take n b.parts) (take n set) rows → AreLinks b set rows
all_rows b set rows n parts all are = record {
  parts = parts;
  rows_are = subst (λ (ps : List PartTree). AreRows b.front ps set rows) (take_all b.parts n (omega (arith, all, parts.count)))
      (subst (λ (ss : List Spaces). AreRows b.front (take n b.parts) ss rows) (take_all set n all) are);
}

-- ---- the same lists, as the code has them

pub same_first : (front front_ : List GroupTree) (set : List Spaces) (is is_ : List NamedExtern) (xs xs_ : List SupplyTree) (n : ℕ) (f : LinksFault) → front ≡ front_ → is ≡ is_ → xs ≡ xs_
    → (f.reason ≡ reason.Memory) ⊎ ((f.part ≡ n) × IsFirstUnlinked front set is xs f.argument f.reason)
    → (f.reason ≡ reason.Memory) ⊎ ((f.part ≡ n) × IsFirstUnlinked front_ set is_ xs_ f.argument f.reason)
same_first front front_ set is is_ xs xs_ n f e1 e2 e3 (inl memory) = inl memory
same_first front front_ set is is_ xs xs_ n f e1 e2 e3 (inr (at, first)) = inr (
  at,
  subst (λ (g : List GroupTree). IsFirstUnlinked g set is_ xs_ f.argument f.reason) e1
      (subst (λ (js : List NamedExtern). IsFirstUnlinked front set js xs_ f.argument f.reason) e2
      (subst (λ (ys : List SupplyTree). IsFirstUnlinked front set is ys f.argument f.reason) e3 first)),
)

pub same_linked : (front front_ : List GroupTree) (set : List Spaces) (is is_ : List NamedExtern) (xs xs_ : List SupplyTree) (ls : List Link) → front ≡ front_ → is ≡ is_ → xs ≡ xs_
    → AreLinked front set is xs ls → AreLinked front_ set is_ xs_ ls
same_linked front front_ set is is_ xs xs_ ls e1 e2 e3 linked =
    subst (λ (g : List GroupTree). AreLinked g set is_ xs_ ls) e1
    (subst (λ (js : List NamedExtern). AreLinked front set js xs_ ls) e2
    (subst (λ (ys : List SupplyTree). AreLinked front set is ys ls) e3 linked))
