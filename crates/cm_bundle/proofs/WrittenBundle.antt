-- The one spelling of a bundle is what the grammar takes as that bundle.
use Rattle.std.proofs.Common.{◌≡◌, ℕ, zero, suc, ◌+◌, ◌<◌, ◌≤◌, ◌^◌, List, [], ◌∷◌, ◌++◌, length, true, Ok, refl, sym, ap, subst, arith}
use Rattle.std.specs.Prelude.{slice_index}
use Rattle.std.specs.List.{AllByRecursion, flat_map}
use Rattle.std.specs.Str.{is_utf8}
use Rattle.std.proofs.lemmas.List.{append-nil, length-append}
use Rattle.cm_leb.specs.NumbersWritten.{shortest_unsigned}
use Rattle.cm_binary_grammar.specs.Grammar.{times}
use Rattle.cm_binary_grammar.specs.Spelling.{vec_spelling, blob_spelling}
use Rattle.cm_binary_grammar.proofs.WrittenLaws.{Spelled, each_written, done_written, bind_written, last_written, code_written, fixed_written, check_written, raw_written}
use Rattle.cm_lemmas.proofs.Numbers.{eq_true}
use Rattle.cm_lemmas.proofs.Lists.{all_spelled, map_length}
use Rattle.cm_bundle.specs.declared.form.Sort.{Sort}
use Rattle.cm_bundle.specs.declared.form.Sort.TheVariants as sorts
use Rattle.cm_bundle.specs.declared.codes.Next.TheVariants as next
use Rattle.cm_bundle.specs.declared.form.TheConstants.{MAX_PARTS}
use Rattle.cm_bundle.specs.declared.spaces.Counts.{Counts}
use Rattle.cm_bundle.specs.Trees.{ExportTree, SupplyTree, PartTree}
use Rattle.cm_bundle.specs.Spelled.{Spaces, next_index, next_component, counted, all_counted, exports_of, sort_code, alias_spelled, supply_spelled, supplies_spelled, instance_spelled, part_spelled, exports_spelled, body_spelled, after_part, IsSupply, AreSupplied, custom_spelled}
use Rattle.cm_bundle.specs.Grammar.{Production, this_number, bytes_of, text, sized, sort_of, part_instance, alias, aliases, supply, supplies, instance_of, exports_of_all, part, exports, body, custom, customs}
use Rattle.cm_bundle.proofs.Shortest.{short_written, this_written}
use Rattle.cm_bundle.proofs.Places.{Ordered, place_found, ordered_push, pushed_below}

-- A length is no more than all of which it is the length.
pub blob_longer : (x : List ℕ) → length x ≤ length (blob_spelling x)
blob_longer x = omega (arith, length-append (shortest_unsigned (length x)) x)

pub bytes_written : (x : List ℕ) → length (blob_spelling x) < 2 ^ 32 → Spelled bytes_of x (blob_spelling x)
unfolding bytes_of
bytes_written x lt = bind_written _ (short_written (length x) (omega (arith, blob_longer x, lt))) (raw_written x) refl

pub text_written : (x : List ℕ) → is_utf8 x ≡ true → length (blob_spelling x) < 2 ^ 32 → Spelled text x (blob_spelling x)
unfolding text
text_written x utf8 lt = bind_written _ (short_written (length x) (omega (arith, blob_longer x, lt))) (check_written _ _ utf8 (raw_written x)) refl

pub sized_written : {A : Type 0} (g : Production A) (x : A) (t : List ℕ) → length (blob_spelling t) < 2 ^ 32 → Spelled g x t → Spelled (sized g) x (blob_spelling t)
sized_written g x t lt s =
    let n = short_written (length t) (omega (arith, blob_longer t, lt)) in
    record { spells = (length t, shortest_unsigned (length t), t, n.spells, (s.spells, eq_true (length t) (length t) refl), refl) }

sort_written : (sort : Sort) → sort_of (sort_code sort) ≡ Ok sort
sort_written sorts.Func = refl
sort_written sorts.Instance = refl

-- ---- aliases

-- The places of parts count up, and stand below a number of instances that is no more than so much.
pub record ArePlaces (places : List ℕ) (instances : ℕ) : Type 0 where
  pub ordered : Ordered places
  pub below : (k : ℕ) → k < length places → slice_index places k < instances
  pub small : instances < 2 ^ 32

part_instance_written : (places : List ℕ) (instances part : ℕ) → ArePlaces places instances → part < length places → Spelled (part_instance places) part (shortest_unsigned (slice_index places part))
unfolding part_instance
part_instance_written places instances part a lt =
    let found = place_found places part a.ordered lt in
    let n = short_written (slice_index places part) (omega (arith, a.below part lt, a.small)) in
    record { spells = (slice_index places part, shortest_unsigned (slice_index places part), [], (n.spells, found.0), (sym found.1, refl), sym (append-nil (shortest_unsigned (slice_index places part)))) }

abbrev Fine : List ℕ → ExportTree → Type 0
Fine places x = (is_utf8 x.name ≡ true) × (x.part < length places)

alias_written : (places : List ℕ) (instances : ℕ) (x : ExportTree) → ArePlaces places instances → Fine places x → length (alias_spelled places x) < 2 ^ 32 → Spelled (alias places) x (alias_spelled places x)
unfolding alias
alias_written places instances x a fine lt =
    let shorter : length (alias_spelled places x) ≡ suc (suc (length (shortest_unsigned (slice_index places x.part)) + length (blob_spelling x.name))) = ap (λ (n : ℕ). suc (suc n)) (length-append (shortest_unsigned (slice_index places x.part)) (blob_spelling x.name)) in
    let name : Spelled text x.name (blob_spelling x.name) = text_written x.name fine.0 (omega (arith, shorter, lt)) in
    bind_written _ (code_written (sort_code x.sort) (sort_written x.sort)) (bind_written _ fixed_written (bind_written _ (part_instance_written places instances x.part a fine.1) (last_written (λ n. record { part = x.part; sort = x.sort; name = n }) name) refl) refl) refl

times_written : (places : List ℕ) (instances : ℕ) (xs : List ExportTree) → ArePlaces places instances → AllByRecursion (Fine places) xs → length (flat_map (alias_spelled places) xs) < 2 ^ 32 → Spelled (times (alias places) (length xs)) xs (flat_map (alias_spelled places) xs)
times_written places instances [] a fine lt = done_written []
times_written places instances (x ∷ xs) a fine lt =
    let lengths : length (flat_map (alias_spelled places) (x ∷ xs)) ≡ length (alias_spelled places x) + length (flat_map (alias_spelled places) xs) = length-append (alias_spelled places x) (flat_map (alias_spelled places) xs) in
    let one = alias_written places instances x a fine.0 (omega (arith, lengths, lt)) in
    let more = times_written places instances xs a fine.1 (omega (arith, lengths, lt)) in
    bind_written _ one (last_written (λ zs. x ∷ zs) more) refl

aliases_written : (places : List ℕ) (instances : ℕ) (xs : List ExportTree) → ArePlaces places instances → AllByRecursion (Fine places) xs → length (vec_spelling (alias_spelled places) xs) < 2 ^ 32 → Spelled (aliases places) xs (vec_spelling (alias_spelled places) xs)
unfolding aliases
aliases_written places instances xs a fine lt =
    let lengths = length-append (shortest_unsigned (length xs)) (flat_map (alias_spelled places) xs) in
    let count = all_spelled (alias_spelled places) (λ x. omega arith) xs in
    bind_written _ (short_written (length xs) (omega (arith, lengths, count, lt))) (times_written places instances xs a fine (omega (arith, lengths, lt))) refl

-- ---- what is passed on

-- So many more can be counted below 2 ^ 32.
abbrev Room : Counts → ℕ → Type 0
Room c n = (c.functions + n < 2 ^ 32) × (c.instances + n < 2 ^ 32)

index_small : (c : Counts) (sort : Sort) (n : ℕ) → Room c n → next_index c sort < 2 ^ 32
index_small c sorts.Func n r = omega (arith, r.0)
index_small c sorts.Instance n r = omega (arith, r.1)

counted_room : (c : Counts) (sort : Sort) (n : ℕ) → Room c (suc n) → Room (counted c sort) n
counted_room c sorts.Func n r = (omega (arith, r.0), omega (arith, r.1))
counted_room c sorts.Instance n r = (omega (arith, r.0), omega (arith, r.1))

supply_length : (a b c : List ℕ) (code : ℕ) → length (a ++ (b ++ (code ∷ c))) ≡ length a + (length b + suc (length c))
supply_length a b c code = omega (arith, length-append a (b ++ (code ∷ c)), length-append b (code ∷ c))

supply_written : (lead tail : List ℕ) (c : Counts) (n : ℕ) (y : SupplyTree) → Room c n → is_utf8 y.name ≡ true → length (supply_spelled lead tail c y) < 2 ^ 32 → Spelled (supply lead tail c y.export) y (supply_spelled lead tail c y)
unfolding supply
supply_written lead tail c n y r utf8 lt =
    let index : List ℕ = shortest_unsigned (next_index c y.export.sort) in
    let all : length (supply_spelled lead tail c y) ≡ length lead + (length (blob_spelling y.name) + suc (length (index ++ tail))) = supply_length lead (blob_spelling y.name) (index ++ tail) (sort_code y.export.sort) in
    let name = text_written y.name utf8 (omega (arith, all, lt)) in
    bind_written _ fixed_written (bind_written _ name (bind_written _ fixed_written (bind_written _ (this_written (next_index c y.export.sort) (index_small c y.export.sort n r)) (last_written (λ u. record { name = y.name; export = y.export }) fixed_written) refl) refl) refl) refl

supplies_written : (lead tail : List ℕ) (c : Counts) (ys : List SupplyTree) → Room c (length ys) → AllByRecursion (λ y. is_utf8 y.name ≡ true) ys → length (supplies_spelled lead tail c ys) < 2 ^ 32 → Spelled (supplies lead tail c (exports_of ys)) ys (supplies_spelled lead tail c ys)
unfolding supplies
supplies_written lead tail c [] r utf8 lt = done_written []
supplies_written lead tail c (y ∷ ys) r utf8 lt =
    let rest : List ℕ = supplies_spelled lead tail (counted c y.export.sort) ys in
    let lengths : length (supplies_spelled lead tail c (y ∷ ys)) ≡ length (supply_spelled lead tail c y) + length rest = length-append (supply_spelled lead tail c y) rest in
    let one = supply_written lead tail c (length (y ∷ ys)) y r utf8.0 (omega (arith, lengths, lt)) in
    let more = supplies_written lead tail (counted c y.export.sort) ys (counted_room c y.export.sort (length ys) r) utf8.1 (omega (arith, lengths, lt)) in
    bind_written _ one (last_written (λ zs. y ∷ zs) more) refl

-- As many as are passed on, no more than bytes spell them.
pub supplies_count : (lead tail : List ℕ) (c : Counts) (ys : List SupplyTree) → length ys ≤ length (supplies_spelled lead tail c ys)
supplies_count lead tail c [] = omega arith
supplies_count lead tail c (y ∷ ys) =
    let index : List ℕ = shortest_unsigned (next_index c y.export.sort) in
    let rest : List ℕ = supplies_spelled lead tail (counted c y.export.sort) ys in
    let all : length (supplies_spelled lead tail c (y ∷ ys)) ≡ length (supply_spelled lead tail c y) + length rest = length-append (supply_spelled lead tail c y) rest in
    let one : length (supply_spelled lead tail c y) ≡ length lead + (length (blob_spelling y.name) + suc (length (index ++ tail))) = supply_length lead (blob_spelling y.name) (index ++ tail) (sort_code y.export.sort) in
    omega (arith, all, one, supplies_count lead tail (counted c y.export.sort) ys)

-- The arguments are no longer than the contents that they end.
contents_longer : (a b c : List ℕ) → length c ≤ length (0x01 ∷ 0x00 ∷ (a ++ (b ++ c)))
contents_longer a b c = omega (arith, length-append a (b ++ c), length-append b c)

instance_written : (component : ℕ) (c : Counts) (ys : List SupplyTree) (contents : List ℕ) → contents ≡ 0x01 ∷ 0x00 ∷ (shortest_unsigned component ++ (shortest_unsigned (length ys) ++ supplies_spelled [] [] c ys)) → component < 2 ^ 32 → Room c (length ys) → AllByRecursion (λ y. is_utf8 y.name ≡ true) ys → length contents < 2 ^ 32 → Spelled (instance_of component c (exports_of ys)) ys contents
unfolding instance_of
instance_written component c ys contents e small r utf8 lt =
    let body_ : List ℕ = supplies_spelled [] [] c ys in
    let long : length body_ ≤ length contents = subst (λ (t : List ℕ). length body_ ≤ length t) (sym e) (contents_longer (shortest_unsigned component) (shortest_unsigned (length ys)) body_) in
    let fits : length body_ < 2 ^ 32 = omega (arith, long, lt) in
    let count : length ys < 2 ^ 32 = omega (arith, supplies_count [] [] c ys, fits) in
    let counts : Spelled (this_number (length (exports_of ys))) (length ys) (shortest_unsigned (length ys)) = subst (λ (n : ℕ). Spelled (this_number n) (length ys) (shortest_unsigned (length ys))) (sym (map_length (λ (y : SupplyTree). y.export) ys)) (this_written (length ys) count) in
    bind_written _ fixed_written (bind_written _ (this_written component small) (bind_written _ counts (supplies_written [] [] c ys r utf8 fits) refl) refl) e

exported_written : (c : Counts) (ys : List SupplyTree) → Room c (length ys) → AllByRecursion (λ y. is_utf8 y.name ≡ true) ys → length (shortest_unsigned (length ys) ++ supplies_spelled (0x00 ∷ []) (0x00 ∷ []) c ys) < 2 ^ 32 → Spelled (exports_of_all c (exports_of ys)) ys (shortest_unsigned (length ys) ++ supplies_spelled (0x00 ∷ []) (0x00 ∷ []) c ys)
unfolding exports_of_all
exported_written c ys r utf8 lt =
    let body_ : List ℕ = supplies_spelled (0x00 ∷ []) (0x00 ∷ []) c ys in
    let lengths = length-append (shortest_unsigned (length ys)) body_ in
    let fits : length body_ < 2 ^ 32 = omega (arith, lengths, lt) in
    let count : length ys < 2 ^ 32 = omega (arith, supplies_count (0x00 ∷ []) (0x00 ∷ []) c ys, fits) in
    let counts : Spelled (this_number (length (exports_of ys))) (length ys) (shortest_unsigned (length ys)) = subst (λ (n : ℕ). Spelled (this_number n) (length ys) (shortest_unsigned (length ys))) (sym (map_length (λ (y : SupplyTree). y.export) ys)) (this_written (length ys) count) in
    bind_written _ counts (supplies_written (0x00 ∷ []) (0x00 ∷ []) c ys r utf8 fits) refl

-- ---- parts

fine_exports : (parts : ℕ) (places : List ℕ) (ys : List SupplyTree) → parts ≡ length places → AllByRecursion (IsSupply parts) ys → AllByRecursion (Fine places) (exports_of ys)
fine_exports parts places [] e h = tt {0}
fine_exports parts places (y ∷ ys) e h = ((h.0.export, subst (λ (n : ℕ). y.export.part < n) e h.0.earlier), fine_exports parts places ys e h.1)

fine_names : (parts : ℕ) (ys : List SupplyTree) → AllByRecursion (IsSupply parts) ys → AllByRecursion (λ y. is_utf8 y.name ≡ true) ys
fine_names parts [] h = tt {0}
fine_names parts (y ∷ ys) h = (h.0.name, fine_names parts ys h.1)

-- What is known of the index spaces where so many bytes are left to come.
pub record IsReady (s : Spaces) (left : ℕ) : Type 0 where
  pub room : Room s.counts left
  pub ordered : Ordered s.places
  pub below : (k : ℕ) → k < length s.places → slice_index s.places k < s.counts.instances
  pub few : length s.places ≤ MAX_PARTS + 1

are_places : (s : Spaces) (left : ℕ) → IsReady s left → ArePlaces s.places s.counts.instances
are_places s left r = record { ordered = r.ordered; below = r.below; small = omega (arith, r.room.1) }

-- The lengths of the sections of a part.
pub record PartLengths (s : Spaces) (p : PartTree) : Type 0 where
  pub file : length (blob_spelling p.file) < length (part_spelled s p)
  pub aliases : length (blob_spelling (vec_spelling (alias_spelled s.places) (exports_of p.arguments))) < length (part_spelled s p)
  pub instance_ : length (instance_spelled (next_component s.counts s.places) s.counts p.arguments) < length (part_spelled s p)

-- Three sections, of which the first begins with an id.
three : (id : ℕ) (a b c : List ℕ) → length ((id ∷ a) ++ (b ++ c)) ≡ suc (length a + (length b + length c))
three id a b c = omega (arith, length-append a (b ++ c), length-append b c)

part_lengths : (s : Spaces) (p : PartTree) → PartLengths s p
part_lengths s p =
    let xs : List ℕ = blob_spelling (vec_spelling (alias_spelled s.places) (exports_of p.arguments)) in
    let inst : List ℕ = instance_spelled (next_component s.counts s.places) s.counts p.arguments in
    let all : length (part_spelled s p) ≡ suc (length (blob_spelling p.file) + (suc (length xs) + length inst)) = three 0x04 (blob_spelling p.file) (0x06 ∷ xs) inst in
    record { file = omega (arith, all); aliases = omega (arith, all); instance_ = omega (arith, all) }

-- A part takes more bytes than it is given exports.
pub part_count : (s : Spaces) (p : PartTree) → length p.arguments + 1 ≤ length (part_spelled s p)
part_count s p =
    let ys : List SupplyTree = p.arguments in
    let lengths = part_lengths s p in
    let body_ : List ℕ = supplies_spelled [] [] s.counts ys in
    let inst : List ℕ = 0x01 ∷ 0x00 ∷ (shortest_unsigned (next_component s.counts s.places) ++ (shortest_unsigned (length ys) ++ body_)) in
    let long : length body_ ≤ length inst = contents_longer (shortest_unsigned (next_component s.counts s.places)) (shortest_unsigned (length ys)) body_ in
    let whole : length (instance_spelled (next_component s.counts s.places) s.counts ys) ≡ suc (length (blob_spelling inst)) = refl in
    omega (arith, lengths.instance_, blob_longer inst, long, whole, supplies_count [] [] s.counts ys)

part_written : (s : Spaces) (p : PartTree) (left : ℕ) → IsReady s left → length (part_spelled s p) ≤ left → AllByRecursion (IsSupply (length s.places)) p.arguments → (rest : List ℕ) × (part_spelled s p ≡ 0x04 ∷ rest) × Spelled (part s) p rest
unfolding part
part_written s p left r le h =
    let ys : List SupplyTree = p.arguments in
    let listed : List ℕ = vec_spelling (alias_spelled s.places) (exports_of ys) in
    let inst : List ℕ = 0x01 ∷ 0x00 ∷ (shortest_unsigned (next_component s.counts s.places) ++ (shortest_unsigned (length ys) ++ supplies_spelled [] [] s.counts ys)) in
    let lengths = part_lengths s p in
    let whole : length (instance_spelled (next_component s.counts s.places) s.counts ys) ≡ suc (length (blob_spelling inst)) = refl in
    let most : MAX_PARTS ≡ 1000 = refl in
    let total : left < 2 ^ 32 = omega (arith, r.room.0) in
    let file = bytes_written p.file (omega (arith, lengths.file, le, total)) in
    let few : length ys ≤ left = omega (arith, part_count s p, le) in
    let aliased = sized_written (aliases s.places) (exports_of ys) listed (omega (arith, lengths.aliases, le, total)) (aliases_written s.places s.counts.instances (exports_of ys) (are_places s left r) (fine_exports (length s.places) s.places ys refl h) (omega (arith, blob_longer listed, lengths.aliases, le, total))) in
    let instanced = sized_written (instance_of (next_component s.counts s.places) s.counts (exports_of ys)) ys inst (omega (arith, whole, lengths.instance_, le, total)) (instance_written (next_component s.counts s.places) s.counts ys inst refl (omega (arith, most, r.few)) (omega (arith, r.room.0, few), omega (arith, r.room.1, few)) (fine_names (length s.places) ys h) (omega (arith, blob_longer inst, whole, lengths.instance_, le, total))) in
    (_, refl, bind_written _ file (bind_written _ fixed_written (bind_written _ aliased (bind_written _ fixed_written (last_written (λ zs. record { file = p.file; arguments = zs }) instanced) refl) refl) refl) refl)

-- ---- the whole

-- What aliases add to the counts.
pub record CountedUp (c : Counts) (xs : List ExportTree) : Type 0 where
  pub functions : (all_counted c xs).functions ≤ c.functions + length xs
  pub most : (all_counted c xs).instances ≤ c.instances + length xs
  pub least : c.instances ≤ (all_counted c xs).instances

counted_one : (c : Counts) (sort : Sort) (xs : List ExportTree) → CountedUp (counted c sort) xs → (n : ℕ) → n ≡ suc (length xs) → ((all_counted (counted c sort) xs).functions ≤ c.functions + n) × ((all_counted (counted c sort) xs).instances ≤ c.instances + n) × (c.instances ≤ (all_counted (counted c sort) xs).instances)
counted_one c sorts.Func xs h n e = (omega (arith, h.functions), omega (arith, h.most), omega (arith, h.least))
counted_one c sorts.Instance xs h n e = (omega (arith, h.functions), omega (arith, h.most), omega (arith, h.least))

pub counted_up : (c : Counts) (xs : List ExportTree) → CountedUp c xs
counted_up c [] = record { functions = omega arith; most = omega arith; least = omega arith }
counted_up c (x ∷ xs) =
    let one = counted_one c x.sort xs (counted_up (counted c x.sort) xs) (length (x ∷ xs)) refl in
    record { functions = one.0; most = one.1; least = one.2 }

ready_after : (s : Spaces) (p : PartTree) (left rest : ℕ) → IsReady s left → length (part_spelled s p) + rest ≤ left → length s.places + 1 ≤ MAX_PARTS + 1 → IsReady (after_part s p) rest
ready_after s p left rest r le few =
    let xs : List ExportTree = exports_of p.arguments in
    let up = counted_up s.counts xs in
    let count = part_count s p in
    let same = map_length (λ (y : SupplyTree). y.export) p.arguments in
    let here : ℕ = (all_counted s.counts xs).instances in
    let below : (k : ℕ) → k < length s.places → slice_index s.places k < here = λ k lt. omega (arith, r.below k lt, up.least) in
    record {
      room = (omega (arith, r.room.0, up.functions, count, same, le), omega (arith, r.room.1, up.most, count, same, le));
      ordered = ordered_push s.places here r.ordered below;
      below = λ k lt. pushed_below s.places here k below lt;
      few = omega (arith, few, length-append s.places (here ∷ []));
    }

-- So do exports.
pub exports_count : (s : Spaces) (ys : List SupplyTree) → length ys ≤ length (exports_spelled s ys)
exports_count s ys =
    let listed : List ℕ = vec_spelling (alias_spelled s.places) (exports_of ys) in
    let body_ : List ℕ = supplies_spelled (0x00 ∷ []) (0x00 ∷ []) s.counts ys in
    let out : List ℕ = shortest_unsigned (length ys) ++ body_ in
    let first : length (exports_spelled s ys) ≡ suc (length (blob_spelling listed)) + suc (length (blob_spelling out)) = length-append (0x06 ∷ blob_spelling listed) (0x0b ∷ blob_spelling out) in
    let second : length out ≡ length (shortest_unsigned (length ys)) + length body_ = length-append (shortest_unsigned (length ys)) body_ in
    omega (arith, first, second, blob_longer out, supplies_count (0x00 ∷ []) (0x00 ∷ []) s.counts ys)

exports_written : (s : Spaces) (ys : List SupplyTree) (left : ℕ) → IsReady s left → length (exports_spelled s ys) ≤ left → AllByRecursion (IsSupply (length s.places)) ys → (rest : List ℕ) × (exports_spelled s ys ≡ 0x06 ∷ rest) × Spelled (exports s) ys rest
unfolding exports
exports_written s ys left r le h =
    let listed : List ℕ = vec_spelling (alias_spelled s.places) (exports_of ys) in
    let body_ : List ℕ = supplies_spelled (0x00 ∷ []) (0x00 ∷ []) s.counts ys in
    let out : List ℕ = shortest_unsigned (length ys) ++ body_ in
    let total : left < 2 ^ 32 = omega (arith, r.room.0) in
    let first : length (exports_spelled s ys) ≡ suc (length (blob_spelling listed)) + suc (length (blob_spelling out)) = length-append (0x06 ∷ blob_spelling listed) (0x0b ∷ blob_spelling out) in
    let few : length ys ≤ left = omega (arith, exports_count s ys, le) in
    let aliased = sized_written (aliases s.places) (exports_of ys) listed (omega (arith, first, le, total)) (aliases_written s.places s.counts.instances (exports_of ys) (are_places s left r) (fine_exports (length s.places) s.places ys refl h) (omega (arith, blob_longer listed, first, le, total))) in
    let exported = sized_written (exports_of_all s.counts (exports_of ys)) ys out (omega (arith, first, le, total)) (exported_written s.counts ys (omega (arith, r.room.0, few), omega (arith, r.room.1, few)) (fine_names (length s.places) ys h) (omega (arith, blob_longer out, first, le, total))) in
    (_, refl, bind_written _ aliased (bind_written _ fixed_written exported refl) refl)

pub body_written : (room : ℕ) (s : Spaces) (ps : List PartTree) (ys : List SupplyTree) (left : ℕ) → IsReady s left → length (body_spelled s ps ys) ≤ left → length s.places + length ps ≤ MAX_PARTS + 1 → length ps < room → AreSupplied (length s.places) ps ys → Spelled (body room s) (record { parts = ps; exports = ys }) (body_spelled s ps ys)
unfolding body
body_written zero s ps ys left r le few more h = absurd (omega (arith, more))
body_written (suc room) s [] ys left r le few more h =
    let out = exports_written s ys left r le h in
    bind_written _ (code_written {k = next.Exports} 0x06 refl) (last_written (λ zs. record { parts = []; exports = zs }) out.2) out.1
body_written (suc room) s (p ∷ ps) ys left r le few more h =
    let behind_ : List ℕ = body_spelled (after_part s p) ps ys in
    let lengths : length (body_spelled s (p ∷ ps) ys) ≡ length (part_spelled s p) + length behind_ = length-append (part_spelled s p) behind_ in
    let places : length (after_part s p).places ≡ length s.places + 1 = length-append s.places ((all_counted s.counts (exports_of p.arguments)).instances ∷ []) in
    let one = part_written s p left r (omega (arith, lengths, le)) h.0 in
    let rest = body_written room (after_part s p) ps ys (length behind_) (ready_after s p left (length behind_) r (omega (arith, lengths, le)) (omega (arith, few))) (omega arith) (omega (arith, places, few)) (omega (arith, more)) (subst (λ (n : ℕ). AreSupplied n ps ys) (sym places) h.1) in
    bind_written _ (code_written {k = next.Part} 0x04 refl) (bind_written _ one.2 (last_written (λ b. record { parts = p ∷ b.parts; exports = b.exports }) rest) refl) (ap (λ (b : List ℕ). b ++ behind_) one.1)

-- ---- custom sections

-- Sections whose spellings are no longer than a size can tell.
abbrev AreShort : Unit {0} → List (List ℕ) → Type 0
AreShort s xs = length (flat_map custom_spelled xs) < 2 ^ 32

custom_step : (s : Unit {0}) (x : List ℕ) (xs : List (List ℕ)) → AreShort s (x ∷ xs) → Spelled custom x (custom_spelled x) × AreShort s xs
unfolding custom
custom_step s x xs lt =
    let lengths = length-append (custom_spelled x) (flat_map custom_spelled xs) in
    let one : length (custom_spelled x) ≡ suc (length (blob_spelling x)) = refl in
    (bind_written _ fixed_written (bytes_written x (omega (arith, lengths, one, lt))) refl, omega (arith, lengths, lt))

pub customs_written : (xs : List (List ℕ)) → length (flat_map custom_spelled xs) < 2 ^ 32 → customs.Spells xs (flat_map custom_spelled xs)
unfolding customs
customs_written xs lt = each_written (λ (s : Unit {0}). custom) (λ s x. s) custom_spelled AreShort custom_step tt xs lt
