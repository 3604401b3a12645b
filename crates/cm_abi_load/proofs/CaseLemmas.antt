-- What is made of leaves, handles, cases and lists.
use Rattle.std.proofs.Common.{◌≡◌, ℕ, zero, suc, ◌+◌, ◌*◌, ◌<◌, inl, inr, List, [], ◌∷◌, ◌++◌, length, map, get_or, Option, Some, None, Ok, Err, Result, refl, sym, ap, subst, arith}
use Rattle.std.specs.Bool.{⊤}
use Rattle.cm_types.specs.Values.{Val, Vals, val, bare, bearing, elements, parts}
use Rattle.cm_handles.specs.Handles.{Handles, look_up}
use Rattle.cm_layout.specs.declared.heads.Head.{Head}
use Rattle.cm_layout.specs.declared.layouts.HandleType.{HandleType}
use Rattle.cm_layout.specs.declared.layouts.Leaf.{Leaf}
use Rattle.cm_layout.specs.declared.layouts.Leaf.TheVariants as leaf
use Rattle.cm_layout.specs.Laid.{leaf_size}
use Rattle.cm_layout.specs.Layouts.{nothings}
use Rattle.cm_layout.specs.Shapes.{LayoutTy, Payloads, Shape, payloads_from, leaf_shape, string_shape, list_shape, fixed_list_shape, fields_shape, cases_shape, handle_shape}
use Rattle.cm_abi_model.specs.Numbers.{number_at}
use Rattle.cm_abi_model.specs.declared.encoding.StringEncoding.{StringEncoding}
use Rattle.cm_abi_load.specs.declared.stop.Stop.{Stop}
use Rattle.cm_abi_load.specs.declared.stop.Stop.TheVariants as stop
use Rattle.cm_abi_load.specs.Outcomes.{Outcome, State, Stops, mapped, ◌>>=◌}
use Rattle.cm_abi_model.specs.declared.record.PartRecord.{PartRecord}
use Rattle.cm_abi_load.specs.Making.{HasMore, IsRead, KeepsHandles, Makes, StopsMaking}
use Rattle.cm_abi_load.specs.Plain.{IsPlain, IsPlainLeaf}
use Rattle.cm_abi_load.specs.Reading.{Source, after_meeting, leaf_value, read_at, read_case, read_each, read_elements, read_handle, read_payload, region, resource_of}
use Rattle.cm_abi_load.specs.Records.{element_record, held, payload, records_at, records_each, records_of_case, records_of_cases, records_of_list, records_of_payload}
use Rattle.cm_abi_load.proofs.HandleLemmas.{keeps_at, keeps_elements, keeps_handle_value, keeps_mapped, met_more}
use Rattle.cm_abi_load.proofs.LoadLemmas.{case_kept, case_there, enum_there, none_kept}
use Rattle.cm_abi_load.specs.MakingLaws.{read_is, read_of}
use Rattle.cm_abi_load.proofs.MakingLemmas.{read_so}

-- ---- leaves of which any number is a value

pub plain_leaf : (k : Leaf) → IsPlainLeaf k → (n : ℕ) (s : State) → (v : Val) × (leaf_value k n s ≡ Ok (v, s))
plain_leaf leaf.Bool is n s = (_, refl)
plain_leaf (leaf.Signed w) is n s = (_, refl)
plain_leaf (leaf.Unsigned w) is n s = (_, refl)
plain_leaf leaf.Char is n s = absurd is
plain_leaf (leaf.Flags labels w) is n s = (_, refl)

plain_leaves : (w : Source) (t : StringEncoding) (k : Leaf) → IsPlainLeaf k → (size n p : ℕ) (s : State)
    → IsRead (read_each (read_at w (leaf_shape k)) size n p s) s (λ vs. records_each (records_at w t (leaf_shape k)) size p vs ≡ [])
plain_leaves w t k is size zero p s = (refl, refl)
plain_leaves w t k is size (suc n) p s =
    let one = plain_leaf k is (number_at (leaf_size k) w.memory p) s in
    rw one.1 (read_of (λ vs. val one.0 vs) (read_each (read_at w (leaf_shape k)) size n (p + size) s) s (λ vs. records_each (records_at w t (leaf_shape k)) size (p + size) vs ≡ [])
    (λ vs. records_each (records_at w t (leaf_shape k)) size p vs ≡ []) (λ vs none. none) (plain_leaves w t k is size n (p + size) s))

plain_each : (w : Source) (t : StringEncoding) (sh : Shape) → IsPlain sh → (size n p : ℕ) (s : State)
    → IsRead (read_each (read_at w sh) size n p s) s (λ vs. records_each (records_at w t sh) size p vs ≡ [])
plain_each w t (leaf_shape k) is size n p s = plain_leaves w t k is size n p s
plain_each w t string_shape is size n p s = absurd is
plain_each w t (list_shape e sh) is size n p s = absurd is
plain_each w t (fixed_list_shape e sh m) is size n p s = absurd is
plain_each w t (fields_shape ps) is size n p s = absurd is
plain_each w t (cases_shape d o ps) is size n p s = absurd is
plain_each w t (handle_shape h) is size n p s = absurd is

pub plain_row : {B K : Type 0} (stand : B → Vals → Type 0) (keeps : K → List PartRecord → K → Type 0) (w : Source) (t : StringEncoding) (sh : Shape) (row : B) (kept : K)
    → IsPlain sh → ((vs : Vals) → stand row vs) → keeps kept [] kept → (size n p : ℕ) (s : State)
    → IsRead (read_each (read_at w sh) size n p s) s (λ vs. stand row vs × keeps kept (records_each (records_at w t sh) size p vs) kept)
plain_row stand keeps w t sh row kept is any none size n p s =
    read_so (read_each (read_at w sh) size n p s) s (λ vs. records_each (records_at w t sh) size p vs ≡ []) (λ vs. stand row vs × keeps kept (records_each (records_at w t sh) size p vs) kept)
    (λ vs empty. (any vs, subst (λ rs. keeps kept rs kept) (sym empty) none)) (plain_each w t sh is size n p s)

-- ---- handles

more_met : (s t : State) (r : Outcome Val) → length s.handles < length t.handles → KeepsHandles t r → HasMore (λ v. []) s r
more_met s t (Ok x) lt keeps = omega (arith, lt, keeps)
more_met s t (Err e) lt keeps = tt

pub handle_more : (table : Handles) (t : HandleType) (i : ℕ) (s : State) → HasMore (λ v. []) s (read_handle table t i s)
unfolding read_handle
handle_more table t i s = more_met s (after_meeting s t i) _ (met_more s t i) (keeps_handle_value t (look_up table i (resource_of t)) (after_meeting s t i))

-- ---- lists

record_more : {V : Type 0} (x : V → PartRecord) (R : V → List PartRecord) (s : State) (r : Outcome V) → KeepsHandles s r → HasMore (λ v. x v ∷ R v) s r
record_more x R s (Ok y) h = omega (arith, h)
record_more x R s (Err e) h = tt

pub list_more : (w : Source) (t : StringEncoding) (sh : Shape) (memory : List ℕ) (e : Head) (at n : ℕ) (s : State)
    → HasMore (records_of_list (records_at w t sh) e at n) s (mapped elements (read_elements (read_at w sh) memory e at n s))
list_more w t sh memory e at n s =
    record_more (λ v. element_record e at n) (λ v. records_each (records_at w t sh) e.size at (held v)) s (mapped elements (read_elements (read_at w sh) memory e at n s))
    (keeps_mapped elements s (read_elements (read_at w sh) memory e at n s) (keeps_elements (read_at w sh) memory e at n s (λ q z. keeps_at w sh q z)))

pub stops_then : {A B C : Type 0} (f : B → C) (g : A × State → Outcome B) (r : Outcome A) (e : Stop) (t : State) → Stops e t r → Stops e t (mapped f (r >>= g))
stops_then f g r stop.Memory t is = tt
stops_then f g r (stop.Fault x) t is = rw is refl

pub elements_stop : (R : ℕ → State → Outcome Val) (memory : List ℕ) (h : Head) (at n : ℕ) (s t : State) (e : Stop) → Stops e t (region memory h.align at (n * h.size) s) → Stops e t (mapped elements (read_elements R memory h at n s))
unfolding read_elements
elements_stop R memory h at n s t e is = stops_then elements (λ r. read_each R h.size n at r.1) (region memory h.align at (n * h.size) s) e t is

elements_are : (R : ℕ → State → Outcome Val) (memory : List ℕ) (h : Head) (at n : ℕ) (s t : State) → region memory h.align at (n * h.size) s ≡ Ok (tt, t) → read_elements R memory h at n s ≡ read_each R h.size n at t
unfolding read_elements
elements_are R memory h at n s t is = rw is refl

mapped_stop : {U V : Type 0} (allocates : Type 0) (f : U → V) (R : U → List PartRecord) (S : V → List PartRecord) (r : Outcome U) (s z t : State) (e : Stop) → StopsMaking allocates R r s t e → HasMore S z (mapped f r) → StopsMaking allocates S (mapped f r) z t e
mapped_stop allocates f R S r s z t stop.Memory is more = inr more
mapped_stop allocates f R S r s z t (stop.Fault x) is more = rw is refl

pub list_stops : (allocates : Type 0) (w : Source) (target : StringEncoding) (sh : Shape) (memory : List ℕ) (h : Head) (at n : ℕ) (s z t : State) (e : Stop)
    → region memory h.align at (n * h.size) s ≡ Ok (tt, z)
    → StopsMaking allocates (records_each (records_at w target sh) h.size at) (read_each (read_at w sh) h.size n at z) z t e
    → StopsMaking allocates (records_of_list (records_at w target sh) h at n) (mapped elements (read_elements (read_at w sh) memory h at n s)) s t e
list_stops allocates w target sh memory h at n s z t e is stops =
    let same = elements_are (read_at w sh) memory h at n s z is in
    let more : HasMore (records_of_list (records_at w target sh) h at n) s (mapped elements (read_each (read_at w sh) h.size n at z)) =
    subst (λ r. HasMore (records_of_list (records_at w target sh) h at n) s (mapped elements r)) same (list_more w target sh memory h at n s) in
    subst (λ r. StopsMaking allocates (records_of_list (records_at w target sh) h at n) (mapped elements r) s t e) (sym same)
    (mapped_stop allocates elements (records_each (records_at w target sh) h.size at) (records_of_list (records_at w target sh) h at n) (read_each (read_at w sh) h.size n at z) z s t e stops more)

pub list_made : {A B K : Type 0} (stands : A → Val → Type 0) (stand : B → Vals → Type 0) (keeps : K → List PartRecord → K → Type 0)
    (both : (a b c : K) (rs ss : List PartRecord) → keeps a rs b → keeps b ss c → keeps a (rs ++ ss) c)
    (w : Source) (target : StringEncoding) (sh : Shape) (memory : List ℕ) (h : Head) (at n : ℕ) (s z t : State) (row : B) (made : A) (old now new : K) (told : PartRecord)
    → region memory h.align at (n * h.size) s ≡ Ok (tt, z)
    → told ≡ element_record h at n
    → keeps old (told ∷ []) now
    → IsRead (read_each (read_at w sh) h.size n at z) t (λ vs. stand row vs × keeps now (records_each (records_at w target sh) h.size at vs) new)
    → ((vs : Vals) → stand row vs → stands made (elements vs))
    → IsRead (mapped elements (read_elements (read_at w sh) memory h at n s)) t (λ v. stands made v × keeps old (records_of_list (records_at w target sh) h at n v) new)
list_made stands stand keeps both w target sh memory h at n s z t row made old now new told is same first rest so =
    let first' : keeps old (element_record h at n ∷ []) now = subst (λ x. keeps old (x ∷ []) now) same first in
    subst (λ r. IsRead (mapped elements r) t (λ v. stands made v × keeps old (records_of_list (records_at w target sh) h at n v) new)) (sym (elements_are (read_at w sh) memory h at n s z is))
    (read_of elements (read_each (read_at w sh) h.size n at z) t (λ vs. stand row vs × keeps now (records_each (records_at w target sh) h.size at vs) new)
    (λ v. stands made v × keeps old (records_of_list (records_at w target sh) h at n v) new)
    (λ vs it. (so vs it.0, both old now new (element_record h at n ∷ []) (records_each (records_at w target sh) h.size at vs) first' it.1)) rest)

-- fields, and lists of fixed length
pub fields_made : {A B K : Type 0} (stands : A → Val → Type 0) (stand : B → Vals → Type 0) (keeps : K → List PartRecord → K → Type 0)
    (F : Vals → List PartRecord) (r : Outcome Vals) (t : State) (row : B) (made : A) (old new : K)
    → IsRead r t (λ vs. stand row vs × keeps old (F vs) new)
    → ((vs : Vals) → stand row vs → stands made (parts vs))
    → IsRead (mapped parts r) t (λ v. stands made v × keeps old (F (held v)) new)
fields_made stands stand keeps F r t row made old new is so =
    read_of parts r t (λ vs. stand row vs × keeps old (F vs) new) (λ v. stands made v × keeps old (F (held v)) new) (λ vs it. (so vs it.0, it.1)) is

-- ---- cases

abbrev pub Agree : {V : Type 0} → (V → List PartRecord) → (V → List PartRecord) → Outcome V → Type 0
Agree R S (Ok x) = R x.0 ≡ S x.0
Agree R S (Err e) = ⊤

pub agreed_read : {A V K : Type 0} (stands : A → V → Type 0) (keeps : K → List PartRecord → K → Type 0) (R S : V → List PartRecord) (r : Outcome V) (old new : K) (t : State) (made : A)
    → Agree R S r → IsRead r t (λ v. stands made v × keeps old (R v) new) → IsRead r t (λ v. stands made v × keeps old (S v) new)
agreed_read stands keeps R S (Ok x) old new t made same is = (is.0, (is.1.0, subst (λ rs. keeps old rs new) same is.1.1))
agreed_read stands keeps R S (Err e) old new t made same is = absurd is

pub agreed_more : {V : Type 0} (R S : V → List PartRecord) (s : State) (r : Outcome V) → Agree R S r → HasMore R s r → HasMore S s r
agreed_more R S s (Ok x) same more = omega (arith, more, ap length same)
agreed_more R S s (Err e) same more = tt

pub agreed_stop : {V : Type 0} (allocates : Type 0) (R S : V → List PartRecord) (r : Outcome V) (s t : State) (e : Stop) → Agree R S r → StopsMaking allocates R r s t e → StopsMaking allocates S r s t e
agreed_stop allocates R S r s t stop.Memory same (inl all) = inl all
agreed_stop allocates R S r s t stop.Memory same (inr more) = inr (agreed_more R S s r same more)
agreed_stop allocates R S r s t (stop.Fault f) same is = is

pub agreed : {A V K : Type 0} (stands : A → V → Type 0) (keeps : K → List PartRecord → K → Type 0) (allocates : Type 0) (R S : V → List PartRecord) (r : Outcome V) (old new : K) (s t : State) (result : Result A Stop)
    → Agree R S r → Makes stands keeps allocates R r old new s t result → Makes stands keeps allocates S r old new s t result
agreed stands keeps allocates R S r old new s t (Ok made) same is = agreed_read stands keeps R S r old new t made same is
agreed stands keeps allocates R S r old new s t (Err e) same is = agreed_stop allocates R S r s t e same is

agree_carried : (w : Source) (t : StringEncoding) (l : LayoutTy) (ps : Payloads) (n p : ℕ) (r : Outcome Val)
    → ((v : Option Val) → records_of_case w t ps n p v ≡ records_of_payload w t (Some l) p v)
    → Agree (λ v. records_of_payload w t (Some l) p (payload v)) (records_of_cases w t ps p) (mapped (λ v. bearing n v) r)
agree_carried w t l ps n p (Ok y) same = sym (same (Some y.0))
agree_carried w t l ps n p (Err e) same = tt

agree_case : (w : Source) (t : StringEncoding) (o : Option LayoutTy) (ps : Payloads) (n p : ℕ) (s : State)
    → ((v : Option Val) → records_of_case w t ps n p v ≡ records_of_payload w t o p v)
    → Agree (λ v. records_of_payload w t o p (payload v)) (records_of_cases w t ps p) (read_payload w o n p s)
agree_case w t None ps n p s same = sym (same None)
agree_case w t (Some l) ps n p s same = agree_carried w t l ps n p (read_at w l.shape p s) same

pub case_made : {A K X : Type 0} (stands : A → Val → Type 0) (keeps : K → List PartRecord → K → Type 0) (allocates : Type 0)
    (f : X → Option LayoutTy) (w : Source) (target : StringEncoding) (xs : List X) (n p : ℕ) (x : X) (old new : K) (s t : State) (result : Result A Stop)
    → n < length xs → x ≡ get_or xs n x
    → Makes stands keeps allocates (λ v. records_of_payload w target (f x) p (payload v)) (read_payload w (f x) n p s) old new s t result
    → Makes stands keeps allocates (records_of_cases w target (payloads_from (map f xs)) p) (read_case w (payloads_from (map f xs)) n n p s) old new s t result
case_made stands keeps allocates f w target xs n p x old new s t result lt is made =
    subst (λ r. Makes stands keeps allocates (records_of_cases w target (payloads_from (map f xs)) p) r old new s t result) (sym (case_there f w xs n n p s x lt is))
    (agreed stands keeps allocates (λ v. records_of_payload w target (f x) p (payload v)) (records_of_cases w target (payloads_from (map f xs)) p) (read_payload w (f x) n p s) old new s t result
    (agree_case w target (f x) (payloads_from (map f xs)) n p s (λ v. case_kept f w target xs n p v x lt is)) made)

-- ---- enums

pub enum_made : {A K : Type 0} (stands : A → Val → Type 0) (keeps : K → List PartRecord → K → Type 0) (w : Source) (target : StringEncoding) (count i p : ℕ) (made : A) (kept : K) (s : State)
    → i < count → stands made (bare i) → keeps kept [] kept
    → IsRead (read_case w (nothings count) i i p s) s (λ v. stands made v × keeps kept (records_of_cases w target (nothings count) p v) kept)
enum_made stands keeps w target count i p made kept s lt is none =
    read_is (read_case w (nothings count) i i p s) (bare i) s (λ v. stands made v × keeps kept (records_of_cases w target (nothings count) p v) kept) (enum_there w count i i p s lt)
    (is, subst (λ rs. keeps kept rs kept) (sym (none_kept w target count i p None)) none)

pub enum_placed : {A K : Type 0} (stands : A → Val → Type 0) (keeps : K → List PartRecord → K → Type 0) (allocates : Type 0) (w : Source) (target : StringEncoding) (d count i p : ℕ) (old new : K) (s t : State) (result : Result A Stop)
    → i ≡ number_at d w.memory p
    → Makes stands keeps allocates (records_of_cases w target (nothings count) (p + d)) (read_case w (nothings count) i i (p + d) s) old new s t result
    → Makes stands keeps allocates (records_at w target (cases_shape d d (nothings count)) p) (read_at w (cases_shape d d (nothings count)) p s) old new s t result
enum_placed stands keeps allocates w target d count i p old new s t result is made =
    subst (λ j. Makes stands keeps allocates (records_of_cases w target (nothings count) (p + d)) (read_case w (nothings count) j j (p + d) s) old new s t result) is made

-- a list where its pointer stands
pub list_placed : {A K : Type 0} (stands : A → Val → Type 0) (keeps : K → List PartRecord → K → Type 0) (allocates : Type 0) (w : Source) (target : StringEncoding) (h : Head) (sh : Shape) (at n p : ℕ) (old new : K) (s t : State) (result : Result A Stop)
    → at ≡ number_at 4 w.memory p → n ≡ number_at 4 w.memory (p + 4)
    → Makes stands keeps allocates (records_of_list (records_at w target sh) h at n) (mapped elements (read_elements (read_at w sh) w.memory h at n s)) old new s t result
    → Makes stands keeps allocates (records_at w target (list_shape h sh) p) (read_at w (list_shape h sh) p s) old new s t result
list_placed stands keeps allocates w target h sh at n p old new s t result first second made =
    subst (λ z. Makes stands keeps allocates (records_of_list (records_at w target sh) h z (number_at 4 w.memory (p + 4))) (mapped elements (read_elements (read_at w sh) w.memory h z (number_at 4 w.memory (p + 4)) s)) old new s t result) first
    (subst (λ z. Makes stands keeps allocates (records_of_list (records_at w target sh) h at z) (mapped elements (read_elements (read_at w sh) w.memory h at z s)) old new s t result) second made)
