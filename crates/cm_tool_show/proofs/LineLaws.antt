-- Lines that are written one behind the other.
use Rattle.std.proofs.Common.{◌≡◌, ℕ, suc, ◌+◌, ◌<◌, ◌≤◌, List, [], ◌∷◌, ◌++◌, length, map, take, drop, get_or, slice_get, refl, sym, ap, subst, ◌∙◌, Option, Some, None, Result, Err, append_assoc, append-nil, drop-cons, add-one, arith}
use Rattle.std.proofs.Math.Seq.{take-suc}
use Rattle.std.proofs.lemmas.Grind.{flat_map-append}
use Rattle.std.proofs.lemmas.List.{length-append, take_all, take-append-drop}
use Rattle.std.proofs.lemmas.Option.{get_or_from_slice_get, slice_get-get_or, slice_get_within}
use Rattle.std.specs.Prelude.{codes}
use Rattle.std.specs.List.{flat_map}
use Rattle.cm_types.specs.ExternNames.{name_spelling}
use Rattle.cm_types.specs.ExternNameForms.{form_tree}
use Rattle.cm_types.specs.Signatures.{ExternTy, NamedExtern, NamedItem, func, instance}
use Rattle.cm_types.specs.Types.{Ty, FuncTy}
use Rattle.cm_types_arena.specs.Replaced.{Standing, replaced, replaced_func}
use Rattle.cm_types_arena.specs.declared.moves.Move.{Move}
use Rattle.cm_types_arena.specs.Places.{funcs_of, types_of}
use Rattle.cm_types_arena.specs.declared.types.Types.{Types}
use Rattle.cm_types_arena.specs.TypeDefs.{func_at, type_at}
use Rattle.cm_types_arena.specs.Placed.{moved_by}
use Rattle.cm_types_arena.specs.Instances.{desc_of, replaced_desc, replaced_item}
use Rattle.cm_types_arena.specs.declared.placed.Placed.{Placed}
use Rattle.cm_types_arena.specs.declared.instances.ItemDesc.{ItemDesc}
use Rattle.cm_types_arena.specs.declared.instances.ItemDesc.TheVariants as item
use Rattle.cm_types_arena.specs.Listed.{desc_in, item_in}
use Rattle.cm_types_arena.specs.declared.named_externs.Desc.{Desc}
use Rattle.cm_types_arena.specs.declared.named_externs.Desc.TheVariants as is
use Rattle.cm_types_arena.specs.declared.named_externs.NamedDesc.{NamedDesc}
use Rattle.cm_types_arena.specs.declared.named_externs.NamedItem.{NamedItem as Item}
use Rattle.cm_tool_show.specs.Pages.{IsOver}
use Rattle.cm_tool_show.specs.Pieces.{Piece, chars}
use Rattle.cm_tool_show.specs.declared.page.Page.{Page}
use Rattle.cm_tool_show.specs.Counted.{counted}
use Rattle.cm_tool_show.specs.ShownTypes.{between, type_pieces}
use Rattle.cm_tool_show.specs.Written.{Shows, Wrote}
use Rattle.cm_tool_show.specs.declared.fault.ShowFault.{ShowFault}
use Rattle.cm_tool_show.proofs.ShownLaws.{told}
use Rattle.cm_tool_show.specs.declared.counting.Counting.{Counting}
use Rattle.cm_tool_show.specs.Shown.{extern_lines, extern_pieces, func_pieces, item_line, line}

pub ruleset page_laws = (append_assoc, append-nil, length-append)

-- ---- lines so far

-- the lines of the first i of some things
abbrev pub first_lines : {A : Type 0} → (A → List Piece) → List A → ℕ → List Piece
first_lines f xs i = flat_map f (take i xs)

next_line : {A : Type 0} (f : A → List Piece) (xs : List A) (i : ℕ) (x : A) → slice_get xs i ≡ Some x → first_lines f xs (i + 1) ≡ first_lines f xs i ++ f x
next_line {A} f xs i x e =
    ap (λ (n : ℕ). flat_map f (take n xs)) (add-one i)
    ∙ (ap (λ (ys : List A). flat_map f ys) (take-suc xs i x (slice_get_within xs i x e))
    ∙ (flat_map-append f (take i xs) (get_or xs i x ∷ [])
    ∙ ap (λ (ps : List Piece). flat_map f (take i xs) ++ ps) (append-nil (f (get_or xs i x)) ∙ ap f (get_or_from_slice_get xs i x x e))))

-- where a line is written behind those before it
pub one_more : {A : Type 0} (f : A → List Piece) (xs : List A) (i : ℕ) (x : A) (start now new : Page) → slice_get xs i ≡ Some x → ((a b : List Piece) (p q r : Page) → Wrote a p q → Wrote b q r → Wrote (a ++ b) p r) → Wrote (first_lines f xs i) start now → Wrote (f x) now new → Wrote (first_lines f xs (i + 1)) start new
one_more f xs i x start now new e more before line = subst (λ (ps : List Piece). Wrote ps start new) (sym (next_line f xs i x e)) (more (first_lines f xs i) (f x) start now new before line)

-- there is something at each place before the end
pub before_end : {A : Type 0} (xs : List A) (i : ℕ) → i < length xs → slice_get xs i ≡ None → ⊥
before_end [] i lt e = omega arith
before_end (x ∷ xs) i lt e = let none : Some (get_or (x ∷ xs) i x) ≡ None = sym (slice_get-get_or (x ∷ xs) i x lt) ∙ e in cc

-- the lines are those before one, it, and those behind it
split_at : {A : Type 0} (f : A → List Piece) (xs : List A) (i : ℕ) (x : A) → slice_get xs i ≡ Some x → flat_map f xs ≡ first_lines f xs i ++ (f x ++ flat_map f (drop (suc i) xs))
split_at {A} f xs i x e =
    ap (λ (ys : List A). flat_map f ys) (sym (take-append-drop i xs))
    ∙ (flat_map-append f (take i xs) (drop i xs)
    ∙ ap (λ (ys : List A). first_lines f xs i ++ flat_map f ys) (drop-cons xs i x (slice_get_within xs i x e) ∙ ap (λ (a : A). a ∷ drop (suc i) xs) (get_or_from_slice_get xs i x x e)))

pub too_long : {A : Type 0} (f : A → List Piece) (xs : List A) (i : ℕ) (x : A) (start now : Page) → slice_get xs i ≡ Some x → ((a b c : List Piece) (p q : Page) → Wrote a p q → IsOver q b → IsOver p (a ++ (b ++ c))) → Wrote (first_lines f xs i) start now → IsOver now (f x) → IsOver start (flat_map f xs)
too_long f xs i x start now e over before o = subst (λ (ps : List Piece). IsOver start ps) (sym (split_at f xs i x e)) (over (first_lines f xs i) (f x) (flat_map f (drop (suc i) xs)) start now before o)

-- where a line is not shown in full, no more than the lines to it are
pub stopped : {A : Type 0} {new : Page} {e : ShowFault} (f : A → List Piece) (xs : List A) (i : ℕ) (x : A) (start now : Page) → slice_get xs i ≡ Some x → ((a b c : List Piece) (p q : Page) → Wrote a p q → IsOver q b → IsOver p (a ++ (b ++ c))) → Wrote (first_lines f xs i) start now → Shows (f x) now new (Err e) → Shows (flat_map f xs) start new (Err e)
stopped f xs i x start now at over before h = record { wrote = tt; over = λ q. too_long f xs i x start now at over before (h.over q) }

pub all_lines : {A : Type 0} (f : A → List Piece) (xs : List A) (i : ℕ) (start now : Page) → length xs ≤ i → Wrote (first_lines f xs i) start now → Wrote (flat_map f xs) start now
all_lines {A} f xs i start now le w = subst (λ (ys : List A). Wrote (flat_map f ys) start now) (take_all i xs le) w

-- ---- items

-- the line of an item, as it is brought
abbrev pub brought_line : Option Move → NamedItem → List Piece
brought_line by i = item_line i.name (replaced_desc (moved_by by) i.desc)

item_lines : (by : Option Move) (xs : List NamedItem) → flat_map (brought_line by) xs ≡ flat_map (λ i. item_line i.name i.desc) (map (replaced_item (moved_by by)) xs)
item_lines by [] = refl
item_lines by (x ∷ xs) = ap (λ (ps : List Piece). brought_line by x ++ ps) (item_lines by xs)

-- the lines of items that are brought so
pub brought_shown : {p q : Page} {r : Result (Unit {0}) ShowFault} (by : Option Move) (xs : List NamedItem) → Shows (flat_map (brought_line by) xs) p q r → Shows (flat_map (λ i. item_line i.name i.desc) (map (replaced_item (moved_by by)) xs)) p q r
brought_shown by xs h = told (sym (item_lines by xs)) h

-- the line of an item by what it is
pub line_as : (types : Types) (by : Option Move) (i : Item) (d : ItemDesc) → i.desc ≡ d → brought_line by (item_in types i) ≡ item_line (name_spelling (form_tree i.name)) (replaced_desc (moved_by by) (desc_of (types_of types) (funcs_of types) d))
line_as types by i d q = ap (λ (x : ItemDesc). item_line (name_spelling (form_tree i.name)) (replaced_desc (moved_by by) (desc_of (types_of types) (funcs_of types) x))) q

-- the line of a function, and of a type, whose resources are counted as its place and as what brings it move them
pub func_line : (types : Types) (by : Option Move) (i : Item) (p : Placed) (c : Counting) (f : FuncTy) → i.desc ≡ item.Func p → c.place ≡ p.by → c.brought ≡ by → f ≡ func_at (funcs_of types) p.place → ((s u : Standing) (g : FuncTy) → replaced_func u (replaced_func s g) ≡ replaced_func (λ r. u (s r)) g) → brought_line by (item_in types i) ≡ line (codes "  func ") (name_spelling (form_tree i.name)) (func_pieces (replaced_func (counted c) f))
func_line types by i p c f d place brought at twice =
    line_as types by i (item.Func p) d
    ∙ ap (λ (g : FuncTy). line (codes "  func ") (name_spelling (form_tree i.name)) (func_pieces g)) (twice (moved_by p.by) (moved_by by) (func_at (funcs_of types) p.place)
    ∙ (ap (λ (a : Option Move). replaced_func (λ r. moved_by by (moved_by a r)) (func_at (funcs_of types) p.place)) (sym place)
    ∙ (ap (λ (b : Option Move). replaced_func (λ r. moved_by b (moved_by c.place r)) (func_at (funcs_of types) p.place)) (sym brought)
    ∙ ap (replaced_func (counted c)) (sym at))))

pub type_line : (types : Types) (by : Option Move) (i : Item) (p : Placed) (c : Counting) (t : Ty) → i.desc ≡ item.EqualType p → c.place ≡ p.by → c.brought ≡ by → t ≡ type_at (types_of types) p.place → ((s u : Standing) (x : Ty) → replaced u (replaced s x) ≡ replaced (λ r. u (s r)) x) → brought_line by (item_in types i) ≡ line (codes "  type ") (name_spelling (form_tree i.name)) (type_pieces (replaced (counted c) t))
type_line types by i p c t d place brought at twice =
    line_as types by i (item.EqualType p) d
    ∙ ap (λ (x : Ty). line (codes "  type ") (name_spelling (form_tree i.name)) (type_pieces x)) (twice (moved_by p.by) (moved_by by) (type_at (types_of types) p.place)
    ∙ (ap (λ (a : Option Move). replaced (λ r. moved_by by (moved_by a r)) (type_at (types_of types) p.place)) (sym place)
    ∙ (ap (λ (b : Option Move). replaced (λ r. moved_by b (moved_by c.place r)) (type_at (types_of types) p.place)) (sym brought)
    ∙ ap (replaced (counted c)) (sym at))))

-- ---- imports and exports

abbrev pub word_lines : List ℕ → NamedExtern → List Piece
word_lines word e = extern_lines word e.name e.desc

-- the first line of an import or an export by what it is
pub front_as : (types : Types) (word : List ℕ) (e : NamedDesc) (d : Desc) → e.desc ≡ d → line word (name_spelling (form_tree e.name)) (extern_pieces (desc_in types e.desc)) ≡ line word (name_spelling (form_tree e.name)) (extern_pieces (desc_in types d))
front_as types word e d q = ap (λ (x : Desc). line word (name_spelling (form_tree e.name)) (extern_pieces (desc_in types x))) q

pub func_front : (types : Types) (word : List ℕ) (e : NamedDesc) (p : Placed) (c : Counting) (f : FuncTy) → e.desc ≡ is.Func p → c.place ≡ p.by → c.brought ≡ None → f ≡ func_at (funcs_of types) p.place → line word (name_spelling (form_tree e.name)) (extern_pieces (desc_in types e.desc)) ≡ line word (name_spelling (form_tree e.name)) (chars (codes "func ") ∷ func_pieces (replaced_func (counted c) f))
func_front types word e p c f d place brought at =
    front_as types word e (is.Func p) d
    ∙ ap (λ (g : FuncTy). line word (name_spelling (form_tree e.name)) (chars (codes "func ") ∷ func_pieces g)) (
    ap (λ (a : Option Move). replaced_func (λ r. moved_by None (moved_by a r)) (func_at (funcs_of types) p.place)) (sym place)
    ∙ (ap (λ (b : Option Move). replaced_func (λ r. moved_by b (moved_by c.place r)) (func_at (funcs_of types) p.place)) (sym brought)
    ∙ ap (replaced_func (counted c)) (sym at)))

-- the lines behind the first one
abbrev pub behind_front : ExternTy → List Piece
behind_front (func f) = []
behind_front (instance items) = flat_map (λ i. item_line i.name i.desc) items

pub lines_split : (word name : List ℕ) (d : ExternTy) → extern_lines word name d ≡ line word name (extern_pieces d) ++ behind_front d
lines_split word name (func f) = sym (append-nil (line word name (extern_pieces (func f))))
lines_split word name (instance items) = refl

-- ---- the pieces of a line, from its front to its end

pub func_split : (params answer : List Piece) → (between (codes "(") (codes ")") params ++ answer) ++ chars (codes "\n") ∷ [] ≡ chars (codes "(") ∷ (params ++ chars (codes ")") ∷ (answer ++ chars (codes "\n") ∷ []))
func_split params answer =
    ap (λ (ps : List Piece). chars (codes "(") ∷ ps) (append_assoc (params ++ chars (codes ")") ∷ []) answer (chars (codes "\n") ∷ []) ∙ append_assoc params (chars (codes ")") ∷ []) (answer ++ chars (codes "\n") ∷ []))
