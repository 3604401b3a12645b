use Rattle.std.proofs.Common.{◌≡◌, refl}
use Rattle.cm_types.specs.Holds.{is_string, is_list, is_borrow, is_handle}
use Rattle.cm_types.specs.Types.{Ty, bool, signed, unsigned, char, string, list, fixed_list, fields, cases, flags, own, borrow}
use Rattle.cm_types_arena.specs.Replaced.{Standing, replaced}
use Rattle.cm_types_arena.proofs.ReplacedLaws.{nodes_stay, depth_stays, holds_stays, spellable_stays}
use Rattle.cm_types_arena.proofs.laws.what_stays.Goals as goal

strings_same : (s : Standing) (t : Ty) → is_string (replaced s t) ≡ is_string t
strings_same s bool = refl
strings_same s (signed w) = refl
strings_same s (unsigned w) = refl
strings_same s char = refl
strings_same s string = refl
strings_same s (list t) = refl
strings_same s (fixed_list t n) = refl
strings_same s (fields k fs) = refl
strings_same s (cases k cs) = refl
strings_same s (flags ls) = refl
strings_same s (own r) = refl
strings_same s (borrow r) = refl

lists_same : (s : Standing) (t : Ty) → is_list (replaced s t) ≡ is_list t
lists_same s bool = refl
lists_same s (signed w) = refl
lists_same s (unsigned w) = refl
lists_same s char = refl
lists_same s string = refl
lists_same s (list t) = refl
lists_same s (fixed_list t n) = refl
lists_same s (fields k fs) = refl
lists_same s (cases k cs) = refl
lists_same s (flags ls) = refl
lists_same s (own r) = refl
lists_same s (borrow r) = refl

borrows_same : (s : Standing) (t : Ty) → is_borrow (replaced s t) ≡ is_borrow t
borrows_same s bool = refl
borrows_same s (signed w) = refl
borrows_same s (unsigned w) = refl
borrows_same s char = refl
borrows_same s string = refl
borrows_same s (list t) = refl
borrows_same s (fixed_list t n) = refl
borrows_same s (fields k fs) = refl
borrows_same s (cases k cs) = refl
borrows_same s (flags ls) = refl
borrows_same s (own r) = refl
borrows_same s (borrow r) = refl

handles_same : (s : Standing) (t : Ty) → is_handle (replaced s t) ≡ is_handle t
handles_same s bool = refl
handles_same s (signed w) = refl
handles_same s (unsigned w) = refl
handles_same s char = refl
handles_same s string = refl
handles_same s (list t) = refl
handles_same s (fixed_list t n) = refl
handles_same s (fields k fs) = refl
handles_same s (cases k cs) = refl
handles_same s (flags ls) = refl
handles_same s (own r) = refl
handles_same s (borrow r) = refl

pub returns-clause-nodes : goal.returns-clause-nodes
returns-clause-nodes c = nodes_stay

pub returns-clause-depth : goal.returns-clause-depth
returns-clause-depth c = depth_stays

pub returns-clause-strings : goal.returns-clause-strings
returns-clause-strings c s t = holds_stays s is_string (strings_same s) t

pub returns-clause-lists : goal.returns-clause-lists
returns-clause-lists c s t = holds_stays s is_list (lists_same s) t

pub returns-clause-borrows : goal.returns-clause-borrows
returns-clause-borrows c s t = holds_stays s is_borrow (borrows_same s) t

pub returns-clause-handles : goal.returns-clause-handles
returns-clause-handles c s t = holds_stays s is_handle (handles_same s) t

pub returns-clause-spellable : goal.returns-clause-spellable
returns-clause-spellable c = spellable_stays
