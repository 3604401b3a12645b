-- The line of each event (docs/COMMAND.md, "Events"; this project's own choice).
use Rattle.std.specs.Prelude.{ℕ, List, [], ◌∷◌, ◌++◌, None, Some, codes}
use Rattle.std.specs.Fmt.{decimal}
use Rattle.std.specs.List.{flat_map}
use Rattle.cm_types.specs.declared.core_value.CoreValue.{CoreValue}
use Rattle.cm_types.specs.declared.core_value.CoreValue.TheVariants.{I32, I64}
use Rattle.cm_machine_model.specs.Numbers.{trap_number}
use Rattle.cm_machine_model.specs.declared.event.Event.{Event}
use Rattle.cm_machine_model.specs.declared.event.Event.TheVariants as event

-- A core value behind a space: its type and its number.
abbrev pub value_word : CoreValue → List ℕ
value_word (I32 n) = codes " i32:" ++ decimal n
value_word (I64 n) = codes " i64:" ++ decimal n

-- A core value behind a space: its number alone.
abbrev pub number_word : CoreValue → List ℕ
number_word (I32 n) = codes " " ++ decimal n
number_word (I64 n) = codes " " ++ decimal n

-- A function of an instance, each behind its word or a space.
abbrev pub call_words : List ℕ → ℕ → ℕ → List ℕ
call_words word instance func = word ++ decimal instance ++ codes " " ++ decimal func

-- An event as text.
abbrev pub event_text : Event → List ℕ
event_text event.Done = codes "done"
event_text (event.Grown None) = codes "grown none"
event_text (event.Grown (Some pages)) = codes "grown " ++ decimal pages
event_text (event.Enter instance func args) =
    call_words (codes "enter ") instance func ++ flat_map value_word args
event_text (event.Realloc instance func args) =
    call_words (codes "realloc ") instance func ++ flat_map number_word args
event_text (event.Resume instance values) =
    codes "resume " ++ decimal instance ++ flat_map value_word values
event_text (event.PostReturn instance func args) =
    call_words (codes "postreturn ") instance func ++ flat_map value_word args
event_text (event.Dtor instance func rep) =
    call_words (codes "dtor ") instance func ++ codes " " ++ decimal rep
event_text (event.Trapped trap) = codes "trapped " ++ decimal (trap_number trap)
event_text event.Ended = codes "ended"

-- The line of an event ends with a line feed, code 10.
abbrev pub event_line : Event → List ℕ
event_line e = event_text e ++ 10 ∷ []
