-- The lines of answers (this project's own choice).
use Rattle.std.specs.Prelude.{◌≡◌, ◌≢◌, ℕ, ◌+◌, List, [], ◌∷◌, ◌++◌, codes, drop, if◌then◌else◌}
use Rattle.std.specs.Prelude.{length, nat_le, take}
use Rattle.std.specs.Fmt.{decimal}
use Rattle.std.specs.List.{AllByRecursion, flat_map}
use Rattle.hex.specs.Hex.{encode_lower}
use Rattle.cm_abi_model.specs.declared.region.Region.{Region}
use Rattle.cm_machine.specs.cm_machine_model.Memories.{memory_at}
use Rattle.cm_machine.specs.cm_machine_model.State.{State}
use Rattle.cm_tool_lines.specs.EventLines.{event_line}
use Rattle.cm_live.specs.declared.answer.Answer.{Answer}
use Rattle.cm_live.specs.declared.answer.Answer.TheVariants as answer

-- the bytes of a region of a memory; none where it passes the end
abbrev pub region_bytes : List ℕ → Region → List ℕ
region_bytes memory r =
    if nat_le (r.at + r.size) (length memory) then take r.size (drop r.at memory) else []

-- `mem I AT HEX`, where a region has bytes
abbrev pub region_line : ℕ → ℕ → List ℕ → List ℕ
region_line instance at [] = []
region_line instance at (b ∷ bytes) =
    codes "mem " ++ decimal instance ++ codes " " ++ decimal at ++ codes " "
    ++ encode_lower (b ∷ bytes) ++ codes "\n"

-- that of each region
abbrev pub region_lines : ℕ → List Region → List ℕ → List ℕ
region_lines instance regions memory =
    flat_map (λ r. region_line instance r.at (region_bytes memory r)) regions

-- the lines of an answer, with this state: what adapters wrote, as it stands there, and the event
abbrev pub answer_lines : State → Answer → List ℕ
answer_lines s answer.Ready = codes "ready\n"
answer_lines s (answer.Told written e) =
    region_lines written.instance written.regions.items (memory_at s.memories written.instance)
    ++ event_line e

-- a text with no line feed in it
abbrev pub IsOneLine : List ℕ → Type 0
IsOneLine text = AllByRecursion (λ b. b ≢ 10) text

-- the line of a refusal: one that begins so
abbrev pub IsErrorLine : List ℕ → Type 0
IsErrorLine bytes =
    (text : List ℕ) × IsOneLine text × (bytes ≡ codes "error: " ++ text ++ codes "\n")
