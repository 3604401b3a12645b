-- How much room each byte or unit of a text asks for in another encoding (this project's own
-- choice: these words are of private contracts, and no public one).
use Rattle.std.specs.Prelude.{ℕ, if◌then◌else◌, nat_lt}

-- how many units of UTF-16 a scalar takes whose UTF-8 begins with this byte, and 0 where the byte
-- goes on with one
abbrev pub units_begun : ℕ → ℕ
units_begun b =
    if nat_lt b 0x80 then 1 else (if nat_lt b 0xC0 then 0 else (if nat_lt b 0xF0 then 1 else 2))

-- how many bytes of UTF-8 a unit of UTF-16 takes, where the two of a surrogate pair take two each
abbrev pub bytes_taken : ℕ → ℕ
bytes_taken u =
    if nat_lt u 0x80
    then 1 else (if nat_lt u 0x800
    then 2 else (if nat_lt u 0xD800 then 3 else (if nat_lt u 0xE000 then 2 else 3)))

-- how many bytes of UTF-8 a byte of Latin-1 takes
abbrev pub latin1_taken : ℕ → ℕ
latin1_taken b = if nat_lt b 0x80 then 1 else 2
