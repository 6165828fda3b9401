-- The bounds that contracts speak of, each with what it bounds. Those that code tests are constants there too (src/lib.rt).
use Rattle.std.specs.Prelude.{ℕ}

-- 1: "len is over 16,777,215": the longest text that is accepted
abbrev pub most_bytes : ℕ
most_bytes = 16777215

-- "a row and a tail row below 16,777,216": every text that is accepted has fewer rows, minimised or not
abbrev pub row_numbers_bound : ℕ
row_numbers_bound = 16777216

-- a text of at most 16,777,215 bytes has fewer rows of four cells or more: R is 3,355,443 at most
abbrev pub row_count_bound : ℕ
row_count_bound = 4194304

-- the number of such a text's last measure is at most this, since every measure but the last takes two bytes
abbrev pub measures_bound : ℕ
measures_bound = 8388608

-- the highest count to which a row of ten cells can still be added in 32 bits
abbrev pub count_bound : ℕ
count_bound = 4294967285
