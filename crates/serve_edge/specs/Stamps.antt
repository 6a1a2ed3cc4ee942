-- The time of day as the log writes it.
use Rattle.std.specs.Prelude.{◌≡◌, ℕ, ◌+◌, ◌/◌, ◌%◌, min, List, [], ◌∷◌, ◌++◌, codes, pos, unsigned_abs}
use Rattle.jiff_core.specs.declared.civil.datetime.DateTime.{DateTime}
use Rattle.jiff_core.specs.DateTime.{civil_nanos}

-- the digit of a number at a unit: 1 for the last one, 10 for the one before it
abbrev pub digit : ℕ → ℕ → ℕ
digit number unit = 48 + number / unit % 10

abbrev pub two : ℕ → List ℕ
two number = digit number 10 ∷ digit number 1 ∷ []

abbrev pub three : ℕ → List ℕ
three number = digit number 100 ∷ two number

abbrev pub four : ℕ → List ℕ
four number = digit number 1000 ∷ three number

abbrev pub day_text : ℕ → ℕ → ℕ → List ℕ
day_text year month day = four year ++ codes "-" ++ two month ++ codes "-" ++ two day

abbrev pub time_text : ℕ → ℕ → ℕ → ℕ → List ℕ
time_text hour minute second milli = two hour ++ codes ":" ++ two minute ++ codes ":" ++ two second ++ codes "." ++ three milli

-- as 2026-11-29T19:17:59.123Z, and a blank
abbrev pub stamp_of : DateTime → List ℕ
stamp_of t =
    day_text (unsigned_abs t.date.year) t.date.month t.date.day ++ codes "T"
    ++ time_text t.time.hour t.time.minute t.time.second (t.time.subsec_nanosecond / 1_000_000) ++ codes "Z "

-- the last nanosecond of the year 9999
abbrev pub last_nanos : ℕ
last_nanos = 253_402_300_799_999_999_999

-- it is the text of the moment that lies so many nanoseconds behind the begin of 1970; later ones than the last are not shown
abbrev pub IsStampAt : ℕ → List ℕ → Type 0
IsStampAt nanos text = (t : DateTime) × (civil_nanos t ≡ pos (min nanos last_nanos)) × (text ≡ stamp_of t)
