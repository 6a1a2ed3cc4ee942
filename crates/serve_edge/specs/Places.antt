-- The places of clients, and the numbers of those that come one after another to a place.
use Rattle.std.specs.Prelude.{ℕ, ◌+◌, ◌%◌, ◌^◌, nat_lt, if◌then◌else◌}

-- how many places numbers tell apart
abbrev pub number_places : ℕ
number_places = 64

-- where a client with this number is
abbrev pub place_of : ℕ → ℕ
place_of number = number % number_places

-- The number of the next client there. Behind the greatest one the numbers begin again, and none is below the count of
-- the places.
abbrev pub later_number : ℕ → ℕ
later_number number = if nat_lt (number + number_places) (2 ^ 32) then number + number_places else place_of number + number_places

-- the place so many steps behind another one, in rotation
abbrev pub place_behind : ℕ → ℕ → ℕ → ℕ
place_behind first step places = (first + step) % places
