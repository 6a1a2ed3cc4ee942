-- The codes of characters, as ASCII has them.
use Rattle.std.specs.Prelude.{ℕ}

abbrev pub line_feed_code : ℕ
line_feed_code = 10

abbrev pub blank_code : ℕ
blank_code = 32

-- the visible signs, from `!` to `~`
abbrev pub first_sign_code : ℕ
first_sign_code = 33

abbrev pub last_sign_code : ℕ
last_sign_code = 126

abbrev pub comma_code : ℕ
comma_code = 44

abbrev pub zero_code : ℕ
zero_code = 48

abbrev pub nine_code : ℕ
nine_code = 57

-- the letters `a` and `f`
abbrev pub a_code : ℕ
a_code = 97

abbrev pub f_code : ℕ
f_code = 102
