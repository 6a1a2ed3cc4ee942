-- The form that words are, by the values that stand at their places.
use Rattle.std.proofs.Common.{◌≡◌, ◌≤◌, ◌∙◌, ℕ, true, List, [], ◌∷◌, Option, Some, None, arith, refl, ap, sym, length, option_map}
use Rattle.std.specs.Borrow.{Bor}
use Rattle.std.specs.Prelude.{slice_get, is_some}
use Rattle.fabric_top.specs.Forms.{form_of, four_words, one_word, three_words, two_words}
use Rattle.fabric_top.specs.Splits.{IsSplit}
use Rattle.fabric_top.specs.declared.split.Split.{Split}

words_none : (ws : List (List ℕ)) → slice_get ws 0 ≡ None → form_of ws ≡ None
unfolding form_of
words_none [] none = refl
words_none (a ∷ ws) none = cc

words_one : (ws : List (List ℕ)) (c : List ℕ) → slice_get ws 0 ≡ Some c → slice_get ws 1 ≡ None → form_of ws ≡ one_word c
unfolding form_of
words_one [] c command none = cc
words_one (a ∷ []) c command none = let same : a ≡ c = cc in ap one_word same
words_one (a ∷ b ∷ ws) c command none = cc

words_two : (ws : List (List ℕ)) (c x : List ℕ) → slice_get ws 0 ≡ Some c → slice_get ws 1 ≡ Some x → slice_get ws 2 ≡ None → form_of ws ≡ two_words c x
unfolding form_of
words_two [] c x command first none = cc
words_two (a ∷ []) c x command first none = cc
words_two (a ∷ b ∷ []) c x command first none =
    let one : a ≡ c = cc in
    let two : b ≡ x = cc in
    rw (one, two) refl
words_two (a ∷ b ∷ d ∷ ws) c x command first none = cc

words_three : (ws : List (List ℕ)) (c x y : List ℕ) → slice_get ws 0 ≡ Some c → slice_get ws 1 ≡ Some x → slice_get ws 2 ≡ Some y → slice_get ws 3 ≡ None → form_of ws ≡ three_words c x y
unfolding form_of
words_three [] c x y command first second none = cc
words_three (a ∷ []) c x y command first second none = cc
words_three (a ∷ b ∷ []) c x y command first second none = cc
words_three (a ∷ b ∷ d ∷ []) c x y command first second none =
    let one : a ≡ c = cc in
    let two : b ≡ x = cc in
    let three : d ≡ y = cc in
    rw (one, two, three) refl
words_three (a ∷ b ∷ d ∷ e ∷ ws) c x y command first second none = cc

words_four : (ws : List (List ℕ)) (c x y z : List ℕ) → length ws ≤ 4 → slice_get ws 0 ≡ Some c → slice_get ws 1 ≡ Some x → slice_get ws 2 ≡ Some y → slice_get ws 3 ≡ Some z → form_of ws ≡ four_words c x y z
unfolding form_of
words_four [] c x y z few command first second third = cc
words_four (a ∷ []) c x y z few command first second third = cc
words_four (a ∷ b ∷ []) c x y z few command first second third = cc
words_four (a ∷ b ∷ d ∷ []) c x y z few command first second third = cc
words_four (a ∷ b ∷ d ∷ e ∷ []) c x y z few command first second third =
    let one : a ≡ c = cc in
    let two : b ≡ x = cc in
    let three : d ≡ y = cc in
    let four : e ≡ z = cc in
    rw (one, two, three, four) refl
words_four (a ∷ b ∷ d ∷ e ∷ f ∷ ws) c x y z few command first second third = absurd (omega arith)

-- the same of split words
at : {place there : Option (Bor (List ℕ))} {word : Option (List ℕ)} → option_map (λ w. w.now) place ≡ word → place ≡ there → word ≡ option_map (λ w. w.now) there
at holds is = sym holds ∙ ap (option_map (λ w. w.now)) is

pub of_none : (ws : List (List ℕ)) (s : Split) → IsSplit ws s → s.command ≡ None → form_of ws ≡ None
of_none ws s split none = words_none ws (at split.command none)

pub of_one : (ws : List (List ℕ)) (s : Split) (c : Bor (List ℕ)) → IsSplit ws s → s.command ≡ Some c → s.first ≡ None → form_of ws ≡ one_word c.now
of_one ws s c split command none = words_one ws c.now (at split.command command) (at split.first none)

pub of_two : (ws : List (List ℕ)) (s : Split) (c x : Bor (List ℕ)) → IsSplit ws s → s.command ≡ Some c → s.first ≡ Some x → s.second ≡ None → form_of ws ≡ two_words c.now x.now
of_two ws s c x split command first none = words_two ws c.now x.now (at split.command command) (at split.first first) (at split.second none)

pub of_three : (ws : List (List ℕ)) (s : Split) (c x y : Bor (List ℕ)) → IsSplit ws s → s.command ≡ Some c → s.first ≡ Some x → s.second ≡ Some y → s.third ≡ None → form_of ws ≡ three_words c.now x.now y.now
of_three ws s c x y split command first second none =
    words_three ws c.now x.now y.now (at split.command command) (at split.first first) (at split.second second) (at split.third none)

pub of_four : (ws : List (List ℕ)) (s : Split) (c x y z : Bor (List ℕ)) → IsSplit ws s → s.command ≡ Some c → s.first ≡ Some x → s.second ≡ Some y → s.third ≡ Some z → form_of ws ≡ four_words c.now x.now y.now z.now
of_four ws s c x y z split command first second third =
    words_four ws c.now x.now y.now z.now split.few (at split.command command) (at split.first first) (at split.second second) (at split.third third)

-- words that are a form are four at most
pub few : (ws : List (List ℕ)) → is_some (form_of ws) ≡ true → length ws ≤ 4
unfolding form_of
few [] form = omega arith
few (a ∷ []) form = omega arith
few (a ∷ b ∷ []) form = omega arith
few (a ∷ b ∷ c ∷ []) form = omega arith
few (a ∷ b ∷ c ∷ d ∷ []) form = omega arith
few (a ∷ b ∷ c ∷ d ∷ e ∷ ws) form = cc
