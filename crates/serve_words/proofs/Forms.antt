-- The form that words are, by how they are split.
use Rattle.std.proofs.Common.{◌≡◌, ◌∙◌, true, false, List, [], ◌∷◌, Option, Some, None, ap, refl, sym, codes, option_map}
use Rattle.std.specs.Borrow.{Bor}
use Rattle.std.specs.Prelude.{drop, slice_get}
use Rattle.std.specs.Str.{bytes_eq}
use Rattle.serve_words.specs.Forms.{form_of, one_word, with_values}
use Rattle.serve_words.specs.Options.{Text}
use Rattle.serve_words.specs.Splits.{IsSplit, has_second}
use Rattle.serve_words.specs.declared.split.Split.{Split}

-- a word at its place
at : {place there : Option (Bor Text)} {word : Option Text} → option_map (λ w. w.now) place ≡ word → place ≡ there → word ≡ option_map (λ w. w.now) there
at holds is = sym holds ∙ ap (option_map (λ w. w.now)) is

no_words : (ws : List Text) → slice_get ws 0 ≡ None → form_of ws ≡ None
unfolding form_of
no_words [] none = refl
no_words (c ∷ ws) none = cc

one_form : (ws : List Text) (c : Text) → slice_get ws 0 ≡ Some c → slice_get ws 1 ≡ None → form_of ws ≡ one_word c
unfolding form_of
one_form [] c command none = cc
one_form (a ∷ []) c command none = let same : a ≡ c = cc in ap one_word same
one_form (a ∷ b ∷ ws) c command none = cc

more_are : (ws : List Text) (c f : Text) → slice_get ws 0 ≡ Some c → slice_get ws 1 ≡ Some f → ws ≡ c ∷ f ∷ drop 1 (drop 1 ws)
more_are [] c f command first = cc
more_are (a ∷ []) c f command first = cc
more_are (a ∷ b ∷ ws) c f command first =
    let one : a ≡ c = cc in
    let two : b ≡ f = cc in
    rw (one, two) refl

more_form : (c f : Text) (ws : List Text) → form_of (c ∷ f ∷ ws) ≡ with_values c f ws
unfolding form_of
more_form c f ws = refl

pub of_none : (ws : List Text) (s : Split) → IsSplit ws s → s.command ≡ None → form_of ws ≡ None
of_none ws s split none = no_words ws (at split.command none)

pub of_one : (ws : List Text) (s : Split) (c : Bor Text) → IsSplit ws s → s.command ≡ Some c → s.first ≡ None → form_of ws ≡ one_word c.now
of_one ws s c split command none = one_form ws c.now (at split.command command) (at split.first none)

pub of_more : (ws : List Text) (s : Split) (c f : Bor Text) → IsSplit ws s → s.command ≡ Some c → s.first ≡ Some f → form_of ws ≡ with_values c.now f.now (drop 1 (drop 1 ws))
of_more ws s c f split command first =
    ap form_of (more_are ws c.now f.now (at split.command command) (at split.first first)) ∙ more_form c.now f.now (drop 1 (drop 1 ws))

behind_first : (ws : List Text) → slice_get (drop 1 ws) 0 ≡ slice_get ws 1
behind_first [] = refl
behind_first (w ∷ ws) = refl

behind_second : (ws : List Text) → slice_get (drop 1 ws) 1 ≡ slice_get ws 2
behind_second [] = refl
behind_second (w ∷ ws) = refl

-- the first value, where there is one
pub first_value : (ws : List Text) (s : Split) (f : Bor Text) → IsSplit ws s → s.first ≡ Some f → slice_get (drop 1 ws) 0 ≡ Some f.now
first_value ws s f split first = behind_first ws ∙ at split.first first

second_is_split : (ws : List Text) (c : Text) → slice_get ws 0 ≡ Some c → bytes_eq c (codes "ask") ≡ false → has_second ws ≡ true
second_is_split [] c command other = refl
second_is_split (a ∷ ws) c command other =
    let same : a ≡ c = cc in
    rw (same, other) refl

-- the second value, where the command is not `ask`
pub second_value : (ws : List Text) (s : Split) (c : Bor Text) → IsSplit ws s → s.command ≡ Some c → bytes_eq c.now (codes "ask") ≡ false
    → option_map (λ w. w.now) s.second ≡ slice_get (drop 1 ws) 1
second_value ws s c split command other =
    split.second (second_is_split ws c.now (at split.command command) other) ∙ sym (behind_second ws)
