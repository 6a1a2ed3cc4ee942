-- What clap makes of three words at most, none of which begins with a hyphen: each is the value of its place.
use Rattle.std.proofs.Common.{◌≡◌, ◌≤◌, ◌&&◌, ◌||◌, ◌∙◌, Bool, ℕ, true, false, not, List, [], ◌∷◌, Option, Some, None, arith, ap, ap₂, refl, codes, length, is_some}
use Rattle.std.specs.Prelude.{if◌then◌else◌, option_and_then, slice_get}
use Rattle.std.specs.List.{list_all}
use Rattle.std.specs.Option.{option_map_or}
use Rattle.std.specs.Str.{bytes_eq}
use Rattle.clap.specs.Lexer.{long_of, long_of_rest, short_of, short_of_rest, strip_byte}
use Rattle.clap.specs.Simple.{Shape, built, entered, is_simple, matches_of}
use Rattle.clap.specs.Takes.{bundle_passes, default_passes, entered_passes, flag_word_passes, is_valid, settle_passes, step_passes, takes, turn_passes, walk_passes, word_passes}
use Rattle.clap.specs.Walk.{Held, Row, Rule, Walk, after_step, arg_by_index, finished, first_of, idle, long_or_other, nothing_held, short_or_plain, to_positional, trailing, value, walked, word_met}
use Rattle.clap.proofs.OnLiterals.{clap_on_literals}
use Rattle.serve_words.specs.Options.{Text, begins_with_hyphen, is_place}
use Rattle.serve_words.specs.Splits.{fabricd_app}

pub is_plain : is_simple fabricd_app ≡ true
unfolding clap_on_literals
is_plain = refl

-- ---- a word that does not begin with a hyphen

abbrev IsPlain : Text → Type 0
IsPlain w = begins_with_hyphen w ≡ false

no_mark : (w : Text) → IsPlain w → bytes_eq w (45 ∷ 45 ∷ []) ≡ false
no_mark [] e = refl
no_mark (b ∷ bs) e = ap (λ t. t && bytes_eq bs (45 ∷ [])) e

no_long : (w : Text) → IsPlain w → long_of w ≡ None
no_long [] e = refl
no_long (b ∷ bs) e = ap (λ t. option_and_then long_of_rest (option_and_then (strip_byte 45) (if t then Some bs else None))) e

no_short : (w : Text) → IsPlain w → short_of w ≡ None
no_short [] e = refl
no_short (b ∷ bs) e = ap (λ t. option_and_then short_of_rest (if t then Some bs else None)) e

-- it goes to a positional
met : (w : Text) → IsPlain w → (c : List Rule) (p : ℕ) (h : Held) → word_met c [] false idle p w h ≡ (h, value)
met w e c p h =
    ap (λ t. if t then (h, trailing p) else long_or_other c idle w (long_of w) h) (no_mark w e)
    ∙ (ap (λ l. long_or_other c idle w l h) (no_long w e) ∙ ap (λ s. short_or_plain c idle w s h) (no_short w e))

abbrev shape : Shape
shape = (built fabricd_app).top

abbrev rules : List Rule
rules = shape.rules

-- where a walk stands between two words
abbrev at : Held → ℕ → Walk
at h p = record { held = h; waiting = idle; position = p; is_trailing = false; stopped = None }

abbrev stepped : Walk → Text → Walk
stepped w word = to_positional rules (arg_by_index rules w.position) word w w.held

walks : (w : Text) → IsPlain w → (h : Held) (p : ℕ) → walked rules [] (at h p) w ≡ stepped (at h p) w
unfolding walked
walks w e h p = ap (λ m. after_step rules w (at h p) m.0 m.1) (met w e rules p h)

word_fine : (w : Text) → IsPlain w → (h : Held) → word_passes shape [] false idle w h ≡ true
word_fine w e h =
    ap (λ t. t || flag_word_passes rules shape.args_override_self (long_of w) w h) (no_mark w e)
    ∙ (ap (λ l. flag_word_passes rules shape.args_override_self l w h) (no_long w e)
    ∙ ap (λ s. option_map_or (λ flags. bundle_passes rules shape.args_override_self flags h) s true) (no_short w e))

turns : (w : Text) → IsPlain w → (h : Held) (p : ℕ) → turn_passes shape [] (at h p) w ≡ step_passes shape p h value
turns w e h p = ap₂ (λ t m. t && step_passes shape p m.0 m.1) (word_fine w e h) (met w e rules p h)

-- ---- the walk over one word, two and three

abbrev start : Walk
start = at nothing_held 1

abbrev end1 : Text → Walk
end1 a = stepped start a

abbrev end2 : Text → Text → Walk
end2 a b = stepped (end1 a) b

abbrev end3 : Text → Text → Text → Walk
end3 a b d = stepped (end2 a b) d

first : (a : Text) → IsPlain a → walked rules [] start a ≡ end1 a
first a e = walks a e nothing_held 1

second : (a b : Text) → IsPlain b → walked rules [] (end1 a) b ≡ end2 a b
second a b e = walks b e (end1 a).held 2

third : (a b d : Text) → IsPlain d → walked rules [] (end2 a b) d ≡ end3 a b d
third a b d e = walks d e (end2 a b).held 3

passes_none : (w : Walk) → walk_passes shape [] w [] ≡ true
unfolding walk_passes
passes_none w = refl

passes_third : (a b d : Text) → IsPlain d → walk_passes shape [] (end2 a b) (d ∷ []) ≡ true
unfolding walk_passes
passes_third a b d e = ap₂ (λ t w. t && walk_passes shape [] w []) (turns d e (end2 a b).held 3) (third a b d e)

passes_second : (a b : Text) → IsPlain b → (rest : List Text) → walk_passes shape [] (end2 a b) rest ≡ true → walk_passes shape [] (end1 a) (b ∷ rest) ≡ true
unfolding walk_passes
passes_second a b e rest later = ap₂ (λ t w. t && walk_passes shape [] w rest) (turns b e (end1 a).held 2) (second a b e) ∙ later

passes_first : (a : Text) → IsPlain a → (rest : List Text) → walk_passes shape [] (end1 a) rest ≡ true → walk_passes shape [] start (a ∷ rest) ≡ true
unfolding walk_passes
passes_first a e rest later = ap₂ (λ t w. t && walk_passes shape [] w rest) (turns a e nothing_held 1) (first a e) ∙ later

-- ---- what the walk comes to

-- the parse passes, by where the walk ends and whether it passes
abbrev whole : Walk → Bool → Bool
whole w passes =
    is_simple fabricd_app && (entered_passes (built fabricd_app) w.stopped && (passes && (settle_passes rules shape.args_override_self w.held
    && (list_all default_passes rules && is_valid shape (finished rules w.held) (is_some (entered (built fabricd_app) w.stopped))))))

-- what stands at the three places
abbrev values_in : List Row → Option Text × Option Text × Option Text
values_in rows = (first_of (codes "command") rows, first_of (codes "first") rows, first_of (codes "second") rows)

abbrev words_at : List Text → Option Text × Option Text × Option Text
words_at ws = (slice_get ws 0, slice_get ws 1, slice_get ws 2)

-- the words of a test: the first one, and the rest
head_fine : (t b : Bool) → (not t && b) ≡ true → t ≡ false
head_fine true b h = cc
head_fine false b h = refl

rest_fine : (t b : Bool) → (not t && b) ≡ true → b ≡ true
rest_fine true b h = cc
rest_fine false b h = h

record Plain (ws : List Text) : Type 0 where
  pub passes : takes fabricd_app ws ≡ true
  pub found : values_in (matches_of fabricd_app ws) ≡ words_at ws

of_one : (a : Text) → IsPlain a → Plain (a ∷ [])
of_one a e = record {
  passes = ap₂ whole (first a e) (passes_first a e [] (passes_none (end1 a)));
  found = ap (λ w. values_in (finished rules w.held)) (first a e);
}

of_two : (a b : Text) → IsPlain a → IsPlain b → Plain (a ∷ b ∷ [])
of_two a b e f =
    let walk = ap (λ w. walked rules [] w b) (first a e) ∙ second a b f in
    record {
      passes = ap₂ whole walk (passes_first a e (b ∷ []) (passes_second a b f [] (passes_none (end2 a b))));
      found = ap (λ w. values_in (finished rules w.held)) walk;
    }

of_three : (a b d : Text) → IsPlain a → IsPlain b → IsPlain d → Plain (a ∷ b ∷ d ∷ [])
of_three a b d e f g =
    let walk = ap (λ w. walked rules [] (walked rules [] w b) d) (first a e) ∙ (ap (λ w. walked rules [] w d) (second a b f) ∙ third a b d g) in
    record {
      passes = ap₂ whole walk (passes_first a e (b ∷ d ∷ []) (passes_second a b f (d ∷ []) (passes_third a b d g)));
      found = ap (λ w. values_in (finished rules w.held)) walk;
    }

of_none : Plain []
unfolding clap_on_literals
of_none = record { passes = refl; found = refl }

of_plain : (ws : List Text) → length ws ≤ 3 → list_all is_place ws ≡ true → Plain ws
of_plain [] few places = of_none
of_plain (a ∷ []) few places = of_one a (head_fine (begins_with_hyphen a) _ places)
of_plain (a ∷ b ∷ []) few places =
    let more = rest_fine (begins_with_hyphen a) _ places in
    of_two a b (head_fine (begins_with_hyphen a) _ places) (head_fine (begins_with_hyphen b) _ more)
of_plain (a ∷ b ∷ d ∷ []) few places =
    let more = rest_fine (begins_with_hyphen a) _ places in
    let last = rest_fine (begins_with_hyphen b) _ more in
    of_three a b d (head_fine (begins_with_hyphen a) _ places) (head_fine (begins_with_hyphen b) _ more) (head_fine (begins_with_hyphen d) _ last)
of_plain (a ∷ b ∷ d ∷ g ∷ ws) few places = absurd (omega arith)

pub taken : (ws : List Text) → length ws ≤ 3 → list_all is_place ws ≡ true → takes fabricd_app ws ≡ true
taken ws few places = (of_plain ws few places).passes

pub found : (ws : List Text) → length ws ≤ 3 → list_all is_place ws ≡ true → values_in (matches_of fabricd_app ws) ≡ words_at ws
found ws few places = (of_plain ws few places).found
