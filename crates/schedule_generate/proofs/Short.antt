-- The line of a generated event is short, and has no line feed.
use Rattle.std.proofs.Common.{◌≡◌, ℕ, ◌+◌, ◌*◌, ◌-◌, ◌≤◌, ◌<◌, ◌^◌, zero, suc, Bool, true, false, not, List, [], ◌∷◌, ◌++◌, length, map, All, Some, None, refl, ap, sym, subst, ◌∙◌, arith, nat_lt, ⊎_elim}
use Rattle.std.specs.Prelude.{codes, decimal, ◌==◌, ◌&&◌, if◌then◌else◌}
use Rattle.std.specs.Int.Digits.{digits_of}
use Rattle.std.specs.List.{list_all}
use Rattle.std.proofs.lemmas.Bool.Decides.{nat_tests}
use Rattle.std.proofs.lemmas.Fmt.{decimal_digit, decimal-digits_of, length-decimal-le}
use Rattle.std.proofs.lemmas.List.Elements.{All-head, All-tail}
use Rattle.std.proofs.lemmas.List.Folds.{list_all-append}
use Rattle.std.proofs.lemmas.List.{length-append}
use Rattle.fabric_terms.specs.Ranges.{Fits, IsReading}
use Rattle.fabric_terms.specs.declared.command.Command.TheVariants.{Link}
use Rattle.fabric_terms.specs.declared.event.Event.{Event}
use Rattle.fabric_terms.specs.declared.event.Event.TheVariants.{Start, Stop, Tick, Fire, Give, Do, Junk}
use Rattle.line_format.specs.Lines.{event_text, reading_text}
use Rattle.line_format.proofs.Lists.{joined_is}
use Rattle.text_fields.specs.Actors.{actor_text}
use Rattle.schedule_generate.specs.Texts.{reading_word, readings_text}

abbrev not_feed : ℕ → Bool
not_feed b = not (b == 10)

abbrev pub no_feed : List ℕ → Bool
no_feed bytes = list_all not_feed bytes

pub record Short (most : ℕ) (bytes : List ℕ) : Type 0 where
  pub few : length bytes ≤ most
  pub plain : no_feed bytes ≡ true

both : (x y : Bool) → x ≡ true → y ≡ true → (x && y) ≡ true
both x y e f = rw (e, f) refl

joined : (j k : ℕ) (xs ys : List ℕ) → Short j xs → Short k ys → Short (j + k) (xs ++ ys)
joined j k xs ys s t =
    let many = length-append xs ys in
    let a = s.few in
    let b = t.few in
    record { few = omega arith; plain = list_all-append not_feed xs ys ∙ both (no_feed xs) (no_feed ys) s.plain t.plain }

wider : (j k : ℕ) (xs : List ℕ) → j ≤ k → Short j xs → Short k xs
wider j k xs le s = let a = s.few in record { few = omega arith; plain = s.plain }

digits_plain : (ds : List ℕ) → no_feed (map (λ d. 48 + d) ds) ≡ true
digits_plain [] = refl
digits_plain (d ∷ ds) =
    let apart : (48 + d == 10) ≡ false = grind (arith, nat_tests) in
    both (not_feed (48 + d)) (no_feed (map (λ d. 48 + d) ds)) (ap not apart) (digits_plain ds)

decimal_plain : (n : ℕ) → n < 2 ^ 64 → no_feed (decimal n) ≡ true
decimal_plain zero lt = ap no_feed (decimal_digit 0 (omega arith))
decimal_plain (suc k) lt = ap no_feed (decimal-digits_of (suc k) (omega arith) lt) ∙ digits_plain (digits_of 10 (suc k))

number_short : (n : ℕ) → n ≤ 1000000000000000 → Short 16 (decimal n)
number_short n le = record { few = length-decimal-le 16 n (omega arith) (omega arith) (omega arith); plain = decimal_plain n (omega arith) }

actor_short : (actor : ℕ) → actor ≤ 40000 → Short 17 (actor_text actor)
actor_short actor le = by_kind (nat_lt 32768 actor)
  where
    by_kind : (b : Bool) → Short 17 (if b then codes "a" ++ decimal (actor - 32768) else decimal actor)
    by_kind true = joined 1 16 (codes "a") (decimal (actor - 32768)) (record { few = omega arith; plain = refl }) (number_short (actor - 32768) (omega arith))
    by_kind false = wider 16 17 (decimal actor) (omega arith) (number_short actor (omega arith))

-- the events of generated schedules
abbrev pub IsPlain : Event → Type 0
IsPlain (Start actor reading) = Unit {0}
IsPlain (Stop actor) = Unit {0}
IsPlain (Tick advance readings) = Unit {0}
IsPlain (Fire node) = Unit {0}
IsPlain (Give frame) = Unit {0}
IsPlain (Do node (Link other)) = Unit {0}
IsPlain (Do node _) = ⊥
IsPlain (Junk actor bytes) = ⊥

word_short : (r : ℕ × ℕ) → IsReading r → Short 34 (reading_word r)
word_short r fits =
    let node : r.0 ≤ 999 = fits.0.1 in
    joined 1 33 (codes " ") (reading_text r) (record { few = omega arith; plain = refl })
    (joined 16 17 (decimal r.0) (codes ":" ++ decimal r.1) (number_short r.0 (omega arith))
    (joined 1 16 (codes ":") (decimal r.1) (record { few = omega arith; plain = refl }) (number_short r.1 fits.1)))

words_short : (rs : List (ℕ × ℕ)) → All IsReading rs → Short (34 * length rs) (readings_text rs)
words_short [] fits = record { few = omega arith; plain = refl }
words_short (r ∷ rs) fits =
    wider (34 + 34 * length rs) (34 * length (r ∷ rs)) (readings_text (r ∷ rs)) (omega arith)
    (joined 34 (34 * length rs) (reading_word r) (readings_text rs) (word_short r (All-head IsReading r rs fits)) (words_short rs (All-tail IsReading r rs fits)))

pub tick_spelled : (advance : ℕ) (readings : List (ℕ × ℕ)) → event_text (Tick advance readings) ≡ codes "tick " ++ (decimal advance ++ readings_text readings)
tick_spelled advance readings = ap (λ t. codes "tick " ++ t) (joined_is 32 (decimal advance) reading_text readings)

pub short_text : (e : Event) → IsPlain e → Fits e → Short 4096 (event_text e)
short_text (Start actor None) p fits =
    let high : actor ≤ 32777 = fits.1 in
    wider (6 + 17) 4096 _ (omega arith) (joined 6 17 (codes "start ") (actor_text actor) (record { few = omega arith; plain = refl }) (actor_short actor (omega arith)))
short_text (Start actor (Some reading)) p fits =
    let high : actor ≤ 999 = fits.0.1 in
    wider (6 + 33) 4096 _ (omega arith) (joined 6 33 (codes "start ") (decimal actor ++ (codes " " ++ decimal reading)) (record { few = omega arith; plain = refl })
    (joined 16 17 (decimal actor) (codes " " ++ decimal reading) (number_short actor (omega arith))
    (joined 1 16 (codes " ") (decimal reading) (record { few = omega arith; plain = refl }) (number_short reading fits.1))))
short_text (Stop actor) p fits =
    wider (5 + 17) 4096 _ (omega arith) (joined 5 17 (codes "stop ") (actor_text actor) (record { few = omega arith; plain = refl }) (actor_short actor (actor_few fits)))
  where
    actor_few : Fits (Stop actor) → actor ≤ 40000
    actor_few f = ⊎_elim (λ node. let high : actor ≤ 999 = node.1 in omega arith) (λ arbiter. let high : actor ≤ 32777 = arbiter.1 in omega arith) f
short_text (Tick advance readings) p fits =
    let many : length readings ≤ 64 = fits.1.0 in
    subst (λ t. Short 4096 t) (sym (tick_spelled advance readings))
    (wider (5 + (16 + 34 * length readings)) 4096 _ (omega arith)
    (joined 5 (16 + 34 * length readings) (codes "tick ") (decimal advance ++ readings_text readings) (record { few = omega arith; plain = refl })
    (joined 16 (34 * length readings) (decimal advance) (readings_text readings) (number_short advance fits.0) (words_short readings fits.1.1))))
short_text (Fire node) p fits =
    let high : node ≤ 999 = fits.1 in
    wider (5 + 16) 4096 _ (omega arith) (joined 5 16 (codes "fire ") (decimal node) (record { few = omega arith; plain = refl }) (number_short node (omega arith)))
short_text (Give frame) p fits =
    wider (5 + 16) 4096 _ (omega arith) (joined 5 16 (codes "give ") (decimal frame) (record { few = omega arith; plain = refl }) (number_short frame fits))
short_text (Do node (Link other)) p fits =
    let high : node ≤ 999 = fits.0.1 in
    let high_other : other ≤ 999 = fits.1.1 in
    wider (3 + 38) 4096 _ (omega arith) (joined 3 38 (codes "do ") (decimal node ++ (codes " link " ++ decimal other)) (record { few = omega arith; plain = refl })
    (joined 16 22 (decimal node) (codes " link " ++ decimal other) (number_short node (omega arith))
    (joined 6 16 (codes " link ") (decimal other) (record { few = omega arith; plain = refl }) (number_short other (omega arith)))))
short_text (Do node command) p fits = absurd p
short_text (Junk actor bytes) p fits = absurd p
