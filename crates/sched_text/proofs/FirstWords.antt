-- The third byte of a line tells its first word from the six others.
use Rattle.std.proofs.Common.{lit<, ◌≡◌, ◌≢◌, ℕ, ◌<◌, ◌++◌, List, length, false, get_or, Option, Some, None, arith, refl, ap, sym, ◌∙◌}
use Rattle.std.specs.Prelude.{codes, nat_eq}
use Rattle.std.proofs.lemmas.List.{get_or_append_left}
use Rattle.std.proofs.lemmas.Bool.Decides.{nat_tests}
use Rattle.fabric_terms.specs.declared.event.Event.{Event}
use Rattle.fabric_terms.specs.declared.event.Event.TheVariants.{Stop, Fire, Give}
use Rattle.text_fields.specs.Actors.{node_at, actor_at}
use Rattle.text_fields.specs.Fields.{after_word, last, made, behind, nothing}
use Rattle.text_fields.proofs.FieldLaws.{word_found, behind_other}
use Rattle.line_format.specs.Lines.{count_at, start_of, tick_of, do_of, junk_of, event_of}
use Rattle.sched_text.specs.EventLines.{third_byte}

-- a word does not stand at the front of a line that has another third byte
not_there : (word line : List ℕ) → 2 < length word → third_byte line ≢ third_byte word → after_word word line ≡ None
not_there word line long differs = cases (after_word word line) refl
  where
    cases : (o : Option (List ℕ)) → after_word word line ≡ o → o ≡ None
    cases None is = refl
    cases (Some rest) is =
        absurd (differs (ap third_byte (word_found word line rest is) ∙ get_or_append_left word rest 0 2 long))

abbrev Reader : Type 0
Reader = List ℕ → Option Event

passed : (word : List ℕ) (reader other : Reader) (line : List ℕ) → 2 < length word → third_byte line ≢ third_byte word
    → behind word reader other line ≡ other line
passed word reader other line long differs = behind_other word reader other line (not_there word line long differs)

-- where no other word stands
alone : (word : List ℕ) (reader other : Reader) (line : List ℕ) → other line ≡ None → behind word reader other line ≡ behind word reader nothing line
alone word reader other line none = cases (after_word word line)
  where
    cases : (o : Option (List ℕ)) → elim o as (λ _. Option Event) [ Some rest ↦ reader rest | None ↦ other line ]
        ≡ elim o as (λ _. Option Event) [ Some rest ↦ reader rest | None ↦ None ]
    cases None = none
    cases (Some rest) = refl

-- what is read from a word of the list on

abbrev from_junk : Reader
from_junk = behind (codes "junk ") junk_of nothing

abbrev from_do : Reader
from_do = behind (codes "do ") do_of from_junk

abbrev from_give : Reader
from_give = behind (codes "give ") (made Give (last count_at)) from_do

abbrev from_fire : Reader
from_fire = behind (codes "fire ") (made Fire (last node_at)) from_give

abbrev from_tick : Reader
from_tick = behind (codes "tick ") tick_of from_fire

abbrev from_stop : Reader
from_stop = behind (codes "stop ") (made Stop (last actor_at)) from_tick

-- no word from this one on has the third byte

no_junk : (line : List ℕ) → third_byte line ≢ 110 → from_junk line ≡ None
no_junk line n =
    passed (codes "junk ") junk_of nothing line (lit< tt) n

no_do : (line : List ℕ) → third_byte line ≢ 32 → third_byte line ≢ 110 → from_do line ≡ None
no_do line d n =
    passed (codes "do ") do_of from_junk line (lit< tt) d
    ∙ no_junk line n

no_give : (line : List ℕ) → third_byte line ≢ 118 → third_byte line ≢ 32 → third_byte line ≢ 110 → from_give line ≡ None
no_give line v d n =
    passed (codes "give ") (made Give (last count_at)) from_do line (lit< tt) v
    ∙ no_do line d n

no_fire : (line : List ℕ) → third_byte line ≢ 114 → third_byte line ≢ 118 → third_byte line ≢ 32 → third_byte line ≢ 110 → from_fire line ≡ None
no_fire line r v d n =
    passed (codes "fire ") (made Fire (last node_at)) from_give line (lit< tt) r
    ∙ no_give line v d n

no_tick : (line : List ℕ) → third_byte line ≢ 99 → third_byte line ≢ 114 → third_byte line ≢ 118 → third_byte line ≢ 32 → third_byte line ≢ 110 → from_tick line ≡ None
no_tick line c r v d n =
    passed (codes "tick ") tick_of from_fire line (lit< tt) c
    ∙ no_fire line r v d n

no_stop : (line : List ℕ) → third_byte line ≢ 111 → third_byte line ≢ 99 → third_byte line ≢ 114 → third_byte line ≢ 118 → third_byte line ≢ 32 → third_byte line ≢ 110 → from_stop line ≡ None
no_stop line o c r v d n =
    passed (codes "stop ") (made Stop (last actor_at)) from_tick line (lit< tt) o
    ∙ no_tick line c r v d n

-- a line with no such third byte is no event
pub no_word : (line : List ℕ) → third_byte line ≢ 97 → third_byte line ≢ 111 → third_byte line ≢ 99 → third_byte line ≢ 114 → third_byte line ≢ 118 → third_byte line ≢ 32 → third_byte line ≢ 110 → event_of line ≡ None
unfolding event_of
no_word line a o c r v d n =
    passed (codes "start ") start_of from_stop line (lit< tt) a
    ∙ no_stop line o c r v d n

differ : (b c : ℕ) → nat_eq b c ≡ false → b ≢ c
differ b c h = grind (arith, nat_tests)

other_than : (line : List ℕ) (b c : ℕ) → third_byte line ≡ b → nat_eq b c ≡ false → third_byte line ≢ c
other_than line b c is h e = differ b c h (sym is ∙ e)

-- a line with the third byte of a word is read behind that word, or not at all

pub at_start : (line : List ℕ) → third_byte line ≡ 97 → event_of line ≡ behind (codes "start ") start_of nothing line
unfolding event_of
at_start line is =
    alone (codes "start ") start_of from_stop line
    (no_stop line (other_than line 97 111 is refl) (other_than line 97 99 is refl) (other_than line 97 114 is refl) (other_than line 97 118 is refl) (other_than line 97 32 is refl) (other_than line 97 110 is refl))

pub at_stop : (line : List ℕ) → third_byte line ≡ 111 → event_of line ≡ behind (codes "stop ") (made Stop (last actor_at)) nothing line
unfolding event_of
at_stop line is =
    passed (codes "start ") start_of from_stop line (lit< tt) (other_than line 111 97 is refl)
    ∙ alone (codes "stop ") (made Stop (last actor_at)) from_tick line
    (no_tick line (other_than line 111 99 is refl) (other_than line 111 114 is refl) (other_than line 111 118 is refl) (other_than line 111 32 is refl) (other_than line 111 110 is refl))

pub at_tick : (line : List ℕ) → third_byte line ≡ 99 → event_of line ≡ behind (codes "tick ") tick_of nothing line
unfolding event_of
at_tick line is =
    passed (codes "start ") start_of from_stop line (lit< tt) (other_than line 99 97 is refl)
    ∙ (passed (codes "stop ") (made Stop (last actor_at)) from_tick line (lit< tt) (other_than line 99 111 is refl)
    ∙ alone (codes "tick ") tick_of from_fire line
    (no_fire line (other_than line 99 114 is refl) (other_than line 99 118 is refl) (other_than line 99 32 is refl) (other_than line 99 110 is refl)))

pub at_fire : (line : List ℕ) → third_byte line ≡ 114 → event_of line ≡ behind (codes "fire ") (made Fire (last node_at)) nothing line
unfolding event_of
at_fire line is =
    passed (codes "start ") start_of from_stop line (lit< tt) (other_than line 114 97 is refl)
    ∙ (passed (codes "stop ") (made Stop (last actor_at)) from_tick line (lit< tt) (other_than line 114 111 is refl)
    ∙ (passed (codes "tick ") tick_of from_fire line (lit< tt) (other_than line 114 99 is refl)
    ∙ alone (codes "fire ") (made Fire (last node_at)) from_give line
    (no_give line (other_than line 114 118 is refl) (other_than line 114 32 is refl) (other_than line 114 110 is refl))))

pub at_give : (line : List ℕ) → third_byte line ≡ 118 → event_of line ≡ behind (codes "give ") (made Give (last count_at)) nothing line
unfolding event_of
at_give line is =
    passed (codes "start ") start_of from_stop line (lit< tt) (other_than line 118 97 is refl)
    ∙ (passed (codes "stop ") (made Stop (last actor_at)) from_tick line (lit< tt) (other_than line 118 111 is refl)
    ∙ (passed (codes "tick ") tick_of from_fire line (lit< tt) (other_than line 118 99 is refl)
    ∙ (passed (codes "fire ") (made Fire (last node_at)) from_give line (lit< tt) (other_than line 118 114 is refl)
    ∙ alone (codes "give ") (made Give (last count_at)) from_do line
    (no_do line (other_than line 118 32 is refl) (other_than line 118 110 is refl)))))

pub at_do : (line : List ℕ) → third_byte line ≡ 32 → event_of line ≡ behind (codes "do ") do_of nothing line
unfolding event_of
at_do line is =
    passed (codes "start ") start_of from_stop line (lit< tt) (other_than line 32 97 is refl)
    ∙ (passed (codes "stop ") (made Stop (last actor_at)) from_tick line (lit< tt) (other_than line 32 111 is refl)
    ∙ (passed (codes "tick ") tick_of from_fire line (lit< tt) (other_than line 32 99 is refl)
    ∙ (passed (codes "fire ") (made Fire (last node_at)) from_give line (lit< tt) (other_than line 32 114 is refl)
    ∙ (passed (codes "give ") (made Give (last count_at)) from_do line (lit< tt) (other_than line 32 118 is refl)
    ∙ alone (codes "do ") do_of from_junk line
    (no_junk line (other_than line 32 110 is refl))))))

pub at_junk : (line : List ℕ) → third_byte line ≡ 110 → event_of line ≡ behind (codes "junk ") junk_of nothing line
unfolding event_of
at_junk line is =
    passed (codes "start ") start_of from_stop line (lit< tt) (other_than line 110 97 is refl)
    ∙ (passed (codes "stop ") (made Stop (last actor_at)) from_tick line (lit< tt) (other_than line 110 111 is refl)
    ∙ (passed (codes "tick ") tick_of from_fire line (lit< tt) (other_than line 110 99 is refl)
    ∙ (passed (codes "fire ") (made Fire (last node_at)) from_give line (lit< tt) (other_than line 110 114 is refl)
    ∙ (passed (codes "give ") (made Give (last count_at)) from_do line (lit< tt) (other_than line 110 118 is refl)
    ∙ passed (codes "do ") do_of from_junk line (lit< tt) (other_than line 110 32 is refl)))))
