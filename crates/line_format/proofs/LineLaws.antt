-- Each line is read exactly where it is spelled.
use Rattle.std.proofs.Common.{◌≡◌, ℕ, List, [], ◌++◌, Option, Some, None, arith, ap, sym, ◌∙◌, refl, ◌*◌}
use Rattle.std.specs.Prelude.{codes, decimal}
use Rattle.ring_points.specs.Limits.{most_frame, most_nodes}
use Rattle.fabric_terms.specs.declared.command.Command.{Command}
use Rattle.fabric_terms.specs.declared.event.Event.{Event}
use Rattle.fabric_terms.specs.declared.event.Event.TheVariants.{Start, Stop, Tick, Fire, Give, Do, Junk}
use Rattle.fabric_terms.specs.Ranges.{IsNumber, IsNode, IsArbiter, IsActor, FitsCommand, IsJunk, AreReadings, Fits}
use Rattle.text_fields.specs.Actors.{node_at, arbiter_at, actor_at, actor_text}
use Rattle.text_fields.specs.Codes.{blank_code}
use Rattle.text_fields.specs.Fields.{◌>>=◌, Field, after_word, last, word_of, made, followed, behind, nothing}
use Rattle.text_fields.specs.Inverses.{IsRest}
use Rattle.text_fields.specs.Numbers.{number_in}
use Rattle.text_fields.proofs.ActorLaws.{node_is, last_node_is, arbiter_is, actor_is, actor_text_arbiter, arbiter_number}
use Rattle.text_fields.proofs.FieldLaws.{last_is, behind_again, behind_other, apart}
use Rattle.text_fields.proofs.RestLaws.{IsSpelled, sized_is, refit, found_behind, found_nothing, headed_found, followed_found, followed_again, made_found, made_again}
use Rattle.line_format.specs.Commands.{command_text}
use Rattle.line_format.specs.Lines.{count_at, bytes_text, event_text, event_of, arbiter_start, node_start, start_of, tick_of, readings_of, reading_text, junk_bytes_of, do_of, junk_of, ReadIsSpelled, SpelledIsRead}
use Rattle.line_format.proofs.ByteLaws.{bytes_are, length-bytes_text}
use Rattle.line_format.proofs.CommandLaws.{command_is}
use Rattle.line_format.proofs.CountLaws.{count_is, last_count_is}
use Rattle.line_format.proofs.Lists.{joined_is}
use Rattle.line_format.proofs.TickLaws.{readings_are, readings_text, ends_readings}

abbrev IsEvent : List ℕ → (List ℕ → Option Event) → Type 0
IsEvent word reader = IsSpelled Fits event_text word reader

last_actor_is : IsRest (last actor_at) IsActor actor_text
last_actor_is = last_is actor_is tt

last_arbiter_is : IsRest (last arbiter_at) IsArbiter arbiter_number
last_arbiter_is = last_is arbiter_is tt

junk_bytes_are : IsRest junk_bytes_of IsJunk bytes_text
unfolding junk_bytes_of
junk_bytes_are =
    refit (sized_is bytes_are 2 (2 * most_frame))
    (λ bs h. let twice = length-bytes_text bs in (omega (arith, h.1), omega (arith, h.2), h.0))
    (λ bs h. let twice = length-bytes_text bs in (h.2, omega (arith, h.0), omega (arith, h.1)))

arbiter_start_of : List ℕ → Option Event
arbiter_start_of = made arbiter_start (last arbiter_at)

node_start_of : List ℕ → Option Event
node_start_of = followed (word_of node_at) (last count_at) node_start

start_found : IsEvent (codes "start ") start_of
unfolding start_of
start_found =
    found_behind Fits event_text (codes "start ") (codes "a") (made arbiter_start (last arbiter_at)) (followed (word_of node_at) (last count_at) node_start)
    (made_found last_arbiter_is Fits event_text (codes "start " ++ codes "a") arbiter_start (λ a h. (h, ap (λ t. codes "start " ++ t) (sym (actor_text_arbiter a h)))))
    (followed_found node_is last_count_is Fits event_text (codes "start ") node_start (λ n r a b. ((a, b), refl)))

stop_found : IsEvent (codes "stop ") (made Stop (last actor_at))
stop_found = made_found last_actor_is Fits event_text (codes "stop ") Stop (λ a h. (h, refl))

tick_spelled : (advance : ℕ) (readings : List (ℕ × ℕ)) → event_text (Tick advance readings) ≡ codes "tick " ++ (decimal advance ++ readings_text readings)
tick_spelled advance readings = ap (λ t. codes "tick " ++ t) (joined_is blank_code (decimal advance) reading_text readings)

ticked_of : ℕ → List ℕ → Option Event
ticked_of advance = made (Tick advance) (readings_of most_nodes)

tick_found : IsEvent (codes "tick ") tick_of
unfolding tick_of ticked_of
tick_found =
    headed_found count_is Fits event_text (codes "tick ") ticked_of
    (λ advance h. made_found (readings_are most_nodes) Fits event_text (codes "tick " ++ decimal advance) (Tick advance) (λ readings are. ((h, are), sym (tick_spelled advance readings))))

fire_found : IsEvent (codes "fire ") (made Fire (last node_at))
fire_found = made_found last_node_is Fits event_text (codes "fire ") Fire (λ n h. (h, refl))

give_found : IsEvent (codes "give ") (made Give (last count_at))
give_found = made_found last_count_is Fits event_text (codes "give ") Give (λ k h. (h, refl))

do_found : IsEvent (codes "do ") do_of
unfolding do_of
do_found = followed_found node_is command_is Fits event_text (codes "do ") Do (λ n c a b. ((a, b), refl))

junk_found : IsEvent (codes "junk ") junk_of
unfolding junk_of
junk_found = followed_found actor_is junk_bytes_are Fits event_text (codes "junk ") Junk (λ n bs a b. ((a, b), refl))

-- behind the word, or by the other reader
abbrev or_behind : (word : List ℕ) (reader other : List ℕ → Option Event) → IsEvent word reader → IsEvent [] other → IsEvent [] (behind word reader other)
or_behind = found_behind Fits event_text []

pub read_is_spelled : ReadIsSpelled
unfolding event_of
read_is_spelled =
    or_behind (codes "start ") start_of _ start_found (
    or_behind (codes "stop ") (made Stop (last actor_at)) _ stop_found (
    or_behind (codes "tick ") tick_of _ tick_found (
    or_behind (codes "fire ") (made Fire (last node_at)) _ fire_found (
    or_behind (codes "give ") (made Give (last count_at)) _ give_found (
    or_behind (codes "do ") do_of _ do_found (or_behind (codes "junk ") junk_of nothing junk_found (found_nothing Fits event_text []))
    )
    )
    )
    )
    )

-- the first word says which line it is

at_start : (words : List ℕ) → event_of (codes "start " ++ words) ≡ start_of words
unfolding event_of after_word
at_start words = refl

at_stop : (words : List ℕ) → event_of (codes "stop " ++ words) ≡ made Stop (last actor_at) words
unfolding event_of after_word
at_stop words = refl

at_tick : (words : List ℕ) → event_of (codes "tick " ++ words) ≡ tick_of words
unfolding event_of after_word
at_tick words = refl

at_fire : (words : List ℕ) → event_of (codes "fire " ++ words) ≡ made Fire (last node_at) words
unfolding event_of after_word
at_fire words = refl

at_give : (words : List ℕ) → event_of (codes "give " ++ words) ≡ made Give (last count_at) words
unfolding event_of after_word
at_give words = refl

at_do : (words : List ℕ) → event_of (codes "do " ++ words) ≡ do_of words
unfolding event_of after_word
at_do words = refl

at_junk : (words : List ℕ) → event_of (codes "junk " ++ words) ≡ junk_of words
unfolding event_of after_word
at_junk words = refl

no_start : (rest : List ℕ) → node_start_of (codes "a" ++ rest) ≡ None
unfolding number_in node_start_of
no_start rest = refl

start_node_again : (node reading : ℕ) → IsNode node → IsNumber reading
    → start_of (decimal node ++ (codes " " ++ decimal reading)) ≡ Some (Start node (Some reading))
unfolding start_of node_start_of arbiter_start_of
start_node_again node reading h r =
    let words = decimal node ++ (codes " " ++ decimal reading) in
    let read = followed_again node_is last_count_is node_start node reading refl h r in
    behind_other (codes "a") arbiter_start_of node_start_of words (apart node_start_of (codes "a") words (node_start node reading) read no_start) ∙ read

start_arbiter_again : (actor : ℕ) → IsArbiter actor → start_of (actor_text actor) ≡ Some (Start actor None)
unfolding start_of node_start_of arbiter_start_of
start_arbiter_again actor h =
    ap start_of (actor_text_arbiter actor h)
    ∙ (behind_again (codes "a") arbiter_start_of node_start_of (arbiter_number actor) ∙ made_again last_arbiter_is arbiter_start actor h)

tick_again : (advance : ℕ) (readings : List (ℕ × ℕ)) → IsNumber advance → AreReadings readings
    → tick_of (decimal advance ++ readings_text readings) ≡ Some (Tick advance readings)
unfolding tick_of
tick_again advance readings h are =
    ap (λ (o : Field ℕ). o >>= λ advance. made (Tick advance.0) (readings_of most_nodes) advance.1) (count_is.again advance (readings_text readings) h (ends_readings readings))
    ∙ made_again (readings_are most_nodes) (Tick advance) readings are

do_again : (node : ℕ) (command : Command) → IsNode node → FitsCommand command
    → do_of (decimal node ++ (codes " " ++ command_text command)) ≡ Some (Do node command)
unfolding do_of
do_again node command h c = followed_again node_is command_is Do node command refl h c

junk_again : (actor : ℕ) (bytes : List ℕ) → IsActor actor → IsJunk bytes
    → junk_of (actor_text actor ++ (codes " " ++ bytes_text bytes)) ≡ Some (Junk actor bytes)
unfolding junk_of
junk_again actor bytes h b = followed_again actor_is junk_bytes_are Junk actor bytes refl h b

pub spelled_is_read : SpelledIsRead
spelled_is_read (Start actor None) h = at_start (actor_text actor) ∙ start_arbiter_again actor h
spelled_is_read (Start actor (Some reading)) h = at_start (decimal actor ++ (codes " " ++ decimal reading)) ∙ start_node_again actor reading h.0 h.1
spelled_is_read (Stop actor) h = at_stop (actor_text actor) ∙ made_again last_actor_is Stop actor h
spelled_is_read (Tick advance readings) h =
    ap event_of (tick_spelled advance readings) ∙ (at_tick (decimal advance ++ readings_text readings) ∙ tick_again advance readings h.0 h.1)
spelled_is_read (Fire node) h = at_fire (decimal node) ∙ made_again last_node_is Fire node h
spelled_is_read (Give frame) h = at_give (decimal frame) ∙ made_again last_count_is Give frame h
spelled_is_read (Do node command) h = at_do (decimal node ++ (codes " " ++ command_text command)) ∙ do_again node command h.0 h.1
spelled_is_read (Junk actor bytes) h = at_junk (actor_text actor ++ (codes " " ++ bytes_text bytes)) ∙ junk_again actor bytes h.0 h.1
