-- How fields are read: at the front of some bytes, each with its value and the bytes after it.
use Rattle.std.specs.Prelude.{◌≡◌, ℕ, zero, suc, Bool, true, false, ◌&&◌, ◌||◌, List, [], ◌∷◌, length, take, drop, Option, Some, None, Result, Ok, Err, nat_le, ◌==◌, if◌then◌else◌}
use Rattle.byteorder.specs.Endian.{big_number}
use Rattle.ring_points.specs.Limits.{most_intervals, most_members, most_write}
use Rattle.ring_points.specs.declared.point.Point.{Point}
use Rattle.ring_points.specs.declared.who.Who.{Who}
use Rattle.ring_points.specs.declared.who.Ruling.{Ruling}
use Rattle.ring_points.specs.declared.who.Ruling.TheVariants.{Granted, Taken, Refused}
use Rattle.ring_points.specs.declared.unit.Epoch.{Epoch}
use Rattle.ring_points.specs.declared.unit.Config.{Config}
use Rattle.ring_points.specs.declared.interval.Interval.{Interval}
use Rattle.ring_points.specs.Ranges.{is_proper}
use Rattle.fabric_terms.specs.Fields.{is_stamp, is_lease, is_last, is_hops, is_round, is_node, is_arbiter, is_some, has_members}

-- a step that goes on with what the one before gave
infixl 10 ◌>>=◌
abbrev pub ◌>>=◌ : {A B : Type 0} → Option A → (A → Option B) → Option B
None >>= next = None
(Some x) >>= next = next x

-- what a reader of the code gives, seen by a view, is what the definition gives
abbrev pub Gives : {X Y E : Type 0} → (X → Y) → Result X E → Option Y → Type 0
Gives view (Ok x) read = read ≡ Some (view x)
Gives view (Err _) read = read ≡ None

-- the same for a reader that fills a place
abbrev pub Fills : {X Y E : Type 0} → Result X E → Y → Option Y → Type 0
Fills (Ok _) filled read = read ≡ Some filled
Fills (Err _) filled read = read ≡ None

-- a field, if one stands at the front, and what follows it
abbrev pub Field : Type 0 → Type 0
Field A = Option (A × List ℕ)

-- only what passes a test
abbrev pub such : {A : Type 0} → (A → Bool) → (List ℕ → Field A) → List ℕ → Field A
such test field bytes = field bytes >>= λ x. if test x.0 then Some x else None

-- a field, and another behind it
abbrev pub pair : {A B : Type 0} → (List ℕ → Field A) → (List ℕ → Field B) → List ℕ → Field (A × B)
pair first second bytes = first bytes >>= λ x. second x.1 >>= λ y. Some ((x.0, y.0), y.1)

-- what is made of a field
abbrev pub made : {A B : Type 0} → (A → B) → (List ℕ → Field A) → List ℕ → Field B
made make field bytes = field bytes >>= λ x. Some (make x.0, x.1)

abbrev pub is_nil : List ℕ → Bool
is_nil [] = true
is_nil (b ∷ bs) = false

-- what is made of a field which nothing follows
abbrev pub whole : {A B : Type 0} → (A → B) → (List ℕ → Field A) → List ℕ → Option B
whole make field bytes = field bytes >>= λ x. if is_nil x.1 then Some (make x.0) else None

-- a number of n bytes
unfoldable pub number_at : ℕ → List ℕ → Field ℕ
number_at n bytes = if nat_le n (length bytes) then Some (big_number n bytes, drop n bytes) else None

unfoldable pub byte_at : List ℕ → Field ℕ
byte_at [] = None
byte_at (b ∷ bs) = Some (b, bs)

-- the first n bytes
unfoldable pub bytes_at : ℕ → List ℕ → Field (List ℕ)
bytes_at n bytes = if nat_le n (length bytes) then Some (take n bytes, drop n bytes) else None

-- n fields of one kind
unfoldable pub times : {A : Type 0} → ℕ → (List ℕ → Field A) → List ℕ → Field (List A)
times zero field bytes = Some ([], bytes)
times (suc n) field bytes = field bytes >>= λ x. times n field x.1 >>= λ y. Some (x.0 ∷ y.0, y.1)

-- a count of at most `most`, and as many fields
unfoldable pub list_at : {A : Type 0} → ℕ → (List ℕ → Field A) → List ℕ → Field (List A)
list_at most field bytes = such (λ n. nat_le n most) byte_at bytes >>= λ x. times x.0 field x.1

abbrev pub word_at : List ℕ → Field ℕ
word_at = number_at 4

unfoldable pub counted_at : List ℕ → Field ℕ
counted_at = such (λ n. nat_le 1 n) (number_at 4)

unfoldable pub last_at : List ℕ → Field ℕ
last_at = such is_last (number_at 4)

unfoldable pub stamp_at : List ℕ → Field ℕ
stamp_at = such is_stamp (number_at 8)

unfoldable pub lease_at : List ℕ → Field ℕ
lease_at = such is_lease (number_at 8)

unfoldable pub node_at : List ℕ → Field ℕ
node_at = such is_node (number_at 2)

unfoldable pub hops_at : List ℕ → Field ℕ
hops_at = such is_hops byte_at

unfoldable pub round_at : List ℕ → Field ℕ
round_at = such is_round byte_at

unfoldable pub flag_at : List ℕ → Field Bool
flag_at = made (λ n. n == 1) (such (λ n. nat_le n 1) byte_at)

abbrev pub ruling_of : ℕ → Option Ruling
ruling_of n = if n == 1 then Some Granted else (if n == 2 then Some Taken else (if n == 3 then Some Refused else None))

unfoldable pub ruling_at : List ℕ → Field Ruling
ruling_at bytes = byte_at bytes >>= λ x. ruling_of x.0 >>= λ ruling. Some (ruling, x.1)

unfoldable pub point_at : List ℕ → Field Point
point_at = made (λ n. record { 0 = n }) (number_at 8)

unfoldable pub session_at : List ℕ → Field (ℕ × ℕ)
session_at = pair counted_at counted_at

-- any actor and instance
unfoldable pub actor_at : List ℕ → Field Who
actor_at = made (λ x. record { actor = x.0; instance = x.1 }) (pair (number_at 2) (number_at 4))

abbrev pub is_numbered : Who → Bool
is_numbered w = is_node w.actor && nat_le 1 w.instance

unfoldable pub who_at : List ℕ → Field Who
who_at = such is_numbered actor_at

unfoldable pub sender_at : List ℕ → Field Who
sender_at = such (λ w. is_numbered w || is_arbiter w) actor_at

unfoldable pub addressee_at : List ℕ → Field Who
addressee_at = such (λ w. is_node w.actor || is_arbiter w) actor_at

unfoldable pub epoch_at : List ℕ → Field Epoch
epoch_at = made (λ x. record { data_loss = x.0; configuration = x.1 }) (pair (number_at 4) (number_at 4))

unfoldable pub unit_at : List ℕ → Field (ℕ × Epoch)
unit_at = pair (number_at 2) epoch_at

-- a partition, an epoch, and a number of 4 bytes, of an entry that there may not be
abbrev pub numbered_at : List ℕ → Field ((ℕ × Epoch) × ℕ)
numbered_at = pair unit_at word_at

unfoldable pub interval_at : List ℕ → Field Interval
interval_at = made (λ x. record { lo = x.0; hi = x.1 }) (pair (number_at 8) (number_at 8))

unfoldable pub intervals_at : List ℕ → Field (List Interval)
intervals_at = list_at most_intervals interval_at

abbrev pub ranges_at : List ℕ → Field (List Interval)
ranges_at = such is_proper intervals_at

abbrev pub part_at : List ℕ → Field (List Interval)
part_at = such (λ intervals. is_proper intervals && is_some intervals) intervals_at

abbrev pub config_from : ((ℕ × Epoch) × ℕ) × List ℕ → Config
config_from x = record { partition = x.0.0.0; epoch = x.0.0.1; primary = x.0.1; members = x.1 }

unfoldable pub config_at : List ℕ → Field Config
config_at = such has_members (made config_from (pair (pair unit_at (number_at 2)) (list_at most_members (number_at 2))))

unfoldable pub done_at : List ℕ → Field (Option Config)
done_at bytes = flag_at bytes >>= λ x. elim x.0 [ true ↦ made Some config_at x.1 | false ↦ Some (None, x.1) ]

unfoldable pub payload_at : List ℕ → Field (List ℕ)
payload_at bytes = such (λ n. nat_le n most_write) (number_at 2) bytes >>= λ x. bytes_at x.0 x.1
