-- How a field is spelled: its numbers one after the other, the highest byte of each first.
use Rattle.std.specs.Prelude.{ℕ, Bool, true, false, List, [], ◌∷◌, ◌++◌, length, Option, Some, None}
use Rattle.std.specs.List.{flat_map}
use Rattle.byteorder.specs.Endian.{big_bytes}
use Rattle.ring_points.specs.declared.who.Who.{Who}
use Rattle.ring_points.specs.declared.who.Ruling.{Ruling}
use Rattle.ring_points.specs.declared.who.Ruling.TheVariants.{Granted, Taken, Refused}
use Rattle.ring_points.specs.declared.unit.Epoch.{Epoch}
use Rattle.ring_points.specs.declared.unit.Config.{Config}
use Rattle.ring_points.specs.declared.interval.Interval.{Interval}

-- a number in n bytes, the highest first
unfoldable pub number_bytes : ℕ → ℕ → List ℕ
number_bytes n x = big_bytes n x

-- a number of one byte
unfoldable pub one_byte : ℕ → List ℕ
one_byte b = b ∷ []

-- the sender's and the receiver's number of a session
unfoldable pub session_bytes : ℕ → ℕ → List ℕ
session_bytes mine yours = number_bytes 4 mine ++ number_bytes 4 yours

unfoldable pub who_bytes : Who → List ℕ
who_bytes w = number_bytes 2 w.actor ++ number_bytes 4 w.instance

unfoldable pub epoch_bytes : Epoch → List ℕ
epoch_bytes e = number_bytes 4 e.data_loss ++ number_bytes 4 e.configuration

-- a partition and an epoch
unfoldable pub unit_bytes : ℕ → Epoch → List ℕ
unit_bytes partition epoch = number_bytes 2 partition ++ epoch_bytes epoch

-- a partition, an epoch, and the number of an entry
abbrev pub numbered_bytes : ℕ → Epoch → ℕ → List ℕ
numbered_bytes partition epoch number = unit_bytes partition epoch ++ number_bytes 4 number

-- a victim, a round about it, and its claimer
abbrev pub claim_bytes : Who → ℕ → Who → List ℕ
claim_bytes victim round claimer = who_bytes victim ++ one_byte round ++ who_bytes claimer

unfoldable pub interval_bytes : Interval → List ℕ
interval_bytes i = number_bytes 8 i.lo ++ number_bytes 8 i.hi

-- how many there are, in one byte, and each of them
unfoldable pub list_bytes : {A : Type 0} → (A → List ℕ) → List A → List ℕ
list_bytes spell xs = one_byte (length xs) ++ flat_map spell xs

unfoldable pub ranges_bytes : List Interval → List ℕ
ranges_bytes intervals = list_bytes interval_bytes intervals

unfoldable pub config_bytes : Config → List ℕ
config_bytes c = unit_bytes c.partition c.epoch ++ number_bytes 2 c.primary ++ list_bytes (number_bytes 2) c.members

-- the length of a text, in two bytes, and its bytes
unfoldable pub payload_bytes : List ℕ → List ℕ
payload_bytes text = number_bytes 2 (length text) ++ text

abbrev pub flag_code : Bool → ℕ
flag_code true = 1
flag_code false = 0

unfoldable pub flag_bytes : Bool → List ℕ
flag_bytes flag = one_byte (flag_code flag)

abbrev pub ruling_code : Ruling → ℕ
ruling_code Granted = 1
ruling_code Taken = 2
ruling_code Refused = 3

unfoldable pub ruling_bytes : Ruling → List ℕ
ruling_bytes ruling = one_byte (ruling_code ruling)

-- a flag that says whether there is a configuration, and then the configuration
unfoldable pub done_bytes : Option Config → List ℕ
done_bytes None = flag_bytes false
done_bytes (Some c) = flag_bytes true ++ config_bytes c
