-- How a frame is sealed, and which bytes are sealed.
use Rattle.std.specs.Prelude.{ℕ, ◌+◌, ◌*◌, Bool, ◌&&◌, nat_le, if◌then◌else◌, List, [], ◌∷◌, ◌++◌, length, drop, get_or, Option, Some, None}
use Rattle.std.specs.Int.{w16, to_be_bytes}
use Rattle.std.specs.Str.{bytes_eq}
use Rattle.frame_seal.specs.Hmac.{block_of, hmac_by}

-- what a cluster seals by: the block of its key, and the checksum of its configuration
pub record Key : Type 0 where
  pub block : List ℕ
  pub checksum : List ℕ

-- a key has 32 to 4,096 bytes
abbrev pub is_key : List ℕ → Bool
is_key key = nat_le 32 (length key) && nat_le (length key) 4096

unfoldable pub key_of : List ℕ → List ℕ → Option Key
key_of key checksum = if is_key key then Some (record { block = block_of key; checksum = checksum }) else None

-- `fabricd-frame-01`
abbrev pub purpose : List ℕ
purpose = 102 ∷ 97 ∷ 98 ∷ 114 ∷ 105 ∷ 99 ∷ 100 ∷ 45 ∷ 102 ∷ 114 ∷ 97 ∷ 109 ∷ 101 ∷ 45 ∷ 48 ∷ 49 ∷ []

-- what is hashed: the purpose, the checksum, the sender, the receiver, the frame
abbrev pub hashed : Key → ℕ → ℕ → List ℕ → List ℕ
hashed key from to frame = purpose ++ key.checksum ++ to_be_bytes w16 from ++ to_be_bytes w16 to ++ frame

unfoldable pub mac_of : Key → ℕ → ℕ → List ℕ → List ℕ
mac_of key from to frame = hmac_by key.block (hashed key from to frame)

-- what stands before the frame: `54`, the version, the MAC
unfoldable pub seal_of : Key → ℕ → ℕ → List ℕ → List ℕ
seal_of key from to frame = 84 ∷ 1 ∷ mac_of key from to frame

unfoldable pub sealed : Key → ℕ → ℕ → List ℕ → List ℕ
sealed key from to frame = seal_of key from to frame ++ frame

-- the number of two bytes at this offset; bytes that are not there count as 0
abbrev pub number_at : ℕ → List ℕ → ℕ
number_at offset frame = get_or frame offset 0 * 256 + get_or frame (offset + 1) 0

abbrev pub sender_of : List ℕ → ℕ
sender_of frame = number_at 3 frame

abbrev pub receiver_of : List ℕ → ℕ
receiver_of frame = number_at 9 frame

-- the frame that stands behind a seal
abbrev pub behind_seal : List ℕ → List ℕ
behind_seal bytes = drop 34 bytes

-- these bytes are what is behind their seal, sealed for this receiver by its sender
unfoldable pub is_sealed : Key → ℕ → List ℕ → Bool
is_sealed key to bytes = bytes_eq bytes (sealed key (sender_of (behind_seal bytes)) to (behind_seal bytes))

-- the frame, if these bytes are sealed for this receiver
unfoldable pub opened : Key → ℕ → List ℕ → Option (List ℕ)
opened key to bytes = if is_sealed key to bytes then Some (behind_seal bytes) else None
