-- HMAC (RFC 2104) over SHA-256.
use Rattle.std.specs.Prelude.{ℕ, ◌-◌, List, ◌++◌, length, map, replicate, bit_xor, nat_le, if◌then◌else◌}
use Rattle.sha2.specs.Sha256.{sha256}

-- a key of more than a block counts as its digest
abbrev pub short_key : List ℕ → List ℕ
short_key key = if nat_le (length key) 64 then key else sha256 key

-- followed by zeros up to a block
abbrev pub filled : List ℕ → List ℕ
filled key = key ++ replicate (64 - length key) 0

-- the block of a key
unfoldable pub block_of : List ℕ → List ℕ
block_of key = filled (short_key key)

-- each byte with these bits turned
abbrev pub turned : ℕ → List ℕ → List ℕ
turned mask bytes = map (λ b. bit_xor b mask) bytes

-- the keyed hash of a message, by the block of the key
unfoldable pub hmac_by : List ℕ → List ℕ → List ℕ
hmac_by block message = sha256 (turned 0x5c block ++ sha256 (turned 0x36 block ++ message))

unfoldable pub hmac_of : List ℕ → List ℕ → List ℕ
hmac_of key message = hmac_by (block_of key) message
