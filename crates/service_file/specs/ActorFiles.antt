-- The file `actor` of a folder: its text, and how it is read.
use Rattle.std.specs.Prelude.{◌≡◌, ◌≢◌, ℕ, zero, suc, ◌≤◌, Bool, true, false, List, [], ◌∷◌, ◌++◌, length, take, drop, codes, decimal, nat_le, All, Option, Some, None, Result, Ok, Err, if◌then◌else◌}
use Rattle.std.specs.List.{flat_map}
use Rattle.std.specs.Str.{bytes_eq}
use Rattle.hex.specs.Hex.{IsBytes, decode_sized, encode_lower}
use Rattle.hex.specs.declared.error.FromHexError.{FromHexError}
use Rattle.ring_points.specs.Limits.{most_counter}
use Rattle.fabric_terms.specs.Ranges.{IsActor, IsNode}
use Rattle.text_fields.specs.Actors.{actor_at, actor_text, node_at}
use Rattle.text_fields.specs.Fields.{◌>>=◌, Field, after_word, behind, given, made_at, pair_at, word_of}
use Rattle.text_fields.specs.Numbers.{number_in}
use Rattle.service_file.specs.declared.settings.Again.{Again}
use Rattle.service_file.specs.declared.actor_file.ActorFile.{ActorFile}
use Rattle.service_file.specs.declared.actor_file.ActorFileError.{ActorFileError}
use Rattle.service_file.specs.declared.actor_file.ActorFileError.TheVariants.{OutOfMemory}

-- `fabricd 1 WHO CHECKSUM`, as a line
abbrev pub head_text : ℕ × List ℕ → List ℕ
head_text head = codes "fabricd 1 " ++ (actor_text head.0 ++ (codes " " ++ encode_lower head.1) ++ codes "\n")

abbrev pub began_text : List ℕ
began_text = codes "began\n"

-- `again N.K`, as a line
abbrev pub again_text : Again → List ℕ
again_text a = codes "again " ++ (decimal a.node ++ (codes "." ++ decimal a.instance) ++ codes "\n")

-- the text of the file
unfoldable pub text_of : ActorFile → List ℕ
text_of f =
    head_text (f.actor, f.checksum) ++ ((if f.has_begun then began_text else []) ++ flat_map again_text f.again)

-- 32 bytes
abbrev pub IsChecksum : List ℕ → Type 0
IsChecksum checksum = (length checksum ≡ 32) × IsBytes checksum

abbrev pub IsAgain : Again → Type 0
IsAgain a = IsNode a.node × (2 ≤ a.instance) × (a.instance ≤ most_counter)

pub record IsActorFile (f : ActorFile) : Type 0 where
  pub actor : IsActor f.actor
  pub checksum : IsChecksum f.checksum
  pub again : All IsAgain f.again

-- what the digits are read as, if they are the digits of it
abbrev pub spelled : List ℕ → Result (List ℕ) FromHexError → Option (List ℕ)
spelled digits (Ok bytes) = if bytes_eq (encode_lower bytes) digits then Some bytes else None
spelled digits (Err e) = None

-- the bytes of 64 digits `0-9a-f`
unfoldable pub checksum_at : List ℕ → Field (List ℕ)
checksum_at bytes =
    if nat_le 64 (length bytes)
    then (spelled (take 64 bytes) (decode_sized (take 64 bytes) 32) >>= λ checksum. Some (checksum, drop 64 bytes))
    else None

-- a field between a word and a line feed
abbrev pub line_at : {A : Type 0} → List ℕ → (List ℕ → Field A) → List ℕ → Field A
line_at word field bytes =
    after_word word bytes >>= λ rest. field rest >>= λ x. after_word (codes "\n") x.1 >>= λ more. Some (x.0, more)

-- `WHO CHECKSUM`
abbrev pub owner_at : List ℕ → Field (ℕ × List ℕ)
owner_at bytes = word_of actor_at bytes >>= λ actor. checksum_at actor.1 >>= λ sum. Some ((actor.0, sum.0), sum.1)

unfoldable pub head_at : List ℕ → Field (ℕ × List ℕ)
head_at = line_at (codes "fabricd 1 ") owner_at

abbrev pub began_at : List ℕ → Field Bool
began_at = behind began_text (given true) (given false)

abbrev pub again_made : ℕ × ℕ → Again
again_made a = record { node = a.0; instance = a.1 }

unfoldable pub again_at : List ℕ → Field Again
again_at = line_at (codes "again ") (made_at again_made (pair_at node_at (codes ".") (number_in 2 most_counter)))

-- all that is left, of at most k lines
unfoldable pub agains_in : ℕ → List ℕ → Option (List Again)
agains_in k [] = Some []
agains_in zero (b ∷ bs) = None
agains_in (suc k) (b ∷ bs) = again_at (b ∷ bs) >>= λ a. agains_in k a.1 >>= λ more. Some (a.0 ∷ more)

-- there are not more lines than bytes
abbrev pub agains_of : List ℕ → Option (List Again)
agains_of bytes = agains_in (length bytes) bytes

-- the file that these bytes spell
unfoldable pub actor_file_of : List ℕ → Option ActorFile
actor_file_of bytes =
    head_at bytes >>= λ head. began_at head.1 >>= λ begun. agains_of begun.1 >>= λ again.
    Some (record { actor = head.0.0; checksum = head.0.1; has_begun = begun.0; again = again })

-- the answer is the one that is defined, but for want of memory
abbrev pub Takes : {A : Type 0} → Option A → Result A ActorFileError → Type 0
Takes defined (Ok x) = defined ≡ Some x
Takes defined (Err e) = e ≢ OutOfMemory → defined ≡ None
