-- When bytes are what is behind their seal, sealed.
use Rattle.std.proofs.Common.{◌≡◌, ◌↔◌, ◌<◌, ◌≤◌, ◌+◌, ℕ, Bool, true, false, List, [], ◌∷◌, ◌++◌, length, take, drop, take_at, Some, None, IsTrue, arith, refl, ap, sym, ◌∙◌, length-append}
use Rattle.std.specs.Str.{bytes_eq}
use Rattle.std.proofs.lemmas.List.{take-append-drop}
use Rattle.std.proofs.lemmas.Slice.Eq.{bytes_eq-Decides}
use Rattle.sha2.specs.Sha256.{sha256}
use Rattle.sha2.proofs.Facts256.{length-sha256}
use Rattle.frame_seal.specs.Hmac.{hmac_by, turned}
use Rattle.frame_seal.specs.Seals.{Key, behind_seal, hashed, is_sealed, mac_of, opened, seal_of, sealed, sender_of}

length-mac : (key : Key) (from to : ℕ) (frame : List ℕ) → length (mac_of key from to frame) ≡ 32
unfolding mac_of hmac_by
length-mac key from to frame = length-sha256 (turned 0x5c key.block ++ sha256 (turned 0x36 key.block ++ hashed key from to frame))

pub length-seal : (key : Key) (from to : ℕ) (frame : List ℕ) → length (seal_of key from to frame) ≡ 34
unfolding seal_of
length-seal key from to frame = omega (arith, length-mac key from to frame)

pub length-sealed : (key : Key) (from to : ℕ) (frame : List ℕ) → length (sealed key from to frame) ≡ 34 + length frame
unfolding sealed
length-sealed key from to frame = omega (arith, length-seal key from to frame, length-append (seal_of key from to frame) frame)

drop_front : (front rest : List ℕ) → drop (length front) (front ++ rest) ≡ rest
drop_front [] rest = refl
drop_front (b ∷ front) rest = drop_front front rest

pub behind : (key : Key) (from to : ℕ) (frame : List ℕ) → behind_seal (sealed key from to frame) ≡ frame
unfolding sealed
behind key from to frame = ap (λ n. drop n (seal_of key from to frame ++ frame)) (sym (length-seal key from to frame)) ∙ drop_front (seal_of key from to frame) frame

both : (a b : Bool) → (a ≡ true → b ≡ true) → (b ≡ true → a ≡ true) → a ≡ b
both true b f g = sym (f refl)
both false true f g = g refl
both false false f g = refl

-- the seal in front is that of the frame behind it
pub sealed_as : (key : Key) (to : ℕ) (bytes : List ℕ) (b : Bool) → 34 ≤ length bytes →
    (IsTrue b ↔ (take 34 bytes ≡ seal_of key (sender_of (behind_seal bytes)) to (behind_seal bytes))) → b ≡ is_sealed key to bytes
unfolding is_sealed sealed
sealed_as key to bytes b long same =
    let frame : List ℕ = behind_seal bytes in
    let seal : List ℕ = seal_of key (sender_of frame) to frame in
    let test = bytes_eq-Decides bytes (seal ++ frame) in
    both b (bytes_eq bytes (seal ++ frame))
    (λ e. test.1 (sym (take-append-drop 34 bytes) ∙ ap (λ front. front ++ frame) (same.0 e)))
    (λ e. same.1 (ap (take 34) (test.0 e) ∙ take_at seal frame 34 (length-seal key (sender_of frame) to frame)))

pub short_is_not : (key : Key) (to : ℕ) (bytes : List ℕ) → length bytes < 34 → is_sealed key to bytes ≡ false
unfolding is_sealed
short_is_not key to bytes short = is_false (bytes_eq bytes other) (bytes_eq-Decides bytes other).0
  where
    other : List ℕ
    other = sealed key (sender_of (behind_seal bytes)) to (behind_seal bytes)

    is_false : (b : Bool) → (b ≡ true → bytes ≡ other) → b ≡ false
    is_false true e = absurd (omega (arith, short, ap length (e refl), length-sealed key (sender_of (behind_seal bytes)) to (behind_seal bytes)))
    is_false false e = refl

-- what the two pieces of some bytes tell, where the seal was made anew and compared
module _ (key : Key) (to : ℕ) (bytes seal frame made : List ℕ) (from : ℕ) (b : Bool)
    (front : seal ≡ take 34 bytes) (rest : frame ≡ drop 34 bytes) (long : 34 ≤ length bytes)
    (sender : from ≡ sender_of frame) (anew : made ≡ seal_of key from to frame) (compared : IsTrue b ↔ (seal ≡ made)) where
  wanted : made ≡ seal_of key (sender_of (behind_seal bytes)) to (behind_seal bytes)
  wanted = anew ∙ ap (λ f. seal_of key f to frame) sender ∙ ap (λ f. seal_of key (sender_of f) to f) rest

  judged : b ≡ is_sealed key to bytes
  judged = sealed_as key to bytes b long (λ e. sym front ∙ compared.0 e ∙ wanted, λ e. compared.1 (front ∙ e ∙ sym wanted))

  pub opens : b ≡ true → Some frame ≡ opened key to bytes
  unfolding opened
  opens e = rw (sym judged ∙ e) (ap Some rest)

  pub stays_shut : b ≡ false → None ≡ opened key to bytes
  unfolding opened
  stays_shut e = rw (sym judged ∙ e) refl

-- the pieces of what is hashed, one after the other behind the first
pub nested : (a b c d e f : List ℕ) → a ++ b ++ c ++ d ++ e ++ f ≡ a ++ (b ++ c ++ d ++ e ++ f)
nested [] b c d e f = refl
nested (x ∷ a) b c d e f = ap (λ l. x ∷ l) (nested a b c d e f)
