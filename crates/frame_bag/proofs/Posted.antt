-- Messages that lie as frames are read as they were written.
use Rattle.std.proofs.Common.{rules, true, false, ◌⊎◌, inl, inr, ◌≡◌, ℕ, zero, suc, ◌+◌, ◌-◌, ◌<◌, ◌≤◌, List, [], ◌∷◌, ◌++◌, length, take, get_or, refl, ap, sym, ◌∙◌, Option, Some, None, arith, map}
use Rattle.std.specs.Prelude.{IsTrue, is_ok, ◌≢◌, MatchResult, Result, Ok, Err, All, slice_get, slice_range, reverse, option_map, nat_le}
use Rattle.std.specs.Result.{result_ok}
use Rattle.std.specs.List.{filter_map, concat}
use Rattle.std.proofs.lemmas.List.{get_or-reverse, length-reverse, map-append, length-map, reverse-append}
use Rattle.std.proofs.Math.Bool.{and-false}
use Rattle.std.proofs.Math.Seq.{take-append_seam}
use Rattle.std.proofs.lemmas.List.Elements.{All-append}
use Rattle.std.proofs.lemmas.Option.{slice_get-get_or, slice_get-map, get_or_from_slice_get}
use Rattle.fabric_terms.specs.declared.message.Message.{Message}
use Rattle.fabric_terms.specs.Messages.{is_sound}
use Rattle.frame_format.specs.Frames.{spelling}
use Rattle.frame_format.specs.Kinds.{message_of}
use Rattle.frame_format.proofs.FrameLaws.{message_again}
use Rattle.frame_bag.specs.Stored.{ends_of, messages_in, AreFrames}
use Rattle.frame_bag.specs.Bags.{frame_of}
use Rattle.frame_bag.proofs.Cuts.{cut_again, length-ends_of, ends_of-more, concat-more, LiesAt, text_at}

pub filter_map_again : {X Y : Type 0} (read : Y → Option X) (write : X → Y) (P : X → Type 0) → ((x : X) → P x → read (write x) ≡ Some x) → (xs : List X) → All P xs → filter_map read (map write xs) ≡ xs
filter_map_again read write P again [] h = refl
filter_map_again read write P again (x ∷ xs) h =
    let e = again x (h 0 x (omega arith)) in
    let t = filter_map_again read write P again xs (λ k d lt. h (suc k) d (omega arith)) in
    rw (e, t) refl

pub messages_again : (ms : List Message) → All (λ m. IsTrue (is_sound m)) ms → messages_in (ends_of 0 (map spelling ms)) (concat (map spelling ms)) ≡ ms
messages_again ms h =
    ap (λ texts. filter_map message_of texts) (cut_again [] (map spelling ms)) ∙ filter_map_again message_of spelling (λ m. IsTrue (is_sound m)) message_again ms h

-- counted from the other end
pub slice_get-reverse : {X : Type 0} (xs : List X) (k n : ℕ) (x : X) → k + n + 1 ≡ length xs → slice_get xs n ≡ Some x → slice_get (reverse xs) k ≡ Some x
slice_get-reverse xs k n x h e =
    let lt : k < length (reverse xs) = simp length-reverse (omega arith) in
    let at : length xs - 1 - k ≡ n = omega arith in
    slice_get-get_or (reverse xs) k x lt ∙ ap Some (get_or-reverse xs k x (omega arith) ∙ (ap (λ i. get_or xs i x) at ∙ get_or_from_slice_get xs n x x e))

pub All-one : {X : Type 0} (P : X → Type 0) (x : X) → P x → All P (x ∷ [])
All-one P x h zero d lt = h
All-one P x h (suc k) d lt = absurd (omega arith)

pub read_again : (ends bytes : List ℕ) (ms : List Message) → AreFrames ends bytes ms → messages_in ends bytes ≡ ms
read_again ends bytes ms h = rw (h.ends_are, h.bytes_are) (messages_again ms h.sound)

pub count_is : (ends bytes : List ℕ) (ms : List Message) → AreFrames ends bytes ms → length ends ≡ length ms
count_is ends bytes ms h =
    ap length h.ends_are ∙ (length-ends_of 0 (map spelling ms) ∙ length-map ms spelling)

-- one more frame behind the others
pub more_frames : (ends bytes : List ℕ) (ms : List Message) (m : Message) → AreFrames ends bytes ms → IsTrue (is_sound m) → AreFrames (ends ++ length (bytes ++ spelling m) ∷ []) (bytes ++ spelling m) (ms ++ m ∷ [])
more_frames ends bytes ms m h s =
    let texts = map spelling ms in
    let e : map spelling (ms ++ m ∷ []) ≡ texts ++ spelling m ∷ [] = map-append spelling ms (m ∷ []) in
    record {
      sound = All-append (λ m. IsTrue (is_sound m)) ms (m ∷ []) h.sound (All-one (λ m. IsTrue (is_sound m)) m s);
      bytes_are = ap (λ b. b ++ spelling m) h.bytes_are ∙ sym (ap concat e ∙ concat-more texts (spelling m));
      ends_are = rw (h.ends_are, h.bytes_are, e) (sym (ends_of-more 0 texts (spelling m) (length (concat texts ++ spelling m)) (omega arith)));
    }

-- what is stored after a frame more, beside what was
pub record IsPosted (old_ends old_bytes ends bytes : List ℕ) (m : Message) : Type 0 where
  pub frames : AreFrames ends bytes (messages_in ends bytes)
  pub newest : reverse (messages_in ends bytes) ≡ m ∷ reverse (messages_in old_ends old_bytes)

pub posted : (old_ends old_bytes ends bytes frame rest : List ℕ) (n : ℕ) (m : Message) → AreFrames old_ends old_bytes (messages_in old_ends old_bytes) → IsTrue (is_sound m) → frame ≡ spelling m ++ rest → n ≡ length (spelling m) → bytes ≡ old_bytes ++ take n frame → ends ≡ old_ends ++ length bytes ∷ [] → IsPosted old_ends old_bytes ends bytes m
posted old_ends old_bytes ends bytes frame rest n m h s written counted bytes_are ends_are =
    let ms = messages_in old_ends old_bytes in
    let t : take n frame ≡ spelling m = rw (written, counted) (take-append_seam (spelling m) rest) in
    let b : bytes ≡ old_bytes ++ spelling m = bytes_are ∙ ap (λ x. old_bytes ++ x) t in
    let e : ends ≡ old_ends ++ length (old_bytes ++ spelling m) ∷ [] = ends_are ∙ ap (λ x. old_ends ++ length x ∷ []) b in
    let f : AreFrames ends bytes (ms ++ m ∷ []) = rw (e, b) (more_frames old_ends old_bytes ms m h s) in
    let r = read_again ends bytes (ms ++ m ∷ []) f in
    record { frames = rw r f; newest = ap reverse r ∙ reverse-append ms (m ∷ []) }

pub slice_get_some : {X : Type 0} (xs : List X) (i : ℕ) → i < length xs → (x : X) × (slice_get xs i ≡ Some x) × (get_or xs i x ≡ x)
slice_get_some (x ∷ xs) zero h = (x, refl, refl)
slice_get_some (x ∷ xs) (suc i) h = slice_get_some xs i (omega arith)
slice_get_some [] i h = absurd (omega arith)

-- what lies at a place that has a frame: its message, and where its bytes are
pub record IsRead (ends bytes : List ℕ) (ms : List Message) (i : ℕ) : Type 0 where
  pub message : Message
  pub sound : IsTrue (is_sound message)
  pub is : slice_get ms i ≡ Some message
  pub in_order : get_or (0 ∷ ends) i 0 ≤ get_or ends i 0
  pub within : get_or ends i 0 ≤ length bytes
  pub spelled : slice_range bytes (get_or (0 ∷ ends) i 0) (get_or ends i 0) ≡ spelling message

pub read_at : (ends bytes : List ℕ) (ms : List Message) (i : ℕ) → AreFrames ends bytes ms → i < length ends → IsRead ends bytes ms i
read_at ends bytes ms i h lt =
    let here : i < length ms = omega (arith, count_is ends bytes ms h) in
    let some = slice_get_some ms i here in
    let k : i < length (map spelling ms) = simp length-map here in
    let at : LiesAt (map spelling ms) bytes (get_or (0 ∷ ends) i 0) (get_or ends i 0) i = rw (h.ends_are, h.bytes_are) (text_at [] (map spelling ms) i k) in
    record {
      message = some.0;
      sound = rw some.2 at (h.sound i some.0 here);
      is = some.1;
      in_order = at.in_order;
      within = at.within;
      spelled = at.text_is ∙ get_or_from_slice_get (map spelling ms) i (spelling some.0) [] (slice_get-map spelling ms i ∙ ap (option_map spelling) some.1);
    }

-- a frame by its number, among the newest first
pub numbered : (ms : List Message) (number : ℕ) (m : Message) → 1 ≤ number → number ≤ length ms → slice_get ms (number - 1) ≡ Some m → frame_of number (reverse ms) ≡ Some m
numbered ms number m one most e =
    let below : number ≤ length (reverse ms) = simp length-reverse most in
    let a : nat_le 1 number ≡ true = search rules in
    let b : nat_le number (length (reverse ms)) ≡ true = search rules in
    let k : length (reverse ms) - number + (number - 1) + 1 ≡ length ms = simp length-reverse (omega arith) in
    rw (a, b) (slice_get-reverse ms (length (reverse ms) - number) (number - 1) m k e)

-- and no frame where so many were not sent
pub not_numbered : (ms : List Message) (number : ℕ) → (number ≡ 0) ⊎ (length ms < number) → None ≡ frame_of number (reverse ms)
not_numbered ms number (inl e) =
    let a : nat_le 1 number ≡ false = search rules in rw a refl
not_numbered ms number (inr lt) =
    let b : nat_le number (length (reverse ms)) ≡ false = simp length-reverse (search rules) in rw (b, and-false (nat_le 1 number)) refl

-- what is read of a frame is the message that was written
pub decoded : {E : Type 0} (read : Result Message E) (frame : List ℕ) (m : Message) → IsTrue (is_sound m) → frame ≡ spelling m → MatchResult read (λ n. IsTrue (is_sound n) × (spelling n ≡ frame)) (λ _. (n : Message) → IsTrue (is_sound n) → spelling n ≢ frame) → result_ok read ≡ Some m
decoded (Ok n) frame m s e h =
    sym (message_again n h.0) ∙ (ap message_of (h.1 ∙ e) ∙ message_again m s)
decoded (Err x) frame m s e h = absurd (h m s (sym e))

-- and a place that it is read into has it then
pub filled : {E : Type 0} (read : Result (Unit {0}) E) (place : Message) (frame : List ℕ) (m : Message) → IsTrue (is_sound m) → frame ≡ spelling m
    → MatchResult read (λ _. IsTrue (is_sound place) × (spelling place ≡ frame)) (λ _. (n : Message) → IsTrue (is_sound n) → spelling n ≢ frame)
    → (is_ok read ≡ true) × (Some m ≡ Some place)
filled {E} (Ok x) place frame m s e h = (refl, sym (decoded {E = E} (Ok place) frame m s e h))
filled (Err x) place frame m s e h = absurd (h m s (sym e))
