-- The next line of a source, behind the text that was read before it.
use Rattle.std.proofs.Common.{◌≡◌, ℕ, ◌+◌, ◌≤◌, false, List, [], ◌∷◌, ◌++◌, length, drop, Option, Some, None, Ok, arith, sym, ap, subst, ◌∙◌, append_assoc, length-append, ⊎_elim}
use Rattle.std.proofs.lemmas.List.{append-nil}
use Rattle.std.proofs.Math.Seq.{drop-append_seam}
use Rattle.std.specs.Global.{Vec}
use Rattle.fabric_status.specs.declared.status.Refusal.{Refusal}
use Rattle.fabric_status.specs.declared.status.Refusal.TheVariants.{TooLarge}
use Rattle.line_format.specs.Lines.{lines_of}
use Rattle.source_lines.specs.Reading.{BeginsLonger, IsWhole, Reading as Lines, TakesWhole}
use Rattle.source_lines.specs.declared.next_line.NextLine.TheVariants.{Line}
use Rattle.transcript_audit.specs.declared.group_index.GroupIndex.{GroupIndex}
use Rattle.transcript_audit.specs.declared.transcript.Transcript.TheVariants.{Good, Refused}
use Rattle.transcript_audit.specs.Places.{IsRead, IsTaken, IsTranscript, Keeps, Within}
use Rattle.transcript_audit.specs.Transcript.{end_of, is_large, line_read, nothing_read, transcript_of}
use Rattle.transcript_audit.proofs.Reading.{Along, along_end, along_long, along_next, along_refused, along_start, within_limits}

-- What the source has told: the bytes of the text, then what waits in the reader, then what the source has left. The lines of
-- the text were taken, and stand in the table.
pub record Follows (bytes text waits : List ℕ) (left : Option (List ℕ)) (t : GroupIndex) (number : ℕ) : Type 0 where
  pub rest : List ℕ
  pub is_left : left ≡ Some rest
  pub same : text ++ (waits ++ rest) ≡ bytes
  pub along : Along bytes t number (length text)

pub follows_first : (bytes text waits : List ℕ) (left : Option (List ℕ)) (t : GroupIndex) → text ≡ [] → waits ≡ [] → left ≡ Some bytes → Keeps bytes (lines_of bytes) t nothing_read → Follows bytes text waits left t 1
follows_first bytes text waits left t none empty is keeps = record {
  rest = bytes;
  is_left = is;
  same = ap (λ x. x ++ (waits ++ bytes)) none ∙ ap (λ w. w ++ bytes) empty;
  along = subst (λ (x : List ℕ). Along bytes t 1 (length x)) (sym none) (along_start bytes t keeps);
}

-- a line behind the text, with its line feed
module _ (bytes text left whole line after : List ℕ) (same : text ++ left ≡ bytes) (front : left ≡ whole ++ after) (cut : lines_of left ≡ line ∷ lines_of after) where
  all : (text ++ whole) ++ after ≡ bytes
  all = append_assoc text whole after ∙ (ap (λ l. text ++ l) (sym front) ∙ same)

  lengths : length bytes ≡ length text + length whole + length after
  lengths = ap length (sym all) ∙ (length-append (text ++ whole) after ∙ ap (λ n. n + length after) (length-append text whole))

  pub line_here : lines_of (drop (length text) bytes) ≡ line ∷ lines_of after
  line_here = ap lines_of (ap (drop (length text)) (sym same) ∙ drop-append_seam text left) ∙ cut

  rest_here : drop (length text + length whole) bytes ≡ after
  rest_here =
      ap (drop (length text + length whole)) (sym all)
      ∙ (ap (λ n. drop n ((text ++ whole) ++ after)) (sym (length-append text whole)) ∙ drop-append_seam (text ++ whole) after)

  end_here : IsWhole line whole after → length text + length whole ≡ end_of (length bytes) (length text) line
  end_here is =
      ⊎_elim
      (λ fed. let long : length whole ≡ length line + 1 = ap length fed ∙ length-append line (10 ∷ []) in omega (arith, lengths))
      (λ last. let long : length whole ≡ length line = ap length last.0 in let none : length after ≡ 0 = ap length last.1 in omega (arith, lengths))
      is

  -- it is refused
  pub follows_refused : (old new : GroupIndex) (number : ℕ) (f : Refusal) (along : Along bytes old number (length text)) → IsWhole line whole after
      → IsRead bytes (lines_of after) new (Some f) (line_read number (length text + length whole) line along.reading) → IsTranscript bytes (Refused f) (transcript_of bytes)
  follows_refused old new number f along is read =
      along_refused bytes old new number (length text) (length text + length whole) line after along line_here (end_here is) rest_here (omega (arith, lengths)) f read

  -- it is taken
  pub follows_on : (old new : GroupIndex) (number : ℕ) (along : Along bytes old number (length text)) → IsWhole line whole after
      → IsRead bytes (lines_of after) new None (line_read number (length text + length whole) line along.reading) → (now : List ℕ) → now ≡ text ++ whole → Along bytes new (number + 1) (length now)
  follows_on old new number along is read now kept =
      subst (λ (n : ℕ). Along bytes new (number + 1) n) (sym (ap length kept ∙ length-append text whole))
      (along_next bytes old new number (length text) (length text + length whole) line after along line_here (end_here is) rest_here (omega (arith, lengths)) read)

-- the next line is too long
pub follows_long : (bytes text waits : List ℕ) (left : Option (List ℕ)) (t : GroupIndex) (number : ℕ) (follows : Follows bytes text waits left t number) → BeginsLonger 65536 (waits ++ follows.rest) → IsTranscript bytes (Refused (TooLarge number)) (transcript_of bytes)
follows_long bytes text waits left t number follows begins =
    let here : lines_of (drop (length text) bytes) ≡ begins.line ∷ begins.others =
    ap lines_of (ap (drop (length text)) (sym follows.same) ∙ drop-append_seam text (waits ++ follows.rest)) ∙ begins.cut in
    along_long bytes t number (length text) begins.line begins.others follows.along here begins.longer

-- no line is left
pub follows_end : (bytes waits : List ℕ) (text : Vec ℕ) (left : Option (List ℕ)) (t : GroupIndex) (number : ℕ) (follows : Follows bytes text.items waits left t number) → waits ++ follows.rest ≡ [] → IsTranscript bytes (Good text t) (transcript_of bytes)
follows_end bytes waits text left t number follows none =
    let all : text.items ≡ bytes = sym (append-nil text.items) ∙ (ap (λ w. text.items ++ w) (sym none) ∙ follows.same) in
    along_end bytes text t number (length text.items) follows.along (omega (arith, ap length all)) all

-- the groups begin within the text, however long it gets
pub within_more : (m n : ℕ) (t : GroupIndex) → m ≤ n → Within m t → Within n t
within_more m n t more within line at e = let low = within line at e in omega arith

-- a line that was taken passes no limit, and the text has it more
pub taken_short : (n : ℕ) (reader : Lines) (old new : List ℕ) → IsTaken None n reader old new → (n + 1 ≤ 2000001) × (length new ≤ 1073741824) × (new ≡ old ++ reader.whole)
taken_short n reader old new taken =
    let limits = within_limits n (length old + length reader.whole) reader.line taken.0 in
    (omega (arith, limits.0), omega (arith, limits.1, ap length taken.1 ∙ length-append old reader.whole), taken.1)

-- the next line of the source
module _ (bytes text waits : List ℕ) (left after : Option (List ℕ)) (old : GroupIndex) (number : ℕ) (reader : Lines) (follows : Follows bytes text waits left old number) (rest : List ℕ)
    (cut : lines_of (waits ++ follows.rest) ≡ reader.line ∷ lines_of (reader.waiting ++ rest)) (whole : TakesWhole (Ok Line) (waits ++ follows.rest) reader (reader.waiting ++ rest)) where
  pub next_here : lines_of (drop (length text) bytes) ≡ reader.line ∷ lines_of (reader.waiting ++ rest)
  next_here = line_here bytes text (waits ++ follows.rest) reader.whole reader.line (reader.waiting ++ rest) follows.same whole.0 cut

  pub next_keeps : Keeps bytes (reader.line ∷ lines_of (reader.waiting ++ rest)) old follows.along.reading
  next_keeps = subst (λ (ls : List (List ℕ)). Keeps bytes ls old follows.along.reading) next_here follows.along.keeps

  pub next_refused : (new : GroupIndex) (f : Refusal) → IsRead bytes (lines_of (reader.waiting ++ rest)) new (Some f) (line_read number (length text + length reader.whole) reader.line follows.along.reading) → IsTranscript bytes (Refused f) (transcript_of bytes)
  next_refused new f read = follows_refused bytes text (waits ++ follows.rest) reader.whole reader.line (reader.waiting ++ rest) follows.same whole.0 cut old new number f follows.along whole.1 read

  pub next_taken : (new : GroupIndex) (now : List ℕ) → IsRead bytes (lines_of (reader.waiting ++ rest)) new None (line_read number (length text + length reader.whole) reader.line follows.along.reading) → now ≡ text ++ reader.whole → after ≡ Some rest
      → Follows bytes now reader.waiting after new (number + 1)
  next_taken new now read kept is = record {
    rest = rest;
    is_left = is;
    same = ap (λ t. t ++ (reader.waiting ++ rest)) kept ∙ (append_assoc text reader.whole (reader.waiting ++ rest) ∙ (ap (λ l. text ++ l) (sym whole.0) ∙ follows.same));
    along = follows_on bytes text (waits ++ follows.rest) reader.whole reader.line (reader.waiting ++ rest) follows.same whole.0 cut old new number follows.along whole.1 read now kept;
  }

pub none_right : (xs ys : List ℕ) → xs ++ ys ≡ [] → ys ≡ []
none_right [] ys e = e
none_right (x ∷ xs) ys e = absurd (cc (e))

pub is_taken : (f : Option Refusal) (n : ℕ) (reader : Lines) (old new : List ℕ) → is_large n (length old + length reader.whole) reader.line ≡ false → new ≡ old ++ reader.whole → IsTaken f n reader old new
is_taken None n reader old new short kept = (short, kept)
is_taken (Some refusal) n reader old new short kept = tt
