-- What is read of a transcript, as the lines come.
use Rattle.std.proofs.Common.{◌≡◌, ℕ, ◌+◌, ◌<◌, ◌≤◌, Bool, true, false, List, [], ◌∷◌, length, drop, Option, Some, None, Result, Ok, Err, arith, refl, sym, ap, ◌∙◌, subst}
use Rattle.std.specs.Prelude.{◌||◌, nat_lt, option_map}
use Rattle.std.specs.Global.{Vec}
use Rattle.std.proofs.lemmas.Bool.Decides.{nat_tests}
use Rattle.std.proofs.lemmas.List.{drop_all}
use Rattle.fabric_status.specs.declared.status.Refusal.{Refusal}
use Rattle.fabric_status.specs.declared.status.Refusal.TheVariants.{BadLine, TooLarge}
use Rattle.line_format.specs.Lines.{lines_of}
use Rattle.source_lines.specs.Lines.{is_ignored, most_lines}
use Rattle.transcript_audit.specs.declared.group_index.GroupIndex.{GroupIndex}
use Rattle.transcript_audit.specs.declared.transcript.Transcript.TheVariants.{Good, Refused}
use Rattle.transcript_audit.specs.Groups.{group_at}
use Rattle.transcript_audit.specs.Places.{Keeps, Finds, IsPlaced, IsRead, IsTranscript}
use Rattle.transcript_audit.specs.Said.{said_of}
use Rattle.transcript_audit.specs.Transcript.{Reading, nothing_read, groups_of, groups_if, placed_if, is_large, end_of, most_bytes, most_line, unless_bad, read_unless, short_read, line_read, read_on, read_from, transcript_of}
use Rattle.transcript_audit.proofs.Growing.{with_none}
use Rattle.transcript_audit.proofs.Placing.{keeps_ignored}

-- a line, by its tests
module _ (bytes l : List ℕ) (ls : List (List ℕ)) (r : Reading) (t : GroupIndex) (n : ℕ) where
  pub read_ignored : is_ignored l ≡ true → Keeps bytes (l ∷ ls) t r → IsRead bytes ls t None (short_read n l r)
  read_ignored i k = subst (λ b. IsRead bytes ls t None (read_unless false b n (placed_if (said_of l) r) r)) (sym i) (keeps_ignored bytes l ls r t i k)

  pub read_placed : is_ignored l ≡ false → IsPlaced bytes ls t true (placed_if (said_of l) r) → IsRead bytes ls t None (short_read n l r)
  read_placed i p = subst (λ b. IsRead bytes ls t None (read_unless false b n (placed_if (said_of l) r) r)) (sym i) (by (placed_if (said_of l) r) p)
    where
      by : (o : Option Reading) → IsPlaced bytes ls t true o → IsRead bytes ls t None (unless_bad n o)
      by None q = q
      by (Some s) q = q

  pub read_bad : is_ignored l ≡ false → IsPlaced bytes ls t false (placed_if (said_of l) r) → IsRead bytes ls t (Some (BadLine n)) (short_read n l r)
  read_bad i p = subst (λ b. IsRead bytes ls t (Some (BadLine n)) (read_unless false b n (placed_if (said_of l) r) r)) (sym i) (by (placed_if (said_of l) r) p)
    where
      by : (o : Option Reading) → IsPlaced bytes ls t false o → IsRead bytes ls t (Some (BadLine n)) (unless_bad n o)
      by None q = refl
      by (Some s) q = q

  pub read_short : (end : ℕ) (f : Option Refusal) → is_large n end l ≡ false → IsRead bytes ls t f (short_read n l r) → IsRead bytes ls t f (line_read n end l r)
  read_short end f e p = subst (λ b. IsRead bytes ls t f (read_unless b (is_ignored l) n (placed_if (said_of l) r) r)) (sym e) p

  pub read_large : (end : ℕ) → is_large n end l ≡ true → IsRead bytes ls t (Some (TooLarge n)) (line_read n end l r)
  read_large end e = subst (λ b. IsRead bytes ls t (Some (TooLarge n)) (read_unless b (is_ignored l) n (placed_if (said_of l) r) r)) (sym e) refl

-- a line that passes no limit
both_false : (a b : Bool) → (a || b) ≡ false → (a ≡ false) × (b ≡ false)
both_false true b e = absurd (cc (e))
both_false false b e = (refl, e)

pub within_limits : (n end : ℕ) (l : List ℕ) → is_large n end l ≡ false → (n ≤ most_lines) × (end ≤ most_bytes)
within_limits n end l e =
    let more = (both_false (nat_lt most_line (length l)) (nat_lt most_lines n || nat_lt most_bytes end) e).1 in
    let both = both_false (nat_lt most_lines n) (nat_lt most_bytes end) more in
    let few : nat_lt 2000000 n ≡ false = both.0 in
    let short : nat_lt 1073741824 end ≡ false = both.1 in
    (grind (arith, nat_tests), grind (arith, nat_tests))

-- a line that is too long, whatever else it is
pub too_long : (n end : ℕ) (l : List ℕ) → most_line < length l → is_large n end l ≡ true
too_long n end l long = let t : nat_lt 65536 (length l) ≡ true = grind (arith, nat_tests) in rw t refl

-- so much was read, and what is left leads to the same end as all lines
pub record Along (bytes : List ℕ) (t : GroupIndex) (number at : ℕ) : Type 0 where
  pub within : at ≤ length bytes
  pub reading : Reading
  pub keeps : Keeps bytes (lines_of (drop at bytes)) t reading
  pub reads : read_from (length bytes) number at reading (lines_of (drop at bytes)) ≡ read_from (length bytes) 1 0 nothing_read (lines_of bytes)

pub along_start : (bytes : List ℕ) (t : GroupIndex) → Keeps bytes (lines_of bytes) t nothing_read → Along bytes t 1 0
along_start bytes t k = record { within = omega arith; reading = nothing_read; keeps = k; reads = refl }

-- a line that was read
read_step : (total n at : ℕ) (r : Reading) (l : List ℕ) (ls : List (List ℕ)) (s : Reading) → line_read n (end_of total at l) l r ≡ Ok s → read_from total n at r (l ∷ ls) ≡ read_from total (n + 1) (end_of total at l) s ls
read_step total n at r l ls s e = ap (λ o. read_on o (λ x. read_from total (n + 1) (end_of total at l) x ls)) e

read_stop : (total n at : ℕ) (r : Reading) (l : List ℕ) (ls : List (List ℕ)) (f : Refusal) → line_read n (end_of total at l) l r ≡ Err f → read_from total n at r (l ∷ ls) ≡ Err f
read_stop total n at r l ls f e = ap (λ o. read_on o (λ x. read_from total (n + 1) (end_of total at l) x ls)) e

module _ (bytes : List ℕ) (old new : GroupIndex) (number at end : ℕ) (line after : List ℕ) (along : Along bytes old number at)
    (lines : lines_of (drop at bytes) ≡ line ∷ lines_of after) (is_end : end ≡ end_of (length bytes) at line) (rest : drop end bytes ≡ after)
    (within : end ≤ length bytes) where
  pub along_next : IsRead bytes (lines_of after) new None (line_read number end line along.reading) → Along bytes new (number + 1) end
  along_next read = by (line_read number end line along.reading) refl read
    where
      by : (o : Result Reading Refusal) → line_read number end line along.reading ≡ o → IsRead bytes (lines_of after) new None o → Along bytes new (number + 1) end
      by (Err f) e p = absurd p
      by (Ok s) e p = record {
        within = within;
        reading = s;
        keeps = subst (λ x. Keeps bytes (lines_of x) new s) (sym rest) p;
        reads =
            ap (λ x. read_from (length bytes) (number + 1) end s (lines_of x)) rest
            ∙ ap (λ m. read_from (length bytes) (number + 1) m s (lines_of after)) is_end
            ∙ sym (read_step (length bytes) number at along.reading line (lines_of after) s (subst (λ m. line_read number m line along.reading ≡ Ok s) is_end e))
            ∙ ap (read_from (length bytes) number at along.reading) (sym lines) ∙ along.reads;
      }

  pub along_refused : (f : Refusal) → IsRead bytes (lines_of after) new (Some f) (line_read number end line along.reading) → IsTranscript bytes (Refused f) (transcript_of bytes)
  unfolding transcript_of
  along_refused f read = by (line_read number end line along.reading) refl read
    where
      by : (o : Result Reading Refusal) → line_read number end line along.reading ≡ o → IsRead bytes (lines_of after) new (Some f) o
          → IsTranscript bytes (Refused f) (groups_if (read_from (length bytes) 1 0 nothing_read (lines_of bytes)))
      by (Ok s) e p = absurd p
      by (Err g) e p =
          let stops : read_from (length bytes) 1 0 nothing_read (lines_of bytes) ≡ Err g =
          sym along.reads ∙ ap (read_from (length bytes) number at along.reading) lines
          ∙ read_stop (length bytes) number at along.reading line (lines_of after) g (subst (λ m. line_read number m line along.reading ≡ Err g) is_end e) in
          subst (λ o. IsTranscript bytes (Refused f) (groups_if o)) (sym stops) p

-- the first of the lines that are left is too long
pub along_long : (bytes : List ℕ) (t : GroupIndex) (number at : ℕ) (line : List ℕ) (others : List (List ℕ)) → Along bytes t number at → lines_of (drop at bytes) ≡ line ∷ others → most_line < length line
    → IsTranscript bytes (Refused (TooLarge number)) (transcript_of bytes)
unfolding transcript_of
along_long bytes t number at line others along lines long = subst (λ o. IsTranscript bytes (Refused (TooLarge number)) (groups_if o)) (sym stops) refl
  where
    end : ℕ
    end = end_of (length bytes) at line

    large : line_read number end line along.reading ≡ Err (TooLarge number)
    large = ap (λ b. read_unless b (is_ignored line) number (placed_if (said_of line) along.reading) along.reading) (too_long number end line long)

    stops : read_from (length bytes) 1 0 nothing_read (lines_of bytes) ≡ Err (TooLarge number)
    stops = sym along.reads ∙ (ap (read_from (length bytes) number at along.reading) lines ∙ read_stop (length bytes) number at along.reading line others (TooLarge number) large)

pub along_end : (bytes : List ℕ) (text : Vec ℕ) (t : GroupIndex) (number at : ℕ) → Along bytes t number at → length bytes ≤ at → text.items ≡ bytes → IsTranscript bytes (Good text t) (transcript_of bytes)
unfolding transcript_of
along_end bytes text t number at along done all = subst (λ o. IsTranscript bytes (Good text t) (groups_if o)) ends (all, finds)
  where
    none : drop at bytes ≡ []
    none = drop_all at bytes done

    ends : Ok along.reading ≡ read_from (length bytes) 1 0 nothing_read (lines_of bytes)
    ends = ap (λ x. read_from (length bytes) number at along.reading (lines_of x)) (sym none) ∙ along.reads

    keeps : Keeps bytes [] t along.reading
    keeps = subst (λ x. Keeps bytes (lines_of x) t along.reading) none along.keeps

    finds : Finds bytes t (groups_of along.reading)
    finds line = keeps.places line ∙ ap (λ gs. option_map Some (group_at line gs)) (with_none along.reading)
