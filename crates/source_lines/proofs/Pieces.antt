-- Pieces in a room.
use Rattle.std.proofs.Common.{◌≡◌, ℕ, ◌+◌, ◌-◌, ◌≤◌, List, ◌++◌, length, take, drop, length-drop, Some, arith, ap, sym, ◌∙◌, zero-add, append_assoc}
use Rattle.std.proofs.lemmas.List.{take-take, drop-take, length-take-le, take-append-drop, take-append-le, take_all}
use Rattle.std.proofs.lemmas.List.Edits.{take-paste}
use Rattle.std.proofs.lemmas.Slice.{take-put_mid}
use Rattle.std.proofs.Math.Seq.{take-append-add, take-add}
use Rattle.std.specs.List.{copy_within, position}
use Rattle.source_lines.specs.Feeds.{HasNoFeed}
use Rattle.source_lines.proofs.Cuts.{is_feed}
use Rattle.source_lines.proofs.Feeds.{behind_some, behind_none}
use borrow.Rule.Slice.PartMut.{put_mid}

take_past : (end n : ℕ) (xs ys : List ℕ) → end ≡ length xs → take (end + n) (xs ++ ys) ≡ xs ++ take n ys
take_past end n xs ys e = ap (λ k. take (k + n) (xs ++ ys)) e ∙ take-append-add xs ys n

-- a piece behind the front
pub read_piece : (end k n : ℕ) (room into : List ℕ) → end ≤ length room → length into ≡ k → n ≤ k → take (end + n) (put_mid end k room into) ≡ take end room ++ take n into
read_piece end k n room into h l m =
    let long : end + n ≤ end + k = omega arith in
    sym (take-take (end + n) (end + k) (put_mid end k room into) long)
    ∙ (ap (take (end + n)) (take-put_mid end k room into (end + k) (omega arith) h)
    ∙ take_past end n (take end room) into (sym (length-take-le end room h)))

-- bytes that were moved to the front
pub moved : (next end : ℕ) (room : List ℕ) → next ≤ end → end ≤ length room → take (end - next) (copy_within room next end 0) ≡ drop next (take end room)
moved next end room rise within =
    ap (λ k. take k (copy_within room next end 0)) (sym (zero-add (end - next)))
    ∙ (take-paste room 0 (drop next room) (end - next) (omega arith) (omega (arith, length-drop {A = ℕ}))
    ∙ (sym (drop-take next (end - next) room) ∙ ap (λ n. drop next (take n room)) (omega arith)))

-- what was read goes from what is left to what stands in the room
pub read_more : (now before rest all : List ℕ) (n : ℕ) → now ≡ before ++ take n rest → before ++ rest ≡ all → now ++ drop n rest ≡ all
read_more now before rest all n has same =
    ap (λ m. m ++ drop n rest) has ∙ (append_assoc before (take n rest) (drop n rest) ∙ (ap (λ t. before ++ t) (take-append-drop n rest) ∙ same))

-- the first feed of a piece behind bytes without one
pub feed_behind : (read n i : ℕ) (room : List ℕ) → read ≤ length room → HasNoFeed (take read room) → position is_feed (take n (drop read room)) ≡ Some i → position is_feed (take (read + n) room) ≡ Some (read + i)
feed_behind read n i room within none found =
    ap (position is_feed) (take-add read n room)
    ∙ (behind_some (take read room) (take n (drop read room)) i none found ∙ ap (λ k. Some (k + i)) (length-take-le read room within))

pub none_behind : (read n : ℕ) (room : List ℕ) → HasNoFeed (take read room) → HasNoFeed (take n (drop read room)) → HasNoFeed (take (read + n) room)
none_behind read n room none more = ap (position is_feed) (take-add read n room) ∙ behind_none (take read room) (take n (drop read room)) none more

-- `&room[next..end]`
pub between : (next end : ℕ) (room : List ℕ) → next ≤ end → take (end - next) (drop next room) ≡ drop next (take end room)
between next end room rise = sym (drop-take next (end - next) room) ∙ ap (λ n. drop next (take n room)) (omega arith)

-- a front of what stands there
pub front_between : (next end n : ℕ) (room : List ℕ) → next + n ≤ end → drop next (take (next + n) room) ≡ take n (drop next (take end room))
front_between next end n room within =
    drop-take next n room
    ∙ (sym (take-take n (end - next) (drop next room) (omega arith)) ∙ ap (take n) (between next end room (omega arith)))

-- the front of a room that gets longer
pub same_front : (n most : ℕ) (room more : List ℕ) → n ≤ length room → length room ≤ most → take n (take most room ++ more) ≡ take n room
same_front n most room more few short =
    let all : take most room ≡ room = take_all most room short in
    ap (λ xs. take n (xs ++ more)) all ∙ take-append-le n room more few
