-- Why a head past a limit of the page is bad.
use Rattle.std.proofs.Common.{◌≡◌, ℕ, ◌<◌, ◌≤◌, List, ◌++◌, length, take, drop, arith, ap, sym, ◌∙◌, refl}
use Rattle.std.proofs.lemmas.List.{take-append-le, take-append-drop}
use Rattle.std.proofs.Math.Seq.{take-append_seam}
use Rattle.httparse.specs.declared.spans.HeaderSpan.{HeaderSpan}
use Rattle.httparse.specs.declared.spans.RequestSpans.{RequestSpans}
use Rattle.httparse.specs.Grammar.{HasNoRequest, RequestHead, print_request}
use Rattle.httparse.specs.Spans.{IsRequestOf}
use Rattle.httparse.proofs.GrammarLemmas.{request_unique, request_prefix_free}
use Rattle.door_io.specs.Pages.{most_head}
use Rattle.status_page.specs.declared.wanted.Wanted.TheVariants as wanted
use Rattle.status_page.specs.Requests.{IsWanted}

-- two equal heads are as long
same_length : (h k : RequestHead) → h ≡ k → length (print_request h) ≡ length (print_request k)
same_length h k e = ap (λ x. length (print_request x)) e

-- Bad is no More
not_more : {A : Type 0} → wanted.Bad ≡ wanted.More → A
not_more e = cc

-- a head that is longer than there is room for
pub too_long : (bytes : List ℕ) (fields : List HeaderSpan) (spans : RequestSpans) → IsRequestOf bytes fields spans
    → most_head < spans.len → IsWanted bytes wanted.Bad
too_long bytes fields spans (h, at) long = record {
  whole = λ k q reads fits.
      let same = request_unique bytes h k _ q at.reads reads in
      let alike : length (print_request h) ≡ length (print_request k) = same_length h k same.0 in
      let least : spans.len ≡ length (print_request h) = at.len in
      let most : length (print_request k) ≤ most_head = fits.bytes in
      absurd (omega arith);
  waits = λ e. not_more e;
  bad = λ e more k q reads fits.
      let same = request_prefix_free bytes more h k _ q at.reads reads in
      let alike : length (print_request h) ≡ length (print_request k) = same_length h k same.0 in
      let least : spans.len ≡ length (print_request h) = at.len in
      let most : length (print_request k) ≤ most_head = fits.bytes in
      omega arith;
  answered = λ a b. absurd (b refl);
}

-- what stands before more and before a rest begins with the shorter of both
begins : (bytes more text rest : List ℕ) → bytes ++ more ≡ text ++ rest → length text ≤ length bytes
    → bytes ≡ text ++ drop (length text) bytes
begins bytes more text rest e fits =
    let front : take (length text) bytes ≡ text =
    sym (take-append-le (length text) bytes more fits) ∙ (ap (take (length text)) e ∙ take-append_seam text rest) in
    sym (take-append-drop (length text) bytes) ∙ ap (λ t. t ++ drop (length text) bytes) front

-- no head has come, and no more finds room
pub too_full : (bytes : List ℕ) → HasNoRequest bytes → most_head ≤ length bytes → IsWanted bytes wanted.Bad
too_full bytes none full = record {
  whole = λ h rest reads fits. absurd (none h rest reads);
  waits = λ e. not_more e;
  bad = λ e more h rest reads fits.
      let most : length (print_request h) ≤ most_head = fits.bytes in
      none h (drop (length (print_request h)) bytes)
      (reads.0, begins bytes more (print_request h) rest reads.1 (omega arith));
  answered = λ a b. absurd (b refl);
}
