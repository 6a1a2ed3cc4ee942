-- Where a plan stands after some of its lines.
use Rattle.std.proofs.Common.{◌≡◌, ℕ, zero, suc, ◌+◌, ◌<◌, List, [], ◌∷◌, ◌++◌, length, Option, Some, Ok, Err, refl, ap, sym, ◌∙◌, arith, append_assoc}
use Rattle.std.specs.Prelude.{All, replicate}
use Rattle.std.proofs.lemmas.List.{append-nil, length-replicate}
use Rattle.std.proofs.lemmas.List.Elements.{All-nil, All-push}
use Rattle.fabric_status.specs.declared.status.Refusal.{Refusal}
use Rattle.fabric_status.specs.declared.status.Refusal.TheVariants.{TooLarge}
use Rattle.line_format.specs.Lines.{lines_of}
use Rattle.source_lines.specs.Feeds.{HasNoFeed}
use Rattle.source_lines.specs.Lines.{most_line}
use Rattle.source_lines.specs.Reading.{BeginsLonger, Reading, TakesOf}
use Rattle.source_lines.specs.declared.next_line.NextLine.TheVariants.{Line, TooLong, End}
use Rattle.source_lines.proofs.Feeds.{behind_none}
use Rattle.turn_rules.specs.declared.order.Order.{Order}
use Rattle.turn_plans.specs.Reading.{AreJudged, IsAtEnd}
use Rattle.turn_plans.proofs.Judging.{Given, judge, long_line}

-- The lines that were taken lead to where the plan stands; where the source tells, they are the first that were left.
pub record Along (g : Given) (waited : List ℕ) (left : Option (List ℕ)) (orders : List Order) (least n : ℕ) (waits : List ℕ) (now : Option (List ℕ)) : Type 0 where
  pub taken : List (List ℕ)
  pub plain : All HasNoFeed taken
  pub judged : (ls : List (List ℕ)) → judge g [] 1 2 (taken ++ ls) ≡ judge g orders least n ls
  pub told : (bytes : List ℕ) → left ≡ Some bytes → (rest : List ℕ) × (now ≡ Some rest) × (lines_of (waited ++ bytes) ≡ taken ++ lines_of (waits ++ rest))

pub none_right : (xs ys : List ℕ) → xs ++ ys ≡ [] → ys ≡ []
none_right [] ys e = e
none_right (x ∷ xs) ys e = cc

-- a line without a feed that is longer than so much
pub long_one : (n : ℕ) → (line : List ℕ) × HasNoFeed line × (n < length line)
long_one n = (replicate (suc n) 0, zeros (suc n), omega (arith, length-replicate {A = ℕ} (suc n) 0))
  where
    zeros : (k : ℕ) → HasNoFeed (replicate k 0)
    zeros zero = refl
    zeros (suc k) = behind_none (0 ∷ []) (replicate k 0) refl (zeros k)

pub along_first : (g : Given) (waits : List ℕ) (left : Option (List ℕ)) → Along g waits left [] 1 2 waits left
along_first g waits left = record { taken = []; plain = All-nil HasNoFeed; judged = λ ls. refl; told = λ bytes e. (bytes, e, refl) }

module _ (g : Given) (waited : List ℕ) (left : Option (List ℕ)) (orders : List Order) (least n : ℕ) (old : Reading) (before : Option (List ℕ)) (along : Along g waited left orders least n old.waiting before) where
  -- what is refused at the next line is refused
  stopped : (refusal : Refusal) (line : List ℕ) → HasNoFeed line → judge g orders least n (line ∷ []) ≡ Err refusal →
      ((bytes : List ℕ) → before ≡ Some bytes → judge g orders least n (lines_of (old.waiting ++ bytes)) ≡ Err refusal) →
      AreJudged (judge g [] 1 2) waited left (Err refusal)
  stopped refusal line plain one all = record {
    lines = along.taken ++ line ∷ [];
    plain = All-push HasNoFeed along.taken line along.plain plain;
    some = along.judged (line ∷ []) ∙ one;
    all = λ bytes e.
        let now = along.told bytes e in
        ap (judge g [] 1 2) now.2 ∙ (along.judged (lines_of (old.waiting ++ now.0)) ∙ all now.0 now.1);
  }

  pub at_end : (new : Reading) (after : Option (List ℕ)) → TakesOf (Ok End) most_line old before new after → AreJudged (judge g [] 1 2) waited left (Ok orders) × IsAtEnd left after
  at_end new after takes = (
    record {
      lines = along.taken;
      plain = along.plain;
      some = ap (judge g [] 1 2) (sym (append-nil along.taken)) ∙ along.judged [];
      all = λ bytes e.
          let now = along.told bytes e in
          let read = takes now.0 now.1 in
          ap (judge g [] 1 2) now.2 ∙ (along.judged (lines_of (old.waiting ++ now.0)) ∙ ap (λ b. judge g orders least n (lines_of b)) read.2.0);
    },
    (λ bytes e.
        let now = along.told bytes e in
        let read = takes now.0 now.1 in
        read.1 ∙ ap Some (none_right new.waiting read.0 read.2.1)),
  )

  pub at_long : (new : Reading) (after : Option (List ℕ)) → TakesOf (Ok TooLong) most_line old before new after → AreJudged (judge g [] 1 2) waited left (Err (TooLarge n))
  at_long new after takes =
      let long = long_one most_line in
      stopped (TooLarge n) long.0 long.1 (long_line g orders least n long.0 [] long.2)
      (λ bytes e.
      let begins : BeginsLonger most_line (old.waiting ++ bytes) = (takes bytes e).2.0 in
      ap (judge g orders least n) begins.cut ∙ long_line g orders least n begins.line begins.others begins.longer)

  module _ (new : Reading) (after : Option (List ℕ)) (takes : TakesOf (Ok Line) most_line old before new after) (plain : HasNoFeed new.line) where
    pub at_refused : (refusal : Refusal) → ((ls : List (List ℕ)) → judge g orders least n (new.line ∷ ls) ≡ Err refusal) → AreJudged (judge g [] 1 2) waited left (Err refusal)
    at_refused refusal refused =
        stopped refusal new.line plain (refused [])
        (λ bytes e.
        let read = takes bytes e in
        ap (judge g orders least n) read.2.0 ∙ refused (lines_of (new.waiting ++ read.0)))

    pub along_next : (more : List Order) (low : ℕ) → ((ls : List (List ℕ)) → judge g orders least n (new.line ∷ ls) ≡ judge g more low (n + 1) ls) → Along g waited left more low (n + 1) new.waiting after
    along_next more low leads = record {
      taken = along.taken ++ new.line ∷ [];
      plain = All-push HasNoFeed along.taken new.line along.plain plain;
      judged = λ ls. ap (judge g [] 1 2) (append_assoc along.taken (new.line ∷ []) ls) ∙ (along.judged (new.line ∷ ls) ∙ leads ls);
      told = λ bytes e.
          let now = along.told bytes e in
          let read = takes now.0 now.1 in
          (read.0, read.1, now.2 ∙ (ap (λ ls. along.taken ++ ls) read.2.0 ∙ sym (append_assoc along.taken (new.line ∷ []) (lines_of (new.waiting ++ read.0)))));
    }
