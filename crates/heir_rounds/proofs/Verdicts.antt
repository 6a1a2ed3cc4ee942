-- What a round amounts to, by what is known of its answers.
use Rattle.std.proofs.Common.{◌≡◌, Bool, true, false, cond, refl}
use Rattle.heir_rounds.specs.Rounds.{RoundTally, has_majority, is_won, one_may_win, after_split, round_verdict_of}
use Rattle.heir_rounds.specs.declared.verdict.RoundVerdict.TheVariants as verdict

pub is_over : (t : RoundTally) → has_majority t t.me ≡ false → is_won t ≡ true → verdict.Over ≡ round_verdict_of t
is_over t h k = go (has_majority t t.me) h (is_won t) k
  where
    go : (a : Bool) → a ≡ false → (b : Bool) → b ≡ true →
        verdict.Over ≡ cond a verdict.Won (cond b verdict.Over (cond (one_may_win t) verdict.Open (after_split t)))
    go true h b k = absurd (cc (h))
    go false h true k = refl
    go false h false k = absurd (cc (k))

pub is_still_open : (t : RoundTally) → has_majority t t.me ≡ false → is_won t ≡ false → one_may_win t ≡ true → verdict.Open ≡ round_verdict_of t
is_still_open t h k o = go (has_majority t t.me) h (is_won t) k (one_may_win t) o
  where
    go : (a : Bool) → a ≡ false → (b : Bool) → b ≡ false → (d : Bool) → d ≡ true →
        verdict.Open ≡ cond a verdict.Won (cond b verdict.Over (cond d verdict.Open (after_split t)))
    go true h b k d o = absurd (cc (h))
    go false h true k d o = absurd (cc (k))
    go false h false k true o = refl
    go false h false k false o = absurd (cc (o))
