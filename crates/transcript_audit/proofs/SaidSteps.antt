-- What a line says, by the readers of its kinds.
use Rattle.std.proofs.Common.{◌≡◌, ℕ, List, Option, Some, None, refl, sym, ap, ◌∙◌}
use Rattle.ring_points.specs.declared.who.Who.{Who}
use Rattle.fabric_terms.specs.declared.report.Head.{Head}
use Rattle.fabric_terms.specs.declared.report.Report.{Report}
use Rattle.fabric_terms.specs.Runs.{Clocks}
use Rattle.line_format.specs.Readers.{line_of}
use Rattle.run_audit.specs.Breaches.{first_of}
use Rattle.text_fields.specs.Fields.{◌>>=◌, made}
use Rattle.transcript_audit.specs.Said.{Said, Opens, Shows, Tells, section_at, shown_of, sent_of, said_of, telling_of, told_of}

pub said_report : (l : List ℕ) (h : Head) (r : Report) → line_of l ≡ Some (h, r) → said_of l ≡ Some (Tells h.line h.who (Some r))
unfolding said_of
said_report l h r e = rw e refl

pub said_sent : (l : List ℕ) (n : ℕ) (w : Who) → line_of l ≡ None → sent_of l ≡ Some (n, w) → said_of l ≡ Some (Tells n w None)
unfolding said_of
said_sent l n w e f = rw (e, f) refl

pub said_shown : (l : List ℕ) (n : ℕ) (cs : Clocks) → line_of l ≡ None → sent_of l ≡ None → shown_of l ≡ Some (n, cs) → said_of l ≡ Some (Shows n cs)
unfolding said_of
said_shown l n cs e f g = rw (e, f, g) refl

pub said_section : (l : List ℕ) (n : ℕ) → line_of l ≡ None → sent_of l ≡ None → shown_of l ≡ None → section_at l ≡ Some n → said_of l ≡ Some Opens
unfolding said_of
said_section l n e f g h = rw (e, f, g, h) refl

pub said_nothing : (l : List ℕ) → line_of l ≡ None → sent_of l ≡ None → shown_of l ≡ None → section_at l ≡ None → said_of l ≡ None
unfolding said_of
said_nothing l e f g h = rw (e, f, g, h) refl

-- by what an instance tells on it

joined : (a b c : Option Said) → first_of a (first_of b c) ≡ first_of (first_of a b) c
joined (Some x) b c = refl
joined None b c = refl

-- what a line says on which no instance tells something
abbrev pub untold_of : List ℕ → Option Said
untold_of l = first_of (made (λ x. Shows x.0 x.1) shown_of l) (made (λ n. Opens) section_at l)

said_by : (l : List ℕ) → said_of l ≡ first_of (telling_of l) (untold_of l)
unfolding said_of
said_by l = joined (told_of l) (made (λ x. Tells x.0 x.1 None) sent_of l) (untold_of l)

pub said_telling : (l : List ℕ) (x : Said) → telling_of l ≡ Some x → said_of l ≡ Some x
said_telling l x e = said_by l ∙ ap (λ (o : Option Said). first_of o (untold_of l)) e

pub said_untold : (l : List ℕ) → telling_of l ≡ None → said_of l ≡ untold_of l
said_untold l e = said_by l ∙ ap (λ (o : Option Said). first_of o (untold_of l)) e

-- a line that tells nothing
pub data Quiet (o : Option Said) : Type 0 where
  Is_none : o ≡ None → Quiet o
  Is_opens : o ≡ Some Opens → Quiet o
  Is_shows : (n : ℕ) (cs : Clocks) → o ≡ Some (Shows n cs) → Quiet o

quiet_by : (o : Option (ℕ × Clocks)) (s : Option ℕ) → Quiet (first_of (o >>= λ x. Some (Shows x.0 x.1)) (s >>= λ n. Some Opens))
quiet_by (Some x) s = Is_shows x.0 x.1 refl
quiet_by None (Some n) = Is_opens refl
quiet_by None None = Is_none refl

pub said_quiet : (l : List ℕ) → telling_of l ≡ None → Quiet (said_of l)
said_quiet l e = rw (said_untold l e) (quiet_by (shown_of l) (section_at l))

-- the clocks of a line that shows some
pub shows_shown : (l : List ℕ) (n : ℕ) (cs : Clocks) → said_of l ≡ Some (Shows n cs) → shown_of l ≡ Some (n, cs)
unfolding said_of
shows_shown l n cs said = by (line_of l) refl (sent_of l) refl (shown_of l) refl (section_at l) refl
  where
    by : (a : Option (Head × Report)) → line_of l ≡ a → (b : Option (ℕ × Who)) → sent_of l ≡ b → (c : Option (ℕ × Clocks)) → shown_of l ≡ c → (d : Option ℕ) → section_at l ≡ d
        → shown_of l ≡ Some (n, cs)
    by (Some x) e b f c g d h =
        let bad : Some (Tells x.0.line x.0.who (Some x.1)) ≡ Some (Shows n cs) = sym (said_report l x.0 x.1 e) ∙ said in
        absurd (cc (bad))
    by None e (Some y) f c g d h =
        let bad : Some (Tells y.0 y.1 None) ≡ Some (Shows n cs) = sym (said_sent l y.0 y.1 e f) ∙ said in
        absurd (cc (bad))
    by None e None f (Some z) g d h =
        let same : Some (Shows z.0 z.1) ≡ Some (Shows n cs) = sym (said_shown l z.0 z.1 e f g) ∙ said in
        let line : z.0 ≡ n = cc (same) in
        let clocks : z.1 ≡ cs = cc (same) in
        g ∙ (λ i. Some (line i, clocks i))
    by None e None f None g (Some n') h =
        let bad : Some Opens ≡ Some (Shows n cs) = sym (said_section l n' e f g h) ∙ said in
        absurd (cc (bad))
    by None e None f None g None h =
        let bad : None ≡ Some (Shows n cs) = sym (said_nothing l e f g h) ∙ said in
        absurd (cc (bad))
