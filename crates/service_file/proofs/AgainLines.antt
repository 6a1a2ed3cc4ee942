-- The lines `again`, one after another.
use Rattle.std.proofs.Common.{◌≡◌, ℕ, zero, suc, ◌+◌, ◌-◌, ◌<◌, List, [], ◌∷◌, ◌++◌, length, Option, Some, None, refl, ap, sym, ◌∙◌, arith, append_assoc}
use Rattle.std.proofs.lemmas.List.{append-nil, length-append}
use Rattle.text_fields.specs.Fields.{◌>>=◌}
use Rattle.service_file.specs.declared.settings.Again.{Again}
use Rattle.service_file.specs.ActorFiles.{again_at, again_text, agains_in}
use Rattle.service_file.proofs.FileFields.{again_is}

-- the lines so far, and behind them those of the rest
abbrev pub after : List Again → Option (List Again) → Option (List Again)
after done rest = rest >>= λ more. Some (done ++ more)

none_left : (k : ℕ) → agains_in k [] ≡ Some []
unfolding agains_in
none_left zero = refl
none_left (suc k) = refl

after_more : (done : List Again) (a : Again) (rest : Option (List Again))
    → after done (rest >>= λ more. Some (a ∷ more)) ≡ after (done ++ a ∷ []) rest
after_more done a (Some more) = ap Some (sym (append_assoc done (a ∷ []) more))
after_more done a None = refl

-- a line is one byte at least
pub line_shortens : (bytes : List ℕ) (a : Again × List ℕ) → again_at bytes ≡ Some a → length a.1 < length bytes
line_shortens bytes a e =
    let f = again_is.found bytes a e in
    omega (arith, ap length f.1, length-append (again_text a.0) a.1)

-- a line at the front, with room for one more than k
pub one_read : (k b : ℕ) (bs : List ℕ) (a : Again × List ℕ) → again_at (b ∷ bs) ≡ Some a
    → agains_in (suc k) (b ∷ bs) ≡ (agains_in k a.1 >>= λ more. Some (a.0 ∷ more))
unfolding agains_in
one_read k b bs a e = rw e refl

none_read : (k b : ℕ) (bs : List ℕ) → again_at (b ∷ bs) ≡ None → agains_in k (b ∷ bs) ≡ None
unfolding agains_in
none_read zero b bs e = refl
none_read (suc k) b bs e = rw e refl

-- where n lines of at most m are read, one more
pub line_read : (m n : ℕ) (done : List Again) (rest : List ℕ) (a : Again × List ℕ) → n < m → again_at rest ≡ Some a
    → after done (agains_in (m - n) rest) ≡ after (done ++ a.0 ∷ []) (agains_in (m - (n + 1)) a.1)
line_read m n done rest a within e =
    let left : m - n ≡ suc (m - (n + 1)) = omega arith in
    ap (λ k. after done (agains_in k rest)) left
    ∙ (ap (after done) (by (m - (n + 1)) rest (omega (arith, line_shortens rest a e)) e) ∙ after_more done a.0 (agains_in (m - (n + 1)) a.1))
  where
    by : (k : ℕ) (bytes : List ℕ) → 0 < length bytes → again_at bytes ≡ Some a
        → agains_in (suc k) bytes ≡ (agains_in k a.1 >>= λ more. Some (a.0 ∷ more))
    by k [] some h = absurd (omega (arith, some))
    by k (b ∷ bs) some h = one_read k b bs a h

pub line_refused : (k : ℕ) (done : List Again) (rest : List ℕ) → 0 < length rest → again_at rest ≡ None → after done (agains_in k rest) ≡ None
line_refused k done [] some e = absurd (omega (arith, some))
line_refused k done (b ∷ bs) some e = ap (after done) (none_read k b bs e)

pub all_read : (k : ℕ) (done : List Again) (rest : List ℕ) → length rest ≡ 0 → after done (agains_in k rest) ≡ Some done
all_read k done [] none = ap (after done) (none_left k) ∙ ap Some (append-nil done)
all_read k done (b ∷ bs) none = absurd (omega (arith, none))

pub nothing_before : (rest : Option (List Again)) → after [] rest ≡ rest
nothing_before (Some more) = refl
nothing_before None = refl
