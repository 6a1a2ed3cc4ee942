-- The lists of partitions and of names are read exactly where they are spelled.
use Rattle.std.proofs.Common.{◌≡◌, ℕ, suc, ◌≤◌, ◌<◌, ⊎_elim, List, [], ◌∷◌, ◌++◌, length, All, Option, Some, None, arith, refl, ap, sym, subst, ◌∙◌, length-append, ◌-◌}
use Rattle.std.specs.Prelude.{codes, decimal}
use Rattle.std.proofs.lemmas.List.Elements.{All-nil}
use Rattle.ring_points.specs.Limits.{most_listed_names}
use Rattle.fabric_terms.specs.Ranges.{IsPartition, IsName}
use Rattle.text_fields.specs.Fields.{after_word, last, nothing}
use Rattle.text_fields.specs.Inverses.{IsRest, EndsNumber}
use Rattle.text_fields.specs.Lists.{list_at, some_at}
use Rattle.text_fields.specs.Numbers.{number_in}
use Rattle.text_fields.specs.Texts.{listed}
use Rattle.text_fields.proofs.FieldLaws.{last_is, behind_found, behind_again}
use Rattle.text_fields.proofs.ListLaws.{EndsWith, AreUpTo, AreSome, more_text, no_comma, some_is, list_is}
use Rattle.text_fields.proofs.Numbers.{some_same, none_found}
use Rattle.line_format.specs.Commands.{partition_at}
use Rattle.line_format.specs.Lists.{partitions_of, partitions_text, names_of, names_text}
use Rattle.line_format.specs.Names.{name_at, EndsName, as_they_are}
use Rattle.line_format.proofs.CountLaws.{partition_is}
use Rattle.line_format.proofs.NameLaws.{name_is}

-- the line ends
abbrev IsOver : List ℕ → Type 0
IsOver rest = rest ≡ []

over_no_comma : (rest : List ℕ) → IsOver rest → after_word (codes ",") rest ≡ None
over_no_comma rest h = ap (after_word (codes ",")) h ∙ no_comma [] tt

partitions_end : EndsWith EndsNumber IsOver
partitions_end = record { last = λ rest h. subst EndsNumber (sym h) tt; no_comma = over_no_comma; comma = λ rest. refl }

no_dash : (rest : List ℕ) → partition_at (codes "-" ++ rest) ≡ None
unfolding number_in
no_dash rest = refl

up_to : (k : ℕ) → IsRest (last (list_at partition_at k)) (AreUpTo IsPartition (suc k)) partitions_text
up_to k = last_is (list_is partition_is partitions_end no_dash k) refl

-- each further partition takes a byte at least
more_bytes : (ps : List ℕ) → length ps ≤ length (more_text decimal ps)
more_bytes [] = omega arith
more_bytes (p ∷ ps) = omega (arith, more_bytes ps, length-append (decimal p) (more_text decimal ps))

enough_bytes : (ps : List ℕ) → length ps ≤ suc (length (partitions_text ps))
enough_bytes [] = omega arith
enough_bytes (p ∷ ps) = omega (arith, more_bytes ps, length-append (decimal p) (more_text decimal ps))

pub partitions_are : IsRest partitions_of (All IsPartition) partitions_text
unfolding partitions_of
partitions_are = record {
  found = λ bytes ps e. let r = (up_to (length bytes)).found bytes ps e in (r.0.1, r.1);
  again = λ ps h. (up_to (length (partitions_text ps))).again ps (enough_bytes ps, h);
}

names_end : EndsWith EndsName IsOver
names_end = record { last = λ rest h. subst EndsName (sym h) tt; no_comma = over_no_comma; comma = λ rest. refl }

some_are : IsRest (last (some_at name_at (most_listed_names - 1))) (AreSome IsName most_listed_names) (listed as_they_are)
some_are = last_is (some_is name_is names_end (most_listed_names - 1)) refl

abbrev pub AreNames : List (List ℕ) → Type 0
AreNames names = (length names ≤ most_listed_names) × All IsName names

some_text : (names : List (List ℕ)) → 0 < length names → codes " " ++ listed as_they_are names ≡ names_text names
some_text [] h = absurd (omega arith)
some_text (n ∷ ns) h = refl

abbrev behind_blank : List ℕ → Option (List (List ℕ))
behind_blank = last (some_at name_at (most_listed_names - 1))

pub names_are : IsRest names_of AreNames names_text
unfolding names_of
names_are = record { found = found; again = again }
  where
    found : (bytes : List ℕ) (names : List (List ℕ)) → names_of bytes ≡ Some names → AreNames names × (bytes ≡ names_text names)
    found [] names e =
        let P : List (List ℕ) → Type 0 = λ ns. AreNames ns × ([] ≡ names_text ns) in
        subst P (some_same [] names e) ((omega arith, All-nil IsName), refl)
    found (b ∷ bs) names e =
        ⊎_elim
        (λ r.
        let f = some_are.found r.0 names r.2 in
        (f.0.1, r.1 ∙ (ap (λ t. codes " " ++ t) f.1 ∙ some_text names f.0.0)))
        (λ no. absurd (none_found names no))
        (behind_found (codes " ") behind_blank nothing (b ∷ bs) names e)

    again : (names : List (List ℕ)) → AreNames names → names_of (names_text names) ≡ Some names
    again [] h = refl
    again (n ∷ ns) h =
        behind_again (codes " ") behind_blank nothing (listed as_they_are (n ∷ ns)) ∙ some_are.again (n ∷ ns) (omega arith, h)
