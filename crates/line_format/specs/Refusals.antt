-- Why a node left, and why a command is refused.
use Rattle.std.specs.Prelude.{ℕ, List, [], ◌∷◌, Option, codes, decimal}
use Rattle.fabric_terms.specs.declared.report.Why.{Why}
use Rattle.fabric_terms.specs.declared.report.Why.TheVariants as why
use Rattle.fabric_terms.specs.declared.report.Verb.{Verb}
use Rattle.fabric_terms.specs.declared.report.Verb.TheVariants as verb
use Rattle.fabric_terms.specs.declared.report.Reason.{Reason}
use Rattle.fabric_terms.specs.declared.report.Reason.TheVariants as reason
use Rattle.text_fields.specs.Fields.{Field, first_of, last, made, behind}
use Rattle.text_fields.specs.Numbers.{number_in}
use Rattle.text_fields.specs.Texts.{spaced}

abbrev pub why_text : Why → List ℕ
why_text why.Fence = codes "fence"
why_text why.Lost = codes "lost"
why_text why.Counters = codes "counters"
why_text why.AccusedFull = codes "accused"

abbrev pub all_whys : List Why
all_whys = why.Fence ∷ why.Lost ∷ why.Counters ∷ why.AccusedFull ∷ []

abbrev pub why_of : List ℕ → Option Why
why_of = last (first_of why_text all_whys)

-- a command's first word
abbrev pub verb_text : Verb → List ℕ
verb_text verb.Link = codes "link"
verb_text verb.Part = codes "part"
verb_text verb.Give = codes "give"
verb_text verb.Join = codes "join"
verb_text verb.Create = codes "create"
verb_text verb.Swap = codes "swap"
verb_text verb.Heal = codes "heal"
verb_text verb.Lose = codes "lose"
verb_text verb.Write = codes "write"
verb_text verb.Resolve = codes "resolve"
verb_text verb.Names = codes "names"

abbrev pub all_verbs : List Verb
all_verbs =
    verb.Link ∷ verb.Part ∷ verb.Give ∷ verb.Join ∷ verb.Create ∷ verb.Swap ∷ verb.Heal ∷ verb.Lose ∷ verb.Write ∷ verb.Resolve ∷ verb.Names ∷ []

abbrev pub verb_at : List ℕ → Field Verb
verb_at = first_of verb_text all_verbs

-- the first word of a reason
abbrev pub reason_word : Reason → List ℕ
reason_word reason.NotRouting = codes "notrouting"
reason_word reason.Full = codes "full"
reason_word reason.Linked = codes "linked"
reason_word reason.NotLinked = codes "notlinked"
reason_word reason.Busy = codes "busy"
reason_word reason.TooMany = codes "toomany"
reason_word reason.Empty = codes "empty"
reason_word reason.NotManager = codes "notmanager"
reason_word reason.Exists = codes "exists"
reason_word reason.NoUnit = codes "nounit"
reason_word reason.NotMember = codes "notmember"
reason_word reason.NotPrimary = codes "notprimary"
reason_word reason.NotReady = codes "notready"
reason_word reason.Counters = codes "counters"
reason_word (reason.TooFew n) = codes "toofew"

abbrev pub reason_text : Reason → List ℕ
reason_text (reason.TooFew n) = spaced (codes "toofew" ∷ decimal n ∷ [])
reason_text r = reason_word r

-- the reasons of one word
abbrev pub plain_reasons : List Reason
plain_reasons =
    reason.NotRouting ∷ reason.Full ∷ reason.Linked ∷ reason.NotLinked ∷ reason.Busy ∷ reason.TooMany ∷ reason.Empty ∷ reason.NotManager ∷ reason.Exists
    ∷ reason.NoUnit ∷ reason.NotMember ∷ reason.NotPrimary ∷ reason.NotReady ∷ reason.Counters ∷ []

-- how many domains a refusal can tell
abbrev pub most_domain_count : ℕ
most_domain_count = 255

abbrev pub reason_of : List ℕ → Option Reason
reason_of = behind (codes "toofew ") (made reason.TooFew (last (number_in 0 most_domain_count))) (last (first_of reason_word plain_reasons))
