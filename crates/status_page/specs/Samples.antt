-- How numbers are written for whoever gathers them: the exposition format 0.0.4, family by family.
use Rattle.std.specs.Prelude.{ℕ, ◌+◌, ◌/◌, ◌%◌, List, [], ◌∷◌, ◌++◌, codes, decimal}
use Rattle.std.specs.List.{flat_map}
use Rattle.text_fields.specs.Codes.{zero_code}
use Rattle.status_page.specs.declared.sample.Measure.{Measure}
use Rattle.status_page.specs.declared.sample.Measure.TheVariants as measure
use Rattle.status_page.specs.declared.family.Kind.{Kind}
use Rattle.status_page.specs.declared.family.Kind.TheVariants as kind
use Rattle.status_page.specs.declared.counts.PartitionGauge.{PartitionGauge}

-- three digits of a number below 1,000
abbrev pub three_digits : ℕ → List ℕ
three_digits n = (zero_code + n / 100) ∷ (zero_code + n / 10 % 10) ∷ (zero_code + n % 10) ∷ []

-- ticks are written in seconds, and millionths as a fraction
unfoldable pub value_text : Measure → ℕ → List ℕ
value_text measure.Count n = decimal n
value_text measure.Ticks n = decimal (n / 1000) ++ (codes "." ++ three_digits (n % 1000))
value_text measure.Millionths n =
    decimal (n / 1000000) ++ (codes "." ++ (three_digits (n / 1000 % 1000) ++ three_digits (n % 1000)))

abbrev pub kind_text : Kind → List ℕ
kind_text kind.Counter = codes "counter"
kind_text kind.Gauge = codes "gauge"

-- a line of comment about a family
unfoldable pub comment_text : List ℕ → List ℕ → List ℕ → List ℕ
comment_text word name text = codes "# " ++ (word ++ (codes " fabricd_" ++ (name ++ (codes " " ++ (text ++ codes "\n")))))

-- what a family says, and its type
unfoldable pub head_text : Kind → List ℕ → List ℕ → List ℕ
head_text kind name help = comment_text (codes "HELP") name help ++ comment_text (codes "TYPE") name (kind_text kind)

unfoldable pub end_text : Measure → ℕ → List ℕ
end_text measure n = codes " " ++ (value_text measure n ++ codes "\n")

-- a sample: its name, its labels, and its number
unfoldable pub sample_text : List ℕ → List ℕ → Measure → ℕ → List ℕ
sample_text name labels measure n = codes "fabricd_" ++ (name ++ (labels ++ end_text measure n))

unfoldable pub label_front : List ℕ → List ℕ
label_front label = codes "{" ++ (label ++ codes "=\"")

-- a label, and the word that it has
unfoldable pub label_text : List ℕ → List ℕ → List ℕ
label_text label word = label_front label ++ (word ++ codes "\"}")

-- a family of one sample
unfoldable pub single_text : Kind → List ℕ → List ℕ → Measure → ℕ → List ℕ
single_text kind name help measure n = head_text kind name help ++ sample_text name [] measure n

-- one sample for each word and its count
abbrev pub word_samples : List ℕ → List ℕ → List (List ℕ) → List ℕ → List ℕ
word_samples name label [] counts = []
word_samples name label (word ∷ words) [] = []
word_samples name label (word ∷ words) (n ∷ counts) =
    sample_text name (label_text label word) measure.Count n ++ word_samples name label words counts

-- a family by the words of a label
unfoldable pub by_word_text : Kind → List ℕ → List ℕ → List ℕ → List (List ℕ) → List ℕ → List ℕ
by_word_text kind name help label words counts = head_text kind name help ++ word_samples name label words counts

unfoldable pub partition_sample : List ℕ → Measure → PartitionGauge → List ℕ
partition_sample name measure g = sample_text name (label_text (codes "partition") (decimal g.partition)) measure g.number

-- a family by partitions
unfoldable pub by_partition_text : List ℕ → List ℕ → Measure → List PartitionGauge → List ℕ
by_partition_text name help measure gauges = head_text kind.Gauge name help ++ flat_map (partition_sample name measure) gauges
