-- From a line to the bytes that have it.
use Rattle.std.proofs.Common.{◌≡◌, ◌≢◌, ◌⊎◌, ℕ, List, [], ◌∷◌, ◌++◌, length, take, Option, Some, None, Result, Ok, inl, inr, ap, sym, subst, ◌∙◌}
use Rattle.std.specs.Prelude.{option_map}
use Rattle.std.proofs.lemmas.Option.{same_Some}
use Rattle.fabric_terms.specs.declared.message.Message.{Message}
use Rattle.frame_format.specs.Kinds.{message_of}
use Rattle.hex.specs.Hex.{IsBytes, decode_of, encode_lower}
use Rattle.hex.specs.declared.error.FromHexError.{FromHexError}
use Rattle.hex.specs.declared.error.FromHexError.TheVariants.{OutOfMemory}
use Rattle.keep_log.specs.Readings.{record_of}
use Rattle.text_fields.specs.Instances.{who_text}
use Rattle.text_fields.specs.Texts.{spaced}
use Rattle.hex.proofs.HexLemmas.{decode_of-encode_lower}
use Rattle.fabric_c.specs.Laws.{HaveOwnLines}
use Rattle.fabric_c.specs.Lines.{frame_line, frame_words, named, record_line, record_words}
use Rattle.fabric_c.specs.Names.{frame_name}
use Rattle.fabric_c.proofs.BeforeBlanks.{digits_end, digits_front}
use Rattle.fabric_c.specs.Replies.{IsBack, IsOf, IsShort, ReadsBack, same, other, no_memory, found, none, short}

-- it begins with the digits of the bytes, and a blank is behind them
abbrev pub Begins : List ℕ → List ℕ → Type 0
Begins bytes line = (rest : List ℕ) × (line ≡ encode_lower bytes ++ 32 ∷ rest)

-- each line begins with the digits of its bytes
abbrev pub AllBegin : (List ℕ → Option (List ℕ)) → Type 0
AllBegin line_of = (bytes line : List ℕ) → line_of bytes ≡ Some line → Begins bytes line

pub frames_begin : AllBegin frame_line
frames_begin bytes line e = by (message_of bytes) e
  where
    by : (o : Option Message) → option_map (frame_words bytes) o ≡ Some line → Begins bytes line
    by None e = absurd (cc (e))
    by (Some m) e = (spaced (frame_name m.body ∷ who_text m.from ∷ who_text m.to ∷ []), sym (same_Some _ _ e))

pub records_begin : AllBegin record_line
records_begin bytes line e = by (named (record_of bytes)) e
  where
    by : (o : Option (List ℕ)) → option_map (record_words bytes) o ≡ Some line → Begins bytes line
    by None e = absurd (cc (e))
    by (Some name) e = (name, sym (same_Some _ _ e))

-- two lists of bytes with one line have the same digits before its first blank
pub own_lines : (line_of : List ℕ → Option (List ℕ)) → AllBegin line_of → HaveOwnLines line_of
own_lines line_of begin a b line are be has had =
    let x = begin a line has in
    let y = begin b line had in
    let ends : ◌≡◌ {A = Option ℕ} (Some (length (encode_lower a))) (Some (length (encode_lower b))) =
    sym (digits_end line a x.0 are x.1) ∙ digits_end line b y.0 be y.1 in
    let front = ap (λ n. take n line) (same_Some _ _ ends) in
    let digits : encode_lower a ≡ encode_lower b =
    sym (digits_front line (encode_lower a) x.0 x.1) ∙ (front ∙ digits_front line (encode_lower b) y.0 y.1) in
    let both : ◌≡◌ {A = Result (List ℕ) FromHexError} (Ok a) (Ok b) =
    sym (decode_of-encode_lower a are) ∙ (ap decode_of digits ∙ decode_of-encode_lower b be) in
    cc

-- the bytes that stand at the front of the line were read, and their own line compared with it
pub read_back : (line_of : List ℕ → Option (List ℕ)) → AllBegin line_of → (line bytes text : List ℕ) (code : ℕ)
    → ((all rest : List ℕ) → IsBytes all → line ≡ encode_lower all ++ 32 ∷ rest → bytes ≡ all)
    → IsBack (line_of bytes) line bytes text code → ReadsBack line_of line text code
read_back line_of begin line bytes text code read (same has is ended) = found (subst (λ b. line_of b ≡ Some line) (sym is) has) ended
read_back line_of begin line bytes text code read (other lacks is ended) = none (λ all are e. let b = begin all line e in lacks (subst (λ x. line_of x ≡ Some line) (sym (read all b.0 are b.1)) e)) is ended
read_back line_of begin line bytes text code read (no_memory is) = short is

-- the front of the line is none
pub not_back : (line_of : List ℕ → Option (List ℕ)) → AllBegin line_of → (line text : List ℕ) (code : ℕ) (error : FromHexError)
    → ((all rest : List ℕ) → IsBytes all → line ≡ encode_lower all ++ 32 ∷ rest → error ≡ OutOfMemory)
    → IsShort text code ⊎ ((error ≢ OutOfMemory) × IsOf None text code) → ReadsBack line_of line text code
not_back line_of begin line text code error read (inl is) = short is
not_back line_of begin line text code error read (inr is) = none (λ all are e. let b = begin all line e in is.0 (read all b.0 are b.1)) is.1.0 is.1.1
