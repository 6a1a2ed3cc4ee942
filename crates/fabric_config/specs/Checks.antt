-- What a check answers, and checks one after another.
use Rattle.std.specs.Prelude.{◌≡◌, ◌≢◌, Option, Some, None, Result, Ok, Err}
use Rattle.fabric_config.specs.declared.error.ConfigError.{ConfigError}
use Rattle.fabric_config.specs.declared.error.ConfigError.TheVariants.{Missing, OutOfMemory}
use Rattle.fabric_config.specs.declared.field.Field.{Field}

-- the first check that fails is the answer
infixl 10 ◌>>=◌
abbrev pub ◌>>=◌ : {A B : Type 0} → Result A ConfigError → (A → Result B ConfigError) → Result B ConfigError
(Ok x) >>= f = f x
(Err e) >>= f = Err e

-- what must be there, and of its kind
abbrev pub or_missing : {A : Type 0} → Field → Option A → Result A ConfigError
or_missing field None = Err (Missing field)
or_missing field (Some x) = Ok x

-- the answer, seen so, is the one that is defined, but for want of memory
abbrev pub ReadsAs : {A B : Type 0} → (B → A) → Result A ConfigError → Result B ConfigError → Type 0
ReadsAs seen defined (Ok x) = defined ≡ Ok (seen x)
ReadsAs seen defined (Err e) = e ≢ OutOfMemory → defined ≡ Err e

-- the answer is the one that is defined, but for want of memory
abbrev pub Reads : {A : Type 0} → Result A ConfigError → Result A ConfigError → Type 0
Reads defined answer = ReadsAs (λ x. x) defined answer
