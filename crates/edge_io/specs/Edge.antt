-- What the calls of a device do to what it has left or holds, where it tells, and when they fail.
use Rattle.std.specs.Prelude.{◌≡◌, ℕ, ◌+◌, ◌^◌, ◌≤◌, ◌<◌, ◌⊎◌, List, [], ◌++◌, length, take, drop, Option, Some, Result, IsErr, IsErrOf}

-- a read of n bytes into a buffer that then is `into`
pub record ReadOf (bytes : List ℕ) (new : Option (List ℕ)) (n : ℕ) (into : List ℕ) : Type 0 where
  pub within : n ≤ length bytes
  pub same : take n into ≡ take n bytes
  pub rest : new ≡ Some (drop n bytes)
  pub at_end : n ≡ 0 → 0 < length into → bytes ≡ []

-- where it tells the bytes left, n of them were read
abbrev pub Reads : Option (List ℕ) → Option (List ℕ) → ℕ → List ℕ → Type 0
Reads old new n into = (bytes : List ℕ) → old ≡ Some bytes → ReadOf bytes new n into

-- where it tells what it has, it is this
abbrev pub Tells : {A : Type 0} → Option A → A → Type 0
Tells {A} told this = (all : A) → told ≡ Some all → this ≡ all

-- where it tells what it holds, it has these more
abbrev pub Grew : {A : Type 0} → Option (List A) → Option (List A) → List A → Type 0
Grew {A} old new more = (held : List A) → old ≡ Some held → new ≡ Some (held ++ more)

-- where it tells what it holds, it has a front of these more
abbrev pub GrewByFront : {A : Type 0} → Option (List A) → Option (List A) → List A → Type 0
GrewByFront old new more = (n : ℕ) × Grew old new (take n more)

-- where it tells what it holds, it has these more, or is as before
abbrev pub GrewOrNot : {A : Type 0} → Option (List A) → Option (List A) → List A → Type 0
GrewOrNot {A} old new more = (held : List A) → old ≡ Some held → (new ≡ Some held) ⊎ (new ≡ Some (held ++ more))

-- the count has risen, or stands at the end of its type
abbrev pub HasRisen : ℕ → ℕ → Type 0
HasRisen before now = (before < now) ⊎ (2 ^ 64 ≤ now + 1)

-- an Err comes only where the count of faults has risen, and the count never falls
pub record HasCause {T E : Type 0} (before now : ℕ) (result : Result T E) : Type 0 where
  pub later : before ≤ now
  pub failed : IsErr result → HasRisen before now

-- this error comes only where the count of faults has risen, and the count never falls
pub record HasCauseOf {T E : Type 0} (error : E) (before now : ℕ) (result : Result T E) : Type 0 where
  pub later : before ≤ now
  pub failed : IsErrOf result error → HasRisen before now
