-- The options that were read, by what was read of all the words.
use Rattle.std.proofs.Common.{◌≡◌, List, Some, None, refl}
use Rattle.serve_words.specs.Options.{Read, Text, ended_by, options_in, read_on, start}

pub none_read : (ws : List Text) → read_on start ws ≡ None → options_in ws ≡ None
unfolding options_in
none_read ws e = rw e refl

pub some_read : (ws : List Text) (r : Read) → read_on start ws ≡ Some r → options_in ws ≡ ended_by r.awaited r.given
unfolding options_in
some_read ws r e = rw e refl
